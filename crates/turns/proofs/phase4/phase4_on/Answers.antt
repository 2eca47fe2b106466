use native.Mathlib.Omega.{arith}
use mathlib.Core.Path.{refl, ap}
use mathlib.Core.Bool.{false}
use lib.ListN.{get_or, length}
use Rattle.model.specs.Reading.{core_state_meant}
use Rattle.queue.specs.Words.{made}
use Rattle.queue.specs.Ready.{waiting}
use Rattle.queue.proofs.Frames.{still-lent, appended-none, no-longer-same}
use Rattle.turns.specs.Turns.{core_of, with_quantum}
use Rattle.turns.proofs.Steps.{besides-same, stays, switching_or_running, phase4-nobody, phase4-some, phase4-pass}
use Rattle.turns.proofs.phase4.phase4_on.Goals as goal

pub returns-in-None-clause-turn : goal.returns-in-None-clause-turn
returns-in-None-clause-turn c =
    let q = waiting c.args.queue.now in
    let p = rw c.waiting.ensures at (c.in-None.ensures.any refl) in
    λ u e b y. phase4-nobody (with_quantum c.args.rules.now u) c.args.core.0 (core_of c.args.s e b y (get_or c.args.progressed.now c.args.core.0 false)) q (made c.args.moves.now) (ap core_state_meant c.in-Idle.is) (length q) p.picked (omega arith)

pub returns-in-Some-clause-turn : goal.returns-in-Some-clause-turn
returns-in-Some-clause-turn c =
    let q = waiting c.args.queue.now in
    let p = rw c.waiting.ensures at (c.in-Some.ensures.any refl) in
    λ u e b y. phase4-some (with_quantum c.args.rules.now u) c.args.core.0 (core_of c.args.s e b y (get_or c.args.progressed.now c.args.core.0 false)) q (made c.args.moves.now) (ap core_state_meant c.in-Idle.is) c.in-Some.k p.picked p.within c.take_at-next.result.0 c.take_at-next.ensures.thread c.args.progressed.now _ c.dispatch.result _ _ c.take_at-next.ensures.left c.dispatch.ensures.state c.dispatch.ensures.mark c.dispatch.ensures.moves

pub returns-in-Switching : goal.returns-in-Switching
returns-in-Switching c = record {
  turn = λ u e b y. stays (made c.args.moves.now) (phase4-pass (with_quantum c.args.rules.now u) c.args.core.0 _ e b y _ (waiting c.args.queue.now) (switching_or_running c.args.s c.in-Switching.is));
  besides = besides-same c.args.progressed.now c.args.core.0;
  queue = no-longer-same c.args.queue.now.len c.args.queue.now.words.now;
  out = appended-none 2 c.args.moves.now.count c.args.moves.now.words.now;
  lent = still-lent _;
  lent_moves = still-lent _;
}
