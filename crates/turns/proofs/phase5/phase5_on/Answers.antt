use mathlib.Core.Path.{refl, ap}
use mathlib.Core.Bool.{false}
use lib.ListN.{get_or}
use borrow.Author.Tests.{not-true, not-false}
use Rattle.model.specs.Reading.{core_state_meant}
use Rattle.queue.specs.Words.{made}
use Rattle.queue.specs.Ready.{waiting}
use Rattle.queue.proofs.Frames.{still-lent, appended-none, no-longer-same}
use Rattle.turns.specs.Turns.{rules_meant}
use Rattle.turns.proofs.Steps.{besides, besides-same, idle_or_switching, hand-over-pass, phase5-still, phase5-not, phase5-goes}
use Rattle.turns.proofs.phase5.phase5_on.Goals as goal

pub returns-then-not-wants_hand_over-clause-turn : goal.returns-then-not-wants_hand_over-clause-turn
returns-then-not-wants_hand_over-clause-turn c =
    λ e b. phase5-not (rules_meant c.args.rules.now) c.args.core.0 c.args.s e b c.args.marks.now.yields _ refl (get_or c.args.marks.now.progressed c.args.core.0 false) (waiting c.args.queue.now) (made c.args.moves.now) _ _ (ap core_state_meant c.in-Running.is) c.wants_hand_over.result c.wants_hand_over.ensures (not-true _ c.if-not-wants_hand_over.true-raw)

pub returns-in-Idle : goal.returns-in-Idle
returns-in-Idle c = record {
  turn = λ e b. phase5-still (rules_meant c.args.rules.now) c.args.core.0 c.args.s e b c.args.marks.now.yields _ refl (get_or c.args.marks.now.progressed c.args.core.0 false) (waiting c.args.queue.now) (made c.args.moves.now) (hand-over-pass _ _ _ _ _ _ _ _ (idle_or_switching c.args.s c.in-Idle.is));
  besides = (besides c.args.marks.now.yields c.args.core.0 refl, besides-same c.args.marks.now.progressed c.args.core.0);
  others = (refl, refl);
  queue = no-longer-same c.args.queue.now.len c.args.queue.now.words.now;
  out = appended-none 3 c.args.moves.now.count c.args.moves.now.words.now;
  lent = still-lent _;
  lent_moves = still-lent _;
}

pub returns-else-not-wants_hand_over-clause-turn : goal.returns-else-not-wants_hand_over-clause-turn
returns-else-not-wants_hand_over-clause-turn c =
    λ e b. phase5-goes (rules_meant c.args.rules.now) c.args.core.0 c.args.s e b c.args.marks.now.yields _ refl (get_or c.args.marks.now.progressed c.args.core.0 false) (waiting c.args.queue.now) (made c.args.moves.now) _ _ (ap core_state_meant c.in-Running.is) c.wants_hand_over.result c.wants_hand_over.ensures (not-false _ c.if-not-wants_hand_over.false-raw) c.hand_over.result _ _ _ (c.hand_over.ensures.turn c.args.rules.now.quantum c.in-Running.slice c.args.s e b false)
