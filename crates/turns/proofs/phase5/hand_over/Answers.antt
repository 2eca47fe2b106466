use native.Mathlib.Omega.{arith}
use mathlib.Core.Path.{refl}
use mathlib.Core.Bool.{false, cond}
use lib.ListN.{get_or, length}
use Rattle.model.specs.Types.{Yield, Quantum}
use Rattle.model.specs.Reading.{reason_meant}
use Rattle.queue.specs.Words.{made}
use Rattle.queue.specs.Ready.{waiting}
use Rattle.turns.specs.Turns.{core_of, with_quantum}
use Rattle.turns.proofs.Steps.{hand-over-nobody, hand-over-some}
use Rattle.turns.proofs.phase5.hand_over.Goals as goal

pub returns-in-None-clause-turn : goal.returns-in-None-clause-turn
returns-in-None-clause-turn c =
    let q = waiting c.args.queue.now in
    let p = rw (c.waiting.ensures, c.priority_of-ceiling.ensures) at c.in-None.ensures.under in
    λ u sl s e b y. hand-over-nobody (with_quantum c.args.rules.now u) c.args.core.0 c.args.tid.0 sl (core_of s e b y (get_or c.args.progressed.now c.args.core.0 false)) (cond c.args.yielded Yield Quantum) q (made c.args.moves.now) (length q) p.picked (omega arith) _ refl

pub returns-in-Some-clause-turn : goal.returns-in-Some-clause-turn
returns-in-Some-clause-turn c =
    let q = waiting c.args.queue.now in
    let p = rw (c.waiting.ensures, c.priority_of-ceiling.ensures) at c.in-Some.ensures.under in
    λ u sl s e b y. hand-over-some (with_quantum c.args.rules.now u) c.args.core.0 c.args.tid.0 sl (core_of s e b y (get_or c.args.progressed.now c.args.core.0 false)) (cond c.args.yielded Yield Quantum) q (made c.args.moves.now) c.in-Some.k p.picked p.within (reason_meant c.hand_over_reason.result) c.hand_over_reason.ensures c.args.progressed.now _ c.swap.result _ _ c.swap.ensures.swapped
