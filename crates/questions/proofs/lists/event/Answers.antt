use native.Mathlib.Omega.{arith}
use Prim.Native.Nat.{ℕ}
use mathlib.Core.Path.{sym, ap, ◌∙◌}
use mathlib.Core.List.{List}
use lib.ListN.{get_elem?}
use lib.Seq.{length-take-le}
use Rattle.rings.specs.Events.{events_in}
use Rattle.state.specs.State.{meant_at, log_words}
use Rattle.questions.proofs.CoreLaws.{log-fits, log-ring, events-end}
use Rattle.questions.proofs.lists.event.Goals as goal

pub returns-then-s-k : goal.returns-then-s-k
returns-then-s-k c = λ m v r. events-end c.args.s m v _ c.if-s-k.true

pub overflow_mul-words : goal.overflow_mul-words
overflow_mul-words c =
    omega (arith, log-fits c.args.s c.args.log.now c.requires)

pub slice_bounds-event_at-end : goal.slice_bounds-event_at-end
slice_bounds-event_at-end c =
    sym (length-take-le _ _ (log-fits c.args.s c.args.log.now c.requires))

pub event_at-requires : goal.event_at-requires
event_at-requires c =
    (log-ring c.args.s c.args.log.now c.requires, omega arith)

pub returns : goal.returns
unfolding meant_at
returns c =
    λ m v r.
    c.event_at.ensures ∙ ap (λ (l : List ℕ). get_elem? (events_in (log_words c.args.s.capacities.events l) c.args.s.log) c.args.k) (sym r)
