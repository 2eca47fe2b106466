use mathlib.Core.Path.{ap, ◌∙◌}
use Rattle.model.specs.declared.CoreState as Program
use Rattle.model.specs.declared.Tid.{Tid}
use Rattle.model.specs.Phases.{holder}
use Rattle.model.specs.Reading.{core_state_meant}
use Rattle.model.specs.Calls.{tid_of}
use Rattle.sched_marks.proofs.Passing.{tid-or-zero}
use Rattle.thread_plan.specs.Reads.{own_tid}
use Rattle.thread_plan.proofs.own.own_tid.Goals as goal

pub returns : goal.returns
unfolding own_tid
returns c =
    ap (λ (t : Tid). t.0) c.unwrap_or.ensures ∙ tid-or-zero c.tid.result ∙ ap tid_of c.tid.ensures
    ∙ ap (λ (x : Program.CoreState). tid_of (holder (core_state_meant x))) c.state_at-state.ensures
