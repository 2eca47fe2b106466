use mathlib.Core.Path.{ap, ◌∙◌}
use Rattle.model.specs.declared.CoreState as Program
use Rattle.model.specs.declared.Tid.{Tid}
use Rattle.model.specs.Phases.{holder}
use Rattle.model.specs.Calls.{tid_of}
use Rattle.model.specs.Reading.{core_state_meant}
use Rattle.sched_marks.proofs.Passing.{tid-or-zero}
use Rattle.exit_plan.specs.Exit.{exit_tid}
use Rattle.exit_plan.proofs.Parts.{tid-is}
use Rattle.exit_plan.proofs.exit_tid.Goals as goal

pub returns : goal.returns
unfolding exit_tid
returns c =
    tid-is _ _
    (ap (λ (t : Tid). t.0) c.unwrap_or.ensures ∙ tid-or-zero c.tid.result ∙ ap tid_of c.tid.ensures ∙ ap (λ (x : Program.CoreState). tid_of (holder (core_state_meant x))) c.state_at-state.ensures)
