-- Which report of the definition a report of the program stands for, with the lent memory, and what holds of both between lines.
use Rattle.std.specs.Prelude.{ℕ, ◌≤◌, length}
use Rattle.rcfg.specs.declared.Head as Heads
use Rattle.rcfg.specs.Reading.{head_meant}
use Rattle.script.specs.Invariants.{Kept}
use Rattle.model.specs.Types.{State}
use Rattle.state.specs.declared.Sched.{Sched}
use Rattle.state.specs.Memory.{Memory}
use Rattle.state.specs.State.{meant, Valid}
use Rattle.script.specs.Report as Definition
use Rattle.feed_plan.specs.declared.Stage.{Stage}
use Rattle.feed_plan.specs.declared.Stage.TheVariants as StageCases
use Rattle.feed_plan.specs.declared.Report.{Report}

abbrev pub stage_meant : Stage → Heads.Head → State → Definition.Stage
stage_meant StageCases.Heads h s = Definition.heads (head_meant h)
stage_meant StageCases.Calls h s = Definition.calls s
stage_meant StageCases.Ended h s = Definition.ended s
stage_meant StageCases.Over h s = Definition.over

-- After the end no line's number is printed any more, and nothing bounds how many lines follow: the program counts them no more, and the
-- definition's count is forgotten there.
abbrev pub lines_in : Definition.Stage → ℕ → ℕ
lines_in (Definition.heads h) n = n
lines_in (Definition.calls s) n = n
lines_in (Definition.ended s) n = 0
lines_in Definition.over n = 0

abbrev pub counting : Definition.Report → Definition.Report
counting d = record { lines = lines_in d.stage d.lines; stage = d.stage }

abbrev pub report_at : Report → State → Definition.Report
report_at r s = counting (record { lines = r.lines; stage = stage_meant r.stage r.head s })

unfoldable pub report_meant : Report → Memory → Definition.Report
report_meant r m = report_at r (meant r.sched m)

-- where lines are still counted there are not too many
abbrev pub Few : Stage → ℕ → Type 0
Few StageCases.Heads n = n ≤ 1_000_000_000_000
Few StageCases.Calls n = n ≤ 1_000_000_000_000
Few StageCases.Ended n = Unit {0}
Few StageCases.Over n = Unit {0}

-- a state that calls may count on, from `cores=` on
abbrev pub Held : Stage → Sched → Memory → Type 0
Held StageCases.Heads s m = Unit {0}
Held StageCases.Calls s m = Valid s m
Held StageCases.Ended s m = Valid s m
Held StageCases.Over s m = Unit {0}

-- 01: "T 256, E 512, S 256": the memory is long enough for a scheduler of eight cores
pub record Roomy (m : Memory) : Type 0 where
  pub threads : 256 ≤ length m.threads
  pub queue : 256 ≤ length m.queue
  pub prios : 256 ≤ length m.prios
  pub log : 1_024 ≤ length m.log
  pub lanes : 4_176 ≤ length m.lanes

-- what a report has before and after each line
pub record ReportValid (r : Report) (m : Memory) : Type 0 where
  pub kept : Kept (report_meant r m).lines (report_meant r m).stage
  pub memory : Roomy m
  pub held : Held r.stage r.sched m
