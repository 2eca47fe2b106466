-- What a turn over the next line of a script asks and promises.
use Rattle.std.specs.Prelude.{ℕ, ◌+◌, ◌<◌, ◌≤◌, ◌≡◌, List, ◌∷◌, length, drop}
use Rattle.text.specs.Lines.{cut}
use Rattle.text.specs.Buffers.{Put}
use Rattle.model.specs.declared.ThreadInfo.{ThreadInfo}
use Rattle.state.specs.Memory.{Memory, memory}
use Rattle.script.specs.Report as Definition
use Rattle.feed_plan.specs.Meant.{counting, report_meant, ReportValid}
use Rattle.feed_plan.specs.Steps.{Prints}
use Rattle.report_plan.specs.declared.Progress.{Progress}

pub record NextAsked (p : Progress) (script b : List ℕ) (m : Memory) : Type 0 where
  pub valid : ReportValid p.report m
  pub on : p.from < length script
  pub room : p.at + 288 ≤ length b

-- the next line is the definition's `feed`, and its text stands where the last one ended
pub record NextDone (p : Progress) (script b b' : List ℕ) (m m' : Memory) (y : Progress) : Type 0 where
  pub piece : List ℕ
  pub lines : cut (drop p.from script) ≡ piece ∷ cut (drop y.from script)
  pub ahead : p.from < y.from
  pub within : y.from ≤ length script
  pub report : report_meant y.report m' ≡ counting (Definition.feed (report_meant p.report m) piece).report
  pub text : Put b p.at (Definition.feed (report_meant p.report m) piece).out b' y.at
  pub short : y.at ≤ p.at + 288
  pub valid : ReportValid y.report m'

-- what the end of a script asks; after a refusal before the calls nothing is printed, and no room is asked
pub record FinishAsked (p : Progress) (b : List ℕ) (ts : List ThreadInfo) : Type 0 where
  pub qs : List ℕ
  pub ps : List ℕ
  pub ls : List ℕ
  pub ws : List ℕ
  pub valid : ReportValid p.report (memory ts qs ps ls ws)
  pub within : p.at ≤ length b
  pub room : Prints p.report.stage → p.at + 400 ≤ length b
