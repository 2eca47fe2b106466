-- A whole script in memory: where reading and printing stand, and what the parts of a turn make of it.
use Rattle.std.specs.Prelude.{ℕ, ◌-◌, ◌<◌, ◌≤◌, ◌≡◌, List, ◌∷◌, length, take, drop}
use Rattle.text.specs.Lines.{cut}
use Rattle.text.specs.Buffers.{Put}
use Rattle.state.specs.Memory.{Memory}
use Rattle.record_reads.specs.declared.totals.Totals.{Totals}
use Rattle.script.specs.Report as Definition
use Rattle.feed_plan.specs.declared.Next.{Next}
use Rattle.feed_plan.specs.Meant.{report_meant, Roomy, ReportValid}
use Rattle.feed_plan.specs.Steps.{next_text}
use Rattle.feed_plan.specs.Feeding.{LineRead, EndFits}
use Rattle.report_plan.specs.declared.Progress.{Progress}
use Rattle.report_plan.specs.declared.Reached.{Reached}

pub record Begins (p : Progress) : Type 0 where
  pub from : p.from ≡ 0
  pub at : p.at ≡ 0
  pub report : (m : Memory) → report_meant p.report m ≡ Definition.start
  pub valid : (m : Memory) → Roomy m → ReportValid p.report m

abbrev pub piece : Progress → Reached → List ℕ → List ℕ
piece p q script = take (q.end - p.from) (drop p.from script)

pub record ReachedAs (p : Progress) (script : List ℕ) (q : Reached) : Type 0 where
  pub on : p.from < q.end
  pub within : q.end ≤ length script
  pub lines : cut (drop p.from script) ≡ piece p q script ∷ cut (drop q.end script)
  pub reads : LineRead p.report (piece p q script) q.line

pub record ProgressedAs (p : Progress) (q : Reached) (x : Next) (b b' : List ℕ) (y : Progress) : Type 0 where
  pub report : y.report ≡ x.report
  pub from : y.from ≡ q.end
  pub text : Put b p.at (next_text x) b' y.at

unfoldable pub EndedAs : Progress → Totals → (b b' : List ℕ) → ℕ → Type 0
EndedAs p n b b' e = (m : Memory) → EndFits p.report n m → Put b p.at (Definition.finish (report_meant p.report m)) b' e
