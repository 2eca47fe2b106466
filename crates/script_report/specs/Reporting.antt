-- A whole script in memory: what its loop asks and leaves, and what `report` promises.
use Rattle.settings.specs.declared.Refusal.{Refusal}
use Rattle.std.specs.Prelude.{ℕ, ◌+◌, ◌*◌, ◌<◌, ◌≤◌, ◌≡◌, cond, List, ◌++◌, ltb, length, take, drop, Result}
use Rattle.std.proofs.Math.Option.{none, some}
use Rattle.text.specs.Lines.{cut}
use Rattle.text.specs.Buffers.{Put, Laid}
use Rattle.rcfg.specs.Reading.{laid_meant}
use Rattle.state.specs.Memory.{Memory, Unchanged}
use Rattle.script.specs.Report as Definition
use Rattle.feed_plan.specs.Meant.{report_meant, ReportValid}
use Rattle.feed_plan.specs.Steps.{Prints}
use Rattle.report_plan.specs.declared.Progress.{Progress}

-- What feeding the next n lines and then the end asks: that there are so many, and room for what they may print. Where nothing is read
-- and nothing stands at the end, no room is asked.
pub record LinesAsked (p : Progress) (n : ℕ) (script b : List ℕ) (m : Memory) : Type 0 where
  pub valid : ReportValid p.report m
  pub lines : n ≤ length (cut (drop p.from script))
  pub within : p.at ≤ length b
  pub room : 0 < n → p.at + 288 * n + 400 ≤ length b
  pub end : Prints p.report.stage → p.at + 288 * n + 400 ≤ length b

-- and leaves: what the definition prints for these lines and at the end stands where the last text ended
pub record LinesDone (p : Progress) (n : ℕ) (script b b' : List ℕ) (m m' : Memory) (e : ℕ) : Type 0 where
  pub text : Put b p.at (Definition.whole (Definition.feeds (report_meant p.report m) (take n (cut (drop p.from script))))) b' e
  pub unmoved : n ≡ 0 → Unchanged m m'

-- "3+ text buffer short": a buffer is short where the script's lines, by their number alone, may print more. Then nothing is written. Otherwise
-- the report stands at the buffer's front, and what is behind it is unchanged.
unfoldable pub report_in : (script buffer : List ℕ) → Laid
report_in script b =
    let t : List ℕ = Definition.report script in
    cond (ltb (length b) (288 * length (cut script) + 400)) (record { refusal = some 3; count = 0; buffer = b }) (record { refusal = none; count = length t; buffer = t ++ drop (length t) b })

-- What `report` promises. Refused, it leaves the lent memory as it was; what that memory holds after a report is left open.
pub record ReportDone (script b b' : List ℕ) (m m' : Memory) (r : Result ℕ Refusal) : Type 0 where
  pub answer : laid_meant r b' ≡ report_in script b
  pub unmoved : length b < 288 * length (cut script) + 400 → Unchanged m m'
