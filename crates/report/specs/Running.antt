-- What the report program has before each line, and at its end.
use Rattle.std.specs.Prelude.{ℕ, ◌≤◌, ◌<◌, ◌≡◌, List, ◌++◌, length, take, drop}
use Rattle.state.specs.Memory.{Memory}
use Rattle.text.specs.Lines.{cut}
use Rattle.script.specs.Report as Definition
use Rattle.script.specs.Report.{start, feeds}
use Rattle.feed_plan.specs.declared.Report.{Report}
use Rattle.feed_plan.specs.Meant.{counting, report_meant, ReportValid}
use Rattle.report_io.specs.declared.Upcoming.{Upcoming}
use Rattle.report_io.specs.Blocks.{last_turn, Awaits, pending_text}

-- How far the program is: what it took of the script, and what it handed to standard output. Report and text are the definition's for that; nothing is handed over before
-- more than 65,248 bytes are pending. Where a line follows, the lines taken are ended.
pub record SoFar (r : Report) (u : Upcoming) (m : Memory) (bs : List ℕ) : Type 0 where
  pub script : List ℕ
  pub report : report_meant r m ≡ counting (feeds start (cut script)).report
  pub sent : List ℕ
  pub text : sent ++ pending_text u.place bs ≡ (feeds start (cut script)).out
  pub much : 0 < length sent → 65_248 < length sent
  pub ended : u.place.turn < last_turn → (l : List ℕ) → cut (script ++ l) ≡ cut script ++ cut l

pub record Runnable (r : Report) (u : Upcoming) (m : Memory) (bs : List ℕ) : Type 0 where
  pub valid : ReportValid r m
  pub awaits : Awaits r bs u
  pub room : 131_072 ≤ length bs
  pub so_far : SoFar r u m bs

-- At the end the memory is that of a report, the definition's for what was taken of the script. What was handed over before, what was pending then
-- and the report's end are together what the definition prints for it.
pub record Finished (bs : List ℕ) (m : Memory) : Type 0 where
  pub report : Report
  pub valid : ReportValid report m
  pub script : List ℕ
  pub made : report_meant report m ≡ counting (feeds start (cut script)).report
  pub sent : List ℕ
  pub much : 0 < length sent → 65_248 < length sent
  pub pending : ℕ
  pub count : ℕ
  pub text : sent ++ (take pending (drop 65_536 bs) ++ take count bs) ≡ Definition.report script
