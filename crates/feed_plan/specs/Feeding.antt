-- What the program promises for a line.
use Rattle.std.specs.Prelude.{ℕ, ◌≤◌, ◌≡◌, List, length, Result}
use Rattle.settings.specs.declared.Refusal.{Refusal}
use Rattle.text.specs.Buffers.{Put}
use Rattle.model.specs.Types.{State}
use Rattle.record_reads.specs.declared.totals.Totals.{Totals}
use Rattle.record_reads.specs.Totals.{totals_of}
use Rattle.threads.specs.Slice.{threads_in}
use Rattle.state.specs.declared.Sched.{Sched}
use Rattle.state.specs.Memory.{Memory}
use Rattle.script.specs.Report as Definition
use Rattle.feed_plan.specs.declared.Reader.{Reader}
use Rattle.feed_plan.specs.declared.Report.{Report}
use Rattle.feed_plan.specs.declared.Line.{Line}
use Rattle.feed_plan.specs.declared.Next.{Next}
use Rattle.feed_plan.specs.declared.Fed.{Fed}
use Rattle.feed_plan.specs.Meant.{report_at, report_meant, counting, Held, Roomy, ReportValid}
use Rattle.feed_plan.specs.Steps.{Prints, Fits, fed_of, records_in, next_text}

-- the report before the first line, on any memory that is long enough: what it held before does not matter
pub record Starts (r : Report) : Type 0 where
  pub report : (m : Memory) → report_meant r m ≡ Definition.start
  pub valid : (m : Memory) → Roomy m → ReportValid r m

-- a line, its byte 10 included, says in the report's stage what the definition's `feed` makes of it
pub record LineRead (r : Report) (piece : List ℕ) (l : Result Line Refusal) : Type 0 where
  pub says : (s : State) → Definition.feed (report_at r s) piece ≡ fed_of (report_at r s) l
  pub fits : Fits r l

-- what a line is read by, and a report that it belongs to
abbrev pub reader_of : Report → Reader
reader_of r = record { lines = r.lines; stage = r.stage; head = r.head }

abbrev pub report_of : Reader → Sched → Report
report_of k s = record { lines = k.lines; stage = k.stage; head = k.head; sched = s }

-- what taking a line that was read asks
pub record LineAsked (r : Report) (l : Result Line Refusal) (m : Memory) : Type 0 where
  pub fits : Fits r l
  pub memory : Roomy m
  pub held : Held r.stage r.sched m

-- and leaves: the definition's next report, and what it prints
pub record LineDone (r : Report) (l : Result Line Refusal) (m m' : Memory) (x : Next) : Type 0 where
  pub report : report_meant x.report m' ≡ counting (fed_of (report_meant r m) l).report
  pub text : next_text x ≡ (fed_of (report_meant r m) l).out
  pub held : Held x.report.stage x.report.sched m'
  pub number : x.line ≤ 1_000_000_000_001
  pub listed : x.switches.count ≤ 8

-- room for what a line may print
pub record Sayable (x : Next) (b : List ℕ) : Type 0 where
  pub number : x.line ≤ 1_000_000_000_001
  pub listed : x.switches.count ≤ 8
  pub short : 36 ≤ length b
  pub long : length (next_text x) ≤ length b

-- the text is put at the front of the buffer
pub record SaidAs (x : Next) (b b' : List ℕ) (f : Fed) : Type 0 where
  pub report : f.report ≡ x.report
  pub text : Put b 0 (next_text x) b' f.written

-- One line, its byte 10 included: the report and what is printed are the definition's `feed`; the buffer behind the text is unchanged.
pub record FeedDone (r : Report) (line b b' : List ℕ) (m m' : Memory) (f : Fed) : Type 0 where
  pub report : report_meant f.report m' ≡ counting (Definition.feed (report_meant r m) line).report
  pub text : Put b 0 (Definition.feed (report_meant r m) line).out b' f.written
  pub valid : ReportValid f.report m'

-- what the end of a script asks: the sums over the records that are in use
pub record EndFits (r : Report) (n : Totals) (m : Memory) : Type 0 where
  pub valid : ReportValid r m
  pub totals : n ≡ totals_of (threads_in m.threads (records_in r.stage r.sched))

pub record EndAsked (r : Report) (n : Totals) (b : List ℕ) : Type 0 where
  pub memory : Memory
  pub fits : EndFits r n memory
  pub room : Prints r.stage → 400 ≤ length b
