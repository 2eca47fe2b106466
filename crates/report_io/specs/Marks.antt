-- Lines `retired=` that are taken together.
use Rattle.std.specs.Prelude.{ℕ, ◌+◌, ◌-◌, ◌*◌, ◌≤◌, ◌<◌, ◌≡◌, Bool, true, false, List, [], ◌∷◌, ◌++◌, length, take, drop, set}
use Rattle.sched_marks.specs.Change.{with_progressed}
use Rattle.feed_plan.specs.declared.Stage.TheVariants as StageCases
use Rattle.feed_plan.specs.declared.Report.{Report}
use Rattle.report_io.specs.declared.Ahead.{Ahead}
use Rattle.report_io.specs.declared.Marked.{Marked}
use Rattle.report_io.specs.declared.Place.{Place}

---- the lines

-- 01: "`retired=C`", of a core that one digit names, with its byte 10
abbrev pub retired_line : ℕ → List ℕ
retired_line c = 114 ∷ 101 ∷ 116 ∷ 105 ∷ 114 ∷ 101 ∷ 100 ∷ 61 ∷ (48 + c) ∷ 10 ∷ []

unfoldable pub retired_lines : List ℕ → List ℕ
retired_lines [] = []
retired_lines (c ∷ cs) = retired_line c ++ retired_lines cs

-- 01: "`retired` sets the core's progressed mark": the marks after such lines
unfoldable pub marks_after : List ℕ → List Bool → List Bool
marks_after [] m = m
marks_after (c ∷ cs) m = marks_after cs (set m c true)

-- each of a core that there is
abbrev pub Each : ℕ → List ℕ → Type 0
Each n [] = Unit {0}
Each n (c ∷ cs) = (c < n) × ((c < 8) × Each n cs)

---- in front of a text

abbrev pub MarkedCore : List ℕ → ℕ → Type 0
MarkedCore t r = r < 8 → (10 ≤ length t) × (take 10 t ≡ retired_line r)

pub record MarksAhead (t : List ℕ) (cores : ℕ) (m : List Bool) (a : Ahead) : Type 0 where
  pub lines : List ℕ
  pub each : Each cores lines
  pub within : 10 * length lines ≤ length t
  pub front : take (10 * length lines) t ≡ retired_lines lines
  pub count : a.count ≡ length lines
  pub progressed : a.progressed ≡ marks_after lines m

---- what they change of a report

abbrev pub no_marks : Report → Ahead
no_marks r = record { progressed = r.sched.marks.progressed; count = 0 }

abbrev pub marked_by : Report → Ahead → Marked
marked_by r a = record { lines = r.lines + a.count; progressed = a.progressed }

abbrev pub marked_report : Report → Marked → Report
marked_report r m = record { lines = m.lines; stage = r.stage; head = r.head; sched = with_progressed m.progressed r.sched }

-- `retired` is taken, and a block's lines are not too many
pub record TakesMarks (r : Report) (p : Place) : Type 0 where
  pub calls : r.stage ≡ StageCases.Calls
  pub unclosed : r.sched.closed ≡ false
  pub lines : r.lines ≤ 999_999_900_000
  pub turns : p.turn ≤ 999_999_900_000

-- behind n lines
abbrev pub place_after : ℕ → Place → Place
place_after n p = record { at = p.at + 10 * n; end = p.end; all_read = p.all_read; pending = p.pending; all_written = p.all_written; turn = p.turn + n }

-- the lines that stand at a place; where there are any, `retired` is taken
pub record LinesAhead (r : Report) (p : Place) (b : List ℕ) (a : Ahead) : Type 0 where
  pub lines : List ℕ
  pub each : Each r.sched.cores lines
  pub takes : 0 < length lines → TakesMarks r p
  pub few : length lines ≤ 6_553
  pub within : p.at + 10 * length lines ≤ p.end
  pub stands : take (p.end - p.at) (drop p.at b) ≡ retired_lines lines ++ take (p.end - (p.at + 10 * length lines)) (drop (p.at + 10 * length lines) b)
  pub count : a.count ≡ length lines
  pub progressed : a.progressed ≡ marks_after lines r.sched.marks.progressed

-- what is known of the lines that were taken with a line
pub record MarkedWith (r : Report) (lines : List ℕ) (m : Marked) : Type 0 where
  pub each : Each r.sched.cores lines
  pub calls : 0 < length lines → (r.stage ≡ StageCases.Calls) × (r.sched.closed ≡ false) × (m.lines ≤ 1_000_000_000_000)
  pub counted : m.lines ≡ r.lines + length lines
  pub progressed : m.progressed ≡ marks_after lines r.sched.marks.progressed
