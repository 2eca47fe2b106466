-- The report program's two blocks: what stands in them, the script's next line, and what is printed.
use Rattle.std.specs.Prelude.{ℕ, ◌+◌, ◌-◌, ◌≤◌, ◌<◌, ◌≡◌, ◌⊎◌, Bool, true, false, cond, not, ◌&&◌, List, [], ◌∷◌, ◌++◌, leb, ltb, length, take, drop, Ok}
use Rattle.text.specs.Lines.{cut}
use Rattle.feed_plan.specs.declared.Stage.{Stage}
use Rattle.feed_plan.specs.declared.Stage.TheVariants as StageCases
use Rattle.feed_plan.specs.declared.Report.{Report}
use Rattle.feed_plan.specs.declared.Reader.{Reader}
use Rattle.feed_plan.specs.declared.Line.TheVariants as LineCases
use Rattle.feed_plan.specs.declared.Next.{Next}
use Rattle.feed_plan.specs.Meant.{Few}
use Rattle.feed_plan.specs.Steps.{next_text}
use Rattle.feed_plan.specs.Feeding.{LineRead}
use Rattle.report_io.specs.declared.Marked.{Marked}
use Rattle.report_io.specs.declared.Place.{Place}
use Rattle.report_io.specs.declared.Upcoming.{Upcoming}
use Rattle.report_io.specs.Marks.{retired_lines, marked_report, MarkedWith}
use Rattle.sched.specs.declared.Call.TheVariants as CallCases

---- places

-- a place in the two blocks, of 65,536 bytes each
pub record Within (p : Place) : Type 0 where
  pub begins : p.at ≤ p.end
  pub ends : p.end ≤ 65_536
  pub pending : p.pending ≤ 65_536
  pub turns : p.turn ≤ 1_000_000_000_001

-- with room for what a line may print
pub record Roomy (p : Place) : Type 0 where
  pub within : Within p
  pub room : p.pending ≤ 65_248

-- before anything is read
abbrev pub beginning : Place
beginning = record { at = 0; end = 0; all_read = false; pending = 0; all_written = true; turn = 0 }

-- 01: "A script has at most 1,000,000,000,000 lines; the next one is 6.": after one turn more no line follows
abbrev pub last_turn : ℕ
last_turn = 1_000_000_000_001

abbrev pub ended : Place → Place
ended p = record { at = p.at; end = p.end; all_read = p.all_read; pending = p.pending; all_written = p.all_written; turn = last_turn }

-- no line follows
abbrev pub no_line : Place → Marked → Upcoming
no_line p m = record { line = Ok LineCases.Nothing; place = ended p; marked = m }

---- the script's block

-- the bytes from `at` to `end`
abbrev pub between : (at end : ℕ) → List ℕ → List ℕ
between at end b = take (end - at) (drop at b)

-- what was read of the script and is still to be taken
abbrev pub standing : Place → List ℕ → List ℕ
standing p b = between p.at p.end b

-- the n bytes from `at` on in front, and all behind them as it was
unfoldable pub brought_front : (at n : ℕ) → List ℕ → List ℕ
brought_front at n b = take n (drop at b) ++ drop n b

-- What is left of the block stands in front. What a read delivers behind it is open; it ends at r.
pub record Refilled (at end : ℕ) (b b' : List ℕ) (r : ℕ) : Type 0 where
  pub rest : take (end - at) b' ≡ between at end b
  pub behind : drop 65_536 b' ≡ drop 65_536 b
  pub more : end - at ≤ r
  pub within : r ≤ 65_536

-- whether more of the script is asked for: it has not ended, and no more than a line's length stands
unfoldable pub asks : Place → Bool
asks p = not p.all_read && leb (p.end - p.at) 256

-- What is read comes behind what stands, and the report's block is as it was. The script has ended where a read leaves room in the block; otherwise a line's length
-- and one byte more stand.
pub record Filled (p : Place) (b b' : List ℕ) (q : Place) : Type 0 where
  pub roomy : Roomy q
  pub more : List ℕ
  pub stands : standing q b' ≡ standing p b ++ more
  pub unasked : asks p ≡ false → (q ≡ p) × (b' ≡ b) × (more ≡ [])
  pub behind : drop 65_536 b' ≡ drop 65_536 b
  pub read : q.all_read ≡ cond (asks p) (ltb q.end 65_536) p.all_read
  pub enough : q.all_read ≡ false → 257 ≤ q.end - q.at
  pub pending : q.pending ≡ p.pending
  pub written : q.all_written ≡ p.all_written
  pub turn : q.turn ≡ p.turn

---- the next line

unfoldable pub first_of : List (List ℕ) → List ℕ
first_of [] = []
first_of (l ∷ ls) = l

-- 01: "A line holds at most 256 bytes, byte 10 included; a longer one is 6.": of a longer one 257 bytes are looked at
unfoldable pub line_ahead : List ℕ → List ℕ
line_ahead s = take 257 (first_of (cut s))

pub record LineEnd (at end : ℕ) (b : List ℕ) (r : ℕ) : Type 0 where
  pub on : at < r
  pub within : r ≤ end
  pub line : between at r b ≡ line_ahead (between at end b)

-- The next line is the first of what stands ahead, whatever of the script is read later; behind it stands what stood behind it.
pub record Standing (r : Report) (ahead b : List ℕ) (u : Upcoming) : Type 0 where
  pub some : 0 < length ahead
  pub reads : (later : List ℕ) → (u.place.all_read ≡ true → later ≡ []) → LineRead r (first_of (cut (ahead ++ later))) u.line
  pub stands : standing u.place b ≡ drop (length (line_ahead ahead)) ahead

pub record Awaits (r : Report) (b : List ℕ) (u : Upcoming) : Type 0 where
  pub roomy : Roomy u.place
  pub ahead : List ℕ
  pub line : u.place.turn < last_turn → Standing r ahead b u

-- 01: "`tick=`", with its byte 10
abbrev pub tick_bytes : List ℕ
tick_bytes = 116 ∷ 105 ∷ 99 ∷ 107 ∷ 61 ∷ 10 ∷ []

-- it stands next where calls are taken, and more stands behind it than a line's length
pub record TickAhead (k : Reader) (p : Place) (b : List ℕ) : Type 0 where
  pub enough : 256 < p.end - p.at
  pub calls : k.stage ≡ StageCases.Calls
  pub few : k.lines < 1_000_000_000_000
  pub line : between p.at (p.at + 6) b ≡ tick_bytes

abbrev pub tick_line : Place → Marked → Upcoming
tick_line p m = record { line = Ok (LineCases.Call CallCases.EndTick); place = record { at = p.at + 6; end = p.end; all_read = p.all_read; pending = p.pending; all_written = p.all_written; turn = p.turn }; marked = m }

-- no line follows where nothing stands ahead
unfoldable pub turn_ahead : (ahead : List ℕ) → (turn : ℕ) → ℕ
turn_ahead [] t = last_turn
turn_ahead (x ∷ l) t = t

-- What stands ahead is what stood at the place before, and what was read since. Nothing stands ahead only where the script has ended.
pub record NextLine (r : Report) (p : Place) (m : Marked) (b b' : List ℕ) (u : Upcoming) : Type 0 where
  pub awaits : Awaits r b' u
  pub marked : u.marked ≡ m
  pub more : List ℕ
  pub ahead : awaits.ahead ≡ standing p b ++ more
  pub unasked : asks p ≡ false → more ≡ []
  pub read : u.place.all_read ≡ cond (asks p) (ltb u.place.end 65_536) p.all_read
  pub over : awaits.ahead ≡ [] → u.place.all_read ≡ true
  pub behind : drop 65_536 b' ≡ drop 65_536 b
  pub pending : u.place.pending ≡ p.pending
  pub written : u.place.all_written ≡ p.all_written
  pub turn : u.place.turn ≡ turn_ahead awaits.ahead p.turn

---- the report's block

-- what is printed and still to be written
abbrev pub pending_text : Place → List ℕ → List ℕ
pending_text p b = take p.pending (drop 65_536 b)

-- what a line makes the program print, before the next one is looked for
pub record Printable (x : Next) : Type 0 where
  pub number : x.line ≤ 1_000_000_000_001
  pub listed : x.switches.count ≤ 8
  pub short : length (next_text x) ≤ 288
  pub few : Few x.report.stage x.report.lines

-- a line is taken, and n bytes are printed
abbrev pub printed_as : (n : ℕ) → Place → Place
printed_as n p = record { at = p.at; end = p.end; all_read = p.all_read; pending = p.pending + n; all_written = p.all_written; turn = p.turn + 1 }

-- more than so many pending bytes are written, all of them; whether that is done is open
unfoldable pub written_as : (most : ℕ) → Place → (done : Bool) → Place
written_as most p w = cond (leb p.pending most) p (record { at = p.at; end = p.end; all_read = p.all_read; pending = 0; all_written = w; turn = p.turn })

-- what stays pending of a text
unfoldable pub held_back : List ℕ → List ℕ
held_back t = cond (leb (length t) 65_248) t []

unfoldable pub takes_lines : Stage → Bool
takes_lines StageCases.Heads = true
takes_lines StageCases.Calls = true
takes_lines StageCases.Ended = false
takes_lines StageCases.Over = false

-- After a line: its text comes behind what is pending; lines `retired=` are taken with it; a next line follows where it can still be printed, the report takes one, and
-- the script has one.
pub record Passed (u : Upcoming) (x : Next) (b b' : List ℕ) (v : Upcoming) : Type 0 where
  pub lines : List ℕ
  pub marked : MarkedWith x.report lines v.marked
  pub awaits : Awaits (marked_report x.report v.marked) b' v
  pub more : List ℕ
  pub ahead : retired_lines lines ++ awaits.ahead ≡ standing u.place b ++ more
  pub text : pending_text v.place b' ≡ held_back (pending_text u.place b ++ next_text x)
  pub turn : v.place.turn ≡ cond (v.place.all_written && takes_lines x.report.stage) (turn_ahead awaits.ahead (u.place.turn + 1 + length lines)) last_turn
  pub over : v.place.all_written && takes_lines x.report.stage ≡ true → awaits.ahead ≡ [] → v.place.all_read ≡ true
  pub on : u.place.turn < v.place.turn

-- at the end all of the text is written, or nothing is promised of it
unfoldable pub EndWritten : (n r : ℕ) → Type 0
EndWritten n r = (r ≡ 0) ⊎ (r ≡ n)
