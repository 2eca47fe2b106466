-- The report program: what each line of a script makes of it and prints, and what stands at the end.
use Rattle.std.specs.Prelude.{ℕ, zero, suc, ◌+◌, ◌*◌, ◌/◌, ◌%◌, Bool, true, false, cond, List, [], ◌∷◌, ◌++◌, leb}
use Rattle.std.proofs.Math.Option.{Option, none, some}
use Rattle.model.specs.Types.{LeaveReason, Exit, Block, Yield, Quantum, Preempt, Forced, Out, SwitchEntry, State}
use Rattle.model.specs.Accounting.{Sums, sums}
use Rattle.model.specs.Calls.{Call, JoinOutcome, Wait, Done, Invalid, Answer, refused, ok, spawned, joined, switched, Stepped, step, Made, unmade, made, new}
use Rattle.text.specs.Bytes.{ascii, decimal}
use Rattle.text.specs.Lines.{Read, bad, good, cut, line_of, written}
use Rattle.settings.specs.Settings.{Settings, Head, none_yet}
use Rattle.script.specs.Script.{Heading, more, done, head_line, call_line}

---- what is printed

-- the Rust's labels
abbrev pub reason_word : LeaveReason → List ℕ
reason_word Exit = ascii "exit"
reason_word Block = ascii "join"
reason_word Yield = ascii "yield"
reason_word Quantum = ascii "quantum"
reason_word Preempt = ascii "preempt"
reason_word Forced = ascii "forced"

abbrev pub join_word : JoinOutcome → List ℕ
join_word Wait = ascii "wait"
join_word Done = ascii "done"
join_word Invalid = ascii "invalid"

-- 01: "absent fields `-`"
unfoldable pub maybe : Option ℕ → List ℕ
maybe none = ascii "-"
maybe (some n) = decimal n

unfoldable pub out_tid : Option Out → Option ℕ
out_tid none = none
out_tid (some o) = some o.tid

unfoldable pub out_reason : Option Out → List ℕ
out_reason none = ascii "-"
out_reason (some o) = reason_word o.reason

-- 01: "A switch prints `switch=now,core,out,reason,in`"
unfoldable pub switch_text : (now : ℕ) → SwitchEntry → List ℕ
switch_text now e = written "switch" (decimal now ∷ decimal e.core ∷ maybe (out_tid e.out) ∷ out_reason e.out ∷ maybe e.inn ∷ [])

unfoldable pub switch_texts : (now : ℕ) → List SwitchEntry → List ℕ
switch_texts now [] = []
switch_texts now (e ∷ es) = switch_text now e ++ switch_texts now es

-- 01: "a join `joined=line,wait` (or done, invalid)"
unfoldable pub joined_text : (line : ℕ) → JoinOutcome → List ℕ
joined_text n j = written "joined" (decimal n ∷ join_word j ∷ [])

-- 01: "a refusal `refused=line,number`, lines counted from 1"
unfoldable pub refused_text : (line number : ℕ) → List ℕ
refused_text n k = written "refused" (decimal n ∷ decimal k ∷ [])

unfoldable pub answer_text : (line now : ℕ) → Answer → List ℕ
answer_text n now ok = []
answer_text n now (spawned t) = []
answer_text n now (refused k) = refused_text n k
answer_text n now (joined j) = joined_text n j
answer_text n now (switched es) = switch_texts now es

---- the summary

-- 01: "Means print in tenths, rounded down." (R-1: to the nearest tenth)
unfoldable pub in_tenths : (sum count : ℕ) → ℕ
in_tenths sum count = sum * 10 / count

unfoldable pub tenths : ℕ → List ℕ
tenths t = decimal (t / 10) ++ (46 ∷ decimal (t % 10))

-- "over nobody it is 0.0" (R-9: `-`)
unfoldable pub mean_text : (sum count : ℕ) → List ℕ
mean_text sum zero = ascii "0.0"
mean_text sum (suc n) = tenths (in_tenths sum (suc n))

unfoldable pub summary_text : (now : ℕ) → Sums → List ℕ
summary_text now s =
    written "threads" (decimal s.threads ∷ []) ++
    (written "finished" (decimal s.finished ∷ []) ++
    (written "ticks" (decimal now ∷ []) ++
    (written "context_switches" (decimal s.context_switches ∷ []) ++
    (written "preemptions" (decimal s.preemptions ∷ []) ++
    (written "waiting" (mean_text s.waiting s.threads ∷ []) ++
    (written "response" (mean_text s.response s.responded ∷ []) ++
    (written "turnaround" (mean_text s.turnaround s.finished ∷ []) ++
    (written "busy" (decimal s.busy ∷ []) ++
    written "core_ticks" (decimal s.core_ticks ∷ [])))))))))

unfoldable pub summary : State → List ℕ
summary s = summary_text s.now (sums s.accounts)

---- line by line

pub data Stage : Type 0 where
  heads : Head → Stage
  calls : State → Stage
  ended : State → Stage
  over : Stage

pub record Report : Type 0 where
  pub lines : ℕ
  pub stage : Stage

pub record Fed : Type 0 where
  pub report : Report
  pub out : List ℕ

abbrev pub at : (lines : ℕ) → Stage → List ℕ → Fed
at n s t = record { report = record { lines = n; stage = s }; out = t }

abbrev pub start : Report
start = record { lines = 0; stage = heads none_yet }

-- 01: "T 256, E 512, S 256, entry 0"
unfoldable pub created : Settings → (cores : ℕ) → Made
created c n = new c.policy c.quantum c.cost n 256 512 256 0

unfoldable pub begun : (line : ℕ) → Made → Fed
begun n (unmade k) = at n over (refused_text n k)
begun n (made s) = at n (calls s) []

-- 01: "A refusal in the settings or at `cores=` ends the run without a summary."
unfoldable pub headed : (line : ℕ) → Read Heading → Fed
headed n (bad k) = at n over (refused_text n k)
headed n (good (more h)) = at n (heads h) []
headed n (good (done c cores)) = begun n (created c cores)

unfoldable pub said : (line : ℕ) → Stepped → Fed
said n r = at n (calls r.state) (answer_text n r.state.now r.answer)

-- 01: "A bad line after `cores=` ends the calls, and the summary follows. A refused call lets the run go on."
unfoldable pub called : (line : ℕ) → State → Read Call → Fed
called n s (bad k) = at n (ended s) (refused_text n k)
called n s (good c) = said n (step s c)

unfoldable pub fed : (line : ℕ) → Stage → Option (List ℕ) → Fed
fed n (heads h) none = headed n (bad 6)
fed n (heads h) (some l) = headed n (head_line h l)
fed n (calls s) none = called n s (bad 6)
fed n (calls s) (some l) = called n s (call_line l)
fed n (ended s) l = at n (ended s) []
fed n over l = at n over []

-- 01: "A script has at most 1,000,000,000,000 lines; the next one is 6."
unfoldable pub limit_lines : ℕ
limit_lines = 1_000_000_000_000

unfoldable pub line_at : (line : ℕ) → List ℕ → Option (List ℕ)
line_at n l = cond (leb n limit_lines) (line_of l) none

-- one line, its byte 10 included
unfoldable pub feed : Report → List ℕ → Fed
feed r l = fed (suc r.lines) r.stage (line_at (suc r.lines) l)

unfoldable pub feeds : Report → List (List ℕ) → Fed
feeds r [] = record { report = r; out = [] }
feeds r (l ∷ ls) =
    let f : Fed = feed r l in
    let g : Fed = feeds f.report ls in
    record { report = g.report; out = f.out ++ g.out }

-- 01: "`cores=` may not be missing"; "a missing line counts as the line after the last"
unfoldable pub finishing : (line : ℕ) → Stage → List ℕ
finishing n (heads h) = refused_text n 6
finishing n (calls s) = summary s
finishing n (ended s) = summary s
finishing n over = []

unfoldable pub finish : Report → List ℕ
finish r = finishing (suc r.lines) r.stage

unfoldable pub whole : Fed → List ℕ
whole f = f.out ++ finish f.report

-- what the report program prints for a script
unfoldable pub report : List ℕ → List ℕ
report script = whole (feeds start (cut script))
