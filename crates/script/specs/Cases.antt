-- Cases computed from the definition: 01's worked example, its table of starred cases, one case for each refusal of the reader, and the readings
-- of sentences that could be read two ways.
use Rattle.std.specs.Prelude.{ℕ, zero, suc, ◌≡◌, refl, Bool, true, false, ◌&&◌, List, [], ◌∷◌, ◌++◌, eqb, length, take, replicate, None}
use Prim.Native.String.{String}
use Rattle.std.proofs.Math.Option.{Option, none, some}
use Rattle.model.specs.Types.{Policy, Off, Fifo, RoundRobin, Priority}
use Rattle.model.specs.Calls.{Made, made, unmade}
use Rattle.model.specs.Bound.{bound}
use Rattle.model.specs.Cases.{compute}
use Rattle.text.specs.Bytes.{ascii, same, digits, decimal, value_from, spelled, unsigned, at_most, number}
use Rattle.text.specs.Lines.{or_bad, map_read, both, onto, cut, before, unended, line_of, before_eq, value, named, key_in, fields, needed, perhaps, one, two, commas, written}
use Rattle.settings.specs.Settings.{Settings, policy_of, ranged, in_order, setting, setting_line, Settled, unsettled, settled, setting_piece, settle, from_rcfg, to_rcfg}
use Rattle.script.specs.Script.{up_to8, cores_of, heading, head_line, bare_tick, call_of, calling, call_line}
use Rattle.script.specs.Report.{maybe, out_tid, out_reason, switch_text, switch_texts, joined_text, refused_text, answer_text, in_tenths, tenths, mean_text, summary_text, summary, created, begun, headed, said, called, fed, limit_lines, line_at, feed, feeds, finishing, finish, whole, report}
use Rattle.script.specs.Report.{Report, Fed, start}

-- `unfolding compute_text` is to unfold the whole definition
unfoldable pub compute_text : Unit {0}
unfolding compute digits decimal value_from spelled unsigned at_most number or_bad map_read both onto cut before unended line_of before_eq value named key_in fields needed perhaps one two commas written policy_of ranged in_order setting setting_line setting_piece settle from_rcfg to_rcfg up_to8 cores_of heading head_line bare_tick call_of calling call_line maybe out_tid out_reason switch_text switch_texts joined_text refused_text answer_text in_tenths tenths mean_text summary_text summary created begun headed said called fed limit_lines line_at feed feeds finishing finish whole report
compute_text = tt

---- the worked example of 01

worked :
    report (ascii "sched=rr\nsched_quantum=2\nsched_switch_cost=1\ncores=1\nspawn=0\nretired=0\ntick=\nretired=0\ntick=\ntick=\nexit=0\ntick=\n")
    ≡ ascii "switch=2,0,0,quantum,1\nswitch=4,0,1,exit,0\nthreads=2\nfinished=1\nticks=4\ncontext_switches=2\npreemptions=1\nwaiting=2.0\nresponse=1.5\nturnaround=4.0\nbusy=3\ncore_ticks=4\n"
unfolding compute_text
worked = refl

---- one table of cases, one test over it

pub data Case : Type 0 where
  -- a settings text reads as these settings, or is refused at a line by a number
  takes : (text : String) → Policy → (quantum cost : ℕ) → Case
  rejects : (text : String) (line number : ℕ) → Case
  -- what the report program prints begins so
  prints : (script begin : String) → Case
  -- what it prints is just this
  refuses : (script : String) (line number : ℕ) → Case
  -- the bound on a wait
  bounds : (p cores quantum cost ticks : ℕ) → Case

unfoldable pub same_policy : Policy → Policy → Bool
same_policy p q = eqb (place p) (place q)
  where
    place : Policy → ℕ
    place Off = 0
    place Fifo = 1
    place RoundRobin = 2
    place Priority = 3

unfoldable pub is_taken : Settled → Policy → ℕ → ℕ → Bool
is_taken (unsettled l k) p q w = false
is_taken (settled s) p q w = same_policy s.policy p && (eqb s.quantum q && eqb s.cost w)

unfoldable pub is_rejected : Settled → ℕ → ℕ → Bool
is_rejected (unsettled l k) m n = eqb l m && eqb k n
is_rejected (settled s) m n = false

unfoldable pub holds : Case → Bool
holds (takes text p q w) = is_taken (from_rcfg (ascii text)) p q w
holds (rejects text l k) = is_rejected (from_rcfg (ascii text)) l k
holds (prints script begin) = same (take (length (ascii begin)) (report (ascii script))) (ascii begin)
holds (refuses script l k) = same (report (ascii script)) (refused_text l k)
holds (bounds p n q w t) = eqb (bound p n q w) t

unfoldable pub all_hold : List Case → Bool
all_hold [] = true
all_hold (c ∷ cs) = holds c && all_hold cs

-- 01, "Table cases", in its order (the unstarred ones of text too)
abbrev pub starred : List Case
starred =
    rejects "sched_quantum=0\n" 1 1 ∷
    takes "sched_quantum=1\n" Off 1 0 ∷
    takes "sched_quantum=1000000\n" Off 1_000_000 0 ∷
    rejects "sched_quantum=1000001\n" 1 1 ∷
    takes "sched_quantum=+50\n" Off 50 0 ∷
    takes "sched=RR\n" RoundRobin 50 0 ∷
    takes "sched_switch_cost=10000\n" Off 50 10_000 ∷
    rejects "sched_switch_cost=10001\n" 1 1 ∷
    bounds 4 2 3 1 12 ∷
    bounds 0 1 1 0 1 ∷
    -- two running at 7 and a ready 5: core 1 loses
    prints "sched=priority\ncores=2\nprio=0,7\nspawn=0\ntick=\nspawn=\nprio=2,5\ntick=\n" "switch=1,1,-,-,1\nswitch=2,1,1,preempt,2\nthreads=3\n" ∷
    -- ready 7, running 7: none loses
    prints "sched=priority\ncores=2\nprio=0,7\nspawn=0\ntick=\nspawn=\nprio=2,7\ntick=\n" "switch=1,1,-,-,1\nthreads=3\n" ∷
    prints "cores=8\ntick=\n" "threads=1\nfinished=0\nticks=1\ncontext_switches=0\npreemptions=0\nwaiting=0.0\nresponse=0.0\nturnaround=0.0\nbusy=1\ncore_ticks=8\n" ∷
    refuses "cores=9\ntick=\n" 1 2 ∷ []

-- each refusal of the reader, in settings and at `cores=`, where nothing but it is printed
abbrev pub refused_heads : List Case
refused_heads =
    -- 6: nothing, no `cores=`, no byte 10, no `=`, an unknown key, a key too late or twice, a key not trimmed, a byte above 127, a line too long, a call
    refuses "" 1 6 ∷
    refuses "sched=rr\nsched_quantum=2\n" 3 6 ∷
    refuses "sched=rr\ncores=1" 2 6 ∷
    refuses "sched=no word" 1 6 ∷
    refuses "sched\n" 1 6 ∷
    refuses "\n" 1 6 ∷
    refuses "speed=1\ncores=1\n" 1 6 ∷
    refuses "Sched=rr\ncores=1\n" 1 6 ∷
    refuses "sched_quantum=5\nsched=rr\ncores=1\n" 2 6 ∷
    refuses "sched=rr\nsched=rr\ncores=1\n" 2 6 ∷
    refuses " sched=rr\ncores=1\n" 1 6 ∷
    refuses "sched =rr\ncores=1\n" 1 6 ∷
    refuses "sched=r\u{80}\ncores=1\n" 1 6 ∷
    refuses "cores=1,2\n" 1 6 ∷
    refuses "tick=\ncores=1\n" 1 6 ∷
    -- 7, 8, 1, 2; each after the one before
    refuses "sched=fast\ncores=1\n" 1 7 ∷
    refuses "sched=\ncores=1\n" 1 7 ∷
    refuses "sched=r r\ncores=1\n" 1 7 ∷
    refuses "sched=rr,fifo\ncores=1\n" 1 7 ∷
    refuses "sched_quantum=\ncores=1\n" 1 8 ∷
    refuses "sched_quantum=+\ncores=1\n" 1 8 ∷
    refuses "sched_quantum=++5\ncores=1\n" 1 8 ∷
    refuses "sched_quantum=-5\ncores=1\n" 1 8 ∷
    refuses "sched_quantum=5 0\ncores=1\n" 1 8 ∷
    refuses "sched_quantum=1,2\ncores=1\n" 1 8 ∷
    refuses "sched_quantum=4294967296\ncores=1\n" 1 8 ∷
    refuses "sched_quantum=4294967295\ncores=1\n" 1 1 ∷
    refuses "sched_switch_cost=10001\ncores=1\n" 1 1 ∷
    refuses "cores=\n" 1 8 ∷
    refuses "cores=4294967296\n" 1 8 ∷
    refuses "cores=4294967295\n" 1 2 ∷
    -- `cores` is no setting of a settings text
    rejects "sched=rr\ncores=9\n" 2 6 ∷
    rejects "sched=rr\nsched_quantum=x" 2 6 ∷
    -- and what is taken: the eleven words, white space around values (11 is, 28 is not), bytes 13 10, `+` and zeros, a key left out
    takes "" Off 50 0 ∷
    takes "sched=None\n" Off 50 0 ∷
    takes "sched=pinned\n" Off 50 0 ∷
    takes "sched=fcfs\n" Fifo 50 0 ∷
    takes "sched=FIFO\n" Fifo 50 0 ∷
    takes "sched=round-robin\n" RoundRobin 50 0 ∷
    takes "sched=RoundRobin\n" RoundRobin 50 0 ∷
    takes "sched=round_robin\n" RoundRobin 50 0 ∷
    takes "sched=prio\n" Priority 50 0 ∷
    takes "sched=\t\u{b}\u{c} rr \r\nsched_switch_cost= +0007\t\r\n" RoundRobin 50 7 ∷
    rejects "sched=\u{1c}rr\n" 1 7 ∷ []

-- refusals on call lines: 6 and 8 end the calls, others let the run go on
abbrev pub refused_calls : List Case
refused_calls =
    prints "cores=1\nexit=4294967295\nspawn=\n" "refused=2,4\nthreads=2\n" ∷
    prints "cores=1\nexit=4294967296\nspawn=\n" "refused=2,8\nthreads=1\n" ∷
    prints "cores=1\nprio=1,0\nspawn=\n" "refused=2,5\nthreads=2\n" ∷
    prints "cores=1\nclose=0\nspawn=\n" "refused=3,11\nthreads=1\nfinished=1\nticks=1\n" ∷
    prints "cores=1\njoin=\n" "refused=2,6\nthreads=1\n" ∷
    prints "cores=1\njoin=x,y,z\n" "refused=2,6\nthreads=1\n" ∷
    prints "cores=1\njoin=,\n" "refused=2,8\nthreads=1\n" ∷
    prints "cores=1\njoin=0, 1\n" "refused=2,8\nthreads=1\n" ∷
    prints "cores=1\nexit=\n" "refused=2,8\nthreads=1\n" ∷
    prints "cores=1\nexit=0,0\n" "refused=2,6\nthreads=1\n" ∷
    prints "cores=1\nexit==0\n" "refused=2,8\nthreads=1\n" ∷
    prints "cores=1\nforce=0\n" "refused=2,6\nthreads=1\n" ∷
    prints "cores=1\nforce=0,\n" "refused=2,16\nthreads=1\n" ∷
    prints "cores=1\nforce=0, \n" "refused=2,16\nthreads=1\n" ∷
    prints "cores=1\nforce=0,7\n" "refused=2,15\nthreads=1\n" ∷
    prints "cores=1\nforce=,7\n" "refused=2,8\nthreads=1\n" ∷
    prints "cores=1\nspawn=,\n" "refused=2,6\nthreads=1\n" ∷
    prints "cores=1\nspawn= +000 \n" "threads=2\n" ∷
    prints "cores=1\ntick=1\n" "refused=2,6\nthreads=1\n" ∷
    prints "cores=1\ntick= \r\n" "threads=1\nfinished=0\nticks=1\n" ∷
    prints "cores=1\ntick =\n" "refused=2,6\nthreads=1\n" ∷
    prints "cores=1\nsched=rr\ntick=\n" "refused=2,6\nthreads=1\nfinished=0\nticks=0\n" ∷
    prints "cores=1\ncores=1\n" "refused=2,6\nthreads=1\n" ∷
    prints "cores=1\ntick=\ntick=" "refused=3,6\nthreads=1\nfinished=0\nticks=1\n" ∷
    prints "cores=1\ntick=é\n" "refused=2,6\nthreads=1\n" ∷
    -- `exit` counts its thread as finished at once; joins; a block prints as join, an absent thread as -
    prints "cores=1\nexit=0\n" "threads=1\nfinished=1\nticks=0\n" ∷
    prints "cores=2\nspawn=\ntick=\njoin=0,0\njoin=0,9\njoin=0,1\ntick=\n" "switch=1,1,-,-,1\njoined=4,invalid\njoined=5,invalid\njoined=6,wait\nswitch=2,0,0,join,-\nthreads=2\n" ∷
    prints "cores=0\nspawn=\nexit=0\ntick=\njoin=0,0\n" "switch=1,0,0,exit,1\njoined=5,done\nthreads=2\nfinished=1\nticks=1\n" ∷
    -- means in tenths, rounded down: 2 over 3
    prints "cores=1\nspawn=\nspawn=\ntick=\n" "threads=3\nfinished=0\nticks=1\ncontext_switches=0\npreemptions=0\nwaiting=0.6\n" ∷
    -- a forced switch prints `now` unchanged; 12 lets the run go on
    prints "cores=1\nspawn=\ntick=\nforce=0,1\nexit=0\nexit=0\ntick=\n" "switch=1,0,0,forced,1\nrefused=6,12\nswitch=2,0,1,exit,0\nthreads=2\n" ∷ []

-- the one table, and the one proof over it
abbrev pub table : List Case
table = starred ++ (refused_heads ++ refused_calls)

pub cases-hold : all_hold table ≡ true
unfolding compute_text same_policy is_taken is_rejected holds all_hold
cases-hold = refl

---- limits on lines: 256 bytes with byte 10, and their number

abbrev pub spaces : ℕ → List ℕ
spaces n = replicate n 32

long-enough : report (ascii "cores=1\ntick=" ++ (spaces 250 ++ ascii "\n")) ≡ report (ascii "cores=1\ntick=\n")
unfolding compute_text
long-enough = refl

too_long : report (ascii "cores=1\ntick=" ++ (spaces 251 ++ ascii "\n")) ≡ report (ascii "cores=1\ntack=\n")
unfolding compute_text
too_long = refl

too-long-head : report (ascii "cores=1" ++ (spaces 249 ++ ascii "\n")) ≡ refused_text 1 6
unfolding compute_text
too-long-head = refl

-- the 1,000,000,000,000th line is taken, the next one is 6: two call lines after n lines
abbrev later : (lines : ℕ) → Report → Report
later n r = record { lines = n; stage = r.stage }

abbrev after_many : ℕ → List ℕ
after_many n = whole (feeds (later n (feed start (ascii "cores=1\n")).report) (ascii "spawn=\n" ∷ ascii "spawn=\n" ∷ []))

last_line : take 34 (after_many 999_999_999_999) ≡ ascii "refused=1000000000001,6\nthreads=2\n"
unfolding compute_text
last_line = refl

past-line : take 34 (after_many 1_000_000_000_000) ≡ ascii "refused=1000000000001,6\nthreads=1\n"
unfolding compute_text
past-line = refl
