-- Cases computed from the definition: the worked example of 01, its starred cases on the scheduler, and the traps of "Where a port goes astray".
use Rattle.std.specs.Prelude.{ℕ, zero, suc, ◌≡◌, refl, Bool, true, false}
use Rattle.std.proofs.Math.Option.{Option, none, some}
use mathlib.Core.List.{List, [], ◌∷◌, ◌++◌, map, zip_with}
use Rattle.model.specs.Types.{Policy, Off, Fifo, RoundRobin, Priority, LeaveReason, CoreState, Idle, Switching, Running, Exit, Block, Yield, Quantum, Preempt, Forced, Out, SwitchEntry, ThreadRecord, Core, State, LastLeave}
use Rattle.model.specs.Accounting.{Sums, sums}
use Rattle.model.specs.Phases.{ascend, and_then, without, more_urgent, most_urgent, eligible, choose, pick_next, quantum_of, dispatched_state, dispatch_moves, sliced, phase1, switched_in, phase2, vacate, phase3, filled, phase4, quantum_over, hand_over, phase5, less_urgent, least_urgent, candidate, update, preempted, preempt_rounds, preemption_of, next_preemption, phase6, phases1_to4, decide}
use Rattle.model.specs.Accounting.{newest, add_counts, started, finished, left, record_leave, record_dispatch, born, logged, apply_move, apply_moves, charge_core, same_lane, grown, runs_on, is_holder, runs, holds, charge_waiting, charge_threads, charge, touched, switch_list, total, or_else}
use Rattle.model.specs.Calls.{core_at, priority_of, thread_state_of, yields_of, rules, elem, core_state_of, tid_of, tid_on, check, limit_now, limit_switches, no_core, leaving, any_leaving, cannot_take, bad_timing, refusal, waiters, wake, exited, outcome, blocking, sliced_all, out_of, back_of, taken_by, accept, stepped, initial_state, beyond, refused_new, made_of}
use Rattle.model.specs.Bound.{bound}
use Rattle.model.specs.Calls.{Call, spawn, exit, join, retired, yield, priority, timing, force, tick, close, Answer, refused, ok, spawned, joined, switched, Wait, Done, Invalid, Made, made, unmade, new, step, run}

-- `unfolding compute` is to unfold the whole definition
unfoldable pub compute : Unit {0}
unfolding zip_with or_else ascend and_then without more_urgent most_urgent eligible choose pick_next quantum_of dispatched_state dispatch_moves sliced phase1 switched_in phase2 vacate phase3 filled phase4 quantum_over hand_over phase5 less_urgent least_urgent candidate update preempted preempt_rounds preemption_of next_preemption phase6 phases1_to4 decide newest add_counts started finished left record_leave record_dispatch born logged apply_move apply_moves charge_core same_lane grown runs_on is_holder runs holds charge_waiting charge_threads charge touched switch_list total sums core_at priority_of thread_state_of yields_of rules elem core_state_of tid_of tid_on check limit_now limit_switches no_core leaving any_leaving cannot_take bad_timing refusal waiters wake exited outcome blocking sliced_all out_of back_of taken_by accept stepped step run initial_state beyond refused_new made_of new
compute = tt

-- the states and the answers along a list of calls
abbrev answers : State → List Call → List Answer
answers s [] = []
answers s (call ∷ calls) = (step s call).answer ∷ answers (step s call).state calls

abbrev after : Made → List Call → Option State
after (unmade n) calls = none
after (made s) calls = some (run s calls)

abbrev told : Made → List Call → List Answer
told (unmade n) calls = refused n ∷ []
told (made s) calls = answers s calls

abbrev cells_of : Option State → List CoreState
cells_of none = []
cells_of (some s) = map (λ (c : Core). c.state) s.cores

abbrev queue_of : Option State → List ℕ
queue_of none = []
queue_of (some s) = s.queue

abbrev marks_of : Option State → List Bool
marks_of none = []
marks_of (some s) = map (λ (c : Core). c.progressed) s.cores

abbrev blocked_of : Option State → List ℕ
blocked_of none = []
blocked_of (some s) = map (λ (thread : ThreadRecord). thread.counts.blocked) s.accounts.threads

abbrev run_of : Option State → List ℕ
run_of none = []
run_of (some s) = map (λ (thread : ThreadRecord). thread.counts.run) s.accounts.threads

abbrev totals : Option State → Option Sums
totals none = none
totals (some s) = some (sums s.accounts)

abbrev pub at : Policy → (quantum cost cores : ℕ) → Made
at policy quantum cost n = new policy quantum cost n 256 512 256 0

abbrev swap : (core out : ℕ) → LeaveReason → (inn : ℕ) → SwitchEntry
swap i out r inn = record { core = i; out = some (record { tid = out; reason = r }); inn = some inn }

---- the worked example of 01

abbrev example : List Call
example = spawn (some 0) 0 ∷ retired 0 ∷ tick ∷ retired 0 ∷ tick ∷ tick ∷ exit 0 ∷ tick ∷ []

example-answers :
    told (at RoundRobin 2 1 1) example
    ≡ spawned 1 ∷ ok ∷ switched [] ∷ ok ∷ switched (swap 0 0 Quantum 1 ∷ []) ∷ switched [] ∷ ok ∷ switched (swap 0 1 Exit 0 ∷ []) ∷ []
unfolding compute
example-answers = refl

example-sums :
    totals (after (at RoundRobin 2 1 1) example)
    ≡ some (record { threads = 2; finished = 1; responded = 2; context_switches = 2; preemptions = 1; waiting = 4; response = 3; turnaround = 4; busy = 3; core_ticks = 4 })
unfolding compute
example-sums = refl

---- the starred cases on creation: "quantum 0 refused, 1 taken, 1,000,000 taken, 1,000,001 refused"; "cost 10,000 taken, 10,001 refused"; "8 cores taken, 9 refused"

abbrev refused_by : Made → ℕ
refused_by (made s) = 0
refused_by (unmade n) = n

creation :
    map refused_by
    (at RoundRobin 0 0 1 ∷ at RoundRobin 1 0 1 ∷ at RoundRobin 1_000_000 0 1 ∷ at RoundRobin 1_000_001 0 1 ∷ at Fifo 1 10_000 1 ∷ at Fifo 1 10_001 1 ∷ at Fifo 1 0 8
    ∷ at Fifo 1 0 9 ∷ [])
    ≡ 1 ∷ 0 ∷ 0 ∷ 1 ∷ 0 ∷ 1 ∷ 0 ∷ 2 ∷ []
unfolding compute
creation = refl

---- "Where a port goes astray"

-- "Handing over before idle cores are filled.": core 1 takes thread 1, then nobody is left and thread 0 keeps core 0 with slice 0
fill-first : cells_of (after (at RoundRobin 1 0 2) (spawn none 0 ∷ retired 0 ∷ tick ∷ [])) ≡ Running 0 0 ∷ Running 1 0 ∷ []
unfolding compute
fill-first = refl

-- "Clearing the progressed mark with a fresh quantum.": the mark of the first tick lets thread 1 in at the second, with no instruction reported in it
mark-timing_kept : marks_of (after (at RoundRobin 1 0 1) (retired 0 ∷ tick ∷ [])) ≡ true ∷ []
unfolding compute
mark-timing_kept = refl

mark-serves : cells_of (after (at RoundRobin 1 0 1) (retired 0 ∷ tick ∷ spawn none 0 ∷ tick ∷ [])) ≡ Running 1 0 ∷ []
unfolding compute
mark-serves = refl

-- "Booking the tick of a join as blocked.": thread 0 ran in that tick
join_runs : blocked_of (after (at RoundRobin 9 0 2) (spawn none 0 ∷ tick ∷ join 0 1 ∷ tick ∷ tick ∷ [])) ≡ 1 ∷ 0 ∷ []
unfolding compute
join_runs = refl

-- "Leaving a woken thread out of the queue because it still holds a core.": thread 0 waits and holds core 0 at once, and is taken again at the tick's end
abbrev woken : List Call
woken = spawn none 0 ∷ tick ∷ join 0 1 ∷ exit 1 ∷ []

woken-waits : queue_of (after (at RoundRobin 9 0 2) woken) ≡ 0 ∷ []
unfolding compute
woken-waits = refl

woken-holds : cells_of (after (at RoundRobin 9 0 2) woken) ≡ Running 0 1 ∷ Running 1 0 ∷ []
unfolding compute
woken-holds = refl

woken-again : cells_of (after (at RoundRobin 9 0 2) (woken ++ (tick ∷ []))) ≡ Running 0 0 ∷ Idle ∷ []
unfolding compute
woken-again = refl

-- "Breaking preemption ties by the lowest core."; 01: "two running at 7 and a ready 5: core 1 loses. Ready 7, running 7: none loses."
abbrev sevens : List Call
sevens = priority 0 7 ∷ spawn (some 0) 0 ∷ tick ∷ spawn none 0 ∷ []

core-1-loses : told (at Priority 9 0 2) (sevens ++ (priority 2 5 ∷ tick ∷ [])) ≡ ok ∷ spawned 1 ∷ switched (record { core = 1; out = none; inn = some 1 } ∷ []) ∷ spawned 2 ∷ ok ∷ switched (swap 1 1 Preempt 2 ∷ []) ∷ []
unfolding compute
core-1-loses = refl

none-loses : cells_of (after (at Priority 9 0 2) (sevens ++ (priority 2 7 ∷ tick ∷ []))) ≡ Running 0 2 ∷ Running 1 1 ∷ []
unfolding compute
none-loses = refl

-- 01: "Quantum, preempt and forced leaves count as preemptions and go to the back": thread 0 waits behind thread 2
to-the-back : queue_of (after (at RoundRobin 1 0 1) (spawn none 0 ∷ spawn none 0 ∷ retired 0 ∷ tick ∷ [])) ≡ 2 ∷ 0 ∷ []
unfolding compute
to-the-back = refl

-- refusals: no such core, idle, named thread not ready, nobody waits, blocked this tick, closed
refusals :
    told (at RoundRobin 9 0 2) (exit 2 ∷ exit 1 ∷ force 0 (some 5) ∷ force 0 none ∷ priority 9 9 ∷ timing 1_000_001 0 ∷ spawn none 0 ∷ join 0 1 ∷ join 0 1 ∷ force 1 none ∷ tick ∷ close 0 ∷ tick ∷ [])
    ≡ refused 4 ∷ refused 13 ∷ refused 15 ∷ refused 16 ∷ refused 5 ∷ refused 1 ∷ spawned 1 ∷ joined Wait ∷ refused 12 ∷ refused 12
    ∷ switched (record { core = 0; out = some (record { tid = 0; reason = Block }); inn = some 1 } ∷ []) ∷ ok ∷ refused 11 ∷ []
unfolding compute
refusals = refl

---- the bound: "2 cores, quantum 3, cost 1, p 4: bound 12. p 0, 1 core, quantum 1, cost 0: bound 1."
bounds : (bound 4 2 3 1 ≡ 12) × (bound 0 1 1 0 ≡ 1)
bounds = (refl, refl)

---- the limits: 18 now at its limit, 19 yields of the thread, or for force the context switches, at theirs; one below is taken

abbrev refuses_at : (State → State) → Call → Made → Option ℕ
refuses_at f call (unmade n) = none
refuses_at f call (made s) = refusal (f s) call

abbrev aged : ℕ → State → State
aged n s = record { config = s.config; cores = s.cores; queue = s.queue; accounts = s.accounts; now = n; closed = s.closed }

abbrev switched_often : ℕ → State → State
switched_often n s =
    record { config = s.config; cores = s.cores; queue = 0 ∷ []; accounts = record { threads = s.accounts.threads; ticks = s.accounts.ticks; timelines = s.accounts.timelines; log = s.accounts.log; context_switches = n }; now = s.now; closed = s.closed }

abbrev yielded_often : ℕ → State → State
yielded_often n s =
    record { config = s.config; cores = s.cores; queue = s.queue; accounts = record { threads = map (add_counts 0 0 0 0 0 n) s.accounts.threads; ticks = s.accounts.ticks; timelines = s.accounts.timelines; log = s.accounts.log; context_switches = s.accounts.context_switches }; now = s.now; closed = s.closed }

limits :
    refuses_at (aged 4_000_000_000) tick (at Fifo 1 0 1) ∷ refuses_at (aged 3_999_999_999) tick (at Fifo 1 0 1) ∷ refuses_at (aged 4_000_000_000) (close 0) (at Fifo 1 0 1)
    ∷ refuses_at (switched_often 40_000_000_000) (force 0 none) (at Fifo 1 0 1) ∷ refuses_at (switched_often 39_999_999_999) (force 0 none) (at Fifo 1 0 1)
    ∷ refuses_at (yielded_often 4_000_000_000) (yield 0) (at Fifo 1 0 1) ∷ refuses_at (yielded_often 3_999_999_999) (yield 0) (at Fifo 1 0 1) ∷ []
    ≡ some 18 ∷ none ∷ some 18 ∷ some 19 ∷ none ∷ some 19 ∷ none ∷ []
unfolding compute
limits = refl
