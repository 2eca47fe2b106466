-- The accounts: what moves and charging write into thread records, core counters, timelines and the log. Nothing here decides anything.
use Rattle.std.specs.Prelude.{ℕ, zero, suc, ◌+◌, ◌-◌, Bool, true, false, cond, ◌&&◌, ◌||◌, leb, ltb, eqb, length, drop}
use Rattle.std.proofs.Math.Option.{Option, none, some}
use mathlib.Core.List.{List, [], ◌∷◌, ◌++◌, map, zip_with}
use Rattle.std.proofs.Math.ListN.{get_elem?}
use Rattle.model.specs.Types.{CoreState, Idle, Switching, Running, LeaveReason, Exit, Block, Yield, Quantum, Preempt, Forced, Core, Move, starts, leaves, takes}
use Rattle.model.specs.Types.{ThreadState, Ready, Exited, OnCore, Blocked, LastLeave, Last, Times, Counts, ThreadRecord, CoreTicks, Lane, IdleLane, SwitchLane, RunLane, Segment}
use Rattle.model.specs.Types.{EventKind, Spawned, Dispatched, Departed, Woken, Reprioritised, Event, Out, SwitchEntry, Accounts}
use Rattle.model.specs.Phases.{update, holder}

-- the newest n of a list. 01: "The Rust keeps 512 and 4,096; the port's list equals the newest E or S of the Rust's."
unfoldable pub newest {ℓ} : {A : Type ℓ} → ℕ → List A → List A
newest n xs = drop (length xs - n) xs

---- one thread's record

abbrev pub set_state : ThreadState → ThreadRecord → ThreadRecord
set_state state thread = record { tid = thread.tid; parent = thread.parent; entry = thread.entry; priority = thread.priority; state = state; last = thread.last; times = thread.times; counts = thread.counts }

abbrev pub set_priority : ℕ → ThreadRecord → ThreadRecord
set_priority n thread = record { tid = thread.tid; parent = thread.parent; entry = thread.entry; priority = n; state = thread.state; last = thread.last; times = thread.times; counts = thread.counts }

abbrev pub set_last : Last → ThreadRecord → ThreadRecord
set_last last thread = record { tid = thread.tid; parent = thread.parent; entry = thread.entry; priority = thread.priority; state = thread.state; last = last; times = thread.times; counts = thread.counts }

abbrev pub set_times : Times → ThreadRecord → ThreadRecord
set_times times thread = record { tid = thread.tid; parent = thread.parent; entry = thread.entry; priority = thread.priority; state = thread.state; last = thread.last; times = times; counts = thread.counts }

abbrev pub set_counts : Counts → ThreadRecord → ThreadRecord
set_counts counts thread = record { tid = thread.tid; parent = thread.parent; entry = thread.entry; priority = thread.priority; state = thread.state; last = thread.last; times = thread.times; counts = counts }

-- what is added to the six counters: run, ready, blocked, dispatches, preemptions, yields
unfoldable pub add_counts : (run ready blocked dispatches preemptions yields : ℕ) → ThreadRecord → ThreadRecord
add_counts run ready blocked dispatches preemptions yields thread =
    let counts = thread.counts in
    set_counts (record { run = counts.run + run; ready = counts.ready + ready; blocked = counts.blocked + blocked; dispatches = counts.dispatches + dispatches; preemptions = counts.preemptions + preemptions; yields = counts.yields + yields }) thread

unfoldable pub or_else : Option ℕ → ℕ → Option ℕ
or_else none n = some n
or_else (some first) n = some first

-- 01: "first run set if unset"
unfoldable pub started : ℕ → ThreadRecord → ThreadRecord
started now thread = set_times (record { arrival = thread.times.arrival; first_run = or_else thread.times.first_run now; finish = thread.times.finish }) thread

-- 01: "`exit` sets finish to now + 1"
unfoldable pub finished : ℕ → ThreadRecord → ThreadRecord
finished now thread = set_state Exited (set_times (record { arrival = thread.times.arrival; first_run = thread.times.first_run; finish = some (now + 1) }) thread)

-- 01: "Quantum, preempt and forced leaves count as preemptions and go to the back; so does yield, uncounted."
unfoldable pub left : LeaveReason → ThreadRecord → ThreadRecord
left Exit thread = thread
left Block thread = thread
left Yield thread = set_state Ready thread
left Quantum thread = set_state Ready (add_counts 0 0 0 0 1 0 thread)
left Preempt thread = set_state Ready (add_counts 0 0 0 0 1 0 thread)
left Forced thread = set_state Ready (add_counts 0 0 0 0 1 0 thread)

unfoldable pub record_leave : (now core : ℕ) → LeaveReason → ThreadRecord → ThreadRecord
record_leave now i r thread = set_last (record { core = thread.last.core; dispatch = thread.last.dispatch; leave = some (record { tick = now; core = i; reason = r }) }) (left r thread)

unfoldable pub record_dispatch : (now core : ℕ) → ThreadRecord → ThreadRecord
record_dispatch now i thread = set_last (record { core = some i; dispatch = some now; leave = thread.last.leave }) (set_state (OnCore i) (add_counts 0 0 0 1 0 0 thread))

unfoldable pub born : (tid : ℕ) → Option ℕ → (entry priority now : ℕ) → ThreadRecord
born tid parent entry priority now =
    record {
      tid = tid;
      parent = parent;
      entry = entry;
      priority = priority;
      state = Ready;
      last = record { core = none; dispatch = none; leave = none };
      times = record { arrival = now; first_run = none; finish = none };
      counts = record { run = 0; ready = 0; blocked = 0; dispatches = 0; preemptions = 0; yields = 0 };
    }

---- the accounts as a whole

abbrev pub set_threads : List ThreadRecord → Accounts → Accounts
set_threads ts b = record { threads = ts; ticks = b.ticks; timelines = b.timelines; log = b.log; context_switches = b.context_switches }

abbrev pub on_thread : ℕ → (ThreadRecord → ThreadRecord) → Accounts → Accounts
on_thread t f b = set_threads (update t f b.threads) b

-- 01: "Spawn, dispatch, leave, wake and priority change each write one event"; the newest E are kept
unfoldable pub logged : (cap_e now tid : ℕ) → EventKind → Accounts → Accounts
logged cap_e now t kind b =
    record { threads = b.threads; ticks = b.ticks; timelines = b.timelines; log = newest cap_e (b.log ++ (record { tick = now; tid = t; kind = kind } ∷ [])); context_switches = b.context_switches }

abbrev pub switched_once : Accounts → Accounts
switched_once b = record { threads = b.threads; ticks = b.ticks; timelines = b.timelines; log = b.log; context_switches = b.context_switches + 1 }

unfoldable pub apply_move : (cap_e now : ℕ) → Move → Accounts → Accounts
apply_move cap_e now (starts t) b = on_thread t (started now) b
apply_move cap_e now (leaves t i r) b = logged cap_e now t (Departed i r) (on_thread t (record_leave now i r) b)
apply_move cap_e now (takes t i) b = logged cap_e now t (Dispatched i) (switched_once (on_thread t (record_dispatch now i) b))

unfoldable pub apply_moves : (cap_e now : ℕ) → List Move → Accounts → Accounts
apply_moves cap_e now [] b = b
apply_moves cap_e now (move ∷ ms) b = apply_moves cap_e now ms (apply_move cap_e now move b)

---- charging a tick (phase 1, on the accounts)

-- "Charging a tick changes one core's three counters ..., adds 1 to one of the three"
unfoldable pub charge_core : CoreState → CoreTicks → CoreTicks
charge_core Idle counters = record { busy = counters.busy; switching = counters.switching; idle = counters.idle + 1 }
charge_core (Switching t l) counters = record { busy = counters.busy; switching = counters.switching + 1; idle = counters.idle }
charge_core (Running t slice) counters = record { busy = counters.busy + 1; switching = counters.switching; idle = counters.idle }

abbrev pub lane_of : CoreState → Lane
lane_of Idle = IdleLane
lane_of (Switching t l) = SwitchLane t
lane_of (Running t slice) = RunLane t

unfoldable pub same_lane : Lane → Lane → Bool
same_lane IdleLane IdleLane = true
same_lane IdleLane (SwitchLane u) = false
same_lane IdleLane (RunLane u) = false
same_lane (SwitchLane t) IdleLane = false
same_lane (SwitchLane t) (SwitchLane u) = eqb t u
same_lane (SwitchLane t) (RunLane u) = false
same_lane (RunLane t) IdleLane = false
same_lane (RunLane t) (SwitchLane u) = false
same_lane (RunLane t) (RunLane u) = eqb t u

-- "A segment grows if lane and end match, otherwise a new one begins."
unfoldable pub grown : ℕ → Lane → List Segment → List Segment
grown now lane [] = record { lane = lane; start = now; end = now + 1 } ∷ []
grown now lane (g ∷ []) =
    cond (same_lane g.lane lane && eqb g.end now)
    (record { lane = lane; start = g.start; end = now + 1 } ∷ [])
    (g ∷ record { lane = lane; start = now; end = now + 1 } ∷ [])
grown now lane (g ∷ (g' ∷ gs)) = g ∷ grown now lane (g' ∷ gs)

unfoldable pub runs_on : ℕ → CoreState → Bool
runs_on t Idle = false
runs_on t (Switching u l) = false
runs_on t (Running u slice) = eqb u t

unfoldable pub is_holder : ℕ → Option ℕ → Bool
is_holder t none = false
is_holder t (some u) = eqb u t

unfoldable pub runs : ℕ → List Core → Bool
runs t [] = false
runs t (c ∷ cs) = runs_on t c.state || runs t cs

unfoldable pub holds : ℕ → List Core → Bool
holds t [] = false
holds t (c ∷ cs) = is_holder t (holder c.state) || holds t cs

-- "A running core adds 1 to ... its thread's run ticks. A thread on no core adds 1 to ready or blocked by its state. A switching thread is charged nothing."
unfoldable pub charge_waiting : ThreadState → ThreadRecord → ThreadRecord
charge_waiting Ready thread = add_counts 0 1 0 0 0 0 thread
charge_waiting (Blocked u) thread = add_counts 0 0 1 0 0 0 thread
charge_waiting (OnCore i) thread = thread
charge_waiting Exited thread = thread

unfoldable pub charge_threads : List Core → ℕ → List ThreadRecord → List ThreadRecord
charge_threads cs t [] = []
charge_threads cs t (thread ∷ ts) = cond (runs t cs) (add_counts 1 0 0 0 0 0 thread) (cond (holds t cs) thread (charge_waiting thread.state thread)) ∷ charge_threads cs (suc t) ts

unfoldable pub charge : (cap_s now : ℕ) → List Core → Accounts → Accounts
charge cap_s now cs b =
    record {
      threads = charge_threads cs 0 b.threads;
      ticks = zip_with (λ c counters. charge_core c.state counters) cs b.ticks;
      timelines = zip_with (λ c gs. newest cap_s (grown now (lane_of c.state) gs)) cs b.timelines;
      log = b.log;
      context_switches = b.context_switches;
    }

---- the switch list

unfoldable pub touched : ℕ → (SwitchEntry → SwitchEntry) → List SwitchEntry → List SwitchEntry
touched i f [] = f (record { core = i; out = none; inn = none }) ∷ []
touched i f (e ∷ es) = cond (eqb e.core i) (f e ∷ es) (e ∷ touched i f es)

unfoldable pub switch_list : List SwitchEntry → List Move → List SwitchEntry
switch_list es [] = es
switch_list es (starts t ∷ ms) = switch_list es ms
switch_list es (leaves t i r ∷ ms) = switch_list (touched i (λ e. record { core = e.core; out = some (record { tid = t; reason = r }); inn = e.inn }) es) ms
switch_list es (takes t i ∷ ms) = switch_list (touched i (λ e. record { core = e.core; out = e.out; inn = some t }) es) ms

---- the summary's exact sums

unfoldable pub total {ℓ} : {A : Type ℓ} → (A → ℕ) → List A → ℕ
total f [] = 0
total f (x ∷ xs) = f x + total f xs

abbrev pub since : ℕ → Option ℕ → ℕ
since arrival none = 0
since arrival (some n) = n - arrival

abbrev pub one : Option ℕ → ℕ
one none = 0
one (some n) = 1

-- four means: waiting / threads, response / responded, turnaround / finished, busy / core_ticks
pub record Sums : Type 0 where
  pub threads : ℕ
  pub finished : ℕ
  pub responded : ℕ
  pub context_switches : ℕ
  pub preemptions : ℕ
  pub waiting : ℕ
  pub response : ℕ
  pub turnaround : ℕ
  pub busy : ℕ
  pub core_ticks : ℕ

unfoldable pub sums : Accounts → Sums
sums b =
    record {
      threads = length b.threads;
      finished = total (λ thread. one thread.times.finish) b.threads;
      responded = total (λ thread. one thread.times.first_run) b.threads;
      context_switches = b.context_switches;
      preemptions = total (λ thread. thread.counts.preemptions) b.threads;
      waiting = total (λ thread. thread.counts.ready) b.threads;
      response = total (λ thread. since thread.times.arrival thread.times.first_run) b.threads;
      turnaround = total (λ thread. since thread.times.arrival thread.times.finish) b.threads;
      busy = total (λ counters. counters.busy) b.ticks;
      core_ticks = total (λ counters. counters.busy + counters.switching + counters.idle) b.ticks;
    }

-- how many of the moves are dispatches: each is a context switch
unfoldable pub takes_in : List Move → ℕ
takes_in [] = 0
takes_in (starts t ∷ ms) = takes_in ms
takes_in (leaves t i r ∷ ms) = takes_in ms
takes_in (takes t i ∷ ms) = suc (takes_in ms)
