-- The calls: what each refuses, in the documented order, and what it does when it is not refused.
use Prim.Native.Nat.{ℕ, zero, suc, ◌+◌, max}
use Rattle.std.specs.Prelude.{Bool, true, false, cond, not, ◌&&◌, ◌||◌, List, [], ◌∷◌, ◌++◌, map, leb, ltb, eqb, length, replicate}
use Rattle.std.proofs.Math.Option.{Option, none, some}
use Rattle.std.proofs.Math.ListN.{get_elem?}
unfoldable pub use Rattle.settings.specs.Policy.{beyond}
use Rattle.model.specs.Types.{Policy, CoreState, Idle, Switching, Running, LeaveReason, Forced, Core, Move, starts, leaves, takes, ThreadState, Ready, Exited, OnCore, Blocked}
use Rattle.model.specs.Types.{ThreadRecord, CoreTicks, Segment, EventKind, Spawned, Dispatched, Woken, Reprioritised, Event, SwitchEntry, Config, Accounts, State}
use Rattle.model.specs.Phases.{Rules, Pass, update, holder, pick_next, cleared, dispatch, dispatch_moves, without, sliced, with_state, decide}
use Rattle.model.specs.Accounting.{set_state, set_priority, add_counts, finished, started, record_dispatch, born, set_threads, on_thread, logged, apply_moves, charge, switch_list, newest}

pub data Call : Type 0 where
  spawn : (parent : Option ℕ) (entry : ℕ) → Call
  exit : (core : ℕ) → Call
  join : (core target : ℕ) → Call
  retired : (core : ℕ) → Call
  yield : (core : ℕ) → Call
  priority : (tid number : ℕ) → Call
  timing : (quantum cost : ℕ) → Call
  force : (core : ℕ) (named : Option ℕ) → Call
  tick : Call
  close : (core : ℕ) → Call

-- 01: "`join` of oneself or of an unknown thread is invalid, of an exited one done, otherwise wait."
pub data JoinOutcome : Type 0 where
  Wait Done Invalid : JoinOutcome

pub data Answer : Type 0 where
  refused : (number : ℕ) → Answer
  ok : Answer
  spawned : (tid : ℕ) → Answer
  joined : JoinOutcome → Answer
  switched : List SwitchEntry → Answer

pub record Stepped : Type 0 where
  pub state : State
  pub answer : Answer
  pub moves : List Move

---- what the calls read

abbrev pub idle_core : Core
idle_core = cleared Idle false false

unfoldable pub core_at : List Core → ℕ → Core
core_at [] i = idle_core
core_at (c ∷ cs) zero = c
core_at (c ∷ cs) (suc i) = core_at cs i

unfoldable pub priority_of : ℕ → Option ThreadRecord → ℕ
priority_of default none = default
priority_of default (some thread) = thread.priority

unfoldable pub thread_state_of : Option ThreadRecord → Option ThreadState
thread_state_of none = none
thread_state_of (some thread) = some thread.state

unfoldable pub yields_of : Option ThreadRecord → ℕ
yields_of none = 0
yields_of (some thread) = thread.counts.yields

unfoldable pub rules : State → Rules
rules s = record { policy = s.config.policy; quantum = s.config.quantum; cost = s.config.cost; prio = λ t. priority_of 0 (get_elem? s.accounts.threads t) }

unfoldable pub elem : ℕ → List ℕ → Bool
elem t [] = false
elem t (h ∷ q) = eqb h t || elem t q

abbrev pub is_none {ℓ} : {A : Type ℓ} → Option A → Bool
is_none none = true
is_none (some x) = false

abbrev pub is_idle : CoreState → Bool
is_idle Idle = true
is_idle (Switching t l) = false
is_idle (Running t slice) = false

abbrev pub is_switching : CoreState → Bool
is_switching Idle = false
is_switching (Switching t l) = true
is_switching (Running t slice) = false

abbrev pub is_running : CoreState → Bool
is_running Idle = false
is_running (Switching t l) = false
is_running (Running t slice) = true

unfoldable pub core_state_of : State → ℕ → CoreState
core_state_of s i = (core_at s.cores i).state

-- the number of the thread that holds a core (0 where none does; asked only of a core that is held)
unfoldable pub tid_of : Option ℕ → ℕ
tid_of none = 0
tid_of (some t) = t

unfoldable pub tid_on : State → ℕ → ℕ
tid_on s i = tid_of (holder (core_state_of s i))

---- refusals

-- refused by number n if the condition holds, otherwise what the rest says
unfoldable pub check : ℕ → Bool → Option ℕ → Option ℕ
check n true rest = some n
check n false rest = rest

-- 01: "`now` is at most 4,000,000,000."; "19+ yields of the thread at 4,000,000,000, or for force context switches ≥ 40,000,000,000"
unfoldable pub limit_now : ℕ
limit_now = 4_000_000_000

unfoldable pub limit_switches : ℕ
limit_switches = 40_000_000_000

-- 4 no such core
unfoldable pub no_core : State → ℕ → Bool
no_core s i = leb (length s.cores) i

-- 12 the core's thread exited or blocked this tick, even if woken since
unfoldable pub leaving : Core → Bool
leaving c = c.exits || c.blocks

unfoldable pub any_leaving : List Core → Bool
any_leaving [] = false
any_leaving (c ∷ cs) = leaving c || any_leaving cs

-- 15 named thread not ready, or 16 nobody waits
unfoldable pub cannot_take : State → ℕ → Option ℕ → Option ℕ → Option ℕ
cannot_take s i none rest = check 16 (is_none (pick_next (rules s) i none s.queue)) rest
cannot_take s i (some t) rest = check 15 (not (elem t s.queue)) rest

-- "1 setting out of range"
unfoldable pub bad_timing : (quantum cost : ℕ) → Bool
bad_timing quantum cost = ltb 1_000_000 quantum || ltb 10_000 cost

-- 01: "Checked in this order, and no others: spawn 11, 17; tick 11, 18; exit 4, 11, 12, 13; join 4, 11, 12, 13; yield 4, 11, 12, 13, 19; retired 4, 11;
-- priority 5, 11; force 4, 11, 12, 14, 15 (named) or 16 (unnamed), 19; close 4, 11, 12, 13, 18; `set_timing` 1, 11." "5 no such thread (priority call)."
-- "11+ closed." "13 core idle, or switching for join and yield. 14 still switching." "17+ T threads exist. 18+ now at its limit."
unfoldable pub refusal : State → Call → Option ℕ
refusal s (spawn parent entry) = check 11 s.closed (check 17 (leb s.config.cap_t (length s.accounts.threads)) none)
refusal s tick = check 11 s.closed (check 18 (leb limit_now s.now) none)
refusal s (exit i) = check 4 (no_core s i) (check 11 s.closed (check 12 (leaving (core_at s.cores i)) (check 13 (is_idle (core_state_of s i)) none)))
refusal s (join i t) = check 4 (no_core s i) (check 11 s.closed (check 12 (leaving (core_at s.cores i)) (check 13 (not (is_running (core_state_of s i))) none)))
refusal s (yield i) =
    check 4 (no_core s i) (check 11 s.closed (check 12 (leaving (core_at s.cores i)) (check 13 (not (is_running (core_state_of s i)))
    (check 19 (leb limit_now (yields_of (get_elem? s.accounts.threads (tid_on s i)))) none))))
refusal s (retired i) = check 4 (no_core s i) (check 11 s.closed none)
refusal s (priority t n) = check 5 (leb (length s.accounts.threads) t) (check 11 s.closed none)
refusal s (force i named) =
    check 4 (no_core s i) (check 11 s.closed (check 12 (any_leaving s.cores) (check 14 (is_switching (core_state_of s i))
    (cannot_take s i named (check 19 (leb limit_switches s.accounts.context_switches) none)))))
refusal s (close i) =
    check 4 (no_core s i) (check 11 s.closed (check 12 (leaving (core_at s.cores i)) (check 13 (is_idle (core_state_of s i))
    (check 18 (leb limit_now s.now) none))))
refusal s (timing quantum cost) = check 1 (bad_timing quantum cost) (check 11 s.closed none)

---- what a call does

abbrev pub with : List Core → List ℕ → Accounts → State → State
with cs q b s = record { config = s.config; cores = cs; queue = q; accounts = b; now = s.now; closed = s.closed }

abbrev pub mark_exit : Core → Core
mark_exit c = record { state = c.state; exits = true; blocks = c.blocks; yields = c.yields; progressed = c.progressed }

abbrev pub mark_block : Core → Core
mark_block c = record { state = c.state; exits = c.exits; blocks = true; yields = c.yields; progressed = c.progressed }

abbrev pub mark_yield : Core → Core
mark_yield c = record { state = c.state; exits = c.exits; blocks = c.blocks; yields = true; progressed = c.progressed }

abbrev pub mark_progress : Core → Core
mark_progress c = record { state = c.state; exits = c.exits; blocks = c.blocks; yields = c.yields; progressed = true }

abbrev pub unmarked : Core → Core
unmarked c = cleared c.state false c.progressed

-- the threads blocked on one that exits, in thread order
abbrev pub blocked_on : ℕ → ThreadState → Bool
blocked_on t Ready = false
blocked_on t Exited = false
blocked_on t (OnCore i) = false
blocked_on t (Blocked u) = eqb u t

unfoldable pub waiters : ℕ → ℕ → List ThreadRecord → List ℕ
waiters t u [] = []
waiters t u (thread ∷ ts) = let rest = waiters t (suc u) ts in cond (blocked_on t thread.state) (u ∷ rest) rest

unfoldable pub wake : (cap_e now : ℕ) → List ℕ → Accounts → Accounts
wake cap_e now [] b = b
wake cap_e now (t ∷ woken) b = wake cap_e now woken (logged cap_e now t Woken (on_thread t (set_state Ready) b))

-- 01: "`exit` sets finish to now + 1 and wakes its waiters in thread order to the back of the queue." A waiter keeps its core till the tick ends, "even if
-- woken in that tick; it is then also in the queue": no core changes here but for the mark
unfoldable pub exited : State → ℕ → State
exited s i =
    let t = tid_on s i in
    let b = on_thread t (finished s.now) s.accounts in
    let woken = waiters t 0 b.threads in
    with (update i mark_exit s.cores) (s.queue ++ woken) (wake s.config.cap_e s.now woken b) s

unfoldable pub outcome : (self target : ℕ) → Option ThreadState → JoinOutcome
outcome self t none = Invalid
outcome self t (some Exited) = cond (eqb t self) Invalid Done
outcome self t (some Ready) = cond (eqb t self) Invalid Wait
outcome self t (some (OnCore i)) = cond (eqb t self) Invalid Wait
outcome self t (some (Blocked u)) = cond (eqb t self) Invalid Wait

unfoldable pub blocking : State → (core target : ℕ) → JoinOutcome → State
blocking s i t Done = s
blocking s i t Invalid = s
blocking s i t Wait = with (update i mark_block s.cores) s.queue (on_thread (tid_on s i) (set_state (Blocked t)) s.accounts) s

abbrev pub parent_of : State → Option ℕ → Option ThreadRecord
parent_of s none = none
parent_of s (some parent) = get_elem? s.accounts.threads parent

-- phase 1 on a state: slices, accounts, now + 1
abbrev pub charged : State → Accounts
charged s = charge s.config.cap_s s.now s.cores s.accounts

unfoldable pub sliced_all : List Core → List Core
sliced_all cs = map (λ c. with_state (sliced c.state) c) cs

-- who leaves a forced core, and with which marks the core goes on
unfoldable pub out_of : (core : ℕ) → CoreState → List Move
out_of i Idle = []
out_of i (Switching t l) = []
out_of i (Running t slice) = leaves t i Forced ∷ []

unfoldable pub back_of : CoreState → List ℕ
back_of Idle = []
back_of (Switching t l) = []
back_of (Running t slice) = t ∷ []

abbrev pub forced_core : (cost tid : ℕ) → Core → Core
forced_core cost t c = dispatch cost t (unmarked c)

unfoldable pub taken_by : State → ℕ → Option ℕ → ℕ
taken_by s i none = tid_of (pick_next (rules s) i none s.queue)
taken_by s i (some t) = t

-- each call, where it is not refused
abbrev pub plain : State → Stepped
plain s = record { state = s; answer = ok; moves = [] }

-- 01: "`spawn` copies the parent's priority; with no parent, or an unknown one, it is 10. The child joins the back of the queue."
abbrev pub spawn_thread : State → Option ℕ → (entry : ℕ) → Stepped
spawn_thread s parent entry =
    let t = length s.accounts.threads in
    let b = set_threads (s.accounts.threads ++ (born t parent entry (priority_of 10 (parent_of s parent)) s.now ∷ [])) s.accounts in
    record { state = with s.cores (s.queue ++ (t ∷ [])) (logged s.config.cap_e s.now t (Spawned parent) b) s; answer = spawned t; moves = [] }

abbrev pub join_thread : State → (core target : ℕ) → Stepped
join_thread s i t =
    let o = outcome (tid_on s i) t (thread_state_of (get_elem? s.accounts.threads t)) in
    record { state = blocking s i t o; answer = joined o; moves = [] }

-- 01: "`retired` sets the core's progressed mark, also on an idle or switching core."
abbrev pub retired_on : State → (core : ℕ) → State
retired_on s i = with (update i mark_progress s.cores) s.queue s.accounts s

abbrev pub yield_now : State → (core : ℕ) → State
yield_now s i = with (update i mark_yield s.cores) s.queue (on_thread (tid_on s i) (add_counts 0 0 0 0 0 1) s.accounts) s

abbrev pub set_priority_of : State → (tid number : ℕ) → State
set_priority_of s t n = with s.cores s.queue (logged s.config.cap_e s.now t (Reprioritised n) (on_thread t (set_priority n) s.accounts)) s

-- 01: "`set_timing` turns quantum 0 into 1."
abbrev pub set_timing : State → (quantum cost : ℕ) → State
set_timing s quantum cost =
    record {
      config = record { policy = s.config.policy; quantum = max quantum 1; cost = cost; cap_t = s.config.cap_t; cap_e = s.config.cap_e; cap_s = s.config.cap_s };
      cores = s.cores;
      queue = s.queue;
      accounts = s.accounts;
      now = s.now;
      closed = s.closed;
    }

abbrev pub force_switch : State → (core : ℕ) → Option ℕ → Stepped
force_switch s i named =
    let t = taken_by s i named in
    let ms = out_of i (core_state_of s i) ++ dispatch_moves s.config.cost t i in
    record {
      state = with (update i (forced_core s.config.cost t) s.cores) (without t (s.queue ++ back_of (core_state_of s i))) (apply_moves s.config.cap_e s.now ms s.accounts) s;
      answer = switched (switch_list [] ms);
      moves = ms;
    }

-- 01, "Switch entry": phase 1 charges, then now + 1; the phases decide; what they decide is written into the accounts at the new `now`
abbrev pub end_tick : State → Stepped
end_tick s =
    let pass = decide (rules s) s.cores s.queue in
    record {
      state = record {
        config = s.config;
        cores = pass.cores;
        queue = pass.queue;
        accounts = apply_moves s.config.cap_e (s.now + 1) pass.moves (charged s);
        now = s.now + 1;
        closed = s.closed;
      };
      answer = switched (switch_list [] pass.moves);
      moves = pass.moves;
    }

-- 01: "`close` does `exit` and phase 1, clears the calls' marks and decides nothing more."
abbrev pub close_on : State → (core : ℕ) → State
close_on s i =
    let s' = exited s i in
    record {
      config = s'.config;
      cores = map unmarked (sliced_all s'.cores);
      queue = s'.queue;
      accounts = charged s';
      now = s'.now + 1;
      closed = true;
    }

unfoldable pub accept : State → Call → Stepped
accept s (spawn parent entry) = spawn_thread s parent entry
accept s (exit i) = plain (exited s i)
accept s (join i t) = join_thread s i t
accept s (retired i) = plain (retired_on s i)
accept s (yield i) = plain (yield_now s i)
accept s (priority t n) = plain (set_priority_of s t n)
accept s (timing quantum cost) = plain (set_timing s quantum cost)
accept s (force i named) = force_switch s i named
accept s tick = end_tick s
accept s (close i) = plain (close_on s i)

unfoldable pub stepped : State → Call → Option ℕ → Stepped
stepped s call (some n) = record { state = s; answer = refused n; moves = [] }
stepped s call none = accept s call

unfoldable pub step : State → Call → Stepped
step s call = stepped s call (refusal s call)

unfoldable pub run : State → List Call → State
run s [] = s
run s (call ∷ calls) = run (step s call).state calls

---- creation

pub data Made : Type 0 where
  unmade : (number : ℕ) → Made
  made : State → Made

-- 01: "`new` starts thread 0 running on core 0, priority 10." The Rust logs its spawn and its dispatch; n is the number of further cores, which are idle
unfoldable pub initial_state : (cores entry : ℕ) → Config → State
initial_state n entry config =
    record {
      config = config;
      cores = cleared (Running 0 0) false false ∷ replicate n idle_core;
      queue = [];
      accounts = record {
        threads = started 0 (add_counts 0 0 0 1 0 0 (set_last0 (born 0 none entry 10 0))) ∷ [];
        ticks = replicate (suc n) (record { busy = 0; switching = 0; idle = 0 });
        timelines = replicate (suc n) [];
        log = newest config.cap_e (record { tick = 0; tid = 0; kind = Spawned none } ∷ record { tick = 0; tid = 0; kind = Dispatched 0 } ∷ []);
        context_switches = 0;
      };
      now = 0;
      closed = false;
    }
  where
    set_last0 : ThreadRecord → ThreadRecord
    set_last0 thread = record { tid = thread.tid; parent = thread.parent; entry = thread.entry; priority = thread.priority; state = OnCore 0; last = record { core = some 0; dispatch = some 0; leave = none }; times = thread.times; counts = thread.counts }

-- 01: "`new` checks 1, 2, 3."; "0 counts as 1"
unfoldable pub refused_new : (quantum cost cores cap_t cap_e cap_s : ℕ) → Option ℕ
refused_new quantum cost n cap_t cap_e cap_s =
    check 1 (beyond 1 1_000_000 quantum || ltb 10_000 cost) (check 2 (ltb 8 n) (check 3 (beyond 1 256 cap_t || (beyond 1 512 cap_e || beyond 1 4096 cap_s)) none))

unfoldable pub made_of : Option ℕ → State → Made
made_of none s = made s
made_of (some n) s = unmade n

unfoldable pub new : Policy → (quantum cost cores cap_t cap_e cap_s entry : ℕ) → Made
new policy quantum cost n cap_t cap_e cap_s entry =
    made_of (refused_new quantum cost n cap_t cap_e cap_s) (initial_state (Prim.Native.Nat.pred n) entry (record { policy = policy; quantum = quantum; cost = cost; cap_t = cap_t; cap_e = cap_e; cap_s = cap_s }))
