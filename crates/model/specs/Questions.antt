-- The read-only questions, named as in the Rust, which refuse nothing; and the summary's four figures.
-- `config`, `now`, `ready_queue`, `cores`, `core_ticks`, `events` and `context_switches` are the state's own fields.
use Rattle.std.specs.Prelude.{ℕ, zero, suc, ◌-◌, Bool, true, false, cond, not, ◌&&◌, ◌||◌, List, [], ◌∷◌, length, pos, Float}
use Rattle.std.proofs.Math.Option.{Option, none, some}
use Rattle.std.proofs.Math.ListN.{get_elem?}
use Rattle.std.specs.Float.{fin, binary64}
use Rattle.std.specs.Float.Ieee.{div, of_int}
use Rattle.model.specs.Types.{CoreState, Idle, Switching, Running, Core, ThreadState, Ready, Exited, OnCore, Blocked, ThreadRecord, Segment, Accounts, State}
use Rattle.model.specs.Phases.{holder}
use Rattle.model.specs.Accounting.{is_holder, Sums, sums}
use Rattle.model.specs.Calls.{core_state_of}

---- threads and cores

-- `thread`: the record of a thread, if there is one
unfoldable pub thread_at : State → (tid : ℕ) → Option ThreadRecord
thread_at s t = get_elem? s.accounts.threads t

-- `next_tid`: the number that `spawn` hands out next
unfoldable pub next_tid : State → ℕ
next_tid s = length s.accounts.threads

unfoldable pub runner : CoreState → Option ℕ
runner Idle = none
runner (Switching t l) = none
runner (Running t slice) = some t

-- `running_on`: the thread that a core executes; none where it switches, is idle or does not exist
unfoldable pub running_on : State → (core : ℕ) → Option ℕ
running_on s i = runner (core_state_of s i)

-- `thread_on`: the thread that holds a core, running or switching in
unfoldable pub thread_on : State → (core : ℕ) → Option ℕ
thread_on s i = holder (core_state_of s i)

unfoldable pub find_from : ℕ → ℕ → List Core → Option ℕ
find_from i t [] = none
find_from i t (c ∷ cs) = let rest = find_from (suc i) t cs in cond (is_holder t (holder c.state)) (some i) rest

-- `core_of`: the core that a thread is on
unfoldable pub core_of : State → (tid : ℕ) → Option ℕ
core_of s t = find_from 0 t s.cores

unfoldable pub or_empty {ℓ} : {A : Type ℓ} → Option (List A) → List A
or_empty none = []
or_empty (some xs) = xs

-- `timeline`: a core's segments, oldest first; none for a core that does not exist
unfoldable pub timeline_of : State → (core : ℕ) → List Segment
timeline_of s i = or_empty (get_elem? s.accounts.timelines i)

---- what is left to run

unfoldable pub any_thread : (ThreadState → Bool) → List ThreadRecord → Bool
any_thread f [] = false
any_thread f (thread ∷ ts) = f thread.state || any_thread f ts

abbrev pub is_live : ThreadState → Bool
is_live Ready = true
is_live Exited = false
is_live (OnCore i) = true
is_live (Blocked t) = true

abbrev pub is_runnable : ThreadState → Bool
is_runnable Ready = true
is_runnable Exited = false
is_runnable (OnCore i) = true
is_runnable (Blocked t) = false

-- `has_live_threads`: some thread has not exited
unfoldable pub has_live : State → Bool
has_live s = any_thread is_live s.accounts.threads

-- `has_runnable_threads`: some thread holds a core or waits for one
unfoldable pub has_runnable : State → Bool
has_runnable s = any_thread is_runnable s.accounts.threads

-- `is_deadlocked`: threads are left, and all of them are blocked
unfoldable pub is_deadlocked : State → Bool
is_deadlocked s = has_live s && not (has_runnable s)

---- a thread's times

unfoldable pub passed : (arrival : ℕ) → Option ℕ → Option ℕ
passed arrival none = none
passed arrival (some n) = some (n - arrival)

-- `response`: from arrival to first run
unfoldable pub response_of : ThreadRecord → Option ℕ
response_of thread = passed thread.times.arrival thread.times.first_run

-- `turnaround`: from arrival to finish
unfoldable pub turnaround_of : ThreadRecord → Option ℕ
turnaround_of thread = passed thread.times.arrival thread.times.finish

---- the summary

-- 01: "Each is an exact sum divided once; over nobody it is 0.0"
unfoldable pub mean : (sum count : ℕ) → Float
mean sum zero = fin false 0 (pos 0)
mean sum (suc n) = div binary64 (of_int binary64 (pos sum)) (of_int binary64 (pos (suc n)))

-- 01: "Four binary64 figures in one record: means of ready ticks (all threads), response (those with a first run), turnaround (finished), and utilization."
pub record Figures : Type 0 where
  pub waiting : Float
  pub response : Float
  pub turnaround : Float
  pub utilization : Float

unfoldable pub figures : Sums → Figures
figures exact =
    record {
      waiting = mean exact.waiting exact.threads;
      response = mean exact.response exact.responded;
      turnaround = mean exact.turnaround exact.finished;
      utilization = mean exact.busy exact.core_ticks;
    }
