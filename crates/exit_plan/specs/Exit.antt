-- The parts of the call `exit`. 01: "`exit` sets finish to now + 1 and wakes its waiters in thread order to the back of the queue."
use Rattle.settings.specs.declared.Refusal.{Refusal}
use Rattle.std.specs.Prelude.{ℕ, ◌-◌, ◌*◌, ◌<◌, ◌≤◌, ◌≡◌, true, false, List, length, take, drop, get_or, set, Result}
use Rattle.std.proofs.Math.Option.{Option, none, some}
use Rattle.model.specs.declared.Tid.{Tid}
use Rattle.model.specs.declared.CoreState.TheVariants as CoreStateCases
use Rattle.model.specs.Phases.{holder}
use Rattle.model.specs.Calls.{tid_of}
use Rattle.model.specs.Reading.{core_state_meant}
use Rattle.records.specs.declared.change.Change.{Change}
use Rattle.records.specs.declared.change.Change.TheVariants as Changes
use Rattle.rings.specs.declared.RingPos.{RingPos}
use Rattle.rings.specs.Ring.{RingOK, capacity}
use Rattle.rings.specs.Events.{events_in}
use Rattle.accounts.specs.Log.{woken_log}
use Rattle.state.specs.declared.Sched.{Sched}
use Rattle.state.specs.State.{states_of, log_words}
use Rattle.checks.specs.Check.{check_meant, core_refusal}

-- 01: "exit 4, 11, 12, 13"
unfoldable pub exit_refusal : Sched → (core : ℕ) → Option ℕ
exit_refusal s i = core_refusal s i false none

-- what a taken call has, or a refused one
abbrev pub by_refusal {ℓ} : {A : Type ℓ} → Option ℕ → (taken refused : A) → A
by_refusal none x y = x
by_refusal (some n) x y = y

-- the thread of the core
unfoldable pub exit_tid : Sched → (core : ℕ) → Tid
exit_tid s i = record { 0 = tid_of (holder (core_state_meant (get_or (states_of s.states) i CoreStateCases.Idle))) }

unfoldable pub exit_place : Sched → (core : ℕ) → ℕ
exit_place s i = by_refusal (exit_refusal s i) (exit_tid s i).0 0

unfoldable pub exit_change : Sched → (core : ℕ) → Change
exit_change s i = by_refusal (exit_refusal s i) (Changes.Exit s.now) Changes.Keep

unfoldable pub exit_threads : Sched → (core : ℕ) → ℕ
exit_threads s i = by_refusal (exit_refusal s i) s.threads 0

-- one wake event for each of the threads, in a ring in the first `words` words
pub record WakesLogged (words now : ℕ) (tids : List ℕ) (ls ls' : List ℕ) (p p' : RingPos) : Type 0 where
  pub ok : RingOK (take words ls') p'
  pub events : events_in (take words ls') p' ≡ woken_log (capacity (take words ls)) now tids (events_in (take words ls) p)
  pub rest : drop words ls' ≡ drop words ls
  pub long : length ls' ≡ length ls

-- the state with the core's exit mark, the queue's new length and the log's new position
abbrev pub with_exit : (core queued : ℕ) → RingPos → Sched → Sched
with_exit i len p s = record s { queued = len; marks = record s.marks { exits = set s.marks.exits i true }; log = p }

-- what the call's end asks: the queue is `len` long now
pub record FinishFit (s : Sched) (len : ℕ) (qs ls : List ℕ) : Type 0 where
  pub cores : s.cores ≤ 8
  pub events : s.capacities.events ≤ 512
  pub log : 2 * s.capacities.events ≤ length ls
  pub ring : RingOK (log_words s.capacities.events ls) s.log
  pub longer : s.queued ≤ len
  pub within : len ≤ length qs
  pub now : s.now.0 < 4294967296

-- and what it leaves
pub record Finished (s : Sched) (core len : ℕ) (qs ls ls' : List ℕ) (s' : Sched) (a : Result Unit Refusal) : Type 0 where
  pub answer : check_meant a ≡ exit_refusal s core
  pub long : length ls' ≡ length ls
  pub refused : (n : ℕ) → exit_refusal s core ≡ some n → (s' ≡ s) × (ls' ≡ ls)
  pub taken : exit_refusal s core ≡ none → (s' ≡ with_exit core len s'.log s) × WakesLogged (2 * s.capacities.events) s.now.0 (take (len - s.queued) (drop s.queued qs)) ls ls' s.log s'.log
