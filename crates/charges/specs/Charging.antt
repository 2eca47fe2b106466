-- Charging one tick to one thread.
use Rattle.std.specs.Prelude.{ℕ, ◌+◌, ◌<◌, ◌^◌, Bool, false, cond, not, ◌&&◌, ◌||◌, List, [], ◌∷◌, map, eqb, drop}
use Rattle.std.specs.List.{list_any}
use Rattle.model.specs.declared.CoreState as CoreStates
use Rattle.model.specs.declared.CoreState.TheVariants as core_states
use Rattle.model.specs.Types.{Core, ThreadState, Ready, Exited, OnCore, Blocked, ThreadRecord}
use Rattle.model.specs.Reading.{core_state_meant}
use Rattle.model.specs.Calls.{is_running}
use Rattle.model.specs.Phases.{cleared}
use Rattle.model.specs.Accounting.{add_counts, runs, holds, charge_waiting}
use Rattle.charges.specs.declared.charge.CoreThreads.{CoreThreads}

-- the eight core states as cores of the definition. Charging does not read the marks (proofs/Charging), so they stand as not set
unfoldable pub cores_meant : List CoreStates.CoreState → List Core
cores_meant cores = map (λ s. cleared (core_state_meant s) false false) cores

-- 01: "A running core adds 1 to .. its thread's run ticks. A thread on no core adds 1 to ready or blocked by its state. A switching thread is charged nothing."
-- One thread's part of the definition's `charge_threads`.
unfoldable pub charge_thread : List Core → ℕ → ThreadRecord → ThreadRecord
charge_thread cs i t = cond (runs i cs) (add_counts 1 0 0 0 0 0 t) (cond (holds i cs) t (charge_waiting t.state t))

-- the number that stands for no thread
abbrev pub nobody : ℕ
nobody = 4294967295

abbrev pub holder_word : CoreStates.CoreState → ℕ
holder_word core_states.Idle = nobody
holder_word (core_states.Switching t l) = t.0
holder_word (core_states.Running t s) = t.0

-- whether any of the cores but the first is held
unfoldable pub has_others : List ℕ → Bool
has_others held = list_any (λ w. not (eqb w nobody)) (drop 1 held)

unfoldable pub core_threads_of : List CoreStates.CoreState → CoreThreads
core_threads_of cores = record { others = has_others (map holder_word cores); held = map holder_word cores; running = map (λ s. is_running (core_state_meant s)) cores }

-- whether one of the cores that thread i holds runs
unfoldable pub runs_held : ℕ → (held : List ℕ) (running : List Bool) → Bool
runs_held i [] rs = false
runs_held i (h ∷ hs) [] = false
runs_held i (h ∷ hs) (r ∷ rs) = (eqb h i && r) || runs_held i hs rs

-- what a tick adds to the ready and blocked ticks of a thread on no core
abbrev pub ready_due : ThreadState → ℕ
ready_due Ready = 1
ready_due Exited = 0
ready_due (OnCore i) = 0
ready_due (Blocked t) = 0

abbrev pub blocked_due : ThreadState → ℕ
blocked_due Ready = 0
blocked_due Exited = 0
blocked_due (OnCore i) = 0
blocked_due (Blocked t) = 1

-- the counters that a tick may add to have room for one more
pub record Chargeable (i : ℕ) (t : ThreadRecord) : Type 0 where
  pub number : i < nobody
  pub run : t.counts.run + 1 < 2 ^ 64
  pub ready : t.counts.ready + 1 < 2 ^ 64
  pub blocked : t.counts.blocked + 1 < 2 ^ 64
