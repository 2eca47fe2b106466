-- What the calls read of the state.
use Rattle.std.specs.Prelude.{ℕ, cond, List, leb, get_or}
use Rattle.std.proofs.Math.Option.{Option, none, some}
use Rattle.std.proofs.Math.ListN.{get_elem?}
use Rattle.model.specs.declared.CoreState.TheVariants as CoreStateCases
use Rattle.model.specs.Phases.{holder}
use Rattle.model.specs.Calls.{tid_of}
use Rattle.model.specs.Reading.{core_state_meant}
use Rattle.state.specs.declared.Sched.{Sched}
use Rattle.state.specs.State.{states_of}

-- 01: "`spawn` copies the parent's priority; with no parent, or an unknown one, it is 10."
abbrev pub or_ten : Option ℕ → ℕ
or_ten none = 10
or_ten (some n) = n

abbrev pub child_priority : (parent : Option ℕ) → (priorities : List ℕ) → ℕ
child_priority none ps = 10
child_priority (some p) ps = or_ten (get_elem? ps p)

-- the thread on a core; 0 where there is none
unfoldable pub own_tid : Sched → (core : ℕ) → ℕ
own_tid s i = tid_of (holder (core_state_meant (get_or (states_of s.states) i CoreStateCases.Idle)))

-- a thread's place among the records; 0 for one that is not known
unfoldable pub known_place : Sched → (tid : ℕ) → ℕ
known_place s t = cond (leb s.threads t) 0 t
