-- The parts of the call `close`. 01: "`close` does `exit` and phase 1, clears the calls' marks and decides nothing more."
use Rattle.settings.specs.declared.Refusal.{Refusal}
use Rattle.std.specs.Prelude.{ℕ, ◌+◌, ◌<◌, ◌≤◌, ◌≡◌, Bool, true, false, List, leb, length, get_or, replicate, Ok, Err, Result}
use Rattle.std.proofs.Math.Option.{Option, none, some}
use Rattle.model.specs.declared.CoreId.{CoreId}
use Rattle.model.specs.declared.Tick.{Tick}
use Rattle.model.specs.declared.CoreState.TheVariants as CoreStateCases
use Rattle.model.specs.Types.{Move}
use Rattle.model.specs.Phases
use Rattle.model.specs.Calls.{check, limit_now}
use Rattle.model.specs.Reading.{core_state_meant}
use Rattle.turns.specs.Turns.{Short}
use Rattle.phases.specs.Cores.{Ran}
use Rattle.state.specs.declared.Eight.{Eight}
use Rattle.state.specs.declared.Sched.{Sched}
use Rattle.state.specs.State.{core_from, packed, states_of}
use Rattle.checks.specs.Check.{check_meant, core_refusal}
use Rattle.sched_marks.specs.declared.Answered.{Answered}
use Rattle.exit_plan.specs.Exit.{by_refusal}
use Rattle.tick_plan.specs.declared.Charged.{Charged}
use Rattle.tick_plan.specs.Plan.{ChargeFits, ChargedOf}

-- 01: "close 4, 11, 12, 13, 18"
unfoldable pub close_refusal : Sched → (core : ℕ) → Option ℕ
close_refusal s i = core_refusal s i false (check 18 (leb limit_now s.now.0) none)

-- the core whose thread exits: one that is not there where the call is refused
unfoldable pub close_core : Sched → (core : ℕ) → CoreId
close_core s i = record { 0 = by_refusal (close_refusal s i) i 8 }

-- the threads that are charged, by how the exit ended
abbrev pub if_taken : Result Unit Refusal → ℕ → ℕ
if_taken (Ok tt) n = n
if_taken (Err r) n = 0

unfoldable pub charged_threads : Answered Unit → ℕ
charged_threads e = if_taken e.answer e.sched.threads

-- what phase 1 asks
pub record PhaseFits (s : Sched) (ws : List ℕ) : Type 0 where
  pub charge : ChargeFits s ws
  pub short : (j : ℕ) → j < s.cores → Short (core_state_meant (get_or (states_of s.states) j CoreStateCases.Idle))

-- the state after it: charged, one tick later, closed, and the marks of `exit`, `join` and `yield` cleared
abbrev pub closed_sched : Sched → Tick → Charged → Eight → Sched
closed_sched s t c states =
    record s {
      now = t;
      closed = true;
      states = states;
      marks = record s.marks { exits = replicate 8 false; blocks = replicate 8 false; yields = replicate 8 false };
      ticks = c.ticks;
      lanes = c.lanes;
    }

-- phase 1 on the cores, whatever their marks
abbrev pub Sliced : Sched → Eight → Type 0
Sliced s states =
    (ex bl yi pr : List Bool) (q : List ℕ) (m : List Move) → Ran Phases.phase1 s.cores (core_from (states_of s.states) ex bl yi pr) q m (core_from (states_of states) ex bl yi pr) q m

pub record ClosedOf (s : Sched) (ws ws' : List ℕ) (s' : Sched) : Type 0 where
  pub tick : Tick
  pub counted : Charged
  pub states : Eight
  pub is : s' ≡ closed_sched s tick counted states
  pub next : tick.0 ≡ s.now.0 + 1
  pub charged : ChargedOf s ws ws' counted
  pub sliced : Sliced s states
  pub words : states ≡ packed (states_of states)

-- what the call's end asks, with e what the exit left
pub record CloseFits (s : Sched) (core : ℕ) (e : Answered Unit) (ws : List ℕ) : Type 0 where
  pub cores : s.cores ≤ 8
  pub phase : close_refusal s core ≡ none → PhaseFits e.sched ws

-- and what it leaves
pub record CloseFinished (s : Sched) (core : ℕ) (e : Answered Unit) (ws ws' : List ℕ) (s' : Sched) (a : Result Unit Refusal) : Type 0 where
  pub answer : check_meant a ≡ close_refusal s core
  pub long : length ws' ≡ length ws
  pub refused : (n : ℕ) → close_refusal s core ≡ some n → (s' ≡ s) × (ws' ≡ ws)
  pub taken : close_refusal s core ≡ none → ClosedOf e.sched ws ws' s'
