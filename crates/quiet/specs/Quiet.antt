-- A tick end that switches nothing: when it is one, and what it leaves of the core states. proofs/Resting.antt: the six phases then do no more.
use Rattle.std.specs.Prelude.{ℕ, zero, suc, ◌<◌, Bool, true, false, cond, not, ◌&&◌, ◌||◌, leb, get_or}
use Rattle.settings.specs.Reading.{policy_meant}
use Rattle.model.specs.Types.{Policy, Off, Fifo, RoundRobin, Priority, CoreState, Idle, Switching, Running, Core}
use Rattle.model.specs.Phases.{is_preemptive, sliced}
use Rattle.model.specs.Reading.{core_state_meant}
use Rattle.model.specs.declared.CoreState.TheVariants as CoreStateCases
use Rattle.turns.specs.Turns.{Short}
use Rattle.state.specs.declared.Eight.{Eight}
use Rattle.state.specs.declared.Sched.{Sched}
use Rattle.state.specs.State.{board_of, states_of}

-- A core that keeps its thread. It is not "switching", not "idle", and runs a thread that has not "exited or blocked this tick" and that neither "yielded" nor,
-- with the tick that phase 1 adds to its slice, reaches "slice ≥ quantum with its progressed mark set under rr or priority".
abbrev pub calm_in : (preemptive : Bool) (quantum : ℕ) (exits blocks yields progressed : Bool) → CoreState → Bool
calm_in pe q e b y p Idle = false
calm_in pe q e b y p (Switching t l) = false
calm_in pe q e b y p (Running t s) = not (e || (b || y)) && not (pe && (leb q (suc s) && p))

unfoldable pub calm : (preemptive : Bool) (quantum : ℕ) → Core → Bool
calm pe q c = calm_in pe q c.exits c.blocks c.yields c.progressed c.state

-- 6: "Under priority, while the best waiting number is strictly below the largest running number, that thread loses its core"
abbrev pub is_priority : Policy → Bool
is_priority Off = false
is_priority Fifo = false
is_priority RoundRobin = false
is_priority Priority = true

-- a test of the first n numbers
unfoldable pub each_below : (ℕ → Bool) → ℕ → Bool
each_below g zero = true
each_below g (suc n) = each_below g n && g n

abbrev pub calm_at : Sched → (preemptive : Bool) (quantum : ℕ) → ℕ → Bool
calm_at s pe q j = calm pe q (board_of s j)

-- every core keeps its thread
unfoldable pub is_quiet : Sched → Bool
is_quiet s = not (is_priority (policy_meant s.config.policy)) && each_below (calm_at s (is_preemptive (policy_meant s.config.policy)) s.config.quantum) s.cores

---- what is left

-- 1: "A running core adds 1 to slice": the cores below n
abbrev pub sliced_below : (n j : ℕ) → CoreState → CoreState
sliced_below n j c = cond (leb n j) c (sliced c)

abbrev pub state_at : Eight → ℕ → CoreState
state_at e j = core_state_meant (get_or (states_of e) j CoreStateCases.Idle)

-- each slice has room for one tick more
abbrev pub Roomy : Sched → Type 0
Roomy s = (j : ℕ) → j < s.cores → Short (state_at s.states j)
