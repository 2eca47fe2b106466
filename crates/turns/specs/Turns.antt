-- One core's turn: what a core state with its marks stands for, and what a function that makes a turn has to say.
use Rattle.std.specs.Prelude.{ℕ, ◌<◌, ◌≡◌, Bool, false, ◌&&◌, ◌||◌, List, ◌++◌, leb, get_or}
use Rattle.settings.specs.Reading.{policy_meant}
use Rattle.settings.specs.declared.SchedPolicy.{SchedPolicy}
use Rattle.model.specs.Types.{Policy, CoreState, Idle, Switching, Running, Core, Move}
use Rattle.model.specs.Phases.{Rules, Turn, is_preemptive}
use Rattle.model.specs.Reading.{core_state_meant}
use Rattle.model.specs.declared.CoreState as States
use Rattle.queue.specs.Ready.{prio_of}
use Rattle.turns.specs.declared.Rules as Program

-- one core, from its state and its four marks
abbrev pub core_of : States.CoreState → (exits blocks yields progressed : Bool) → Core
core_of s e b y p = record { state = core_state_meant s; exits = e; blocks = b; yields = y; progressed = p }

abbrev pub rules_of : SchedPolicy → (quantum cost : ℕ) → (prios : List ℕ) → Rules
rules_of p q w ps = record { policy = policy_meant p; quantum = q; cost = w; prio = prio_of ps }

-- the program's rules, and the same with another quantum
abbrev pub with_quantum : Program.Rules → (quantum : ℕ) → Rules
with_quantum r u = rules_of r.policy u r.cost r.prios.now

abbrev pub rules_meant : Program.Rules → Rules
rules_meant r = with_quantum r r.quantum

-- marks of which only core i's may have changed
abbrev pub Besides : ℕ → (old new : List Bool) → Type 0
Besides i old new = (j : ℕ) → (j ≡ i → ⊥) → get_or new j false ≡ get_or old j false

-- one core's turn in a phase, as the program makes it
pub record Turned (t : Turn) (c : Core) (q : List ℕ) (m m' : List Move) : Type 0 where
  pub core : c ≡ t.core
  pub queue : q ≡ t.queue
  pub moves : m' ≡ m ++ t.moves

-- whether phase 5 changes anything of a core
abbrev pub has_turn : CoreState → (yields : Bool) → Policy → (quantum : ℕ) → (progressed : Bool) → Bool
has_turn Idle y p q m = y
has_turn (Switching t l) y p q m = y
has_turn (Running t s) y p q m = y || (is_preemptive p && (leb q s && m))

-- a slice that can grow by one
abbrev pub Short : CoreState → Type 0
Short Idle = Unit {0}
Short (Switching t l) = Unit {0}
Short (Running t s) = s < 4294967295
