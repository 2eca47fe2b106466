-- Demand 3 of the program on one run, whoever makes the calls: states and lent memory s₀ m₀, s₁ m₁, …, the first linked by the contract of `new`, each next one by the contract of a call. No code is in it: it speaks of hosts that never call
-- `replay`, since all that it asks is what `new` and the calls promise (`NewDone`, `Done`).
use Rattle.settings.specs.declared.Refusal.{Refusal}
use Rattle.std.specs.Prelude.{ℕ, ◌≡◌, List, [], ◌∷◌, ◌++◌, map, Result}
use Rattle.std.proofs.Math.Option.{none}
use Rattle.settings.specs.declared.SchedConfig.{SchedConfig}
use Rattle.settings.specs.Reading.{policy_meant}
use Rattle.model.specs.Types.{RoundRobin, State}
use Rattle.model.specs.Calls.{Call, Answer, step, new, made}
use Rattle.guarantees.specs.Claims.{WaitHolds, StayHolds}
use Rattle.state.specs.declared.Capacities.{Capacities}
use Rattle.state.specs.declared.Sched.{Sched}
use Rattle.state.specs.Memory.{Memory}
use Rattle.state.specs.State.{meant, Valid}
use Rattle.state.specs.Done.{Done}
use Rattle.checks.specs.Check.{check_meant}
use Rattle.new_plan.specs.Made.{NewDone}

-- a call that was made: what it answered, and what it left
pub record Link : Type 0 where
  pub call : Call
  pub answer : Answer
  pub sched : Sched
  pub memory : Memory

-- 01: "each call gets what the one before left, unwritten by anybody since"
abbrev pub Linked : Sched → Memory → List Link → Type 0
Linked s m [] = Unit {0}
Linked s m (l ∷ ls) = Done l.call l.answer s l.sched m l.memory × Linked l.sched l.memory ls

-- a chain: c, n, k and entry are the arguments of `new`, m is the lent memory that it was given
pub record Chain (c : SchedConfig) (n : ℕ) (k : Capacities) (entry : ℕ) (m : Memory) (a : Result Unit Refusal) (s₀ : Sched) (m₀ : Memory) (ls : List Link) : Type 0 where
  pub creation : NewDone c n k entry m m₀ s₀ a
  -- 01: "It starts from what an accepted `new` … left"
  pub accepted : check_meant a ≡ none
  pub calls : Linked s₀ m₀ ls

-- The definition runs over the same calls on a state of its own, d, and is fed nothing else: after every call what the program's state and memory stand for is what it leaves, the answer (a tick's or a force's with its switch list) is its
-- answer, and what the next call asks holds.
abbrev pub Agrees : State → List Link → Type 0
Agrees d [] = Unit {0}
Agrees d (l ∷ ls) = (meant l.sched l.memory ≡ (step d l.call).state) × (l.answer ≡ (step d l.call).answer) × Valid l.sched l.memory × Agrees (step d l.call).state ls

---- what the last call left and said; s, m and a where none was made

abbrev pub last_sched : Sched → List Link → Sched
last_sched s [] = s
last_sched s (l ∷ ls) = last_sched l.sched ls

abbrev pub last_memory : Memory → List Link → Memory
last_memory m [] = m
last_memory m (l ∷ ls) = last_memory l.memory ls

abbrev pub last_said : Answer → List Link → Answer
last_said a [] = a
last_said a (l ∷ ls) = last_said l.answer ls

---- the guarantees

-- demand 3 of a list of calls that begins at `start`: "One claim on the whole list is asked". Wherever it is cut, the wait and the stay are bounded; conditions are asked of `during` alone, whatever comes after it is asked nothing
pub record Guaranteed (c : SchedConfig) (n : ℕ) (start : State) (cs : List Call) : Type 0 where
  -- "It starts from what an accepted `new` with policy rr left"
  pub waits : policy_meant c.policy ≡ RoundRobin → (before during rest : List Call) → before ++ (during ++ rest) ≡ cs → WaitHolds c.quantum c.switch_cost n start before during
  pub stays : policy_meant c.policy ≡ RoundRobin → (before during rest : List Call) → before ++ (during ++ rest) ≡ cs → StayHolds c.quantum c.switch_cost start before during

pub record ChainHolds (c : SchedConfig) (n : ℕ) (k : Capacities) (entry : ℕ) (s₀ : Sched) (m₀ : Memory) (ls : List Link) : Type 0 where
  -- what the definition's `new` makes of the same arguments
  pub start : State
  pub begins : new (policy_meant c.policy) c.quantum c.switch_cost n k.threads k.events k.segments entry ≡ made start
  -- "… equal the definition's after `new` and after every call"
  pub first : meant s₀ m₀ ≡ start
  pub agrees : Agrees start ls
  -- of the calls that were made, and of every list that goes on from them
  pub guarantees : (more : List Call) → Guaranteed c n start (map (λ (l : Link). l.call) ls ++ more)
