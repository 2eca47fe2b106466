-- What every run keeps, under every policy: who stands where, and what every number stays below. It is all that a call asks of a state beside its lent memory's sizes (`Valid` of crates/state), so no premise of a contract is
-- defined anywhere but here and there. That every call keeps it is proved in `proofs/` (Placement, Bounded).
use Rattle.std.specs.Prelude.{ℕ, suc, ◌+◌, ◌*◌, ◌≤◌, ◌≡◌, Bool, true, false, ◌||◌, List, [], ◌∷◌, length}
use Rattle.std.proofs.Math.Option.{Option, none, some}
use Rattle.std.proofs.Math.ListN.{get_elem?}
use Rattle.model.specs.Types.{CoreState, Idle, Switching, Running, Core, ThreadState, Ready, Exited, OnCore, Blocked, ThreadRecord, CoreTicks, Segment, Config, Accounts, State}
use Rattle.model.specs.Calls.{elem, thread_state_of, limit_now, limit_switches}

---- lists

-- every element has the property
abbrev pub All : {A : Type 0} → (A → Type 0) → List A → Type 0
All P [] = Unit {0}
All P (x ∷ xs) = P x × All P xs

-- and so has what is there, if it is
abbrev pub AllO : {A : Type 0} → (A → Type 0) → Option A → Type 0
AllO P none = Unit {0}
AllO P (some x) = P x

-- every core has the property, with its number; the first is core i
abbrev pub Each : (ℕ → Core → Type 0) → ℕ → List Core → Type 0
Each P i [] = Unit {0}
Each P i (c ∷ cs) = P i c × Each P (suc i) cs

-- no thread stands twice
abbrev pub Once : List ℕ → Type 0
Once [] = Unit {0}
Once (h ∷ q) = (elem h q ≡ false) × Once q

---- who stands where

-- the state of each thread that exists
abbrev pub States : Type 0
States = ℕ → Option ThreadState

unfoldable pub states_of : List ThreadRecord → States
states_of ts t = thread_state_of (get_elem? ts t)

-- 01: "Ready means in the queue": who stands there is ready, and stands there once
pub record QueueOK (L : States) (q : List ℕ) : Type 0 where
  pub ready : All (λ (h : ℕ). L h ≡ some Ready) q
  pub once : Once q

-- a thread that no core holds
abbrev pub Loose : Option ThreadState → Type 0
Loose none = ⊥
Loose (some Ready) = Unit {0}
Loose (some Exited) = Unit {0}
Loose (some (Blocked u)) = Unit {0}
Loose (some (OnCore i)) = ⊥

-- a core's thread is held there, or has exited or blocked in this tick (gone). 01: "A thread that joins keeps its core till the tick ends, even if woken in that tick"
abbrev pub OKAt : States → ℕ → CoreState → (gone : Bool) → Type 0
OKAt L i Idle gone = Unit {0}
OKAt L i (Switching t l) false = L t ≡ some (OnCore i)
OKAt L i (Switching t l) true = Loose (L t)
OKAt L i (Running t slice) false = L t ≡ some (OnCore i)
OKAt L i (Running t slice) true = Loose (L t)

abbrev pub CoreOK : States → ℕ → Core → Type 0
CoreOK L i c = OKAt L i c.state (c.exits || c.blocks)

unfoldable pub CoresOK : States → ℕ → List Core → Type 0
CoresOK L i cs = Each (CoreOK L) i cs

-- `close` clears the marks and lets the thread that exited stay where it is, so that of a closed scheduler's cores nothing is said
pub record Placed (s : State) : Type 0 where
  pub queue : QueueOK (states_of s.accounts.threads) s.queue
  pub cores : s.closed ≡ false → CoresOK (states_of s.accounts.threads) 0 s.cores

-- 01: "17+ T threads exist"
abbrev pub Roomy : State → Type 0
Roomy s = length s.accounts.threads ≤ s.config.cap_t

---- what the numbers stay below

abbrev pub Between : ℕ → ℕ → Option ℕ → Type 0
Between low high none = Unit {0}
Between low high (some n) = (low ≤ n) × (n ≤ high)

-- a thread's record; maxD and maxP bound its dispatches and preemptions
pub record ThreadIn (now maxD maxP : ℕ) (thread : ThreadRecord) : Type 0 where
  -- a tick adds at most 1 to one of the three
  pub run : thread.counts.run ≤ now
  pub ready : thread.counts.ready ≤ now
  pub blocked : thread.counts.blocked ≤ now
  -- each is a context switch, the first dispatch of thread 0 aside
  pub dispatches : thread.counts.dispatches ≤ maxD
  pub preemptions : thread.counts.preemptions ≤ maxP
  -- 01: "19+ yields of the thread at 4,000,000,000"
  pub yields : thread.counts.yields ≤ limit_now
  -- 01: "`exit` sets finish to now + 1"
  pub arrival : thread.times.arrival ≤ now
  pub first_run : Between thread.times.arrival now thread.times.first_run
  pub finish : Between thread.times.arrival (now + 1) thread.times.finish

-- 01: charging a tick "adds 1 to one of the three"
abbrev pub TicksIn : ℕ → CoreTicks → Type 0
TicksIn now counters = counters.busy + counters.switching + counters.idle ≡ now

-- a core's slice, or what it has left to switch. 01: "otherwise left = cost"
abbrev pub CoreStateIn : ℕ → CoreState → Type 0
CoreStateIn now Idle = Unit {0}
CoreStateIn now (Switching t l) = (1 ≤ l) × (l ≤ 10_000)
CoreStateIn now (Running t slice) = slice ≤ now

abbrev pub CoreIn : ℕ → Core → Type 0
CoreIn now c = CoreStateIn now c.state

-- 01: "Quantum 1 to 1,000,000; switch cost 0 to 10,000." "1 to 256 thread records (capacity T); newest 1 to 512 events (E); newest 1 to 4,096 segments per core (S)."
pub record Settings (config : Config) : Type 0 where
  pub quantum : 1 ≤ config.quantum
  pub quantum' : config.quantum ≤ 1_000_000
  pub cost : config.cost ≤ 10_000
  pub cap_t : 1 ≤ config.cap_t
  pub cap_t' : config.cap_t ≤ 256
  pub cap_e : 1 ≤ config.cap_e
  pub cap_e' : config.cap_e ≤ 512
  pub cap_s : 1 ≤ config.cap_s
  pub cap_s' : config.cap_s ≤ 4096

-- of n cores
pub record Sizes (cap_e cap_s n : ℕ) (b : Accounts) : Type 0 where
  pub ticks : length b.ticks ≡ n
  pub timelines : length b.timelines ≡ n
  pub log : length b.log ≤ cap_e
  pub segments : All (λ (gs : List Segment). length gs ≤ cap_s) b.timelines

pub record Bounded (s : State) : Type 0 where
  pub placed : Placed s
  pub roomy : Roomy s
  pub settings : Settings s.config
  -- 01: "1 to 8 cores"
  pub some : 1 ≤ length s.cores
  pub few : length s.cores ≤ 8
  pub sizes : Sizes s.config.cap_e s.config.cap_s (length s.cores) s.accounts
  -- 01: "`now` is at most 4,000,000,000."
  pub now : s.now ≤ limit_now
  -- 01: "for force context switches ≥ 40,000,000,000": beyond that only ticks switch, at most 24 times each
  pub context_switches : s.accounts.context_switches ≤ limit_switches + 24 * s.now
  pub threads : All (ThreadIn s.now (s.accounts.context_switches + 1) s.accounts.context_switches) s.accounts.threads
  pub ticks : All (TicksIn s.now) s.accounts.ticks
  pub cores : All (CoreIn s.now) s.cores
