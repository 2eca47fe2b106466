-- What `new` promises: a refused call writes nothing; a taken one leaves the definition's first state, and what every call asks.
-- Open is, and nothing else: the state that a refused call hands back; of the log's ring, which is known by its events, where each stands, which words say it, and the slots that hold none.
use Rattle.settings.specs.declared.Refusal.{Refusal}
use Rattle.std.specs.Prelude.{ℕ, ◌*◌, ◌≤◌, ◌≡◌, length, drop, get_or, Result}
use Rattle.std.proofs.Math.Option.{none, some}
use Rattle.settings.specs.declared.SchedConfig.{SchedConfig}
use Rattle.settings.specs.Reading.{policy_meant}
use Rattle.model.specs.declared.ThreadInfo.{ThreadInfo}
use Rattle.model.specs.Calls.{new, made}
use Rattle.state.specs.declared.Capacities.{Capacities}
use Rattle.state.specs.declared.Sched.{Sched}
use Rattle.state.specs.Memory.{Memory, Unchanged}
use Rattle.state.specs.State.{meant, Valid, no_ticks, no_pos}
use Rattle.checks.specs.Check.{check_meant}
use Rattle.new_plan.specs.First.{new_refusal}

-- record i becomes t
unfoldable pub same_at : ThreadInfo → (i : ℕ) → ThreadInfo → ThreadInfo
same_at t i x = t

pub record NewTaken (c : SchedConfig) (n : ℕ) (k : Capacities) (entry : ℕ) (m m' : Memory) (s : Sched) : Type 0 where
  pub state : new (policy_meant c.policy) c.quantum c.switch_cost n k.threads k.events k.segments entry ≡ made (meant s m')
  pub valid : Valid s m'
  pub threads : drop 1 m'.threads ≡ drop 1 m.threads
  pub queue : m'.queue ≡ m.queue
  pub prios : drop 1 m'.prios ≡ drop 1 m.prios
  pub log : drop (2 * k.events) m'.log ≡ drop (2 * k.events) m.log
  pub lanes : m'.lanes ≡ m.lanes
  -- of cores that do not exist the counters are 0 and the rings empty
  pub ticks : (i : ℕ) → s.cores ≤ i → get_or s.ticks i no_ticks ≡ no_ticks
  pub places : (i : ℕ) → s.cores ≤ i → get_or s.lanes i no_pos ≡ no_pos

pub record NewDone (c : SchedConfig) (n : ℕ) (k : Capacities) (entry : ℕ) (m m' : Memory) (s : Sched) (a : Result Unit Refusal) : Type 0 where
  pub answer : check_meant a ≡ new_refusal c n k (length m.threads) (length m.queue) (length m.prios) (length m.log) (length m.lanes)
  pub refused : (i : ℕ) → check_meant a ≡ some i → Unchanged m m'
  pub taken : check_meant a ≡ none → NewTaken c n k entry m m' s
