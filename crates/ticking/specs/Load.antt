-- What a load leaves: a scheduler that `new` made, spawns by thread 0, and then turns.
use Rattle.std.specs.Prelude.{ℕ, ◌≡◌, ◌++◌, length}
use Rattle.std.proofs.Math.Option.{Option, none, some}
use Rattle.settings.specs.declared.SchedConfig.{SchedConfig}
use Rattle.settings.specs.Reading.{policy_meant}
use Rattle.model.specs.Types.{State}
use Rattle.model.specs.Calls.{run, new, made}
use Rattle.state.specs.declared.Capacities.{Capacities}
use Rattle.state.specs.Memory.{Memory, Unchanged}
use Rattle.state.specs.State.{meant, Valid}
use Rattle.checks.specs.Check.{check_meant}
use Rattle.new_plan.specs.First.{core_count, new_refusal}
use Rattle.replay.specs.Replay.{Behind}
use Rattle.ticking.specs.declared.Loaded.{Loaded}
use Rattle.ticking.specs.Turns.{spawns, turns}

-- how many of n calls are due: none where `new` is refused
abbrev pub due : Option ℕ → ℕ → ℕ
due (some m) n = 0
due none n = n

-- Where `new` is accepted; `start` is what the definition's `new` makes of the same arguments.
pub record LoadTaken (c : SchedConfig) (n : ℕ) (k : Capacities) (count ticks : ℕ) (m m' : Memory) (r : Loaded) : Type 0 where
  pub start : State
  pub begins : new (policy_meant c.policy) c.quantum c.switch_cost n k.threads k.events k.segments 0 ≡ made start
  pub state : meant r.sched m' ≡ run start (spawns count ++ turns (core_count n) ticks)
  pub valid : Valid r.sched m'
  -- memory that the capacities do not name stays as it was
  pub behind : Behind k.threads k.events k.segments (core_count n) m m'

-- c, n and k are the arguments of `new`; m is the lent memory before and m' after; r is the result.
pub record LoadDone (c : SchedConfig) (n : ℕ) (k : Capacities) (count ticks : ℕ) (m m' : Memory) (r : Loaded) : Type 0 where
  pub answer : check_meant r.made ≡ new_refusal c n k (length m.threads) (length m.queue) (length m.prios) (length m.log) (length m.lanes)
  -- refused, nothing is written; what r holds beside the refusal is then left open
  pub refused : (i : ℕ) → check_meant r.made ≡ some i → Unchanged m m'
  pub taken : check_meant r.made ≡ none → LoadTaken c n k count ticks m m' r
