-- What spawns by thread 0 leave, and what turns of a scheduler leave: in each turn every core reports, and the tick ends.
use Rattle.std.specs.Prelude.{ℕ, zero, suc, ◌≡◌, List, [], ◌∷◌, ◌++◌}
use Rattle.std.proofs.Math.Option.{some}
use Rattle.model.specs.Calls.{Call, spawn, retired, tick, run}
use Rattle.state.specs.declared.Sched.{Sched}
use Rattle.state.specs.Memory.{Memory}
use Rattle.state.specs.State.{meant, Valid}
use Rattle.replay.specs.Replay.{Behind}

-- `retired` of the cores 0 to n − 1
unfoldable pub reports : (cores : ℕ) → List Call
reports zero = []
reports (suc n) = reports n ++ (retired n ∷ [])

unfoldable pub turns : (cores ticks : ℕ) → List Call
turns c zero = []
turns c (suc n) = turns c n ++ (reports c ++ (tick ∷ []))

unfoldable pub spawns : (count : ℕ) → List Call
spawns zero = []
spawns (suc n) = spawns n ++ (spawn (some 0) 0 ∷ [])

-- What the calls `cs` leave, made one after the other, each on what the one before left.
pub record Ran (cs : List Call) (s s' : Sched) (m m' : Memory) : Type 0 where
  pub state : meant s' m' ≡ run (meant s m) cs
  pub valid : Valid s' m'
  -- memory that the capacities do not name stays as it was
  pub behind : Behind s.capacities.threads s.capacities.events s.capacities.segments s.cores m m'

-- What the calls `cs` of so many turns or spawns leave. None asks nothing, and leaves everything as it was.
pub record CallsDone (count : ℕ) (cs : List Call) (s s' : Sched) (m m' : Memory) : Type 0 where
  pub unmoved : count ≡ 0 → (s' ≡ s) × (m' ≡ m)
  pub ran : Valid s m → Ran cs s s' m m'

abbrev pub TurnsDone : (ticks : ℕ) → Sched → Sched → Memory → Memory → Type 0
TurnsDone n s s' m m' = CallsDone n (turns s.cores n) s s' m m'

abbrev pub SpawnsDone : (count : ℕ) → Sched → Sched → Memory → Memory → Type 0
SpawnsDone n s s' m m' = CallsDone n (spawns n) s s' m m'
