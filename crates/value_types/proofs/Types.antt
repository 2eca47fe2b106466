-- The types of the scheduler that functions proved by hand take, pass and return by value, each with its laws. A type stands here once; `word` is a usize, `number` a u32, `nothing` what a function without a result returns.
use mathlib.Core.Path.{refl}
use Prim.Native.Nat.{ℕ}
use lib.Dec.{lit<}
use seplogic.Ra.Ura.{Ura}
use mir.Syntax.{w32, w64}
use types.Logic.{Logic}
use Rattle.walkkit.proofs.ByValue.{ByVal, struct-by, enum-by, array-by, uint-by, unit-by}
use Rattle.walkkit.proofs.Arrays.{LocalArray}
use Rattle.state.specs.contracts.Sched as T0
use Rattle.state.proofs.Sched.TheLaws as L0
use Rattle.model.specs.contracts.CoreId as T1
use Rattle.model.proofs.CoreId.TheLaws as L1
use Rattle.model.specs.contracts.Tid as T3
use Rattle.model.proofs.Tid.TheLaws as L3
use Rattle.model.specs.contracts.Tick as T4
use Rattle.model.proofs.Tick.TheLaws as L4
use Rattle.records.specs.contracts.change.Change as T5
use Rattle.records.proofs.change.Change.TheLaws as L5
use Rattle.tick_plan.specs.contracts.Decided as T6
use Rattle.tick_plan.proofs.Decided.TheLaws as L6
use Rattle.tick_plan.specs.contracts.Ticked as T7
use Rattle.tick_plan.proofs.Ticked.TheLaws as L7
use Rattle.model.specs.contracts.ThreadInfo as T10
use Rattle.model.proofs.ThreadInfo.TheLaws as L10
use Rattle.model.specs.contracts.CoreState as T9
use Rattle.model.proofs.CoreState.TheLaws as L9

module _ {M : Type 1} {𝓤 : Ura M} (𝓛 : Logic 𝓤) where
  abbrev pub word : ByVal 𝓛
  word = uint-by 𝓛 w64

  abbrev pub number : ByVal 𝓛
  number = uint-by 𝓛 w32

  abbrev pub nothing : ByVal 𝓛
  nothing = unit-by 𝓛

  abbrev pub sched : ByVal 𝓛
  sched = struct-by 𝓛 T0.the_type L0.the_laws L0.the_plain (λ x. tt) (λ x f. refl)

  abbrev pub core_id : ByVal 𝓛
  core_id = struct-by 𝓛 T1.the_type L1.the_laws L1.the_plain (λ x. tt) (λ x f. refl)

  abbrev pub tid : ByVal 𝓛
  tid = struct-by 𝓛 T3.the_type L3.the_laws L3.the_plain (λ x. tt) (λ x f. refl)

  abbrev pub tick : ByVal 𝓛
  tick = struct-by 𝓛 T4.the_type L4.the_laws L4.the_plain (λ x. tt) (λ x f. refl)

  abbrev pub change : ByVal 𝓛
  change = enum-by 𝓛 T5.the_type L5.the_laws L5.the_plain tt (λ x. tt) (λ x f. refl)

  abbrev pub decided : ByVal 𝓛
  decided = struct-by 𝓛 T6.the_type L6.the_laws L6.the_plain (λ x. tt) (λ x f. refl)

  abbrev pub ticked : ByVal 𝓛
  ticked = struct-by 𝓛 T7.the_type L7.the_laws L7.the_plain (λ x. tt) (λ x f. refl)

  abbrev pub core_state : ByVal 𝓛
  core_state = enum-by 𝓛 T9.the_type L9.the_laws L9.the_plain tt (λ x. tt) (λ x f. refl)

  abbrev pub core_states : ByVal 𝓛
  core_states = array-by 𝓛 core_state 8 (λ x. tt) (λ x f. refl)

  abbrev pub thread_info : ByVal 𝓛
  thread_info = struct-by 𝓛 T10.the_type L10.the_laws L10.the_plain (λ x. tt) (λ x f. refl)

  -- 256 thread records by value, and the same in the local at a block
  abbrev pub records : ByVal 𝓛
  records = array-by 𝓛 thread_info 256 (λ x. tt) (λ x f. refl)

  abbrev pub records-in : ℕ → LocalArray 𝓛
  records-in block = record { B = thread_info; single = tt; n = 256; room = (lit< tt, lit< tt); block = block }
