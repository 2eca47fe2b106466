-- What the functions of `threads` that proofs by hand call ask and say, named once.
use Prim.Native.Nat.{ℕ, ◌<◌}
use mathlib.Core.List.{List}
use lib.ListN.{length, get_or}
use Rattle.model.specs.declared.ThreadInfo.{ThreadInfo}
use Rattle.model.specs.declared.CoreState.{CoreState}
use Rattle.model.specs.Phases as Phases
use Rattle.model.specs.Reading.{thread_meant}
use Rattle.model.specs.Accounting.{charge_threads}
use Rattle.records.specs.declared.change.Change.{Change}
use Rattle.records.specs.Changes.{change_meant, Fits}
use Rattle.charges.specs.Charging.{cores_meant}
use Rattle.threads.specs.Slice.{blank, threads_in, Front}

-- `update`
abbrev pub Updatable : (i : ℕ) → Change → List ThreadInfo → Type 0
Updatable i c ts = (i < length ts) × Fits c (thread_meant (get_or ts i blank))

abbrev pub Updated : (i : ℕ) → Change → (ts ts' : List ThreadInfo) → Type 0
Updated i c ts ts' = (n : ℕ) → i < n → Front n (Phases.update i (change_meant c) (threads_in ts n)) ts ts'

-- `charge_all`
abbrev pub Charged : List CoreState → (n : ℕ) (ts ts' : List ThreadInfo) → Type 0
Charged cs n ts ts' = Front n (charge_threads (cores_meant cs) 0 (threads_in ts n)) ts ts'
