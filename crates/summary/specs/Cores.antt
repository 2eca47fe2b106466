-- The sums over the cores' counters.
use Rattle.std.specs.Prelude.{ℕ, ◌+◌, List, get_or}
use Rattle.model.specs.declared.CoreTicks as Counters
use Rattle.model.specs.Accounting.{total}
use Rattle.model.specs.Reading.{core_ticks_meant}
use Rattle.state.specs.State.{firsts, no_ticks}

abbrev pub all_ticks : Counters.CoreTicks → ℕ
all_ticks n = n.busy + n.switching + n.idle

-- the parts of the definition's `sums` that are of cores, over the first n counters of an array
unfoldable pub busy_in : List Counters.CoreTicks → ℕ → ℕ
busy_in ticks n = total (λ n. n.busy) (firsts (λ i. core_ticks_meant (get_or ticks i no_ticks)) n)

unfoldable pub all_in : List Counters.CoreTicks → ℕ → ℕ
all_in ticks n = total (λ n. n.busy + n.switching + n.idle) (firsts (λ i. core_ticks_meant (get_or ticks i no_ticks)) n)
