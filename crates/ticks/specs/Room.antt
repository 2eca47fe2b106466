-- Room in one core's counters.
use Rattle.std.specs.Prelude.{◌+◌, ◌<◌, ◌^◌}
use Rattle.model.specs.declared.CoreTicks.{CoreTicks}

-- each counter has room for one more tick
pub record TicksRoom (t : CoreTicks) : Type 0 where
  pub busy : t.busy + 1 < 2 ^ 32
  pub switching : t.switching + 1 < 2 ^ 32
  pub idle : t.idle + 1 < 2 ^ 32
