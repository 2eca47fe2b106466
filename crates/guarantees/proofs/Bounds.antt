-- Demand 3, on the definition.
use Rattle.guarantees.specs.Claims.{RoundRobinBounds}
use Rattle.guarantees.proofs.Wait.{wait}
use Rattle.guarantees.proofs.StayRun.{stay}

pub round-robin-bounds : RoundRobinBounds
round-robin-bounds = (wait, stay)
