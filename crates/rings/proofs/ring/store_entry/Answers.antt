use native.Mathlib.Omega.{arith}
use lib.ListN.{length-set}
use Rattle.rings.proofs.ring.store_entry.Goals as goal

pub bounds-ring-slot-2 : goal.bounds-ring-slot-2
bounds-ring-slot-2 c = simp length-set (omega arith)
