use Prim.Native.Nat.{ℕ}
use native.Mathlib.Omega.{arith}
use lib.ListN.{length-replicate}
use Rattle.report.proofs.Keeping.{none_yet_lem}
use Rattle.report.proofs.Taking.{sized-first, first-few}
use Rattle.report.proofs.main.Goals as goal

pub first_line-first-requires : goal.first_line-first-requires
first_line-first-requires c = (first-few c.start-r.result _ c.start-r.ensures (sized-first c.first_thread-threads.result), omega (arith, length-replicate {A = ℕ} 131_072 0))

pub run-requires : goal.run-requires
run-requires c =
    let f = c.first_line-first in
    record {
      valid = c.start-r.ensures.valid _ (sized-first c.first_thread-threads.result);
      awaits = f.ensures.awaits;
      room = omega (arith, length-replicate {A = ℕ} 131_072 0);
      so_far = none_yet_lem _ _ _ _ _ c.start-r.ensures f.ensures;
    }
