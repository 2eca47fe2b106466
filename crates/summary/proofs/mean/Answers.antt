use native.Mathlib.Omega.{arith}
use Prim.Native.Nat.{◌≤◌, ◌^◌}
use lib.Dec.{le→leb}
use lib.Ieee as Ieee
use Rattle.summary.proofs.Dividing.{mean-nobody, mean-some}
use Rattle.summary.proofs.mean.Goals as goal

pub returns-then-count-eq0 : goal.returns-then-count-eq0
unfolding Ieee.of_bits
returns-then-count-eq0 c = mean-nobody _ _ c.if-count-eq0.true

pub int_to_float-result : goal.int_to_float-result
unfolding Ieee.in_float
int_to_float-result c = let h : c.args.sum ≤ 2 ^ 53 = omega (arith, c.requires.0) in le→leb _ _ h

pub int_to_float-result-2 : goal.int_to_float-result-2
unfolding Ieee.in_float
int_to_float-result-2 c = let h : c.args.count ≤ 2 ^ 53 = omega (arith, c.requires.1) in le→leb _ _ h

pub returns : goal.returns
returns c = mean-some _ _ c.if-count-eq0.false
