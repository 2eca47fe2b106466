use mathlib.Core.Path.{ap, sym, subst}
use mathlib.Core.Bool.{not}
use lib.Dec.{T}
use lib.Ieee.{Float, binary64, is_nan, to_bits}
use Rattle.summary.proofs.Patterns.{mean-number}
use Rattle.summary.proofs.mean_bits.Goals as goal

pub float_to_bits-result : goal.float_to_bits-result
float_to_bits-result c = subst (λ (x : Float). T (not (is_nan x))) (sym c.mean.ensures) (mean-number _ _ c.requires.0 c.requires.1)

pub returns : goal.returns
returns c = ap (to_bits binary64) c.mean.ensures
