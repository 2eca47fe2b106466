use Rattle.summary.specs.Reading.{sums_meant}
use Rattle.summary.proofs.Patterns.{bits_are}
use Rattle.summary.proofs.bits_from.Goals as goal

pub returns : goal.returns
returns c = λ ts qs ps ls ws k. bits_are _ _ _ _ (sums_meant c.sums_from-n.result) _ c.mean_bits.ensures c.mean_bits-2.ensures c.mean_bits-3.ensures c.mean_bits-4.ensures (c.sums_from-n.ensures.0 ts qs ps ls ws k).0
