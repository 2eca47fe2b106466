use Rattle.summary.specs.Reading.{sums_meant}
use Rattle.summary.proofs.Dividing.{figures-are}
use Rattle.summary.proofs.figures_from.Goals as goal

pub returns : goal.returns
returns c = λ ts qs ps ls ws k. figures-are _ _ _ _ (sums_meant c.sums_from-n.result) _ c.mean.ensures c.mean-2.ensures c.mean-3.ensures c.mean-4.ensures (c.sums_from-n.ensures.0 ts qs ps ls ws k).0
