use Rattle.text.proofs.Puts.{wrote_then}
use Rattle.output.proofs.sums.put_average.Goals as goal

pub returns : goal.returns
returns c = wrote_then c.put.ensures (wrote_then c.put_mean.ensures c.put-2.ensures)
