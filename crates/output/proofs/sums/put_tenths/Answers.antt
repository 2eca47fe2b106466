use Rattle.text.proofs.Puts.{wrote_then}
use Rattle.script.specs.Report.{tenths}
use Rattle.output.proofs.sums.put_tenths.Goals as goal

pub returns : goal.returns
unfolding tenths
returns c = wrote_then c.put_number.ensures (wrote_then c.put.ensures c.put_number-2.ensures)
