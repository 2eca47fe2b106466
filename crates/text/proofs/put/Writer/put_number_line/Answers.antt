use Rattle.text.proofs.Puts.{wrote_then}
use Rattle.text.proofs.put.Writer.put_number_line.Goals as goal

pub returns : goal.returns
returns c = wrote_then c.put.ensures (wrote_then c.put_number.ensures c.put-2.ensures)
