use Rattle.std.proofs.Common.{◌∙◌}
use Rattle.text.specs.Lines.{written, commas}
use Rattle.text.proofs.Puts.{wrote_same, wrote_then}
use Rattle.rcfg.proofs.writing.put_policy.Goals as goal

pub returns : goal.returns
unfolding written commas
returns c = wrote_then c.put.ensures (wrote_then (wrote_same (c.as_bytes.ensures.value ∙ c.as_str.ensures) c.put-2.ensures) c.put-3.ensures)
