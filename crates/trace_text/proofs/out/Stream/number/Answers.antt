use mathlib.Core.Path.{◌∙◌}
use Rattle.text.proofs.Printed.{printed-decimal}
use Rattle.trace_text.proofs.Streaming.{written-same, whole}
use Rattle.trace_text.proofs.out.Stream.number.Goals as goal

pub returns : goal.returns
returns c = written-same (c.decimal-k.ensures.digits ∙ printed-decimal c.decimal-k.result _ c.decimal-k.ensures.len) (whole c.text.ensures)
