use native.Mathlib.Omega.{arith}
use mathlib.Core.Path.{◌≡◌}
use Rattle.trace_read.specs.Script.{count_of}
use Rattle.trace_read.proofs.Reading.{read-front, count-said}
use Rattle.trace_read.proofs.lines.read_count.Goals as goal

pub returns : goal.returns
returns c =
    read-front (λ l. c.unwrap_or.result ≡ count_of l) _ c.read_bytes-n.result (omega arith) c.read_bytes-n.ensures.1 (count-said _ c.read_number.result c.unwrap_or.result c.read_number.ensures c.unwrap_or.ensures)
