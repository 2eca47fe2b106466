use native.Mathlib.Omega.{arith}
use mathlib.Core.Path.{◌≡◌}
use Rattle.trace_read.specs.Script.{line_of}
use Rattle.trace_read.proofs.Reading.{read-front}
use Rattle.trace_read.proofs.lines.read_line.Goals as goal

pub returns : goal.returns
returns c =
    read-front (λ l. c.parsed.result ≡ line_of l) _ c.read_bytes-n.result (omega arith) c.read_bytes-n.ensures.1 c.parsed.ensures
