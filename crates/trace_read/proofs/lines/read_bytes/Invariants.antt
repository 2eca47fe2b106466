use Rattle.std.proofs.Common.{◌≡◌, true, not, eqb, take}
use Rattle.text.specs.Bytes.{all}
use Rattle.trace_read.proofs.lines.read_bytes.Given as goal

abbrev pub invariant-loop-i : goal.invariant-loop-i
invariant-loop-i l = all (λ b. not (eqb b 10)) (take l.i l.buffer) ≡ true
