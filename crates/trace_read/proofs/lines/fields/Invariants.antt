use Rattle.trace_read.proofs.Dividing.{Divided}
use Rattle.trace_read.proofs.lines.fields.Given as goal

abbrev pub invariant-loop-place : goal.invariant-loop-place
invariant-loop-place l = Divided l.line l.place-items l.rest.done l.rest.rest.now l.place-index
