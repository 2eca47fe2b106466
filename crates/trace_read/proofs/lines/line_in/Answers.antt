use Rattle.trace_read.specs.Script.{needing, line_said, core_line}
use Rattle.trace_read.proofs.lines.line_in.Goals as goal

pub returns-in_err-f-in-2 : goal.returns-in_err-f-in-2
unfolding needing line_said core_line
returns-in_err-f-in-2 c = rw (c.from_residual-in_err-f-in-2.ensures, c.in_ok-f.was, c.in-2.is, c.in_err-f-in-2.was)

pub returns-in_ok-f-in-2 : goal.returns-in_ok-f-in-2
unfolding needing line_said core_line
returns-in_ok-f-in-2 c = rw (c.in_ok-f.was, c.in-2.is, c.in_ok-f-in-2.was)
