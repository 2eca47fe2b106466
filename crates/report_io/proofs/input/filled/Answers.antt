use native.Mathlib.Omega.{arith}
use Rattle.report_io.proofs.Standing.{filled-read, filled-enough, filled_more}
use Rattle.report_io.proofs.input.filled.Goals as goal

pub returns-then-p : goal.returns-then-p
returns-then-p c = filled-read c.args.p _ c.requires.0 c.if-p.true

pub returns-then-p-gt256 : goal.returns-then-p-gt256
returns-then-p-gt256 c = filled-enough c.args.p _ c.requires.0 (omega arith)

pub returns : goal.returns
returns c =
    filled_more c.args.p _ c.requires.0 c.if-p.false (omega arith) c.refill-end.new.blocks c.refill-end.result c.refill-end.ensures
