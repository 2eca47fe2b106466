use native.Mathlib.Omega.{arith}
use Rattle.feed_plan.specs.Feeding.{report_of}
use Rattle.report_io.proofs.Standing.{next-none, next-some}
use Rattle.report_io.proofs.input.any_line.Goals as goal

pub returns-then-p : goal.returns-then-p
returns-then-p c =
    λ h. next-none (report_of c.args.k h) c.args.before c.filled-p.result c.args.marked c.args.blocks.now c.filled-p.new.blocks c.filled-p.ensures c.last.result (omega arith) c.last.ensures.0 c.last.ensures.1

pub returns : goal.returns
returns c =
    λ h. next-some (report_of c.args.k h) c.args.before c.filled-p.result c.args.marked c.args.blocks.now c.filled-p.new.blocks c.filled-p.ensures (omega arith) (omega arith) c.line_end-stop.result c.line_end-stop.ensures c.read_piece.result (c.read_piece.ensures h)
