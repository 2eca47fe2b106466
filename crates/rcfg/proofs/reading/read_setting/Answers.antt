use Rattle.std.proofs.Common.{arith}
use borrow.Author.Tests.{not-false}
use Rattle.text.proofs.Trimming.{line-some}
use Rattle.rcfg.proofs.reading.read_setting.Goals as goal

pub slice_bounds-read_line-count : goal.slice_bounds-read_line-count
slice_bounds-read_line-count c =
    omega (arith, line-some c.args.piece.now c.is_line.result (not-false _ c.if-not-is_line.false-raw) c.is_line.ensures)
