use native.Mathlib.Omega.{arith}
use Prim.Native.Nat.{suc}
use Rattle.std.specs.Prelude.{Ok}
use mathlib.Core.Path.{sym, ap, ◌∙◌}
use borrow.Author.Tests.{not-true, not-false}
use Rattle.rcfg.specs.Reading.{head_meant}
use Rattle.headings.specs.Reading.{heading_read_meant}
use Rattle.feed_plan.proofs.Lines.{handed, line-there, head-unread, head-refused, head_more, head_done}
use Rattle.feed_plan.proofs.reading.read_heading.Goals as goal

pub returns-then-not-is_readable-clause-says : goal.returns-then-not-is_readable-clause-says
returns-then-not-is_readable-clause-says c = head-unread (suc c.args.lines) (head_meant c.args.h) c.args.piece.now c.is_readable.result c.is_readable.ensures (not-true _ c.if-not-is_readable.true-raw)

pub slice_bounds-read_head-count : goal.slice_bounds-read_head-count
slice_bounds-read_head-count c =
    omega (arith, line-there (suc c.args.lines) c.args.piece.now c.is_readable.result c.is_readable.ensures (not-false _ c.if-not-is_readable.false-raw))

pub returns-in_err-next-clause-says : goal.returns-in_err-next-clause-says
returns-in_err-next-clause-says c =
    rw (handed _ _ c.from_residual.ensures.1) (head-refused (suc c.args.lines) (head_meant c.args.h) c.args.piece.now c.is_readable.result c.is_readable.ensures (not-false _ c.if-not-is_readable.false-raw) _ (sym c.read_head.ensures ∙ ap heading_read_meant c.in_err-next.was))

pub returns-in-More-clause-says : goal.returns-in-More-clause-says
returns-in-More-clause-says c = head_more (suc c.args.lines) (head_meant c.args.h) c.args.piece.now c.is_readable.result c.is_readable.ensures (not-false _ c.if-not-is_readable.false-raw) _ (sym c.read_head.ensures ∙ ap heading_read_meant (c.in_ok-next.was ∙ ap Ok c.in-More.is))

pub returns-in-Done-clause-says : goal.returns-in-Done-clause-says
returns-in-Done-clause-says c = head_done (suc c.args.lines) (head_meant c.args.h) c.args.piece.now c.is_readable.result c.is_readable.ensures (not-false _ c.if-not-is_readable.false-raw) _ _ (sym c.read_head.ensures ∙ ap heading_read_meant (c.in_ok-next.was ∙ ap Ok c.in-Done.is))
