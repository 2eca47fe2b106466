use native.Mathlib.Omega.{arith}
use Prim.Native.Nat.{suc}
use mathlib.Core.Path.{sym, ap, ◌∙◌}
use borrow.Author.Tests.{not-true, not-false}
use Rattle.commands.specs.Reading.{call_read_meant}
use Rattle.text.specs.Lines.{good}
use Rattle.feed_plan.proofs.Lines.{handed, line-there, call-unread, call-refused, call-good}
use Rattle.feed_plan.proofs.reading.read_calling.Goals as goal

pub returns-then-not-is_readable-clause-says : goal.returns-then-not-is_readable-clause-says
returns-then-not-is_readable-clause-says c = call-unread (suc c.args.lines) c.args.piece.now c.is_readable.result c.is_readable.ensures (not-true _ c.if-not-is_readable.true-raw)

pub slice_bounds-read_call-count : goal.slice_bounds-read_call-count
slice_bounds-read_call-count c =
    omega (arith, line-there (suc c.args.lines) c.args.piece.now c.is_readable.result c.is_readable.ensures (not-false _ c.if-not-is_readable.false-raw))

pub returns-in_err-command-clause-says : goal.returns-in_err-command-clause-says
returns-in_err-command-clause-says c =
    rw (handed _ _ c.from_residual.ensures.1) (call-refused (suc c.args.lines) c.args.piece.now c.is_readable.result c.is_readable.ensures (not-false _ c.if-not-is_readable.false-raw) _ (sym c.read_call.ensures ∙ ap call_read_meant c.in_err-command.was))

pub returns-clause-says : goal.returns-clause-says
returns-clause-says c = call-good (suc c.args.lines) c.args.piece.now c.is_readable.result c.is_readable.ensures (not-false _ c.if-not-is_readable.false-raw) _ (sym c.read_call.ensures ∙ ap call_read_meant c.in_ok-command.was ∙ ap good (sym c.call_of.ensures))
