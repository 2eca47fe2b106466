use mathlib.Core.Path.{sym, ◌∙◌}
use Rattle.state.specs.Memory.{held}
use Rattle.script_report.proofs.Looping.{script-short, script-asked, script-done}
use Rattle.script_report.proofs.report.Goals as goal

pub returns-then-is_short-clause-done : goal.returns-then-is_short-clause-done
returns-then-is_short-clause-done c = script-short _ _ (held c.args.m.now) (sym c.if-is_short.true ∙ (rw c.line_count-lines.ensures at c.is_short.ensures))

pub feed_lines-requires : goal.feed_lines-requires
feed_lines-requires c =
    script-asked _ _ (held c.args.m.now) _ _ (sym c.if-is_short.false ∙ (rw c.line_count-lines.ensures at c.is_short.ensures)) c.line_count-lines.ensures c.begin.ensures c.requires

pub returns-clause-done : goal.returns-clause-done
returns-clause-done c =
    script-done _ _ (held c.args.m.now) _ _ (sym c.if-is_short.false ∙ (rw c.line_count-lines.ensures at c.is_short.ensures)) c.line_count-lines.ensures c.begin.ensures _ (held c.feed_lines.new.m) _ c.feed_lines.ensures.done
