use Rattle.std.proofs.Common.{◌∙◌, sym, arith}
use borrow.Author.Tests.{leb-true}
use Rattle.text.proofs.Trimming.{line-long, line-wide, line-last}
use Rattle.text.proofs.lines.is_line.Goals as goal
use Rattle.text.proofs.lines.is_line.Goals.{then-piece-le-LONGEST, else-piece-le-LONGEST}

pub returns-then-is_ascii : goal.returns-then-is_ascii
returns-then-is_ascii c =
    elim c.if-piece-le-LONGEST.branch [
      | then-piece-le-LONGEST w ↦ line-last c.args.piece.now _ w.if-piece-le-LONGEST.true (sym w.is_ascii.ensures ∙ sym w.value-is ∙ c.if-is_ascii.true) c.ends_with.ensures.value
      | else-piece-le-LONGEST w ↦ absurd (omega (arith, leb-true _ _ (sym w.value-is ∙ c.if-is_ascii.true)))
    ]

pub returns-else-is_ascii : goal.returns-else-is_ascii
returns-else-is_ascii c =
    elim c.if-piece-le-LONGEST.branch [
      | then-piece-le-LONGEST w ↦ line-wide c.args.piece.now _ w.if-piece-le-LONGEST.true (sym w.is_ascii.ensures ∙ sym w.value-is ∙ c.if-is_ascii.false) c.if-is_ascii.false
      | else-piece-le-LONGEST w ↦ line-long c.args.piece.now _ w.if-piece-le-LONGEST.false c.if-is_ascii.false
    ]
