use Rattle.std.proofs.Common.{arith}
use Rattle.std.proofs.lemmas.List.Sorted.{answers_always}
use borrow.Author.Rules.{rules}
use Rattle.trace_read.proofs.Dividing.{divided-end, divided-next}
use Rattle.trace_read.proofs.lines.fields.Goals as goal

pub loop-place-preserved : goal.loop-place-preserved
loop-place-preserved c =
    divided-next _ _ _ _ _ _ _ (omega arith) c.loop-place.invariant c.next.ensures.steps (answers_always _ _ _ (λ f a r f' k. search rules)) c.and_then.ensures

pub returns : goal.returns
returns c = divided-end _ _ _ _ _ c.loop-place.invariant (omega arith)
