use mathlib.Core.Path.{sym, ap, ◌∙◌}
use lib.Dec.{ltb}
use Rattle.record_reads.specs.declared.totals.Totals.{Totals}
use Rattle.record_reads.proofs.Summing.{runnable-any}
use Rattle.thread_questions.proofs.left.any_runnable.Goals as goal

pub returns : goal.returns
returns c = λ rs e. ap (λ (x : Totals). ltb 0 x.runnable) e ∙ sym (runnable-any rs)
