use mathlib.Core.Path.{sym, ap, ◌∙◌}
use lib.Dec.{ltb}
use Rattle.record_reads.specs.declared.totals.Totals.{Totals}
use Rattle.record_reads.proofs.Summing.{live-any}
use Rattle.thread_questions.proofs.left.any_live.Goals as goal

pub returns : goal.returns
returns c = λ rs e. ap (λ (x : Totals). ltb 0 x.live) e ∙ sym (live-any rs)
