use mathlib.Core.Path.{refl}
use Rattle.checks.proofs.Refusals.{timing-refusal}
use Rattle.checks.proofs.Answers.{taken_none, taken-ok, refused-done}
use Rattle.sched_marks.proofs.MarkCalls.{timing-taken}
use Rattle.sched_marks.proofs.marks.set_timing.Goals as goal

pub returns-in-Err : goal.returns-in-Err
returns-in-Err c = λ ts qs ps ls ws v. refused-done _ c.args.s ts qs ps ls ws v _ _ _ c.in-Err.is c.check_timing-answer.ensures (timing-refusal c.args.s ts qs ls ws _ _)

pub returns-in-Ok : goal.returns-in-Ok
returns-in-Ok c = λ ts qs ps ls ws v. timing-taken c.args.s ts qs ps ls ws v _ _ _ _ (taken-ok _ c.in-Ok.is) (taken_none _ _ c.in-Ok.is c.check_timing-answer.ensures) refl c.at_least_one.ensures refl
