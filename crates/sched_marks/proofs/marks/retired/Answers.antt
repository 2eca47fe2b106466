use native.Mathlib.Omega.{arith}
use Rattle.checks.proofs.Refusals.{retired-refusal}
use Rattle.checks.proofs.Answers.{taken_none, taken-ok, refused-done}
use Rattle.sched_marks.proofs.MarkCalls.{retired-place, retired-taken}
use Rattle.sched_marks.proofs.marks.retired.Goals as goal

pub with_mark-next-requires : goal.with_mark-next-requires
with_mark-next-requires c =
    let h = retired-place c.args.s c.args.core.0 (taken_none _ _ c.in-Ok.is c.check_retired-answer.ensures) in
    omega arith

pub returns-in-Err : goal.returns-in-Err
returns-in-Err c = λ ts qs ps ls ws v. refused-done _ c.args.s ts qs ps ls ws v _ _ _ c.in-Err.is c.check_retired-answer.ensures (retired-refusal c.args.s ts qs ls ws _)

pub returns-in-Ok : goal.returns-in-Ok
returns-in-Ok c = λ ts qs ps ls ws v. retired-taken c.args.s ts qs ps ls ws v _ _ c.with_mark-next.result c.with_mark-next.ensures (taken-ok _ c.in-Ok.is) (taken_none _ _ c.in-Ok.is c.check_retired-answer.ensures)
