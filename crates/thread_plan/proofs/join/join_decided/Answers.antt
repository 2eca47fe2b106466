use native.Mathlib.Omega.{arith}
use mathlib.Core.Bool.{true}
use mathlib.Core.Path.{refl, ap}
use Rattle.model.specs.Reading.{join_meant, join_answer_meant}
use Rattle.checks.proofs.Refusals.{join-refusal}
use Rattle.checks.proofs.Answers.{taken_none}
use Rattle.thread_plan.proofs.Refusing.{refused-pending, decided-as}
use Rattle.thread_plan.proofs.Owning.{core-there}
use Rattle.thread_plan.proofs.Joining.{outcome-is, join-waits, join-still, still}
use Rattle.thread_plan.proofs.join.join_decided.Goals as goal

pub bounds-next-i : goal.bounds-next-i
bounds-next-i c =
    let k = core-there c.args.s c.args.core.0 true _ (taken_none _ _ c.in_default.is c.check_core.ensures) in
    omega arith

pub returns-in-Err : goal.returns-in-Err
returns-in-Err c =
    λ ts qs ps ls ws v et. decided-as join_answer_meant _ c.args.s ts qs ps ls ws _ _ c.unchanged.ensures (refused-pending _ c.args.s ts qs ps ls ws v _ _ _ c.in-Err.is c.check_core.ensures (join-refusal c.args.s ts qs ls ws _ _) _ refl)

pub returns-in-Wait : goal.returns-in-Wait
returns-in-Wait c =
    let h = taken_none _ _ c.in_default.is c.check_core.ensures in
    λ ts qs ps ls ws v et. join-waits c.args.s ts qs ps ls ws v _ h _ c.args.target (join_meant c.outcome_of-outcome.result) _ c.own_tid-caller.ensures refl (ap join_meant c.in-Wait.is) (outcome-is c.args.s ts qs ps ls ws v _ h _ _ _ _ c.own_tid-caller.ensures et c.outcome_of-outcome.ensures)

pub returns-in-Done : goal.returns-in-Done
returns-in-Done c =
    let h = taken_none _ _ c.in_default.is c.check_core.ensures in
    λ ts qs ps ls ws v et. decided-as join_answer_meant _ c.args.s ts qs ps ls ws _ _ c.unchanged-in-Done.ensures (join-still c.args.s ts qs ps ls ws v _ h _ (join_meant c.outcome_of-outcome.result) _ refl (still _ _ _ _ c.in-Done.is) (outcome-is c.args.s ts qs ps ls ws v _ h _ _ _ _ c.own_tid-caller.ensures et c.outcome_of-outcome.ensures))
