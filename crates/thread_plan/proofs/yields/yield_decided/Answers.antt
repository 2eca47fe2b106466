use native.Mathlib.Omega.{arith}
use Prim.Native.Nat.{ℕ}
use mathlib.Core.Path.{ap, ◌∙◌}
use mathlib.Core.Bool.{true}
use mathlib.Core.Option.{none}
use lib.Dec.{leb}
use Rattle.model.specs.Reading.{call_answer_meant}
use Rattle.model.specs.Calls.{check, limit_now}
use Rattle.checks.specs.Check.{core_refusal}
use Rattle.checks.proofs.Answers.{taken_none, taken-ok}
use Rattle.thread_plan.proofs.Refusing.{refused-pending, decided-as}
use Rattle.thread_plan.proofs.Owning.{core-there}
use Rattle.thread_plan.proofs.Yielding.{yield-refusal, yield-taken}
use Rattle.thread_plan.proofs.yields.yield_decided.Goals as goal

pub bounds-next-i : goal.bounds-next-i
bounds-next-i c =
    let k = core-there c.args.s c.args.core.0 true _ (taken_none _ _ c.in-Ok.is c.check_yield-answer.ensures) in
    omega arith

pub returns-in-Err : goal.returns-in-Err
returns-in-Err c =
    let h = c.check_yield-answer.ensures ∙ ap (λ (k : ℕ). core_refusal c.args.s c.args.core.0 true (check 19 (leb limit_now k) none)) c.yields_of.ensures in
    λ ts qs ps ls ws v et. decided-as call_answer_meant _ c.args.s ts qs ps ls ws _ _ c.unchanged.ensures (refused-pending _ c.args.s ts qs ps ls ws v _ _ _ c.in-Err.is h (yield-refusal c.args.s ts qs ps ls ws v c.args.core.0 c.args.t et) _ (ap call_answer_meant c.in-Err.is))

pub returns-in-Ok : goal.returns-in-Ok
returns-in-Ok c =
    let h = c.check_yield-answer.ensures ∙ ap (λ (k : ℕ). core_refusal c.args.s c.args.core.0 true (check 19 (leb limit_now k) none)) c.yields_of.ensures in
    λ ts qs ps ls ws v et. yield-taken c.args.s ts qs ps ls ws v c.args.core.0 c.args.t et (taken_none _ _ c.in-Ok.is h) _ _ c.own_tid-own.ensures (taken-ok _ c.in-Ok.is)
