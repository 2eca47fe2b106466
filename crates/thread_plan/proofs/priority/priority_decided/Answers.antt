use native.Mathlib.Omega.{arith}
use mathlib.Core.Path.{ap}
use Rattle.model.specs.Reading.{call_answer_meant}
use Rattle.checks.proofs.Refusals.{priority-refusal}
use Rattle.checks.proofs.Answers.{taken_none, taken-ok}
use Rattle.thread_plan.proofs.OneRecord.{in_use, log-room}
use Rattle.thread_plan.proofs.Refusing.{refused-pending, decided-as}
use Rattle.thread_plan.proofs.Reprioritising.{priority-place, priority-taken}
use Rattle.thread_plan.proofs.priority.priority_decided.Goals as goal

pub bounds-prios-place : goal.bounds-prios-place
bounds-prios-place c =
    let h = priority-place c.args.s c.args.tid.0 (taken_none _ _ c.in-Ok.is c.check_priority-answer.ensures) in
    omega (arith, h, c.requires.3.sizes.in_use, c.requires.3.sizes.prios)

pub log_event-next-requires : goal.log_event-next-requires
log_event-next-requires c = log-room c.args.s c.requires.0 c.requires.1 _ _ c.requires.2 c.requires.3

pub returns-in-Err : goal.returns-in-Err
returns-in-Err c =
    λ ts qs ws v. decided-as call_answer_meant _ c.args.s ts qs _ _ ws _ _ c.unchanged.ensures (refused-pending _ c.args.s ts qs _ _ ws v _ _ _ c.in-Err.is c.check_priority-answer.ensures (priority-refusal c.args.s ts qs _ ws _ _ (in_use c.args.s ts qs _ _ ws v)) _ (ap call_answer_meant c.in-Err.is))

pub returns-in-Ok : goal.returns-in-Ok
returns-in-Ok c = λ ts qs ws v. priority-taken c.args.s ts qs _ _ ws v _ _ _ _ _ (taken-ok _ c.in-Ok.is) (taken_none _ _ c.in-Ok.is c.check_priority-answer.ensures) c.log_event-next.ensures
