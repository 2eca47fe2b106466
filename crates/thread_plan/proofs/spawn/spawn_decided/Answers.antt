use native.Mathlib.Omega.{arith}
use mathlib.Core.Path.{refl}
use Rattle.model.specs.Reading.{spawn_answer_meant}
use Rattle.checks.proofs.Refusals.{spawn-refusal}
use Rattle.checks.proofs.Answers.{taken_none}
use Rattle.thread_plan.proofs.OneRecord.{in_use, few-threads, log-room}
use Rattle.thread_plan.proofs.Refusing.{refused-pending, decided-as}
use Rattle.thread_plan.proofs.Spawning.{spawn-room, queue-room, spawn-taken}
use Rattle.thread_plan.proofs.spawn.spawn_decided.Goals as goal

pub overflow_cast-tid : goal.overflow_cast-tid
overflow_cast-tid c =
    let k = spawn-room c.args.s c.requires.0 _ _ _ c.requires.1 c.requires.2 (taken_none _ _ c.in_default.is c.check_spawn.ensures) in
    omega (arith, k, few-threads c.args.s c.requires.0 _ _ _ c.requires.1 c.requires.2)

pub bounds-queue-s : goal.bounds-queue-s
bounds-queue-s c =
    let k = queue-room c.args.s c.requires.0 _ _ _ c.requires.1 c.requires.2 (taken_none _ _ c.in_default.is c.check_spawn.ensures) in
    omega (arith, k, c.requires.2.sizes.queue)

pub bounds-prios-place : goal.bounds-prios-place
bounds-prios-place c =
    let k = spawn-room c.args.s c.requires.0 _ _ _ c.requires.1 c.requires.2 (taken_none _ _ c.in_default.is c.check_spawn.ensures) in
    omega (arith, k, c.requires.2.sizes.prios)

pub log_event-next-requires : goal.log_event-next-requires
log_event-next-requires c = log-room c.args.s c.requires.0 _ _ _ c.requires.1 c.requires.2

pub returns-in-Err : goal.returns-in-Err
returns-in-Err c =
    λ ts ws v. decided-as spawn_answer_meant _ c.args.s ts _ _ _ ws _ _ c.unchanged.ensures (refused-pending _ c.args.s ts _ _ _ ws v _ _ _ c.in-Err.is c.check_spawn.ensures (spawn-refusal c.args.s ts _ _ ws _ _ (in_use c.args.s ts _ _ _ ws v)) _ refl)

pub returns : goal.returns
returns c = λ ts ws v. spawn-taken c.args.s ts _ _ _ ws v (taken_none _ _ c.in_default.is c.check_spawn.ensures) _ _ _ _ _ _ _ _ refl refl refl c.child_priority-priority.ensures c.log_event-next.ensures
