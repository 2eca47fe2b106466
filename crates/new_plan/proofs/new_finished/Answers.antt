use native.Mathlib.Omega.{arith}
use mathlib.Core.Path.{ap}
use Rattle.checks.specs.Check.{check_meant}
use Rattle.new_plan.proofs.Parts.{created-refused, created-taken, log-empty}
use Rattle.new_plan.proofs.new_finished.Goals as goal

pub bounds-prios-0 : goal.bounds-prios-0
bounds-prios-0 c = c.requires.prios (ap check_meant c.in-Ok.is)

pub overflow_mul-words : goal.overflow_mul-words
overflow_mul-words c = record { fits = omega (arith, c.requires.few (ap check_meant c.in-Ok.is)) }

pub log_first-pos-requires : goal.log_first-pos-requires
log_first-pos-requires c = let e = ap check_meant c.in-Ok.is in (c.requires.log e, log-empty _ _ (c.requires.events e) (c.requires.few e) (c.requires.log e))

pub returns-in-Err : goal.returns-in-Err
returns-in-Err c = created-refused _ _ _ _ _ _ _ _ c.in-Err.is

pub returns-in-Ok : goal.returns-in-Ok
returns-in-Ok c = created-taken _ _ _ _ _ _ _ _ _ c.in-Ok.is c.first_sched-first.ensures c.log_first-pos.ensures
