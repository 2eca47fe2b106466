use mathlib.Core.Path.{sym}
use Rattle.checks.proofs.Answers.{taken_none}
use Rattle.tick_plan.proofs.Ticking.{threads-taken}
use Rattle.tick_plan.proofs.Parts.{refused_none}
use Rattle.tick_plan.proofs.tick.tick_threads.Goals as goal

pub returns-in-Err : goal.returns-in-Err
returns-in-Err c = refused_none c.args.s _ _ c.in-Err.is c.check_tick.ensures

pub returns-in-Ok : goal.returns-in-Ok
returns-in-Ok c = sym (threads-taken c.args.s (taken_none _ _ c.in-Ok.is c.check_tick.ensures))
