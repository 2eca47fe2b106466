use native.Mathlib.Omega.{arith}
use Rattle.queue.proofs.Frames.{appended-both}
use Rattle.dispatch.proofs.swap.Goals as goal

pub returns-clause-out : goal.returns-clause-out
returns-clause-out c = appended-both 3 c.vacate.ensures.out c.dispatch.ensures.out (omega arith)
