use native.Mathlib.Omega.{arith}
use Rattle.state.specs.State.{meant_at}
use Rattle.questions.proofs.CoreLaws.{next-is}
use Rattle.questions.proofs.next_tid.Goals as goal

pub overflow_cast-result : goal.overflow_cast-result
unfolding meant_at
overflow_cast-result c = omega (arith, c.requires.1.sizes.in_use, c.requires.1.bounded.settings.cap_t')

pub returns : goal.returns
returns c = λ m v r. next-is c.args.s m v
