use native.Mathlib.Omega.{arith}
use Rattle.trace_text.proofs.Streaming.{placed-put, placed-long}
use Rattle.trace_text.proofs.out.Stream.first.Goals as goal

pub returns-then-text-self-clause-placed : goal.returns-then-text-self-clause-placed
returns-then-text-self-clause-placed c = placed-put (omega arith) c.put-self.ensures

pub returns-clause-placed : goal.returns-clause-placed
returns-clause-placed c = placed-long _ _ (omega arith)
