use native.Mathlib.Omega.{arith}
use lib.ListN.{length-set}
use Rattle.bounds.proofs.CallList.put.Goals as goal

pub returns-then-self-clause-within : goal.returns-then-self-clause-within
returns-then-self-clause-within c =
    let a = c.args in
    omega (arith, c.if-self.true, length-set a.self.now.calls.now a.self.now.count a.call)
