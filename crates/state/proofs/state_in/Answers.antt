use Rattle.state.proofs.Words.{switching-from, running-from}
use Rattle.state.proofs.state_in.Goals as goal

pub returns-then-kind-eq1 : goal.returns-then-kind-eq1
returns-then-kind-eq1 c = switching-from _ _ _ c.if-kind-eq1.true

pub returns : goal.returns
returns c = running-from _ _ _ c.if-kind-eq0.false c.if-kind-eq1.false
