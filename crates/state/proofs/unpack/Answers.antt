use Rattle.state.proofs.Words.{all-eight}
use Rattle.state.proofs.unpack.Goals as goal

pub returns : goal.returns
returns c = all-eight _ _ _ _ _ _ _ _ _ _ _ _ _ _ _ _ c.state_in-c0.ensures c.state_in-c1.ensures c.state_in-c2.ensures c.state_in-c3.ensures c.state_in-c4.ensures c.state_in-c5.ensures c.state_in-c6.ensures c.state_in-c7.ensures
