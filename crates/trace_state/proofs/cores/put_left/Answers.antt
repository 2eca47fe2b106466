use Rattle.trace_text.proofs.Streaming.{◌and◌, whole}
use Rattle.trace_state.specs.Asked.{left_text}
use Rattle.trace_state.proofs.cores.put_left.Goals as goal

pub returns : goal.returns
unfolding left_text
returns c = whole c.text.ensures and c.bit.ensures and c.bit-2.ensures and c.bit-3.ensures
