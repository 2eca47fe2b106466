use Rattle.trace_text.specs.Texts.{spaced}
use Rattle.trace_text.proofs.Streaming.{◌and◌, whole}
use Rattle.trace_text.proofs.out.Stream.spaced.Goals as goal

pub returns : goal.returns
unfolding spaced
returns c = whole c.text.ensures and c.number.ensures
