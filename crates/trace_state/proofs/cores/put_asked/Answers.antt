use mathlib.Core.Path.{ap}
use Rattle.trace_text.specs.Texts.{spaced}
use Rattle.trace_text.proofs.Streaming.{◌and◌, whole, written-same}
use Rattle.trace_state.specs.Asked.{asked_text}
use Rattle.trace_state.proofs.cores.put_asked.Goals as goal

pub returns-clause-said : goal.returns-clause-said
unfolding asked_text
returns-clause-said c = λ m v u.
    whole c.text.ensures and
    written-same (ap spaced (c.next_tid-next.ensures m v u)) c.spaced.ensures and
    c.put_left.ensures and
    (c.put_running.ensures.said m v u) and
    (c.put_places.ensures.said m v u) and
    whole c.text-2.ensures
