use mathlib.Core.Path.{◌∙◌}
use Rattle.trace_text.specs.Texts.{spaced_policy}
use Rattle.trace_text.proofs.Streaming.{◌and◌, whole, written-same}
use Rattle.trace_text.proofs.out.Stream.policy.Goals as goal

pub returns : goal.returns
unfolding spaced_policy
returns c = whole c.text.ensures and written-same (c.as_bytes.ensures.value ∙ c.as_str.ensures) (whole c.text-2.ensures)
