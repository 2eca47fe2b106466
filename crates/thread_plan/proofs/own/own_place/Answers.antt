use mathlib.Core.Path.{ap, ◌∙◌}
use Rattle.thread_plan.specs.Reads.{known_place}
use Rattle.thread_plan.proofs.own.own_place.Goals as goal

pub returns : goal.returns
returns c = c.known_place.ensures ∙ ap (known_place c.args.s) c.own_tid.ensures
