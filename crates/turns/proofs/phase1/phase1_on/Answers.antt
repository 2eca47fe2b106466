use mathlib.Core.Path.{sym}
use native.Mathlib.Numerals.{add-one}
use Rattle.model.specs.Phases.{sliced}
use Rattle.turns.proofs.Steps.{idle_or_switching, sliced-pass}
use Rattle.turns.proofs.phase1.phase1_on.Goals as goal

pub returns-in-Idle : goal.returns-in-Idle
returns-in-Idle c = sym (sliced-pass _ (idle_or_switching c.args.s c.in-Idle.is))

pub returns-in-Running : goal.returns-in-Running
unfolding sliced
returns-in-Running c = rw (c.in-Running.is, add-one)
