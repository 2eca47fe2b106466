-- `switches::no_switches` meets its contract. Assumes nothing.
use mathlib.Core.Path.{refl}
use Rattle.switches.specs.Entries.{no_switches}
use Rattle.switches.proofs.no_switches.Goals as goal

pub returns : goal.returns
unfolding no_switches
returns c = refl
