-- `switches::switch_list` meets its contract. Assumes nothing.
use mathlib.Core.List.{[]}
use Rattle.model.specs.Accounting.{switch_list}
use Rattle.queue.specs.Words.{moves_in}
use Rattle.switches.proofs.Stored.{Listed}
use Rattle.switches.proofs.switch_list.Given as goal

abbrev pub invariant-loop-k : goal.invariant-loop-k
invariant-loop-k l = Listed l.entries l.places l.count (switch_list [] (moves_in l.out l.k))
