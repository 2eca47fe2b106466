use Prim.Native.Nat.{◌≤◌}
use mathlib.Core.Path.{◌≡◌}
use Rattle.model.specs.Accounting.{takes_in}
use Rattle.queue.specs.Words.{moves_in}
use Rattle.accounts.proofs.counters.count_takes.Given as goal

abbrev pub invariant-loop-word : goal.invariant-loop-word
invariant-loop-word l = (l.takes ≡ takes_in (moves_in l.word-items l.word-index)) × (l.takes ≤ l.word-index)
