use Rattle.std.proofs.Common.{◌≡◌, take}
use Rattle.std.specs.List.{list_any}
use Rattle.charges.proofs.Alone.{is_held}
use Rattle.charges.proofs.charge.has_others.Given as goal

abbrev pub invariant-loop-word : goal.invariant-loop-word
invariant-loop-word l = l.found ≡ list_any is_held (take l.word-index l.word-items)
