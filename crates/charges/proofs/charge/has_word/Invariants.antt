use Rattle.std.proofs.Common.{◌≡◌, take}
use Rattle.model.specs.Calls.{elem}
use Rattle.charges.proofs.charge.has_word.Given as goal

abbrev pub invariant-loop-word : goal.invariant-loop-word
invariant-loop-word l = l.found ≡ elem l.wanted (take l.word-index l.word-items)
