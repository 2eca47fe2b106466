use Rattle.std.proofs.Common.{◌≡◌}
use Rattle.threads.proofs.Applying.{moved_by}
use Rattle.threads.proofs.apply_moves.Given as goal

-- the moves before this one are applied
abbrev pub invariant-loop-word : goal.invariant-loop-word
invariant-loop-word l = l.threads ≡ moved_by l.tick.0 l.moves l.word-index l.fn.threads
