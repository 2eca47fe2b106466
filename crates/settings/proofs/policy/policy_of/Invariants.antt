-- The invariant: the table from its next row on says of the word what the definition's table does.
use Rattle.settings.proofs.Words.{Rest}
use Rattle.settings.proofs.policy.policy_of.Given as goal

abbrev pub invariant-loop-row : goal.invariant-loop-row
invariant-loop-row l = Rest l.w l.row-items l.row-index
