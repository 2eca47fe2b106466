-- The invariant: no more cases than bytes have passed.
use Rattle.std.proofs.Common.{◌+◌, ◌≤◌, length}
use Rattle.settings_cases.proofs.run_cases.Given as goal

abbrev pub invariant-loop-rest : goal.invariant-loop-rest
invariant-loop-rest l = l.case + length l.rest ≤ length l.input

abbrev pub decreases-loop-rest : goal.decreases-loop-rest
decreases-loop-rest l = length l.rest
