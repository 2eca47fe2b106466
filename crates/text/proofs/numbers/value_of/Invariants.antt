-- The invariant: the digits to come, behind those that spell the value so far, spell what all do, as far as the limit tells.
use Rattle.std.proofs.Common.{◌≡◌, ◌≤◌, drop}
use Rattle.text.specs.Bytes.{at_most, value_from}
use Rattle.text.proofs.numbers.value_of.Given as goal

abbrev pub invariant-loop-digit : goal.invariant-loop-digit
invariant-loop-digit l = (l.value ≤ 4294967295) × (at_most 4294967295 (value_from l.value (drop l.digit-index l.digits)) ≡ at_most 4294967295 (value_from 0 l.digits))
