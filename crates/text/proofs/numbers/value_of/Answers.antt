use Rattle.std.proofs.Common.{ℕ, ◌≡◌, ◌-◌, ◌+◌, ◌*◌, List, [], sym, ap, ◌∙◌, rules, arith, get_or, drop}
use lib.ListN.{drop_of_length-le}
use Rattle.text.specs.Bytes.{at_most, value_from}
use Rattle.text.proofs.Decimal.{over-stays, value-end}
use Rattle.text.proofs.Places.{digit-pass, digit-stop}
use Rattle.text.proofs.numbers.value_of.Goals as goal

pub returns-then-not-is_ascii_digit : goal.returns-then-not-is_ascii_digit
unfolding at_most
returns-then-not-is_ascii_digit c =
    sym (ap (at_most 4294967295) (digit-stop c.args.digits.now c.loop-digit.digit-index (omega arith) c.loop-digit.value (sym c.if-not-is_ascii_digit.ensures.value))) ∙ c.loop-digit.invariant.1

pub returns-then-value-gt-LARGEST : goal.returns-then-value-gt-LARGEST
returns-then-value-gt-LARGEST c =
    let d = get_or c.args.digits.now c.loop-digit.digit-index 0 in
    sym (over-stays 4294967295 (c.loop-digit.value * 10 + (d - 48)) (drop (c.loop-digit.digit-index + 1) c.args.digits.now) (omega arith)) ∙
    sym (ap (at_most 4294967295) (digit-pass c.args.digits.now c.loop-digit.digit-index (omega arith) c.loop-digit.value (sym c.if-not-is_ascii_digit.ensures.value))) ∙
    c.loop-digit.invariant.1

pub loop-digit-preserved : goal.loop-digit-preserved
loop-digit-preserved c =
    let d = get_or c.args.digits.now c.loop-digit.digit-index 0 in (
      search rules,
      sym (ap (at_most 4294967295) (digit-pass c.args.digits.now c.loop-digit.digit-index (omega arith) c.loop-digit.value (sym c.if-not-is_ascii_digit.ensures.value))) ∙ c.loop-digit.invariant.1,
    )

pub returns : goal.returns
returns c =
    let none : drop c.loop-digit.digit-index c.args.digits.now ≡ [] = drop_of_length-le c.args.digits.now {i = c.loop-digit.digit-index} (omega arith) in
    sym (ap (λ (t : List ℕ). at_most 4294967295 (value_from c.loop-digit.value t)) none ∙ value-end 4294967295 c.loop-digit.value (omega arith)) ∙ c.loop-digit.invariant.1
