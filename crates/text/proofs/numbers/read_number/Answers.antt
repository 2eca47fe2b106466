use Rattle.std.proofs.Common.{ℕ, List, ◌≡◌, ◌∙◌, sym, ap, arith}
use borrow.Author.Tests.{eqb-true, eqb-false}
use denote.Ref.{Bor}
use Rattle.text.specs.Bytes.{at_most, value_from, unsigned}
use Rattle.text.proofs.Places.{unsigned-is, number-empty, number-some}
use Rattle.text.proofs.numbers.read_number.Goals as goal

pub returns-then-is_empty : goal.returns-then-is_empty
returns-then-is_empty c =
    let digits : c.unwrap_or-digits.result.now ≡ unsigned c.args.f.now = ap (λ (b : Bor (List ℕ)). b.now) c.unwrap_or-digits.ensures ∙ unsigned-is c.args.f c.strip_prefix.result c.strip_prefix.ensures.cases in
    sym (number-empty c.args.f.now (rw (← digits) (eqb-true _ 0 (sym c.is_empty.ensures ∙ c.if-is_empty.true))))

pub returns : goal.returns
returns c =
    let digits : c.unwrap_or-digits.result.now ≡ unsigned c.args.f.now = ap (λ (b : Bor (List ℕ)). b.now) c.unwrap_or-digits.ensures ∙ unsigned-is c.args.f c.strip_prefix.result c.strip_prefix.ensures.cases in
    let some = eqb-false _ 0 (sym c.is_empty.ensures ∙ c.if-is_empty.false) in
    c.value_of.ensures ∙ ap (λ (l : List ℕ). at_most 4294967295 (value_from 0 l)) digits ∙ sym (number-some c.args.f.now (rw (← digits) (omega (arith, some))))
