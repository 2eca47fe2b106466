-- What `io::decimal` promises is the definition's digits: its two promises, `Fewest 10 1 n k` and `digits 10 k n`, are `decimal n`.
use Prim.Native.Nat.{ℕ, zero, suc, ◌+◌, ◌-◌, ◌/◌, ◌%◌, ◌^◌, ◌≤◌, ◌<◌}
use mathlib.Core.Path.{◌≡◌, sym, ap, ◌∙◌}
use mathlib.Core.List.{List, [], ◌∷◌, ◌++◌}
use native.Mathlib.Omega.{arith}
use borrow.Author.Tests.{lt-ltb}
use Rattle.io.specs.Digits.{hex_digit_ascii, last_digits, IsDigitCount}
use Rattle.text.specs.Bytes.{decimal}
use Rattle.text.proofs.Decimal.{decimal-small, decimal_step}

glyph-digit : (d : ℕ) → d < 10 → hex_digit_ascii d ≡ 48 + d
glyph-digit d h = rw (lt-ltb d 10 h)

-- by the number of digits: n below 10 ^ (k + 1), and not below 10 ^ k where there is more than one digit
printed : (k n : ℕ) → n < 10 ^ suc k → (1 < suc k → 10 ^ k ≤ n) → last_digits 10 (suc k) n ≡ decimal n
printed zero n h g =
    let e : n % 10 ≡ n = omega arith in
    rw e (ap (λ (x : ℕ). x ∷ []) (glyph-digit n (omega arith)) ∙ sym (decimal-small n (omega arith)))
printed (suc k) n h g =
    let low : 10 ^ suc k ≤ n = g (omega arith) in
    let ten : 10 ≤ n = omega (arith, positive k) in
    ap (λ (l : List ℕ). l ++ (hex_digit_ascii (n % 10) ∷ [])) (printed k (n / 10) (omega arith) (λ t. omega arith)) ∙
    ap (λ (x : ℕ). decimal (n / 10) ++ (x ∷ [])) (glyph-digit (n % 10) (omega arith)) ∙
    sym (decimal_step n ten)
  where
    positive : (j : ℕ) → 1 ≤ 10 ^ j
    positive zero = omega arith
    positive (suc j) = omega (arith, positive j)

pub printed-decimal : (k n : ℕ) → IsDigitCount 10 1 n k → last_digits 10 k n ≡ decimal n
printed-decimal zero n f = absurd (omega arith)
printed-decimal (suc k) n f = let e : suc k - 1 ≡ k = omega arith in printed k n f.1 (λ t. rw e at (f.2 t))
