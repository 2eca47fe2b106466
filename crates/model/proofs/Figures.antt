-- Each of the summary's figures is the binary64 value nearest the exact quotient, a tie to the even one: below 2 ^ 53 both sums convert exactly, and
-- `lib.Ieee`'s `round` of a fraction is what IEEE 754 calls rounding to nearest.
use Prim.Native.Nat.{ℕ, zero, suc, ◌+◌, ◌*◌, ◌^◌, ◌≤◌, ◌<◌}
use mathlib.Core.Path.{◌≡◌, refl, sym, ap, ◌∙◌, subst}
use mathlib.Core.Bool.{Bool, true, false, cond}
use native.Mathlib.Omega.{arith}
use native.Mathlib.Nat.{mul_assoc, mul_comm, mul-one, lt_of_lt_of_le, pow-le-pow_right, mul-pos}
use lib.Dec.{eqb}
use lib.IntN.{ℤ, pos, negsuc}
use lib.Pow.{shl_lt, pow_pos}
use lib.Ieee.{Float, nan, inf, fin, Format, binary64, prec, emax, low, up, down, unlike, round, div, of_int}
use lib.Ieee.Exact.{HasValue, round_exact}
use lib.Ieee.Scale.{round_same}
use borrow.Author.Tests.{ne_eqb}
use Rattle.model.specs.Questions.{mean}

down_pos : (e : ℤ) → 0 < down e
down_pos (pos k) = omega arith
down_pos (negsuc k) = pow_pos (suc k)

up_pos : (e : ℤ) → 0 < up e
up_pos (pos k) = pow_pos k
up_pos (negsuc k) = omega arith

small : (f : Format) (n k : ℕ) → k ≤ suc (emax f) → n < 2 ^ k → n * 2 ^ low f < 2 ^ (low f + suc (emax f))
small f n k l h = lt_of_lt_of_le (shl_lt k (low f) h) (pow-le-pow_right {n = 2} (omega arith) (omega arith))

exact : (n : ℕ) → n < 2 ^ 53 → HasValue (of_int binary64 (pos n)) false n 1
unfolding of_int
exact n h = round_exact binary64 false n 1 n (low binary64) (omega arith) h (small binary64 n 53 (omega arith) h) (sym (mul-one _))

div_is : (f : Format) (t : Bool) (m : ℕ) (e : ℤ) (u : Bool) (k : ℕ) (d : ℤ) → eqb k 0 ≡ false → div f (fin t m e) (fin u k d) ≡ round f (unlike t u) (m * up e * down d) (k * up d * down e)
unfolding div round
div_is f t m e u k d h = ap (λ (b : Bool). cond b (cond (eqb m 0) nan (inf (unlike t u))) (round f (unlike t u) (m * up e * down d) (k * up d * down e))) h

-- two exact values divided
module _ (s n : ℕ) where
  -- both are the same fraction
  cross : (a b c d : ℕ) → a * 1 ≡ s * b → c * 1 ≡ suc n * d → a * d * suc n ≡ s * (c * b)
  cross a b c d p q =
      let p' : a ≡ s * b = sym (mul-one a) ∙ p in
      let q' : c ≡ suc n * d = sym (mul-one c) ∙ q in
      ap (λ (z : ℕ). z * d * suc n) p' ∙ mul_assoc (s * b) d (suc n) ∙ mul_assoc s b (d * suc n) ∙ ap (λ (z : ℕ). s * z) (ap (λ (z : ℕ). b * z) (mul_comm d (suc n) ∙ sym q') ∙ mul_comm b c)

  quotient : (t : Bool) (m : ℕ) (e : ℤ) (u : Bool) (k : ℕ) (d : ℤ) → t ≡ false → u ≡ false → m * up e * 1 ≡ s * down e → k * up d * 1 ≡ suc n * down d → div binary64 (fin t m e) (fin u k d) ≡ round binary64 false s (suc n)
  quotient t m e u zero d p q a b = absurd (let l : 0 < suc n * down d = mul-pos (omega arith) (down_pos d) in omega arith)
  quotient t m e u (suc k) d p q a b =
      div_is binary64 t m e u (suc k) d (ne_eqb (suc k) 0 (λ z. omega arith))
      ∙ ap (λ (x : Bool). round binary64 x (m * up e * down d) (suc k * up d * down e)) (ap (λ (x : Bool). unlike x u) p ∙ ap (λ (x : Bool). unlike false x) q)
      ∙ round_same binary64 false (m * up e * down d) (suc k * up d * down e) s (suc n) (mul-pos (mul-pos (omega arith) (up_pos d)) (down_pos e)) (omega arith) (cross (m * up e) (down e) (suc k * up d) (down d) a b)

pub mean-nearest : (sum count : ℕ) → sum < 2 ^ 53 → count < 2 ^ 53 → 0 < count → mean sum count ≡ round binary64 false sum count
unfolding mean
mean-nearest s zero hs hc h = absurd (omega arith)
mean-nearest s (suc n) hs hc h = go (of_int binary64 (pos s)) (of_int binary64 (pos (suc n))) (exact s hs) (exact (suc n) hc)
  where
    go : (x y : Float) → HasValue x false s 1 → HasValue y false (suc n) 1 → div binary64 x y ≡ round binary64 false s (suc n)
    go nan y hx hy = absurd hx
    go (inf t) y hx hy = absurd hx
    go (fin t m e) nan hx hy = absurd hy
    go (fin t m e) (inf u) hx hy = absurd hy
    go (fin t m e) (fin u k d) hx hy = quotient s n t m e u k d hx.0 hy.0 hx.1 hy.1
