-- A mean over nobody, and over somebody.
use Prim.Native.Nat.{ℕ, zero, suc, ◌*◌, ◌/◌}
use mathlib.Core.Path.{◌≡◌, refl}
use native.Mathlib.Omega.{arith}
use Rattle.text.specs.Bytes.{ascii}
use Rattle.script.specs.Report.{in_tenths, tenths, mean_text}

pub mean_none : (sum count : ℕ) → count ≡ 0 → mean_text sum count ≡ ascii "0.0"
unfolding mean_text
mean_none sum zero h = refl
mean_none sum (suc n) h = absurd (omega arith)

pub mean_some : (sum count : ℕ) → (count ≡ 0 → ⊥) → mean_text sum count ≡ tenths (sum * 10 / count)
unfolding mean_text in_tenths
mean_some sum zero h = absurd (h refl)
mean_some sum (suc n) h = refl
