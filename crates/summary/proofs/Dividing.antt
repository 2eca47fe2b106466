-- A mean as the program makes it: a test for nobody, and one division.
use Prim.Native.Nat.{ℕ, zero, suc}
use mathlib.Core.Path.{◌≡◌, refl, ap}
use mathlib.Core.Bool.{false}
use native.Mathlib.Omega.{arith}
use lib.IntN.{pos}
use lib.Ieee.{Float, fin, binary64, div, of_int}
use Rattle.model.specs.Accounting.{Sums}
use Rattle.model.specs.Questions.{mean, Figures, figures}

pub mean-nobody : (s n : ℕ) → n ≡ 0 → fin false 0 (pos 0) ≡ mean s n
unfolding mean
mean-nobody s zero h = refl
mean-nobody s (suc n) h = absurd (omega arith)

pub mean-some : (s n : ℕ) → (n ≡ 0 → ⊥) → div binary64 (of_int binary64 (pos s)) (of_int binary64 (pos n)) ≡ mean s n
unfolding mean
mean-some s zero h = absurd (h refl)
mean-some s (suc n) h = refl

pub figures-are : (w r t u : Float) (m n : Sums) → w ≡ mean m.waiting m.threads → r ≡ mean m.response m.responded → t ≡ mean m.turnaround m.finished
    → u ≡ mean m.busy m.core_ticks → m ≡ n → ◌≡◌ {A = Figures} (record { waiting = w; response = r; turnaround = t; utilization = u }) (figures n)
unfolding figures
figures-are w r t u m n a b c d e = rw (a, b, c, d) (ap figures e)
