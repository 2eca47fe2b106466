-- No figure is a NaN, so each has one bit pattern.
use Prim.Native.Nat.{ℕ, zero, suc, ◌+◌, ◌*◌, ◌<◌, ◌^◌}
use mathlib.Core.Path.{◌≡◌, refl, sym, ap, subst}
use mathlib.Core.Bool.{Bool, true, false, not, cond}
use native.Mathlib.Omega.{arith}
use lib.Dec.{T, ltb}
use lib.IntN.{pos}
use lib.Ieee.{Float, inf, fin, Format, binary64, prec, emax, low, odd, units, round, is_nan, to_bits}
use Rattle.model.specs.Accounting.{Sums}
use Rattle.model.specs.Questions.{mean, figures}
use Rattle.model.proofs.Figures.{mean-nearest}
use Rattle.summary.specs.declared.FigureBits.{FigureBits}
use Rattle.summary.specs.Reading.{figure_bits}
use Rattle.summary.proofs.Dividing.{mean-nobody}

odd_number : (d : ℕ) (s : Bool) (q k l : ℕ) → T (not (is_nan (odd d s q k l)))
unfolding odd is_nan
odd_number d s zero k l = tt
odd_number d s (suc q) k l = tt

or-infinite : (b : Bool) (x : Float) (s : Bool) → T (not (is_nan x)) → T (not (is_nan (cond b x (inf s))))
unfolding is_nan
or-infinite true x s h = h
or-infinite false x s h = tt

units_number : (f : Format) (s : Bool) (q k : ℕ) → T (not (is_nan (units f s q k)))
unfolding units
units_number f s q k = or-infinite (ltb (q * 2 ^ k) (2 ^ (low f + suc (emax f)))) (odd (suc (prec f)) s q k (low f)) s (odd_number (suc (prec f)) s q k (low f))

round_number : (f : Format) (s : Bool) (a b : ℕ) → T (not (is_nan (round f s a b)))
unfolding round
round_number f s a b = units_number f s _ _

zero_number : T (not (is_nan (fin false 0 (pos 0))))
unfolding is_nan
zero_number = tt

pub mean-number : (s n : ℕ) → s < 2 ^ 53 → n < 2 ^ 53 → T (not (is_nan (mean s n)))
mean-number s zero h g = subst (λ (x : Float). T (not (is_nan x))) (mean-nobody s zero refl) zero_number
mean-number s (suc n) h g = subst (λ (x : Float). T (not (is_nan x))) (sym (mean-nearest s (suc n) h g (omega arith))) (round_number binary64 false s (suc n))

pub bits_are : (w r t u : ℕ) (m n : Sums) → w ≡ to_bits binary64 (mean m.waiting m.threads) → r ≡ to_bits binary64 (mean m.response m.responded)
    → t ≡ to_bits binary64 (mean m.turnaround m.finished) → u ≡ to_bits binary64 (mean m.busy m.core_ticks) → m ≡ n
    → ◌≡◌ {A = FigureBits} (record { waiting = w; response = r; turnaround = t; utilization = u }) (figure_bits (figures n))
unfolding figures
bits_are w r t u m n a b c d e = rw (a, b, c, d) (ap (λ (z : Sums). figure_bits (figures z)) e)
