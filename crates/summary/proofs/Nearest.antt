-- Each of the program's four figures is the binary64 value nearest the exact quotient of two sums over threads or cores; over nobody it is 0.0.
use Prim.Native.Nat.{ℕ, ◌<◌, ◌^◌}
use mathlib.Core.Path.{◌≡◌, refl, sym, subst}
use mathlib.Core.Bool.{false}
use mathlib.Core.List.{List}
use native.Mathlib.Omega.{arith}
use lib.IntN.{pos}
use lib.Ieee.{Float, fin, binary64, round}
use Rattle.model.specs.declared.ThreadInfo.{ThreadInfo}
use Rattle.model.specs.Accounting.{Sums, sums}
use Rattle.model.specs.Questions.{mean, Figures, figures}
use Rattle.model.proofs.Figures.{mean-nearest}
use Rattle.record_reads.specs.declared.totals.Totals.{Totals}
use Rattle.state.specs.declared.Sched.{Sched}
use Rattle.state.specs.State.{meant_at}
use Rattle.summary.specs.declared.SchedSummary.{SchedSummary}
use Rattle.summary.specs.Reading.{figures_meant, Summed}
use Rattle.summary.specs.Cores.{busy_in, all_in}
use Rattle.summary.proofs.Totaling.{sums-are, totals-small, cores-small, cores-few}
use Rattle.summary.proofs.Dividing.{mean-nobody}

-- `round` of a fraction is IEEE 754's rounding to nearest, a tie to the even value
pub record Nearest (sum count : ℕ) (x : Float) : Type 0 where
  pub nearest : 0 < count → x ≡ round binary64 false sum count
  pub nobody : count ≡ 0 → x ≡ fin false 0 (pos 0)

-- 01: "means of ready ticks (all threads), response (those with a first run), turnaround (finished), and utilization"
pub record AllNearest (n : Sums) (f : Figures) : Type 0 where
  pub waiting : Nearest n.waiting n.threads f.waiting
  pub response : Nearest n.response n.responded f.response
  pub turnaround : Nearest n.turnaround n.finished f.turnaround
  pub utilization : Nearest n.busy n.core_ticks f.utilization

near : (s n : ℕ) → s < 2 ^ 53 → n < 2 ^ 53 → Nearest s n (mean s n)
near s n h g = record { nearest = λ p. mean-nearest s n h g p; nobody = λ e. sym (mean-nobody s n e) }

module _ (s : Sched) (n : Totals) (ts : List ThreadInfo) (qs ps ls ws : List ℕ) (k : Summed s n ts qs ps ls ws) where
  pub figures-nearest : AllNearest (sums (meant_at s ts qs ls ws).accounts) (figures (sums (meant_at s ts qs ls ws).accounts))
  unfolding figures
  figures-nearest =
      let z = totals-small s n ts qs ps ls ws k in
      let u = cores-small s n ts qs ps ls ws k s.cores (omega arith) in
      let few = cores-few s n ts qs ps ls ws k in
      let b : ℕ = busy_in s.ticks s.cores in
      let a : ℕ = all_in s.ticks s.cores in
      subst (λ (m : Sums). AllNearest m (figures m)) (sums-are s n ts qs ps ls ws k b a refl refl)
      (record {
        waiting = near n.waiting n.threads z.waiting z.threads;
        response = near n.response n.responded z.response z.responded;
        turnaround = near n.turnaround n.finished z.turnaround z.finished;
        utilization = near b a (omega (arith, u.0, u.1, few)) (omega (arith, u.1, few));
      })

  -- what `summary` promises of its result r makes it so
  pub summary-nearest : (r : SchedSummary) → figures_meant r ≡ figures (sums (meant_at s ts qs ls ws).accounts) → AllNearest (sums (meant_at s ts qs ls ws).accounts) (figures_meant r)
  summary-nearest r e = subst (AllNearest (sums (meant_at s ts qs ls ws).accounts)) (sym e) figures-nearest
