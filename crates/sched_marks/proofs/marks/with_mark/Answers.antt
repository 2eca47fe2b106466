use borrow.Author.Rules.{rules}
use borrow.Author.Tests.{eqb-true, eqb-false}
use native.Mathlib.Omega.{arith}
use Prim.Native.Nat.{ℕ, ◌≤◌, ◌<◌, ◌+◌}
use mathlib.Core.Path.{◌≡◌, refl, ◌∙◌}
use mathlib.Core.Bool.{Bool, true, false, ◌||◌}
use mathlib.Core.List.{List}
use mathlib.Core.Logic.{◌≢◌}
use lib.Dec.{eqb}
use lib.ListN.{get_or, set, length-set}
use lib.Seq.{set-get_or}
use Rattle.model.proofs.PhaseLaws.{or_true_r}
use Rattle.sched_marks.proofs.marks.with_mark.Goals as goal

or-false : (b : Bool) → (b || false) ≡ b
or-false true = refl
or-false false = refl

-- one place is asked: it is the one to be marked, or it stays as it is
module _ (i : ℕ) (m m₀ : List Bool) (k : ℕ) (marked : i < k → m ≡ set m₀ i true) (not_yet : k ≤ i → m ≡ m₀) where
  at_place : k ≡ i → set m k (get_or m k false || true) ≡ set m₀ i true
  at_place e = rw (or_true_r (get_or m k false) true refl, not_yet (omega (arith, e)), e)

  elsewhere : set m k (get_or m k false || false) ≡ m
  elsewhere = rw (or-false (get_or m k false)) (set-get_or m k false)

  after : (b : Bool) → eqb k i ≡ b → i < k + 1 → set m k (get_or m k false || b) ≡ set m₀ i true
  after true e h = at_place (eqb-true k i e)
  after false e h = let d : k ≢ i = eqb-false k i e in elsewhere ∙ marked (omega (arith, h))

  before : (b : Bool) → eqb k i ≡ b → k + 1 ≤ i → set m k (get_or m k false || b) ≡ m₀
  before true e h = absurd (omega (arith, h, eqb-true k i e))
  before false e h = elsewhere ∙ not_yet (omega (arith, h))

pub loop-k-init : goal.loop-k-init
loop-k-init c = (search rules, λ h. absurd (omega (arith, h)), λ h. refl)

pub loop-k-preserved : goal.loop-k-preserved
loop-k-preserved c = (
  simp length-set c.loop-k.invariant.0,
  after c.args.i c.loop-k.mark-items c.args.marks c.loop-k.k c.loop-k.invariant.1 c.loop-k.invariant.2 _ refl,
  before c.args.i c.loop-k.mark-items c.args.marks c.loop-k.k c.loop-k.invariant.1 c.loop-k.invariant.2 _ refl,
)

pub returns : goal.returns
returns c = c.loop-k.invariant.1 (omega (arith, c.requires, c.loop-k-test.false))
