-- A thread in the queue: how many stand before it, and what taking the front and joining the back do to that.
use Prim.Native.Nat.{ℕ, zero, suc, ◌+◌, ◌≤◌, ◌<◌}
use mathlib.Core.Path.{◌≡◌, refl, sym, ap, ◌∙◌, subst}
use mathlib.Core.Bool.{Bool, true, false, cond, ◌||◌}
use mathlib.Core.Option.{Option, none, some}
use mathlib.Core.List.{List, [], ◌∷◌, ◌++◌}
use native.Mathlib.Omega.{arith}
use lib.Dec.{eqb}
use lib.ListN.{get_elem?}
use borrow.Author.Tests.{eq-eqb}
use Rattle.model.specs.Phases.{without}
use Rattle.model.specs.Calls.{elem}
use Rattle.model.proofs.PhaseLaws.{or-true-l, or_true_r, not-both}

-- the number of entries before the first x
pub ahead : ℕ → List ℕ → ℕ
ahead x [] = 0
ahead x (h ∷ q) = cond (eqb h x) 0 (suc (ahead x q))

pub elem-append : (x : ℕ) (q r : List ℕ) → elem x q ≡ true → elem x (q ++ r) ≡ true
unfolding elem
elem-append x [] r e = absurd (not-both false e refl)
elem-append x (h ∷ q) r e = go (eqb h x) (λ k. elem-append x q r k) e
  where
    go : (b : Bool) → (elem x q ≡ true → elem x (q ++ r) ≡ true) → b || elem x q ≡ true → b || elem x (q ++ r) ≡ true
    go true ih k = refl
    go false ih k = ih k

pub ahead-append : (x : ℕ) (q r : List ℕ) → elem x q ≡ true → ahead x (q ++ r) ≡ ahead x q
unfolding elem ahead
ahead-append x [] r e = absurd (not-both false e refl)
ahead-append x (h ∷ q) r e = go (eqb h x) (λ k. ahead-append x q r k) e
  where
    go : (b : Bool) → (elem x q ≡ true → ahead x (q ++ r) ≡ ahead x q) → b || elem x q ≡ true → cond b 0 (suc (ahead x (q ++ r))) ≡ cond b 0 (suc (ahead x q))
    go true ih k = refl
    go false ih k = ap suc (ih k)

pub elem-front : (x h : ℕ) (q : List ℕ) → eqb h x ≡ false → elem x (h ∷ q) ≡ true → elem x q ≡ true
unfolding elem
elem-front x h q n e = go (eqb h x) n e
  where
    go : (b : Bool) → b ≡ false → b || elem x q ≡ true → elem x q ≡ true
    go true p k = absurd (not-both true refl p)
    go false p k = k

pub ahead-front : (x h : ℕ) (q : List ℕ) → eqb h x ≡ false → ahead x (h ∷ q) ≡ suc (ahead x q)
unfolding ahead
ahead-front x h q n = rw n

pub elem_at : (x p : ℕ) (q : List ℕ) → get_elem? q p ≡ some x → elem x q ≡ true
unfolding elem
elem_at x p [] e = cc
elem_at x zero (h ∷ q) e = or-true-l _ _ (eq-eqb h x (cc))
elem_at x (suc p) (h ∷ q) e = or_true_r (eqb h x) _ (elem_at x p q e)

pub ahead-at : (x p : ℕ) (q : List ℕ) → get_elem? q p ≡ some x → ahead x q ≤ p
unfolding ahead
ahead-at x p [] e = omega arith
ahead-at x zero (h ∷ q) e = rw (eq-eqb h x (cc)) (omega arith)
ahead-at x (suc p) (h ∷ q) e = go (eqb h x) (ahead-at x p q e)
  where
    go : (b : Bool) → ahead x q ≤ p → cond b 0 (suc (ahead x q)) ≤ suc p
    go true ih = omega arith
    go false ih = omega arith
