-- One core's marks written in the arrays: the definition's `update` of that core.
use Prim.Native.Nat.{ℕ, zero, suc, ◌<◌}
use mathlib.Core.Path.{◌≡◌, refl, sym, ap, ◌∙◌, subst}
use mathlib.Core.Bool.{Bool, true, false}
use mathlib.Core.List.{List, [], ◌∷◌}
use native.Mathlib.Omega.{arith}
use lib.Dec.{eqb}
use lib.ListN.{length, get_or}
use lib.Seq.{ext_get_or}
use borrow.Author.Tests.{eqb-true, eqb-false}
use Rattle.model.specs.Phases.{update}
use Rattle.model.proofs.PhaseLaws.{length-update}
use Rattle.state.specs.State.{firsts}
use Rattle.state.proofs.Firsts.{length-firsts, get_d-firsts}

-- element by element
get_d-update : {A : Type 0} (f : A → A) (i : ℕ) (xs : List A) (j : ℕ) (d : A) → (j ≡ i → ⊥) → get_or (update i f xs) j d ≡ get_or xs j d
unfolding update
get_d-update f i [] j d n = refl
get_d-update f zero (x ∷ xs) zero d n = absurd (n refl)
get_d-update f zero (x ∷ xs) (suc j) d n = refl
get_d-update f (suc i) (x ∷ xs) zero d n = refl
get_d-update f (suc i) (x ∷ xs) (suc j) d n = get_d-update f i xs j d (λ e. n (ap suc e))

get_d-update-same : {A : Type 0} (f : A → A) (i : ℕ) (xs : List A) (d : A) → i < length xs → get_or (update i f xs) i d ≡ f (get_or xs i d)
unfolding update
get_d-update-same f i [] d h = absurd (omega arith)
get_d-update-same f zero (x ∷ xs) d h = refl
get_d-update-same f (suc i) (x ∷ xs) d h = get_d-update-same f i xs d (omega arith)

-- core i changed by f, the others kept
pub firsts-update : {A : Type 0} (g h : ℕ → A) (f : A → A) (n i : ℕ) (d : A) → i < n → h i ≡ f (g i) → ((j : ℕ) → (j ≡ i → ⊥) → h j ≡ g j) → firsts h n ≡ update i f (firsts g n)
firsts-update g h f n i d l at other =
    ext_get_or d (firsts h n) (update i f (firsts g n)) (length-firsts h n ∙ sym (length-update f i (firsts g n) ∙ length-firsts g n)) (λ j k. go j (subst (λ (m : ℕ). j < m) (length-firsts h n) k) (eqb j i) refl)
  where
    go : (j : ℕ) → j < n → (b : Bool) → eqb j i ≡ b → get_or (firsts h n) j d ≡ get_or (update i f (firsts g n)) j d
    go j k true e =
        subst (λ (m : ℕ). get_or (firsts h n) m d ≡ get_or (update i f (firsts g n)) m d) (sym (eqb-true j i e))
        (get_d-firsts h n i d l ∙ at ∙ sym (get_d-update-same f i (firsts g n) d (subst (λ (m : ℕ). i < m) (sym (length-firsts g n)) l) ∙ ap f (get_d-firsts g n i d l)))
    go j k false e = get_d-firsts h n j d k ∙ other j (eqb-false j i e) ∙ sym (get_d-update f i (firsts g n) j d (eqb-false j i e) ∙ get_d-firsts g n j d k)
