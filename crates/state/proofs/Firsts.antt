-- The first n values of a function, in order: length, elements, one more.
use Prim.Native.Nat.{ℕ, zero, suc, ◌<◌}
use mathlib.Core.Path.{◌≡◌, refl, sym, ap, ap₂, ◌∙◌, subst}
use mathlib.Core.Bool.{Bool, true, false}
use mathlib.Core.Logic.{◌≢◌}
use borrow.Author.Tests.{eqb-true, eqb-false}
use mathlib.Core.List.{List, [], ◌∷◌, ◌++◌}
use native.Mathlib.Omega.{arith}
use lib.ListN.{length, get_or, length-append, get_or-append}
use lib.Seq.{get_or_at}
use lib.Dec.{eqb}
use Rattle.model.specs.Types.{Core}
use Rattle.model.specs.Calls.{core_at, idle_core}
use Rattle.model.proofs.LoopLaws.{core_at-get_d}
use Rattle.state.specs.State.{firsts}

pub length-firsts : {A : Type 0} (g : ℕ → A) (n : ℕ) → length (firsts g n) ≡ n
unfolding firsts
length-firsts g zero = refl
length-firsts g (suc n) = length-append (firsts g n) (g n ∷ []) ∙ omega (arith, length-firsts g n)

pub get_d-firsts : {A : Type 0} (g : ℕ → A) (n i : ℕ) (d : A) → i < n → get_or (firsts g n) i d ≡ g i
unfolding firsts
get_d-firsts g zero i d h = absurd (omega arith)
get_d-firsts g (suc n) i d h = go (eqb i n) refl (λ l. get_d-firsts g n i d l)
  where
    go : (b : Bool) → eqb i n ≡ b → (i < n → get_or (firsts g n) i d ≡ g i) → get_or (firsts g n ++ (g n ∷ [])) i d ≡ g i
    go true e r = get_or_at (firsts g n) (g n) [] d i (length-firsts g n ∙ sym (eqb-true i n e)) ∙ ap g (sym (eqb-true i n e))
    go false e r =
        let l : i < n = (let z : i ≢ n = eqb-false i n e in omega arith) in
        get_or-append (firsts g n) (g n ∷ []) d i (subst (λ (m : ℕ). i < m) (sym (length-firsts g n)) l) ∙ r l

pub core_at-firsts : (g : ℕ → Core) (n i : ℕ) → i < n → core_at (firsts g n) i ≡ g i
core_at-firsts g n i h = core_at-get_d (firsts g n) i ∙ get_d-firsts g n i idle_core h

-- functions that agree on the first n numbers
pub firsts_same : {A : Type 0} (f g : ℕ → A) (n : ℕ) → ((i : ℕ) → i < n → f i ≡ g i) → firsts f n ≡ firsts g n
unfolding firsts
firsts_same f g zero h = refl
firsts_same f g (suc n) h = ap₂ (λ (l : List _) (x : _). l ++ (x ∷ [])) (firsts_same f g n (λ i l. h i (omega arith))) (h n (omega arith))
