-- `firsts f n l`, of `specs/`: what a loop in place makes of a list, one element at a time.
-- Assumes nothing.
use mathlib.Core.Path.{◌≡◌, refl, ap}
use Prim.Native.Nat.{ℕ, zero, suc, ◌+◌, ◌<◌}
use native.Mathlib.Nat.{not-suc-le-zero, le_of_suc-le-suc}
use native.Mathlib.Numerals.{add-one}
use mathlib.Core.List.{List, [], ◌∷◌}
use lib.ListN.{length, get_or, set, drop}
use Rattle.walkkit.specs.Firsts.{firsts}

module _ {X : Type 0} where
  pub length-firsts : (f : ℕ → X → X) (n : ℕ) (l : List X) → length (firsts f n l) ≡ length l
  unfolding firsts
  length-firsts f zero l = refl
  length-firsts f (suc n) [] = refl
  length-firsts f (suc n) (x ∷ l) = ap suc (length-firsts (λ i. f (suc i)) n l)

  -- the element that is next is still as it was
  pub get_d-firsts : (f : ℕ → X → X) (n : ℕ) (l : List X) (d : X) → get_or (firsts f n l) n d ≡ get_or l n d
  unfolding firsts
  get_d-firsts f zero l d = refl
  get_d-firsts f (suc n) [] d = refl
  get_d-firsts f (suc n) (x ∷ l) d = get_d-firsts (λ i. f (suc i)) n l d

  suc-firsts : (f : ℕ → X → X) (n : ℕ) (l : List X) (d : X) → n < length l → firsts f (suc n) l ≡ set (firsts f n l) n (f n (get_or l n d))
  unfolding firsts
  suc-firsts f n [] d h = absurd (not-suc-le-zero h)
  suc-firsts f zero (x ∷ l) d h = refl
  suc-firsts f (suc n) (x ∷ l) d h = ap (λ (k : List X). f 0 x ∷ k) (suc-firsts (λ i. f (suc i)) n l d (le_of_suc-le-suc h))

  -- one more, as the loop stores it: what it reads is the element of the list so far
  pub firsts-next : (f : ℕ → X → X) (n : ℕ) (l : List X) (d : X) → n < length l → set (firsts f n l) n (f n (get_or (firsts f n l) n d)) ≡ firsts f (n + 1) l
  firsts-next f n l d h = rw (get_d-firsts, add-one, suc-firsts f n l d)

  pub firsts-zero : (f : ℕ → X → X) (l : List X) → firsts f 0 l ≡ l
  unfolding firsts
  firsts-zero f l = refl

  -- what stands behind the first n is as it was
  pub drop-firsts : (f : ℕ → X → X) (n : ℕ) (l : List X) → drop n (firsts f n l) ≡ drop n l
  unfolding firsts
  drop-firsts f zero l = refl
  drop-firsts f (suc n) [] = refl
  drop-firsts f (suc n) (x ∷ l) = drop-firsts (λ i. f (suc i)) n l
