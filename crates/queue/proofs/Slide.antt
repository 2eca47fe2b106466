-- The entries after k copied one place down, over the one at k.
-- Assumes nothing.
use Prim.Native.Nat.{ℕ, zero, suc, ◌+◌, ◌-◌, ◌≤◌}
use mathlib.Core.Path.{◌≡◌, ap, ◌∙◌}
use mathlib.Core.List.{List, [], ◌∷◌, ◌++◌}
use native.Mathlib.Numerals.{add-one}
use native.Mathlib.Nat.{zero-add, suc-add}
use native.Mathlib.Omega.{arith}
use lib.ListN.{length, take, drop, length-drop}
use lib.Seq.{paste, take-nil}
use Rattle.std.proofs.lemmas.List.Edits.{take-paste, drop-paste}
use Rattle.queue.specs.Ready.{remove_at}

removed : (k m : ℕ) (l : List ℕ) → take k l ++ take m (drop (suc k) l) ≡ remove_at k (take (suc (k + m)) l)
removed zero m [] = take-nil m
removed zero m (x ∷ l) = rw zero-add
removed (suc k) m [] = take-nil m
removed (suc k) m (x ∷ l) = rw suc-add (ap (λ (r : List ℕ). x ∷ r) (removed k m l))

module _ (l : List ℕ) (k n m : ℕ) (e : n ≡ k + 1 + m) (h : n ≤ length l) where
  few : m ≤ length (drop (k + 1) l)
  few = simp length-drop (omega arith)

  pub slid_front : take (n - 1) (paste l k (drop (k + 1) l) m) ≡ remove_at k (take n l)
  slid_front =
      let a : n - 1 ≡ k + m = omega arith in
      let b : n ≡ suc (k + m) = omega arith in
      rw a (take-paste l k (drop (k + 1) l) m (omega arith) few ∙ rw (b, add-one) (removed k m l))

  pub slid_behind : drop (n - 1) (paste l k (drop (k + 1) l) m) ≡ drop (n - 1) l
  slid_behind =
      let a : n - 1 ≡ k + m = omega arith in
      rw a (drop-paste l k (drop (k + 1) l) m (omega arith) few)
