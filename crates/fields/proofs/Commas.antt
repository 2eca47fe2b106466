-- The fields of a value by the places of its commas: one law for each way that the program leaves.
use Prim.Native.Nat.{ℕ, ◌+◌, ◌-◌, ◌≤◌, ◌<◌}
use mathlib.Core.Path.{◌≡◌, refl, ap, ◌∙◌}
use mathlib.Core.Bool.{Bool, true, false, cond}
use mathlib.Core.List.{List, [], ◌∷◌}
use native.Mathlib.Omega.{arith}
use lib.Dec.{eqb}
use lib.ListN.{length, take, drop, length-drop}
use lib.Seq.{take_all}
use Rattle.text.specs.Lines.{Read, bad, good, onto, fields, one, two}
use Rattle.text.specs.Searches.{field_up_to}
use Rattle.text.proofs.Found.{field-only, field_next}
use Rattle.fields.specs.Fields.{two_as_they_are}

---- their count

-- there is a field always
record Fields (fs : List (List ℕ)) : Type 0 where
  first : List ℕ
  rest : List (List ℕ)
  are : fs ≡ first ∷ rest

fields-some : (l : List ℕ) → Fields (fields l)
unfolding fields onto
fields-some [] = record { first = []; rest = []; are = refl }
fields-some (x ∷ l) = go (eqb x 44) (fields l)
  where
    go : (t : Bool) (r : List (List ℕ)) → Fields (cond t ([] ∷ r) (onto x r))
    go true r = record { first = []; rest = r; are = refl }
    go false [] = record { first = x ∷ []; rest = []; are = refl }
    go false (y ∷ r) = record { first = x ∷ y; rest = r; are = refl }

module _ (l : List ℕ) (p : ℕ) (e : fields (drop 0 l) ≡ field_up_to 0 p l) where
  pub one_only : {A : Type 0} (f : List ℕ → Read A) → length l ≤ p → one (fields l) f ≡ f l
  unfolding one
  one_only f h = ap (λ (fs : List (List ℕ)). one fs f) (field-only l 0 p e h)

  pub one_more : {A : Type 0} (f : List ℕ → Read A) → p < length l → one (fields l) f ≡ bad 6
  unfolding one
  one_more f h = ap (λ (fs : List (List ℕ)). one fs f) (field_next l 0 p e h) ∙ rw (fields-some (drop (p + 1) l)).are

  pub two_none : length l ≤ p → two (fields l) two_as_they_are ≡ bad 6
  unfolding two
  two_none h = ap (λ (fs : List (List ℕ)). two fs two_as_they_are) (field-only l 0 p e h)

  module _ (q : ℕ) (e2 : fields (drop (p + 1) l) ≡ field_up_to (p + 1) q l) (h : p < length l) where
    pub two_more : q < length l → two (fields l) two_as_they_are ≡ bad 6
    unfolding two
    two_more g =
        ap (λ (fs : List (List ℕ)). two fs two_as_they_are) (field_next l 0 p e h) ∙
        rw (field_next l (p + 1) q e2 g, (fields-some (drop (q + 1) l)).are)

    pub two_just : length l ≤ q → two (fields l) two_as_they_are ≡ good (take p l, take (length l - (p + 1)) (drop (p + 1) l))
    unfolding two
    two_just g =
        let n : p - 0 ≡ p = omega arith in
        let behind : take (length l - (p + 1)) (drop (p + 1) l) ≡ drop (p + 1) l = take_all (length l - (p + 1)) (drop (p + 1) l) (rw length-drop (omega arith)) in
        ap (λ (fs : List (List ℕ)). two fs two_as_they_are) (field_next l 0 p e h) ∙ rw (n, field-only l (p + 1) q e2 g, behind)
