-- Small facts that the walks share..
--     index-fits   the number that indexing makes of an index, i times an element's size, fits a usize, where the slice has room
--     settled      a callee returned the machine value w for r, and r is z: then w is z's machine value, and z's relation holds at it
-- Assumes nothing.
use mathlib.Core.Path.{◌≡◌, ap, subst}
use Prim.Native.Nat.{ℕ, ◌<◌, ◌*◌, ◌^◌}
use mathlib.Core.List.{[], ◌∷◌}
use native.Mathlib.Nat.{le_of_lt, lt_of_le_of_lt, mul-le-mul_right}
use native.Mathlib.Omega.{arith}
use mir.Val.{Val}
use denote.RattleType.{RattleType}
use denote.Laws.{Is, Tells}
use denote.Steps.{only}

pub index-fits : (s i n : ℕ) → i < n → n * s < 2 ^ 63 → i * s < 2 ^ 64
index-fits s i n l room =
    let small : i * s < 2 ^ 63 = lt_of_le_of_lt (mul-le-mul_right s (le_of_lt l)) room in
    omega arith

module _ (R : RattleType) (val : R.Denot → Val) (tells : Tells R (Is R) (λ d. val d ∷ [])) (r z : R.Denot) (w : Val) (e : r ≡ z) (is : Is R r (w ∷ [])) where
  is-z : Is R z (w ∷ [])
  is-z = subst (λ (d : R.Denot). Is R d (w ∷ [])) e is

  pub settled : w ≡ val z
  settled = ap only (tells z (w ∷ []) is-z)

  pub settled_is : Is R z (val z ∷ [])
  settled_is = subst (Is R z) (tells z (w ∷ []) is-z) is-z
