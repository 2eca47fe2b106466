-- The first place of a byte in a list, or the list's length where it has none.
use Rattle.std.specs.Prelude.{ℕ, suc, Bool, true, false, List, [], ◌∷◌, eqb, take, drop}

unfoldable pub index_after : Bool → ℕ → ℕ
index_after true n = 0
index_after false n = suc n

unfoldable pub index_of : ℕ → List ℕ → ℕ
index_of b [] = 0
index_of b (x ∷ l) = index_after (eqb x b) (index_of b l)

-- what stands from `from` on and before `to`
unfoldable pub slice : {A : Type 0} → ℕ → ℕ → List A → List A
slice from to l = drop from (take to l)
