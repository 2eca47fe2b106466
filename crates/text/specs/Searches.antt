-- What the places that a search finds say of a line.
use Rattle.std.specs.Prelude.{ℕ, ◌+◌, ◌-◌, Bool, true, false, cond, List, [], ◌∷◌, ltb, length, take, drop}
use Rattle.std.proofs.Math.Option.{Option, none, some}
use Rattle.text.specs.Lines.{fields}

-- what stands before a piece's last byte, if that is a line
unfoldable pub line_if : Bool → List ℕ → Option (List ℕ)
line_if false l = none
line_if true l = some (take (length l - 1) l)

-- the key where the first `=` stands at p; none where that is the end
unfoldable pub key_up_to : (p : ℕ) → List ℕ → Option (List ℕ)
key_up_to p l = cond (ltb p (length l)) (some (take p l)) none

-- the fields from `from` on, where the next comma stands at p, or none does and p is the end
unfoldable pub field_up_to : (from p : ℕ) → List ℕ → List (List ℕ)
field_up_to from p l = cond (ltb p (length l)) (take (p - from) (drop from l) ∷ fields (drop (p + 1) l)) (drop from l ∷ [])
