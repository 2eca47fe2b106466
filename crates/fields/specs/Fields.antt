-- Two comma fields.
use Rattle.std.specs.Prelude.{ℕ, List}
use Rattle.std.proofs.Math.Option.{Option}
use Rattle.text.specs.Lines.{Read, good, both, needed, perhaps}

-- what `join`, `prio` and `force` need of their fields, in order
abbrev pub pair : {A B : Type 0} → A → B → A × B
pair a b = (a, b)

abbrev pub two_as_they_are : List ℕ → List ℕ → Read (List ℕ × List ℕ)
two_as_they_are x y = good (pair x y)

abbrev pub two_needed : List ℕ → List ℕ → Read (ℕ × ℕ)
two_needed x y = both pair (needed x) (needed y)

abbrev pub needed_perhaps : List ℕ → List ℕ → Read (ℕ × Option ℕ)
needed_perhaps x y = both pair (needed x) (perhaps y)
