-- What stands in the front of the buffer, and what a script's first line says.
use Rattle.std.specs.Prelude as Std
use Prim.Native.Nat.{ℕ, ◌≤◌}
use mathlib.Core.Path.{◌≡◌, ap, ◌∙◌}
use mathlib.Core.Bool.{true, not}
use mathlib.Core.List.{List}
use native.Mathlib.Omega.{arith}
use lib.Dec.{eqb}
use lib.ListN.{take, length-take}
use Rattle.text.specs.Bytes.{all, number}
use Rattle.text.specs.Reading.{number_meant}
use Rattle.trace_read.specs.Script.{or_zero, count_of, Read}
use Rattle.trace_read.proofs.Dividing.{said-is}

-- what stands in the front of the buffer is the line
pub read-front : (says : List ℕ → Type 0) (l : List ℕ) (n : ℕ) → n ≤ 128 → all (λ x. not (eqb x 10)) (take n l) ≡ true → says (take n l) → Read says
read-front says l n h a s = record { bytes = take n l; few = rw length-take (omega arith); unended = a; said = s }

pub count-said : (l : List ℕ) (x : Std.Option ℕ) (n : ℕ) → number_meant x ≡ number l → n ≡ or_zero x → n ≡ count_of l
unfolding count_of
count-said l x n h e = e ∙ ap or_zero (said-is x (number l) h)
