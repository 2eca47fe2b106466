-- What no refusal says of the conditions: each of them is false.
use Prim.Native.Nat.{ℕ}
use mathlib.Core.Path.{◌≡◌, refl}
use mathlib.Core.Bool.{Bool, true, false}
use mathlib.Core.Option.{Option, none}
use Rattle.model.specs.Calls.{check}

pub check-none : (n : ℕ) (b : Bool) (r : Option ℕ) → check n b r ≡ none → b ≡ false
unfolding check
check-none n true r e = cc
check-none n false r e = refl

pub check-rest : (n : ℕ) (b : Bool) (r : Option ℕ) → check n b r ≡ none → r ≡ none
unfolding check
check-rest n true r e = cc
check-rest n false r e = e
