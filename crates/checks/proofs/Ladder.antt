-- A ladder of early returns against a chain of checks: a test that holds gives its number, one that fails leaves it to the rest.
use Prim.Native.Nat.{ℕ}
use mathlib.Core.Path.{◌≡◌}
use mathlib.Core.Bool.{Bool, true, false, ◌||◌}
use mathlib.Core.Option.{Option, some}
use Rattle.model.specs.Calls.{check}

pub hit : (n : ℕ) (b : Bool) (r : Option ℕ) → b ≡ true → some n ≡ check n b r
unfolding check
hit n b r e = rw e

pub pass : (n : ℕ) (b : Bool) (r x : Option ℕ) → b ≡ false → x ≡ r → x ≡ check n b r
unfolding check
pass n b r x e h = rw e h

pub or-first : (a b : Bool) → a ≡ true → a || b ≡ true
or-first a b e = rw e

pub or-second : (a b : Bool) → a ≡ false → b ≡ true → a || b ≡ true
or-second a b e f = rw (e, f)

pub or-none : (a b : Bool) → a ≡ false → b ≡ false → a || b ≡ false
or-none a b e f = rw (e, f)
