-- A type that is passed by value, with the laws that symbolic execution asks of it: its machine value, that owning shows it and that it owns nothing, and that a contract says nothing of it at exit.
--     ByVal            the record.        struct-by, enum-by, array-by, uint-by, unit-by      of a declared struct, of a declared enum, of an array, of an unsigned integer, of `()`
--                      For a declared type and an array the last two arguments are `(λ x. tt)` and `(λ x f. refl)`
--     Known B          a value that the function has: its denotation, its machine value, and that the one is the other's.        known      of a parameter
-- Assumes `Logic` where it makes one.
use mathlib.Core.Path.{◌≡◌, refl}
use Prim.Native.Nat.{ℕ}
use mathlib.Core.List.{[], ◌∷◌}
use seplogic.Ra.Ura.{Ura}
use mir.Syntax.{Width}
use mir.Val.{Val, vint, vunit}
use base.Fml.{ftrue}
use types.Logic.{Logic}
use denote.RattleType.{RattleType}
use denote.Laws.{Is, Tells, Makes, Lawful}
use denote.Exit.{yes, Last, left}
use denote.Plain.{UInt, uint_Tells, uint_Lawful, uint_Makes, Nothing, Nothing-Tells, Nothing-Lawful, Nothing-Makes}
use denote.Struct.Struct.{Plains}
use denote.Struct.Declared as SD
use denote.Struct.Laws as LL
use denote.Enum.Declared as ED
use denote.Enum.Enum.{Few, Plainss}
use denote.Enum.Laws as EL
use denote.Array.{Array, array_vals, Array-Tells, Array-Lawful, Array-Makes}
use denote.Steps.{only}

pub record ByVal {M : Type 1} {𝓤 : Ura M} (𝓛 : Logic 𝓤) : Type 2 where
  pub R : RattleType
  pub mach : R.Denot → Val
  pub tells : Tells R (Is R) (λ x. mach x ∷ [])
  pub lawful : Lawful 𝓛 R
  pub makes : Makes 𝓛 R (Is R)
  pub last : (x : R.Denot) → Last (R.exit yes) x
  pub silent : (x : R.Denot) (f : Last (R.exit yes) x) → left (R.exit yes) x f ≡ ftrue

module _ {M : Type 1} {𝓤 : Ura M} (𝓛 : Logic 𝓤) where
  abbrev pub struct-by : (T : SD.Declared) → LL.Laws T → Plains (SD.fields T) → ((x : (SD.row T).Denot) → Last ((SD.row T).exit yes) x) → ((x : (SD.row T).Denot) (f : Last ((SD.row T).exit yes) x) → left ((SD.row T).exit yes) x f ≡ ftrue) → ByVal 𝓛
  struct-by T L pl e s = record { R = SD.row T; mach = LL.val T L; tells = LL.tells T L; lawful = LL.lawful T L 𝓛; makes = LL.makes T pl 𝓛; last = e; silent = s }

  abbrev pub enum-by : (T : ED.Declared) → EL.Laws T → Plainss (ED.variants T) → Few (ED.shape T) → ((x : (ED.row T).Denot) → Last ((ED.row T).exit yes) x) → ((x : (ED.row T).Denot) (f : Last ((ED.row T).exit yes) x) → left ((ED.row T).exit yes) x f ≡ ftrue) → ByVal 𝓛
  enum-by T L pl few e s = record { R = ED.row T; mach = EL.val T L; tells = EL.tells T L; lawful = EL.lawful T L 𝓛 few; makes = EL.makes T pl 𝓛; last = e; silent = s }

  abbrev pub uint-by : Width → ByVal 𝓛
  uint-by w = record { R = UInt w; mach = vint w; tells = uint_Tells w; lawful = uint_Lawful 𝓛 w; makes = uint_Makes 𝓛 w; last = λ x. tt; silent = λ x f. refl }

  abbrev pub unit-by : ByVal 𝓛
  unit-by = record { R = Nothing; mach = λ x. vunit; tells = Nothing-Tells; lawful = Nothing-Lawful 𝓛; makes = Nothing-Makes 𝓛; last = λ x. tt; silent = λ x f. refl }

  -- an array of n elements of such a type
  abbrev pub array-by : (B : ByVal 𝓛) (n : ℕ) → ((x : (Array B.R n).Denot) → Last ((Array B.R n).exit yes) x) → ((x : (Array B.R n).Denot) (f : Last ((Array B.R n).exit yes) x) → left ((Array B.R n).exit yes) x f ≡ ftrue) → ByVal 𝓛
  array-by B n e s = record {
    R = Array B.R n;
    mach = λ xs. only (array_vals (λ x. B.mach x ∷ []) xs);
    tells = Array-Tells B.R (λ x. B.mach x ∷ []) B.tells n;
    lawful = Array-Lawful 𝓛 B.R B.lawful n;
    makes = Array-Makes 𝓛 B.R B.makes n;
    last = e;
    silent = s;
  }

-- a value of such a type that the function has: its denotation, its machine value, and that the one is the other's.        known      of a parameter
pub record Known {M : Type 1} {𝓤 : Ura M} {𝓛 : Logic 𝓤} (B : ByVal 𝓛) : Type 0 where
  pub x : B.R.Denot
  pub v : Val
  pub is : Is B.R x (v ∷ [])

abbrev pub known : {M : Type 1} {𝓤 : Ura M} {𝓛 : Logic 𝓤} (B : ByVal 𝓛) (x : B.R.Denot) → Is B.R x (B.mach x ∷ []) → Known B
known B x is = record { x = x; v = B.mach x; is = is }
