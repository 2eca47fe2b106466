-- A function of which the declared types are spelled by e. A walk over a function with large structs has e as a variable, and at the end the table's entries for it:
-- to compare two types that are spelled out, as each step does, costs more steps than antt takes.
--     fn_by g e        g, whose types name the declared types, spelled by e. `code.function` is this at `code.Mir.by_name` and `entry code.Mir.table`
--     local_ty g e k   the type of its local k.        Typed g e k w   w is a value of that type
use Prim.Native.Nat.{ℕ, zero, suc}
use mathlib.Core.List.{[], ◌∷◌, List}
use lib.Dec.{T as Holds}
use mir.Syntax.{Ty, ty_param, Fn, Local, local, ty_unit}
use mir.Inst.{map_c}
use mir.MapTy.{map_fn}
use mir.Raw.{raw}
use mir.Table.{At, spell_with}
use mir.Val.{Val, WT, has_ty}

-- a type spelled by e
abbrev by_entry : At → Ty → Ty
by_entry e = spell_with ty_param (λ τ. τ) e

abbrev pub fn_by : Fn → At → Fn
fn_by g e = map_fn (by_entry e) (map_c (λ τ. raw (by_entry e τ))) g

abbrev ty_at : ℕ → List Local → Ty
ty_at k [] = ty_unit
ty_at zero (local τ h ∷ ls) = τ
ty_at (suc k) (l ∷ ls) = ty_at k ls

abbrev pub local_ty : Fn → At → ℕ → Ty
local_ty g e k = ty_at k (fn_by g e).locals

abbrev pub Typed : Fn → At → ℕ → Val → Type 0
Typed g e k w = Holds (has_ty (local_ty g e k) w) × WT w
