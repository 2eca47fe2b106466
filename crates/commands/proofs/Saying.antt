-- A call line by the place of its first `=`.
use Prim.Native.Nat.{ℕ, ◌+◌, ◌-◌, ◌≤◌, ◌<◌}
use mathlib.Core.Path.{◌≡◌, sym, ap, ◌∙◌}
use mathlib.Core.Option.{Option}
use mathlib.Core.List.{List}
use native.Mathlib.Omega.{arith}
use lib.ListN.{length, take, drop, length-drop}
use lib.Seq.{take_all}
use Rattle.text.specs.Bytes.{lookup}
use Rattle.text.specs.Lines.{Read, bad, before_eq, after_eq, trim, value}
use Rattle.text.specs.Searches.{key_up_to}
use Rattle.text.proofs.Found.{key-missing, key-there}
use Rattle.model.specs.Calls.{Call}
use Rattle.script.specs.Script.{CallKey, call_keys, calling, call_line}

module _ (l : List ℕ) (p : ℕ) (key : before_eq l ≡ key_up_to p l) where
  pub no_key : length l ≤ p → call_line l ≡ bad 6
  unfolding call_line calling
  no_key h = rw (key-missing call_keys l p key h)

  pub keyed :
      p < length l → after_eq l ≡ drop (p + 1) l → (k : Option CallKey) (v : List ℕ) (r : Read Call) → r ≡ calling k v → k ≡ lookup (take p l) call_keys
      → v ≡ trim (take (length l - (p + 1)) (drop (p + 1) l)) → r ≡ call_line l
  unfolding call_line value
  keyed h after k v r e ek ev =
      let whole : take (length l - (p + 1)) (drop (p + 1) l) ≡ drop (p + 1) l = take_all (length l - (p + 1)) (drop (p + 1) l) (rw length-drop (omega arith)) in
      e ∙ ap (λ (x : Option CallKey). calling x v) (ek ∙ sym (key-there call_keys l p key h)) ∙ ap (calling _) (ev ∙ ap trim (whole ∙ sym after))
