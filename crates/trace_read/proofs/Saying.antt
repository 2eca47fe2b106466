-- What the fields say, by the code.
use Rattle.std.specs.Prelude as Std
use Rattle.std.specs.Prelude.{Some, None}
use Prim.Native.Nat.{ℕ, ◌≤◌}
use mathlib.Core.Path.{◌≡◌, sym, ap}
use mathlib.Core.List.{List}
use Rattle.std.proofs.lemmas.List.{get_or_past}
use Rattle.trace_read.specs.declared.Line.{Line}
use Rattle.trace_read.specs.Script.{codes, line_said}

-- a code that there is not
pub code_other : (f : List (Std.Option ℕ)) (code : ℕ) → 12 ≤ code → None ≡ line_said f code
unfolding line_said
code_other f code h = sym (ap (λ (says : List (Std.Option ℕ) → Std.Option Line). says f) (get_or_past codes code (λ f. None) h))
