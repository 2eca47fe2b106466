-- of n cores with these marks, those behind the last are idle
use mathlib.Core.Path.{◌≡◌}
use mathlib.Core.Bool.{Bool}
use mathlib.Core.List.{List}
use Prim.Native.Nat.{ℕ, ◌≤◌}
use Rattle.model.specs.declared.CoreState as Program
use Rattle.model.specs.Calls.{idle_core}
use Rattle.state.specs.State.{core_from}
use Rattle.questions.proofs.CoreLaws.{from}
use Rattle.questions.proofs.cores.core_of.Given as goal

abbrev pub Board : List Program.CoreState → (ex bl yi pr : List Bool) → ℕ → Type 0
Board a ex bl yi pr n = (j : ℕ) → n ≤ j → core_from a ex bl yi pr j ≡ idle_core

abbrev pub invariant-loop-i : goal.invariant-loop-i
invariant-loop-i l = (ex bl yi pr : List Bool) (n : ℕ) → Board l.state-items ex bl yi pr n → from l.tid.0 (core_from l.state-items ex bl yi pr) n 0 ≡ from l.tid.0 (core_from l.state-items ex bl yi pr) n l.i
