-- From a check's answer to the call's promise.
use Rattle.std.specs.Prelude.{Ok, Err, Result}
use Prim.Native.Nat.{ℕ}
use mathlib.Core.Path.{◌≡◌, sym, ap, ◌∙◌, subst}
use mathlib.Core.Option.{Option, none}
use mathlib.Core.List.{List}
use native.Mathlib.Omega.{arith}
use Rattle.settings.specs.declared.Refusal.{Refusal}
use Rattle.settings.specs.Reading.{refusal_number}
use Rattle.model.specs.declared.ThreadInfo.{ThreadInfo}
use Rattle.model.specs.Calls.{Call, Answer, refused, ok, refusal}
use Rattle.model.specs.Reading.{call_answer_meant}
use Rattle.state.specs.declared.Sched.{Sched}
use Rattle.state.specs.Memory.{memory}
use Rattle.state.specs.State.{meant_at, Valid}
use Rattle.state.specs.Done.{Done}
use Rattle.state.proofs.Doing.{done_refused}
use Rattle.checks.specs.Check.{check_meant}

-- a check that passed: the call is not refused
pub taken_none : (a : Result Unit Refusal) (r : Option ℕ) → a ≡ Ok tt → check_meant a ≡ r → r ≡ none
taken_none a r e h = sym h ∙ ap check_meant e

pub taken-ok : (a : Result Unit Refusal) → a ≡ Ok tt → call_answer_meant a ≡ ok
taken-ok a e = ap call_answer_meant e

pub ok-unrefused : (a : Answer) → a ≡ ok → (n : ℕ) → a ≡ refused n → ⊥
ok-unrefused a e n f = let z : ◌≡◌ {A = ℕ} 0 1 = cc in omega arith

-- a check that refused: nothing is done
pub refused-done :
    (c : Call) (s : Sched) (ts : List ThreadInfo) (qs ps ls ws : List ℕ) → Valid s (memory ts qs ps ls ws) → (a : Result Unit Refusal) (x : Refusal) (r : Option ℕ) → a ≡ Err x → check_meant a ≡ r
    → refusal (meant_at s ts qs ls ws) c ≡ r → Done c (call_answer_meant a) s s (memory ts qs ps ls ws) (memory ts qs ps ls ws)
refused-done c s ts qs ps ls ws v a x r e h k =
    subst (λ (y : Answer). Done c y s s (memory ts qs ps ls ws) (memory ts qs ps ls ws)) (sym (ap call_answer_meant e)) (done_refused c s ts qs ps ls ws v (refusal_number x) (k ∙ sym h ∙ ap check_meant e))
