-- What calls hand on: a refusal, by `?`; and a core's thread, with 0 where there is none.
use Rattle.std.specs.Prelude as Std
use Rattle.std.specs.Prelude.{Ok, Err, Some, None, Result, unwrap_or}
use Rattle.std.specs.Result.{IsErrAnd}
use mathlib.Core.Path.{◌≡◌, refl, sym, ap, ◌∙◌}
use Rattle.settings.specs.declared.Refusal.{Refusal}
use Rattle.model.specs.declared.Tid.{Tid}
use Rattle.model.specs.Calls.{tid_of}
use Rattle.model.specs.Reading.{option_tid_meant}
use Rattle.checks.specs.Check.{check_meant}

pub refusal-passed : (b r : Result Unit Refusal) (x : Refusal) → b ≡ Err x → IsErrAnd r (λ y. y ≡ x) → check_meant r ≡ check_meant b
refusal-passed b (Ok u) x e h = absurd h
refusal-passed b (Err y) x e h = ap (λ (z : Refusal). check_meant (Err z)) h ∙ sym (ap check_meant e)

pub tid-or-zero : (o : Std.Option Tid) → (unwrap_or o (record { 0 = 0 })).0 ≡ tid_of (option_tid_meant o)
unfolding tid_of
tid-or-zero None = refl
tid-or-zero (Some t) = refl
