-- A check that refused: no record changes; and what was decided, under another name.
use Rattle.std.specs.Prelude.{Err, Result}
use Prim.Native.Nat.{ℕ}
use mathlib.Core.Path.{◌≡◌, sym, ap, subst, ◌∙◌}
use mathlib.Core.Option.{Option}
use mathlib.Core.List.{List}
use Rattle.settings.specs.declared.Refusal.{Refusal}
use Rattle.settings.specs.Reading.{refusal_number}
use Rattle.model.specs.declared.ThreadInfo.{ThreadInfo}
use Rattle.model.specs.Calls.{Call, Answer, refused, refusal}
use Rattle.records.specs.declared.change.Change.TheVariants as Changes
use Rattle.state.specs.declared.Sched.{Sched}
use Rattle.state.specs.Memory.{memory}
use Rattle.state.specs.State.{meant_at, Valid}
use Rattle.checks.specs.Check.{check_meant}
use Rattle.updates.specs.Pending.{Pending}
use Rattle.thread_plan.specs.declared.Decided.{Decided}
use Rattle.updates.proofs.Updating.{pending-refused}

pub refused-pending :
    (c : Call) (s : Sched) (ts : List ThreadInfo) (qs ps ls ws : List ℕ) → Valid s (memory ts qs ps ls ws) → (b : Result Unit Refusal) (x : Refusal) (r : Option ℕ) → b ≡ Err x → check_meant b ≡ r → refusal (meant_at s ts qs ls ws) c ≡ r
    → (a : Answer) → a ≡ refused (refusal_number x) → Pending c a s s 0 Changes.Keep ts qs qs ps ps ls ls ws ws
refused-pending c s ts qs ps ls ws v b x r e h k a i = pending-refused c s ts qs ps ls ws v (refusal_number x) a i (k ∙ sym h ∙ ap check_meant e)

pub decided-as :
    {A : Type 0} (answer_meant : Result A Refusal → Answer) (c : Call) (s : Sched) (ts : List ThreadInfo) (qs ps ls ws : List ℕ) (d e : Decided A) → d ≡ e
    → Pending c (answer_meant e.answer) s e.sched e.place e.change ts qs qs ps ps ls ls ws ws → Pending c (answer_meant d.answer) s d.sched d.place d.change ts qs qs ps ps ls ls ws ws
decided-as {A} answer_meant c s ts qs ps ls ws d e k h = subst (λ (x : Decided A). Pending c (answer_meant x.answer) s x.sched x.place x.change ts qs qs ps ps ls ls ws ws) (sym k) h
