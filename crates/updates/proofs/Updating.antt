-- A refused call changes no record; a taken one changes one.
use Prim.Native.Nat.{ℕ, zero, suc, ◌+◌, ◌<◌, ◌≤◌}
use mathlib.Core.Path.{◌≡◌, refl, sym, ap, ap₂, ◌∙◌, subst}
use mathlib.Core.Option.{Option, none, some}
use mathlib.Core.List.{List, [], ◌∷◌, ◌++◌, map}
use native.Mathlib.Omega.{arith}
use lib.ListN.{length, take, drop, get_or, take-append-drop}
use Rattle.model.specs.declared.ThreadInfo.{ThreadInfo}
use Rattle.model.specs.Types.{ThreadRecord, State}
use Rattle.model.specs.Phases.{update}
use Rattle.model.specs.Calls.{Call, Answer, refused, refusal}
use Rattle.model.specs.Reading.{thread_meant}
use Rattle.records.specs.declared.change.Change.{Change}
use Rattle.records.specs.declared.change.Change.TheVariants as Changes
use Rattle.records.specs.Changes.{change_meant, Fits}
use Rattle.threads.specs.Slice.{blank, threads_in, Front}
use Rattle.state.specs.declared.Sched.{Sched}
use Rattle.state.specs.Memory.{memory}
use Rattle.state.specs.State.{meant_at, Valid}
use Rattle.state.specs.Done.{Done}
use Rattle.state.proofs.Doing.{done_refused}
use Rattle.updates.specs.Pending.{Pending}
use Rattle.updates.proofs.Reading.{same-threads}

update-id : (i : ℕ) (ts : List ThreadRecord) → update i (λ (t : ThreadRecord). t) ts ≡ ts
unfolding update
update-id i [] = refl
update-id zero (t ∷ ts) = refl
update-id (suc i) (t ∷ ts) = ap (λ (l : List ThreadRecord). t ∷ l) (update-id i ts)

-- the first n records stand for what they stood for, and the rest is as it was: all are as they were
pub front_same : (n : ℕ) (ts ts' : List ThreadInfo) → Front n (threads_in ts n) ts ts' → ts' ≡ ts
unfolding threads_in
front_same n ts ts' f = sym (take-append-drop n ts') ∙ ap₂ (λ (a b : List ThreadInfo). a ++ b) (same-threads (take n ts') (take n ts) f.front) f.rest ∙ take-append-drop n ts

pub keep_same : (ts ts' : List ThreadInfo) → ((n : ℕ) → 0 < n → Front n (update 0 (change_meant Changes.Keep) (threads_in ts n)) ts ts') → ts' ≡ ts
unfolding change_meant
keep_same ts ts' f = front_same 1 ts ts' (subst (λ (l : List ThreadRecord). Front 1 l ts ts') (update-id 0 (threads_in ts 1)) (f 1 (omega arith)))

pub some-record : (s : Sched) (ts : List ThreadInfo) (qs ps ls ws : List ℕ) → Valid s (memory ts qs ps ls ws) → 0 < length ts
unfolding meant_at
some-record s ts qs ps ls ws v = omega (arith, v.bounded.settings.cap_t, v.sizes.threads)

pub pending-refused :
    (c : Call) (s : Sched) (ts : List ThreadInfo) (qs ps ls ws : List ℕ) → Valid s (memory ts qs ps ls ws) → (n : ℕ) (a : Answer) → a ≡ refused n → refusal (meant_at s ts qs ls ws) c ≡ some n
    → Pending c a s s 0 Changes.Keep ts qs qs ps ps ls ls ws ws
pending-refused c s ts qs ps ls ws v n a e h =
    record {
      there = some-record s ts qs ps ls ws v;
      fits = tt;
      done = λ ts' f.
          subst (λ (l : List ThreadInfo). Done c a s s (memory ts qs ps ls ws) (memory l qs ps ls ws)) (sym (keep_same ts ts' f))
          (subst (λ (b : Answer). Done c b s s (memory ts qs ps ls ws) (memory ts qs ps ls ws)) (sym e) (done_refused c s ts qs ps ls ws v n h));
    }
