-- How a call's promise is made: refused, or taken with the state's equation and what fits; that the counters stay within bounds is the definition's.
use Prim.Native.Nat.{ℕ}
use mathlib.Core.Path.{◌≡◌, refl, sym, subst}
use mathlib.Core.Option.{none, some}
use mathlib.Core.List.{List, map}
use lib.ListN.{length, take}
use Rattle.model.specs.Invariants.{Bounded}
use Rattle.model.specs.declared.ThreadInfo.{ThreadInfo}
use Rattle.model.specs.Types.{ThreadRecord, State}
use Rattle.model.specs.Calls.{Call, Answer, refused, refusal, accept, stepped, step}
use Rattle.model.proofs.Bounded.{bounded-accept}
use Rattle.state.specs.declared.Sched.{Sched}
use Rattle.state.specs.Memory.{memory}
use Rattle.state.specs.State.{states_of, packed, meant_at, Sizes, Rings, MarksOK, Valid}
use Rattle.state.specs.Done.{Frame, Done}

module _ (c : Call) (s : Sched) (ts : List ThreadInfo) (qs ps ls ws : List ℕ) (v : Valid s (memory ts qs ps ls ws)) where
  abbrev M : State
  M = meant_at s ts qs ls ws

  pub done_refused : (n : ℕ) → refusal M c ≡ some n → Done c (refused n) s s (memory ts qs ps ls ws) (memory ts qs ps ls ws)
  unfolding step stepped
  done_refused n e =
      record {
        state = rw e;
        answer = rw e;
        valid = v;
        same = λ m k. record { sched = refl; threads = refl; queue = refl; prios = refl; log = refl; lanes = refl };
        frame = record { threads = refl; queue = refl; prios = refl; log = refl; lanes = refl; ticks = λ i l. refl; places = λ i l. refl };
      }

  -- a taken call never answers with a refusal
  abbrev Unrefused : Answer → Type 0
  Unrefused a = (n : ℕ) → a ≡ refused n → ⊥

  pub done-taken :
      (a : Answer) (s' : Sched) (ts' : List ThreadInfo) (qs' ps' ls' ws' : List ℕ) → refusal M c ≡ none → meant_at s' ts' qs' ls' ws' ≡ (accept M c).state → a ≡ (accept M c).answer → Unrefused a
      → Sizes s'.capacities s'.cores s'.threads s'.queued (memory ts' qs' ps' ls' ws') → Rings s'.capacities s'.cores s'.log s'.lanes ls' ws'
      → MarksOK s'.cores (states_of s'.states) s'.marks → s'.states ≡ packed (states_of s'.states) → length s'.ticks ≡ 8
      → take s'.threads ps' ≡ map (λ (t : ThreadRecord). t.priority) (meant_at s' ts' qs' ls' ws').accounts.threads → Frame s s' (memory ts qs ps ls ws) (memory ts' qs' ps' ls' ws')
      → Done c a s s' (memory ts qs ps ls ws) (memory ts' qs' ps' ls' ws')
  unfolding step stepped
  done-taken a s' ts' qs' ps' ls' ws' e st an un si ri ma wo ti pr fr =
      record {
        state = rw e st;
        answer = rw e an;
        valid = record { sizes = si; rings = ri; marks = ma; words = wo; ticks = ti; priorities = pr; bounded = subst Bounded (sym st) (bounded-accept M c e v.bounded) };
        same = λ n k. absurd (un n k);
        frame = fr;
      }
