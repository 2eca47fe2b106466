-- `yield_now`: its ladder, and where it is taken.
use Rattle.std.specs.Prelude.{Err, Result}
use Prim.Native.Nat.{ℕ, ◌+◌, ◌<◌, ◌≤◌, ◌^◌}
use mathlib.Core.Path.{◌≡◌, refl, sym, ap, ap₂, ◌∙◌, subst}
use mathlib.Core.Bool.{Bool, true, false}
use mathlib.Core.Option.{Option, none, some}
use mathlib.Core.List.{List, map}
use native.Mathlib.Omega.{arith}
use lib.Dec.{leb}
use lib.ListN.{take, get_or, get_elem?, set}
use borrow.Author.Tests.{leb-false, le-leb, lt-leb}
use Rattle.settings.specs.declared.Refusal.{Refusal}
use Rattle.model.specs.declared.ThreadInfo.{ThreadInfo}
use Rattle.model.specs.Types.{Core, ThreadRecord, State}
use Rattle.model.specs.Phases.{update}
use Rattle.model.specs.Reading.{thread_meant}
use Rattle.model.specs.Accounting.{add_counts}
use Rattle.model.specs.Calls.{Answer, ok, accept, check, refusal, yield, tid_on, yields_of, limit_now}
use Rattle.model.proofs.Refusals.{check-none}
use Rattle.records.specs.declared.change.Change.TheVariants as Changes
use Rattle.records.specs.Changes.{change_meant}
use Rattle.threads.specs.Slice.{blank, threads_in}
use Rattle.threads.proofs.Slices.{thread-at}
use Rattle.state.specs.declared.Sched.{Sched}
use Rattle.state.specs.Memory.{memory}
use Rattle.state.specs.State.{firsts, core_from, states_of, meant_at, Valid}
use Rattle.checks.specs.Check.{check_meant, core_refusal}
use Rattle.checks.proofs.Ladder.{hit, pass}
use Rattle.checks.proofs.Refusals.{join-refusal}
use Rattle.checks.proofs.Answers.{ok-unrefused}
use Rattle.updates.specs.Pending.{Pending}
use Rattle.thread_plan.specs.Change.{with_marks}
use Rattle.thread_plan.specs.Reads.{own_tid, known_place}
use Rattle.thread_plan.proofs.OneRecord.{in_use, rebuilt}
use Rattle.thread_plan.proofs.Owning.{place-known, core-there, own-tid, own-known, yielded, yield-marks}
use Rattle.thread_plan.proofs.Joining.{marked-done}

---- the rest of the ladder behind 4, 11, 12, 13

abbrev or_rest : Option ℕ → Option ℕ → Option ℕ
or_rest (some n) r = some n
or_rest none r = r

four : (a b c d : Bool) (r : Option ℕ) → check 4 a (check 11 b (check 12 c (check 13 d r))) ≡ or_rest (check 4 a (check 11 b (check 12 c (check 13 d none)))) r
unfolding check
four true b c d r = refl
four false true c d r = refl
four false false true d r = refl
four false false false true r = refl
four false false false false r = refl

core-rest : (s : Sched) (i : ℕ) (running : Bool) (r : Option ℕ) → core_refusal s i running r ≡ or_rest (core_refusal s i running none) r
unfolding core_refusal
core-rest s i running r = four _ _ _ _ r

pub yield-stopped : (s : Sched) (i : ℕ) (r : Option ℕ) (b : Result Unit Refusal) (x : Refusal) → b ≡ Err x → check_meant b ≡ core_refusal s i true none → check_meant b ≡ core_refusal s i true r
yield-stopped s i r b x e h = ap check_meant e ∙ sym (core-rest s i true r ∙ ap (λ (o : Option ℕ). or_rest o r) (sym h ∙ ap check_meant e))

-- of a core that may yield, the limit alone decides
pub yield_over : (s : Sched) (i y : ℕ) → core_refusal s i true none ≡ none → 4_000_000_000 ≤ y → core_refusal s i true (check 19 (leb limit_now y) none) ≡ some 19
unfolding limit_now
yield_over s i y e h = core-rest s i true _ ∙ ap (λ (o : Option ℕ). or_rest o (check 19 (leb limit_now y) none)) e ∙ sym (hit 19 _ _ (le-leb _ _ h))

pub yield_under : (s : Sched) (i y : ℕ) → core_refusal s i true none ≡ none → y < 4_000_000_000 → core_refusal s i true (check 19 (leb limit_now y) none) ≡ none
unfolding limit_now
yield_under s i y e h = core-rest s i true _ ∙ ap (λ (o : Option ℕ). or_rest o (check 19 (leb limit_now y) none)) e ∙ sym (pass 19 _ _ _ (lt-leb _ _ h) refl)

first-none : (o r : Option ℕ) → or_rest o r ≡ none → o ≡ none
first-none none r e = refl
first-none (some n) r e = e

rest-none : (o r : Option ℕ) → or_rest o r ≡ none → r ≡ none
rest-none none r e = e
rest-none (some n) r e = absurd (let z : ◌≡◌ {A = ℕ} 0 1 = cc in omega arith)

core-taken : (s : Sched) (i : ℕ) (r : Option ℕ) → core_refusal s i true r ≡ none → core_refusal s i true none ≡ none
core-taken s i r e = first-none (core_refusal s i true none) r (sym (core-rest s i true r) ∙ e)

module _ (s : Sched) (ts : List ThreadInfo) (qs ps ls ws : List ℕ) (v : Valid s (memory ts qs ps ls ws)) (i : ℕ) (t : ThreadInfo) (et : t ≡ get_or ts (known_place s (own_tid s i)) blank) where
  abbrev M : State
  M = meant_at s ts qs ls ws

  abbrev y : ℕ
  y = (thread_meant t).counts.yields

  abbrev limit : ℕ → Option ℕ
  limit n = check 19 (leb limit_now n) none

  own-record : core_refusal s i true none ≡ none → t ≡ get_or ts (own_tid s i) blank
  own-record h = et ∙ ap (λ (p : ℕ). get_or ts p blank) (place-known s (own_tid s i) (own-known s ts qs ps ls ws v i h))

  own-yields : core_refusal s i true none ≡ none → yields_of (get_elem? M.accounts.threads (tid_on M i)) ≡ y
  unfolding yields_of meant_at threads_in
  own-yields h =
      let k = own-known s ts qs ps ls ws v i h in
      ap (λ (u : ℕ). yields_of (get_elem? (map thread_meant (take s.threads ts)) u)) (own-tid s ts qs ps ls ws v i h)
      ∙ ap yields_of (thread-at ts s.threads (own_tid s i) k (omega (arith, k, in_use s ts qs ps ls ws v))) ∙ sym (ap (λ (x : ThreadInfo). (thread_meant x).counts.yields) (own-record h))

  pub yield-refusal : refusal M (yield i) ≡ core_refusal s i true (limit y)
  unfolding refusal
  yield-refusal =
      four _ _ _ _ (limit (yields_of (get_elem? M.accounts.threads (tid_on M i)))) ∙ ap (λ (o : Option ℕ). or_rest o (limit (yields_of (get_elem? M.accounts.threads (tid_on M i))))) (join-refusal s ts qs ls ws i 0)
      ∙ go (core_refusal s i true none) refl ∙ sym (core-rest s i true (limit y))
    where
      go : (o : Option ℕ) → core_refusal s i true none ≡ o → or_rest o (limit (yields_of (get_elem? M.accounts.threads (tid_on M i)))) ≡ or_rest o (limit y)
      go (some n) e = refl
      go none e = ap limit (own-yields e)

  module _ (h : core_refusal s i true (limit y) ≡ none) where
    h4 : core_refusal s i true none ≡ none
    h4 = core-taken s i (limit y) h

    below : y < limit_now
    below = leb-false limit_now y (check-none 19 _ _ (rest-none (core_refusal s i true none) (limit y) (sym (core-rest s i true (limit y)) ∙ h)))

    yields : rebuilt M (firsts (core_from (states_of s.states) s.marks.exits s.marks.blocks (set s.marks.yields i true) s.marks.progressed) s.cores) M.queue (update (own_tid s i) (add_counts 0 0 0 0 0 1) M.accounts.threads) M.accounts.log
        ≡ (accept M (yield i)).state
    unfolding accept meant_at
    yields =
        ap₂ (λ (cs : List Core) (k : ℕ). rebuilt M cs M.queue (update k (add_counts 0 0 0 0 0 1) M.accounts.threads) M.accounts.log) (yielded s ts qs ps ls ws v i (core-there s i true none h4)) (sym (own-tid s ts qs ps ls ws v i h4))

    kept : (r : ThreadRecord) → (add_counts 0 0 0 0 0 1 r).priority ≡ r.priority
    unfolding add_counts
    kept r = refl

    room : (thread_meant (get_or ts (own_tid s i) blank)).counts.yields + 1 < 2 ^ 64
    unfolding limit_now
    room = let a = below in let b = ap (λ (x : ThreadInfo). (thread_meant x).counts.yields) (own-record h4) in omega (arith, a, b)

    pub yield-taken : (c : ℕ) (a : Answer) → c ≡ own_tid s i → a ≡ ok → Pending (yield i) a s (with_marks s.marks.blocks (set s.marks.yields i true) s) c Changes.Yield ts qs qs ps ps ls ls ws ws
    unfolding change_meant accept
    yield-taken c a ec e =
        let k = own-known s ts qs ps ls ws v i h4 in
        subst (λ (u : ℕ). Pending (yield i) a s (with_marks s.marks.blocks (set s.marks.yields i true) s) u Changes.Yield ts qs qs ps ps ls ls ws ws) (sym ec)
        (record {
          there = omega (arith, k, in_use s ts qs ps ls ws v);
          fits = room;
          done = λ ts' f. marked-done s ts qs ps ls ws v (yield i) a s.marks.blocks (set s.marks.yields i true) (own_tid s i) (add_counts 0 0 0 0 0 1) k kept (yield-refusal ∙ h) yields e (ok-unrefused a e) (yield-marks s ts qs ps ls ws v i (core-there s i true none h4)) ts' f;
        })
