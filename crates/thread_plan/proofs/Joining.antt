-- `join`, taken.
use Prim.Native.Nat.{ℕ, ◌<◌}
use mathlib.Core.Path.{◌≡◌, refl, sym, ap, ap₂, ◌∙◌, subst}
use mathlib.Core.Bool.{Bool, true, false, cond}
use mathlib.Core.Logic.{◌⊎◌, inl, inr}
use mathlib.Core.Option.{Option, none, some}
use mathlib.Core.List.{List, map}
use native.Mathlib.Omega.{arith}
use lib.Dec.{leb}
use lib.ListN.{length, take, get_or, get_elem?, set}
use borrow.Author.Tests.{leb-true, leb-false}
use Rattle.model.specs.declared.Tid.{Tid}
use Rattle.model.specs.declared.ThreadInfo.{ThreadInfo}
use Rattle.model.specs.declared.JoinOutcome as JoinOutcomes
use Rattle.model.specs.declared.JoinOutcome.TheVariants as JoinCases
use Rattle.model.specs.Types.{Core, Blocked, ThreadRecord, State}
use Rattle.model.specs.Phases.{update}
use Rattle.model.specs.Reading.{join_meant, thread_meant}
use Rattle.model.specs.Accounting.{set_state}
use Rattle.model.specs.Calls.{Call, Answer, joined, refused, JoinOutcome, Wait, Invalid, outcome, blocking, accept, refusal, join, tid_on, thread_state_of}
use Rattle.records.specs.declared.change.Change.TheVariants as Changes
use Rattle.records.specs.Changes.{change_meant}
use Rattle.threads.specs.Slice.{blank, threads_in}
use Rattle.threads.proofs.Slices.{thread-at, length-threads}
use Rattle.state.specs.declared.Sched.{Sched}
use Rattle.state.specs.Memory.{memory}
use Rattle.state.specs.State.{firsts, core_from, states_of, meant_at, MarksOK, Valid}
use Rattle.state.specs.Done.{Done}
use Rattle.state.proofs.Doing.{done-taken}
use Rattle.checks.specs.Check.{core_refusal}
use Rattle.checks.proofs.Refusals.{join-refusal}
use Rattle.updates.specs.Pending.{Pending}
use Rattle.updates.proofs.Updating.{some-record, keep_same}
use Rattle.thread_plan.specs.Change.{with_marks}
use Rattle.thread_plan.specs.Reads.{own_tid, known_place}
use Rattle.thread_plan.proofs.OneRecord.{in_use, rebuilt, Changed, changed-size, map-kept, beyond}
use Rattle.thread_plan.proofs.Owning.{place-known, core-there, own-tid, own-known, blocked, block-marks}

module _ (s : Sched) (ts : List ThreadInfo) (qs ps ls ws : List ℕ) (v : Valid s (memory ts qs ps ls ws)) where
  abbrev M : State
  M = meant_at s ts qs ls ws

  ---- a mark of one core and one record changed

  pub marked-done :
      (c : Call) (a : Answer) (b y : List Bool) (u : ℕ) (g : ThreadRecord → ThreadRecord) → u < s.threads → ((t : ThreadRecord) → (g t).priority ≡ t.priority) → refusal M c ≡ none
      → rebuilt M (firsts (core_from (states_of s.states) s.marks.exits b y s.marks.progressed) s.cores) M.queue (update u g M.accounts.threads) M.accounts.log ≡ (accept M c).state → a ≡ (accept M c).answer → ((n : ℕ) → a ≡ refused n → ⊥)
      → MarksOK s.cores (states_of s.states) (record s.marks { blocks = b; yields = y }) → (ts' : List ThreadInfo) → Changed u g ts ts' → Done c a s (with_marks b y s) (memory ts qs ps ls ws) (memory ts' qs ps ls ws)
  unfolding meant_at threads_in
  marked-done c a b y u g l keeps r st an un ma ts' f =
      let z = v.sizes in
      let records : map thread_meant (take s.threads ts') ≡ update u g (map thread_meant (take s.threads ts)) = (f s.threads l).front in
      done-taken c s ts qs ps ls ws v a (with_marks b y s) ts' qs ps ls ws r
      (ap (λ (t : List ThreadRecord). rebuilt M (firsts (core_from (states_of s.states) s.marks.exits b y s.marks.progressed) s.cores) M.queue t M.accounts.log) records ∙ st) an un
      (record {
        cores = z.cores;
        in_use = z.in_use;
        waiting = z.waiting;
        threads = omega (arith, z.threads, changed-size u g ts ts' f);
        queue = z.queue;
        prios = z.prios;
        log = z.log;
        lanes = z.lanes;
      })
      v.rings ma v.words v.ticks (v.priorities ∙ sym (ap (map (λ (t : ThreadRecord). t.priority)) records ∙ map-kept (λ (t : ThreadRecord). t.priority) g u (map thread_meant (take s.threads ts)) keeps))
      (record { threads = (f s.threads l).rest; queue = refl; prios = refl; log = refl; lanes = refl; ticks = λ j k. refl; places = λ j k. refl })

  ---- how a join turns out

  target-outcome : (c t : ℕ) → cond (leb s.threads t) Invalid (outcome c t (some (thread_meant (get_or ts (known_place s t) blank)).state)) ≡ outcome c t (thread_state_of (get_elem? M.accounts.threads t))
  unfolding meant_at threads_in thread_state_of outcome
  target-outcome c t = go (leb s.threads t) refl
    where
      go : (b : Bool) → leb s.threads t ≡ b → cond b Invalid (outcome c t (some (thread_meant (get_or ts (known_place s t) blank)).state)) ≡ outcome c t (thread_state_of (get_elem? (map thread_meant (take s.threads ts)) t))
      go true e =
          let n : length (map thread_meant (take s.threads ts)) ≡ s.threads = length-threads ts s.threads (in_use s ts qs ps ls ws v) in
          sym (ap (λ (o : Option ThreadRecord). outcome c t (thread_state_of o)) (beyond (map thread_meant (take s.threads ts)) t (omega (arith, n, leb-true s.threads t e))))
      go false e =
          let k = leb-false s.threads t e in
          ap (λ (p : ℕ). outcome c t (some (thread_meant (get_or ts p blank)).state)) (place-known s t k)
          ∙ sym (ap (λ (o : Option ThreadRecord). outcome c t (thread_state_of o)) (thread-at ts s.threads t k (omega (arith, k, in_use s ts qs ps ls ws v))))

  module _ (i : ℕ) (h : core_refusal s i true none ≡ none) where
    pub outcome-is :
        (c t : ℕ) (r : ThreadInfo) (o : JoinOutcome) → c ≡ own_tid s i → r ≡ get_or ts (known_place s t) blank → o ≡ cond (leb s.threads t) Invalid (outcome c t (some (thread_meant r).state))
        → o ≡ outcome (tid_on M i) t (thread_state_of (get_elem? M.accounts.threads t))
    outcome-is c t r o ec er eo =
        eo ∙ ap (λ (x : ThreadInfo). cond (leb s.threads t) Invalid (outcome c t (some (thread_meant x).state))) er ∙ target-outcome c t
        ∙ ap (λ (k : ℕ). outcome k t (thread_state_of (get_elem? M.accounts.threads t))) (ec ∙ sym (own-tid s ts qs ps ls ws v i h))

    unrefused : (o : JoinOutcome) (a : Answer) → a ≡ joined o → (n : ℕ) → a ≡ refused n → ⊥
    unrefused o a e n k = let z : ◌≡◌ {A = ℕ} 0 1 = cc in omega arith

    waits : (target : Tid) → Wait ≡ outcome (tid_on M i) target.0 (thread_state_of (get_elem? M.accounts.threads target.0))
        → rebuilt M (firsts (core_from (states_of s.states) s.marks.exits (set s.marks.blocks i true) s.marks.yields s.marks.progressed) s.cores) M.queue (update (own_tid s i) (set_state (Blocked target.0)) M.accounts.threads) M.accounts.log
        ≡ (accept M (join i target.0)).state
    unfolding accept blocking meant_at
    waits target w =
        ap₂ (λ (cs : List Core) (k : ℕ). rebuilt M cs M.queue (update k (set_state (Blocked target.0)) M.accounts.threads) M.accounts.log) (blocked s ts qs ps ls ws v i (core-there s i true none h)) (sym (own-tid s ts qs ps ls ws v i h))
        ∙ ap (λ (o : JoinOutcome). blocking M i target.0 o) w

    pub join-waits :
        (c : ℕ) (target : Tid) (o : JoinOutcome) (a : Answer) → c ≡ own_tid s i → a ≡ joined o → o ≡ Wait → o ≡ outcome (tid_on M i) target.0 (thread_state_of (get_elem? M.accounts.threads target.0))
        → Pending (join i target.0) a s (with_marks (set s.marks.blocks i true) s.marks.yields s) c (Changes.Block target) ts qs qs ps ps ls ls ws ws
    unfolding change_meant accept
    join-waits c target o a ec e ew eo =
        let k = own-known s ts qs ps ls ws v i h in
        subst (λ (u : ℕ). Pending (join i target.0) a s (with_marks (set s.marks.blocks i true) s.marks.yields s) u (Changes.Block target) ts qs qs ps ps ls ls ws ws) (sym ec)
        (record {
          there = omega (arith, k, in_use s ts qs ps ls ws v);
          fits = tt;
          done = λ ts' f. marked-done (join i target.0) a (set s.marks.blocks i true) s.marks.yields (own_tid s i) (set_state (Blocked target.0)) k (λ t. refl) (join-refusal s ts qs ls ws i target.0 ∙ h) (waits target (sym ew ∙ eo)) (e ∙ ap joined eo) (unrefused o a e)
              (block-marks s ts qs ps ls ws v i (core-there s i true none h)) ts' f;
        })

    pub join-still :
        (t : ℕ) (o : JoinOutcome) (a : Answer) → a ≡ joined o → blocking M i t o ≡ M → o ≡ outcome (tid_on M i) t (thread_state_of (get_elem? M.accounts.threads t)) → Pending (join i t) a s s 0 Changes.Keep ts qs qs ps ps ls ls ws ws
    unfolding accept
    join-still t o a e st eo =
        record {
          there = some-record s ts qs ps ls ws v;
          fits = tt;
          done = λ ts' f. subst (λ (l : List ThreadInfo). Done (join i t) a s s (memory ts qs ps ls ws) (memory l qs ps ls ws)) (sym (keep_same ts ts' f))
              (done-taken (join i t) s ts qs ps ls ws v a s ts qs ps ls ws (join-refusal s ts qs ls ws i t ∙ h) (sym st ∙ ap (λ (x : JoinOutcome). blocking M i t x) eo) (e ∙ ap joined eo) (unrefused o a e) v.sizes v.rings v.marks v.words v.ticks v.priorities
              (record { threads = refl; queue = refl; prios = refl; log = refl; lanes = refl; ticks = λ j k. refl; places = λ j k. refl }));
        }

-- a join that does not wait blocks nobody
pub still : (m : State) (i t : ℕ) (o : JoinOutcomes.JoinOutcome) → (o ≡ JoinCases.Done) ⊎ (o ≡ JoinCases.Invalid) → blocking m i t (join_meant o) ≡ m
unfolding blocking
still m i t o (inl e) = ap (λ (x : JoinOutcomes.JoinOutcome). blocking m i t (join_meant x)) e
still m i t o (inr e) = ap (λ (x : JoinOutcomes.JoinOutcome). blocking m i t (join_meant x)) e
