-- The call `exit`, put together: the record changed, the waiters woken, the call's end.
use Rattle.std.specs.Prelude.{Result}
use Rattle.settings.specs.declared.Refusal.{Refusal}
use Prim.Native.Nat.{ℕ, zero, suc, ◌+◌, ◌-◌, ◌*◌, ◌<◌, ◌≤◌, max}
use mathlib.Core.Path.{◌≡◌, refl, sym, ap, ap₂, ◌∙◌, subst}
use mathlib.Core.Bool.{Bool, true, false}
use mathlib.Core.Option.{Option, none, some}
use mathlib.Core.List.{List, [], ◌∷◌, ◌++◌, map, append-nil}
use native.Mathlib.Nat.{add-zero}
use native.Mathlib.Omega.{arith}
use lib.ListN.{length, take, drop, set, length-set, length-append, take-append-drop}
use lib.Seq.{get_or-set_same, get_or-set_other, length-take-le, take_at, drop_at}
use Rattle.model.specs.Invariants.{CoresOK, states_of as thread_states}
use Rattle.model.specs.declared.ThreadInfo.{ThreadInfo}
use Rattle.model.specs.Types.{Core, ThreadRecord, Accounts, State, OnCore, Ready}
use Rattle.model.specs.Phases.{update, holder}
use Rattle.model.specs.Accounting.{finished, on_thread, set_state}
use Rattle.model.specs.Calls.{ok, refusal, accept, exit, exited, wake, waiters, mark_exit, tid_on, tid_of, core_state_of, core_at, limit_now, idle_core}
use Rattle.model.specs.Reading.{call_answer_meant}
use Rattle.model.proofs.Refusals.{check-none, check-rest}
use Rattle.model.proofs.Placement.{held_on, states_of-range, queue-fits}
use Rattle.model.proofs.Bounded.{bounded-accept, wake-ticks}
use Rattle.records.specs.declared.change.Change.{Change}
use Rattle.records.specs.declared.change.Change.TheVariants as Changes
use Rattle.records.specs.Changes.{change_meant, Fits}
use Rattle.records.specs.Waking.{Pushed}
use Rattle.rings.specs.Events.{events_in}
use Rattle.threads.specs.Slice.{threads_in, Front, WakeFit, woken_threads, Woken}
use Rattle.threads.proofs.Waking.{wake-threads}
use Rattle.accounts.proofs.Figures.{log-capacity, woken-log, woken-timelines, woken-switches}
use Rattle.state.specs.declared.Sched.{Sched}
use Rattle.state.specs.Memory.{memory}
use Rattle.state.specs.State.{firsts, core_from, board_of, states_of, meant_at, log_words, MarksOK, Valid}
use Rattle.state.specs.Done.{Done}
use Rattle.state.proofs.Firsts.{core_at-firsts}
use Rattle.state.proofs.Doing.{done_refused, done-taken}
use Rattle.checks.proofs.Refusals.{exit-refusal, length-threads}
use Rattle.checks.proofs.Answers.{ok-unrefused}
use Rattle.sched_marks.proofs.Marking.{firsts-update}
use Rattle.updates.proofs.Updating.{keep_same, some-record}
use Rattle.exit_plan.specs.Exit.{exit_refusal, exit_tid, exit_place, exit_change, exit_threads, WakesLogged, with_exit, FinishFit, Finished}
use Rattle.exit_plan.proofs.Parts.{taken_is, refused-is, exit-core, answer-refused, answer-taken}

---- lists

-- nothing was added behind the first words
pushed-nothing : (len : ℕ) (qs : List ℕ) (len' : ℕ) (qs' : List ℕ) → Pushed [] len qs len' qs' → qs' ≡ qs
pushed-nothing len qs len' qs' p =
    let z : len' ≡ len = p.count ∙ add-zero len in
    let f : take len' qs' ≡ take len qs = p.front ∙ append-nil (take len qs) in
    sym (take-append-drop len' qs') ∙ ap₂ (λ (a b : List ℕ). a ++ b) f (p.rest ∙ ap (λ (k : ℕ). drop k qs) z) ∙ take-append-drop len qs

-- what was added stands behind the first words
pushed-words : (w : List ℕ) (len : ℕ) (qs : List ℕ) (len' : ℕ) (qs' : List ℕ) → len ≤ length qs → Pushed w len qs len' qs' → take (len' - len) (drop len qs') ≡ w
pushed-words w len qs len' qs' h p =
    let l : length (take len qs) ≡ len = length-take-le len qs h in
    let c : len' ≡ len + length w = p.count in
    let k : len' - len ≡ length w = omega arith in
    let whole : qs' ≡ take len qs ++ (w ++ drop len' qs') = sym (take-append-drop len' qs') ∙ rw p.front append_right in
    rw (k, whole, drop_at (take len qs) (w ++ drop len' qs') len l) (take_at w (drop len' qs') (length w) refl)
  where
    append_right : (take len qs ++ w) ++ drop len' qs' ≡ take len qs ++ (w ++ drop len' qs')
    append_right = mathlib.Core.List.append_assoc (take len qs) w (drop len' qs')

---- waking and exiting keep the priorities

abbrev prio : ThreadRecord → ℕ
prio t = t.priority

prios-update : (f : ThreadRecord → ThreadRecord) → ((t : ThreadRecord) → (f t).priority ≡ t.priority) → (k : ℕ) (xs : List ThreadRecord) → map prio (update k f xs) ≡ map prio xs
unfolding update
prios-update f h k [] = refl
prios-update f h zero (x ∷ xs) = ap (λ (n : ℕ). n ∷ map prio xs) (h x)
prios-update f h (suc k) (x ∷ xs) = ap (λ (l : List ℕ). x.priority ∷ l) (prios-update f h k xs)

prios-woken : (w : List ℕ) (xs : List ThreadRecord) → map prio (woken_threads w xs) ≡ map prio xs
unfolding woken_threads
prios-woken [] xs = refl
prios-woken (t ∷ w) xs = prios-woken w _ ∙ prios-update (set_state Ready) (λ t. refl) t xs

prios-finished : (now k : ℕ) (xs : List ThreadRecord) → map prio (update k (finished now) xs) ≡ map prio xs
unfolding finished
prios-finished now k xs = prios-update (finished now) (λ t. refl) k xs

module _ (s : Sched) (ts : List ThreadInfo) (qs ps ls ws : List ℕ) (v : Valid s (memory ts qs ps ls ws)) (i : ℕ) where
  abbrev M : State
  M = meant_at s ts qs ls ws

  ---- the call is taken

  module _ (h : exit_refusal s i ≡ none) where
    unrefused : refusal M (exit i) ≡ none
    unfolding exit_refusal
    unrefused = exit-refusal s ts qs ls ws i ∙ h

    abbrev t : ℕ
    t = (exit_tid s i).0

    core-own : core_at M.cores i ≡ board_of s i
    unfolding meant_at
    core-own = core_at-firsts (board_of s) s.cores i (exit-core s i h)

    -- the thread of the core is the definition's
    tid-on : tid_on M i ≡ t
    unfolding tid_on core_state_of exit_tid core_from
    tid-on = ap (λ (c : Core). tid_of (holder c.state)) core-own

    thread-there : t < s.threads
    unfolding refusal core_state_of tid_on CoresOK meant_at
    thread-there =
        let r = check-rest 4 _ _ unrefused in
        let unclosed = check-none 11 _ _ r in
        let g = check-none 12 _ _ (check-rest 11 _ _ r) in
        let d = check-none 13 _ _ (check-rest 12 _ _ (check-rest 11 _ _ r)) in
        let on = held_on (thread_states M.accounts.threads) i 0 i M.cores (omega arith) (v.bounded.placed.cores unclosed) g d in
        let x : tid_of (holder (core_at M.cores i).state) < length M.accounts.threads = states_of-range M.accounts.threads _ (OnCore i) on in
        subst (λ (k : ℕ). k < s.threads) tid-on (subst (λ (k : ℕ). tid_on M i < k) known x)
      where
        known : length M.accounts.threads ≡ s.threads
        known = length-threads s.threads ts (let a = v.sizes.in_use in let b = v.sizes.threads in omega arith)

    place_is : exit_place s i ≡ t
    unfolding exit_place
    place_is = taken_is (exit_refusal s i) t 0 h

    change-is : exit_change s i ≡ Changes.Exit s.now
    unfolding exit_change
    change-is = taken_is (exit_refusal s i) (Changes.Exit s.now) Changes.Keep h

    threads-are : exit_threads s i ≡ s.threads
    unfolding exit_threads
    threads-are = taken_is (exit_refusal s i) s.threads 0 h

  ---- or refused

  module _ (n : ℕ) (h : exit_refusal s i ≡ some n) where
    place-zero : exit_place s i ≡ 0
    unfolding exit_place
    place-zero = refused-is (exit_refusal s i) (exit_tid s i).0 0 n h

    change-none : exit_change s i ≡ Changes.Keep
    unfolding exit_change
    change-none = refused-is (exit_refusal s i) (Changes.Exit s.now) Changes.Keep n h

    no_threads : exit_threads s i ≡ 0
    unfolding exit_threads
    no_threads = refused-is (exit_refusal s i) s.threads 0 n h

  ---- what the change of the record asks

  pub exit-there : exit_place s i < length ts
  exit-there = go (exit_refusal s i) refl
    where
      go : (o : Option ℕ) → exit_refusal s i ≡ o → exit_place s i < length ts
      go none h = rw (place_is h) (let a = thread-there h in let b = v.sizes.in_use in let d = v.sizes.threads in omega arith)
      go (some n) h = rw (place-zero n h) (some-record s ts qs ps ls ws v)

  pub exit-fits : (x : ThreadRecord) → Fits (exit_change s i) x
  unfolding meant_at limit_now
  exit-fits x = go (exit_refusal s i) refl
    where
      go : (o : Option ℕ) → exit_refusal s i ≡ o → Fits (exit_change s i) x
      go none h = rw (change-is h) (let a = v.bounded.now in omega arith)
      go (some n) h = rw (change-none n h) tt

  -- the record is changed
  abbrev pub Changed : List ThreadInfo → Type 0
  Changed ts₁ = (n : ℕ) → exit_place s i < n → Front n (update (exit_place s i) (change_meant (exit_change s i)) (threads_in ts n)) ts ts₁

  ---- what waking asks, and what it leaves

  module _ (ts₁ : List ThreadInfo) (changed : Changed ts₁) (long₁ : length ts₁ ≡ length ts) where
    abbrev w : List ℕ
    w = waiters (exit_tid s i).0 0 (threads_in ts₁ s.threads)

    module _ (h : exit_refusal s i ≡ none) where
      -- the definition's accounts once the thread has exited, and its waiters
      abbrev B : Accounts
      B = on_thread (tid_on M i) (finished M.now) M.accounts

      abbrev W : List ℕ
      W = waiters (tid_on M i) 0 B.threads

      front-changed : Front s.threads (update (exit_tid s i).0 (finished s.now.0) (threads_in ts s.threads)) ts ts₁
      unfolding change_meant
      front-changed =
          subst (λ (c : Change). Front s.threads (update (exit_tid s i).0 (change_meant c) (threads_in ts s.threads)) ts ts₁) (change-is h)
          (subst (λ (k : ℕ). k < s.threads → Front s.threads (update k (change_meant (exit_change s i)) (threads_in ts s.threads)) ts ts₁) (place_is h) (changed s.threads) (thread-there h))

      exited-threads : threads_in ts₁ s.threads ≡ B.threads
      unfolding meant_at threads_in
      exited-threads = front-changed.front ∙ ap (λ (k : ℕ). update k (finished s.now.0) (threads_in ts s.threads)) (sym (tid-on h))

      waiters-are : w ≡ W
      waiters-are = ap₂ (λ (k : ℕ) (l : List ThreadRecord). waiters k 0 l) (sym (tid-on h)) exited-threads

      -- the queue has room, since no thread stands in it twice
      queue-room : s.queued + length w ≤ s.capacities.threads
      unfolding accept exited meant_at
      queue-room =
          let b = bounded-accept M (exit i) (unrefused h) v.bounded in
          let f : length (take s.queued qs ++ W) ≤ s.capacities.threads = (let x = queue-fits _ b.placed in let y = b.roomy in omega arith) in
          let l : length (take s.queued qs) ≡ s.queued = length-take-le s.queued qs (let x = v.sizes.waiting in let y = v.sizes.queue in omega arith) in
          let a : length (take s.queued qs ++ W) ≡ length (take s.queued qs) + length W = length-append (take s.queued qs) W in
          let e : length w ≡ length W = ap length waiters-are in
          omega arith

    pub wake-fits : WakeFit (exit_threads s i) (exit_tid s i).0 ts₁ qs s.queued
    unfolding threads_in waiters meant_at
    wake-fits = go (exit_refusal s i) refl
      where
        go : (o : Option ℕ) → exit_refusal s i ≡ o → WakeFit (exit_threads s i) (exit_tid s i).0 ts₁ qs s.queued
        go none h =
            let r = queue-room h in
            let x = v.sizes.in_use in
            let y = v.sizes.threads in
            let z = v.sizes.queue in
            let k = v.bounded.settings.cap_t' in
            rw (threads-are h) (record { within = omega arith; few = omega arith; room = omega arith })
        go (some n) h =
            let x = v.sizes.waiting in
            let z = v.sizes.queue in
            rw (no_threads n h) (record { within = omega arith; few = omega arith; room = omega arith })

    module _ (ts₂ : List ThreadInfo) (len : ℕ) (qs₂ : List ℕ) (woken : Woken (exit_threads s i) (exit_tid s i).0 ts₁ ts₂ s.queued qs len qs₂) (long_q : length qs₂ ≡ length qs) where
      pub finish-fits : FinishFit s len qs₂ ls
      unfolding meant_at limit_now
      finish-fits =
          let c = woken.queued.count in
          let r = wake-fits.room in
          let n = v.bounded.now in
          record {
            cores = v.sizes.cores;
            events = v.bounded.settings.cap_e';
            log = v.sizes.log;
            ring = v.rings.events;
            longer = omega arith;
            within = omega arith;
            now = omega arith;
          }

      module _ (long₂ : length ts₂ ≡ length ts) (s' : Sched) (a : Result Unit Refusal) (ls' : List ℕ) (f : Finished s i len qs₂ ls ls' s' a) where
        refused-done : (n : ℕ) → exit_refusal s i ≡ some n → Done (exit i) (call_answer_meant a) s s' (memory ts qs ps ls ws) (memory ts₂ qs₂ ps ls' ws)
        unfolding exit_refusal threads_in waiters
        refused-done n h =
            let e₁ : ts₁ ≡ ts = keep_same ts ts₁ (λ k l. subst (λ (c : Change). Front k (update 0 (change_meant c) (threads_in ts k)) ts ts₁) (change-none n h) (subst (λ (p : ℕ). p < k → Front k (update p (change_meant (exit_change s i)) (threads_in ts k)) ts ts₁) (place-zero n h) (changed k) l)) in
            let none-woken : Woken 0 (exit_tid s i).0 ts₁ ts₂ s.queued qs len qs₂ = subst (λ (k : ℕ). Woken k (exit_tid s i).0 ts₁ ts₂ s.queued qs len qs₂) (no_threads n h) woken in
            let e₂ : ts₂ ≡ ts = none-woken.threads.rest ∙ e₁ in
            let eq : qs₂ ≡ qs = pushed-nothing s.queued qs len qs₂ none-woken.queued in
            let k = f.refused n h in
            rw (answer-refused a n (f.answer ∙ h), k.0, k.1, e₂, eq) (done_refused (exit i) s ts qs ps ls ws v n (exit-refusal s ts qs ls ws i ∙ h))

        module _ (h : exit_refusal s i ≡ none) where
          woken-all : Woken s.threads (exit_tid s i).0 ts₁ ts₂ s.queued qs len qs₂
          woken-all = subst (λ (k : ℕ). Woken k (exit_tid s i).0 ts₁ ts₂ s.queued qs len qs₂) (threads-are h) woken

          abbrev next : Sched
          next = with_exit i len s'.log s

          logged : WakesLogged (2 * s.capacities.events) s.now.0 (take (len - s.queued) (drop s.queued qs₂)) ls ls' s.log s'.log
          logged = (f.taken h).1

          abbrev own : List Bool → ℕ → Core
          own e = core_from (states_of s.states) e s.marks.blocks s.marks.yields s.marks.progressed

          abbrev with-mark : ℕ → Bool → Core
          with-mark j b = record { state = (own s.marks.exits j).state; exits = b; blocks = (own s.marks.exits j).blocks; yields = (own s.marks.exits j).yields; progressed = (own s.marks.exits j).progressed }

          cores-marked : firsts (own (set s.marks.exits i true)) s.cores ≡ update i mark_exit (firsts (own s.marks.exits) s.cores)
          unfolding core_from
          cores-marked =
              let l = exit-core s i h in
              let n : i < length s.marks.exits = (let x = v.marks.exits in let y = v.sizes.cores in omega arith) in
              firsts-update (own s.marks.exits) (own (set s.marks.exits i true)) mark_exit s.cores i idle_core l
              (ap (λ (b : Bool). with-mark i b) (get_or-set_same s.marks.exits i true false n)) (λ j d. ap (λ (b : Bool). with-mark j b) (get_or-set_other s.marks.exits i j true false d))

          marks : MarksOK s.cores (states_of s.states) (record s.marks { exits = set s.marks.exits i true })
          unfolding core_from
          marks =
              let m = v.marks in
              let l = exit-core s i h in
              record {
                exits = simp length-set m.exits;
                blocks = m.blocks;
                yields = m.yields;
                progressed = m.progressed;
                unused = λ j k. ap (λ (b : Bool). with-mark j b) (get_or-set_other s.marks.exits i j true false (λ z. omega arith)) ∙ m.unused j k;
              }

          queue-is : take len qs₂ ≡ take s.queued qs ++ W h
          queue-is = woken-all.queued.front ∙ ap (λ (l : List ℕ). take s.queued qs ++ l) (waiters-are h)

          threads-is : threads_in ts₂ s.threads ≡ (wake s.capacities.events s.now.0 (W h) (B h)).threads
          threads-is =
              woken-all.threads.front ∙ ap₂ (λ (x : List ℕ) (y : List ThreadRecord). woken_threads x y) (waiters-are h) (exited-threads h)
              ∙ sym (wake-threads s.capacities.events s.now.0 (W h) (B h))

          log_is : events_in (log_words s.capacities.events ls') s'.log ≡ (wake s.capacities.events s.now.0 (W h) (B h)).log
          unfolding meant_at
          log_is =
              let k : take (len - s.queued) (drop s.queued qs₂) ≡ W h =
              pushed-words w s.queued qs len qs₂ (let x = v.sizes.waiting in let y = v.sizes.queue in omega arith) woken-all.queued ∙ waiters-are h in
              logged.events ∙ rw (k, log-capacity s.capacities.events ls v.sizes.log) (sym (woken-log s.capacities.events s.now.0 (W h) (B h)))

          accounts-are : (meant_at next ts₂ qs₂ ls' ws).accounts ≡ wake s.capacities.events s.now.0 (W h) (B h)
          unfolding meant_at threads_in
          accounts-are =
              let e = s.capacities.events in
              let ti = wake-ticks e s.now.0 (W h) (B h) in
              let tl = woken-timelines e s.now.0 (W h) (B h) in
              let cs = woken-switches e s.now.0 (W h) (B h) in
              λ j. record { threads = threads-is j; ticks = sym ti j; timelines = sym tl j; log = log_is j; context_switches = sym cs j }

          state-is : meant_at next ts₂ qs₂ ls' ws ≡ (accept M (exit i)).state
          unfolding accept exited meant_at
          state-is = λ j. record { config = M.config; cores = cores-marked j; queue = queue-is j; accounts = accounts-are j; now = s.now.0; closed = s.closed }

          priorities-are : take s.threads ps ≡ map prio (threads_in ts₂ s.threads)
          unfolding meant_at threads_in
          priorities-are =
              v.priorities ∙ sym (ap (map prio) woken-all.threads.front ∙ prios-woken w (threads_in ts₁ s.threads) ∙ ap (map prio) (front-changed h).front ∙ prios-finished s.now.0 (exit_tid s i).0 (threads_in ts s.threads))

          taken_next : Done (exit i) (call_answer_meant a) s next (memory ts qs ps ls ws) (memory ts₂ qs₂ ps ls' ws)
          unfolding exit_refusal accept meant_at threads_in
          taken_next =
              let c = woken.queued.count in
              let ca = woken-all.queued.count in
              let r = queue-room h in
              let z = v.sizes in
              let big : max s.queued len ≡ len = omega arith in
              let ll = f.long in
              let an : call_answer_meant a ≡ ok = answer-taken a (f.answer ∙ h) in
              done-taken (exit i) s ts qs ps ls ws v (call_answer_meant a) next ts₂ qs₂ ps ls' ws (unrefused h) state-is an (ok-unrefused (call_answer_meant a) an)
              (record { cores = z.cores; in_use = z.in_use; waiting = omega arith; threads = omega (arith, z.threads); queue = omega (arith, z.queue); prios = z.prios; log = omega (arith, z.log); lanes = z.lanes })
              (record { eight = v.rings.eight; events = logged.ok; segments = v.rings.segments })
              marks v.words v.ticks priorities-are
              (record { threads = woken-all.threads.rest ∙ (front-changed h).rest; queue = rw big woken-all.queued.rest; prios = refl; log = logged.rest; lanes = refl; ticks = λ j k. refl; places = λ j k. refl })

          taken-done : Done (exit i) (call_answer_meant a) s s' (memory ts qs ps ls ws) (memory ts₂ qs₂ ps ls' ws)
          taken-done = subst (λ (x : Sched). Done (exit i) (call_answer_meant a) s x (memory ts qs ps ls ws) (memory ts₂ qs₂ ps ls' ws)) (sym (f.taken h).0) taken_next

        pub exit-done : Done (exit i) (call_answer_meant a) s s' (memory ts qs ps ls ws) (memory ts₂ qs₂ ps ls' ws)
        exit-done = go (exit_refusal s i) refl
          where
            go : (o : Option ℕ) → exit_refusal s i ≡ o → Done (exit i) (call_answer_meant a) s s' (memory ts qs ps ls ws) (memory ts₂ qs₂ ps ls' ws)
            go none h = taken-done h
            go (some n) h = refused-done n h
