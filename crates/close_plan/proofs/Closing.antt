-- The call `close`, put together: what the exit leaves, the records charged, the call's end.
use Rattle.std.specs.Prelude.{Ok, Err, Result}
use Rattle.settings.specs.declared.Refusal.{Refusal}
use Prim.Native.Nat.{ℕ, zero, suc, ◌+◌, ◌≤◌}
use mathlib.Core.Path.{◌≡◌, refl, sym, ap, ◌∙◌, subst}
use mathlib.Core.Bool.{true, false}
use mathlib.Core.Option.{Option, none, some}
use mathlib.Core.List.{List, [], ◌∷◌, map}
use native.Mathlib.Omega.{arith}
use borrow.Author.Tests.{le-leb}
use lib.Dec.{leb}
use lib.ListN.{length, take, drop, get_or, replicate}
use Rattle.model.specs.declared.ThreadInfo.{ThreadInfo}
use Rattle.model.specs.Types.{Core, State}
use Rattle.model.specs.Phases.{Pass, and_then, with_state, sliced}
use Rattle.model.specs.Accounting.{charge_threads, charge}
use Rattle.model.specs.Calls.{refused, ok, refusal, accept, check, stepped, step, exit, close, exited, charged, sliced_all, unmarked, mark_exit}
use Rattle.model.specs.Reading.{call_answer_meant}
use Rattle.model.proofs.Refusals.{check-none, check-rest}
use Rattle.model.proofs.PhaseLaws.{length-update}
use Rattle.model.proofs.LoopLaws.{ascend-phase1}
use Rattle.phases.specs.Cores.{pass_of}
use Rattle.charges.specs.Charging.{cores_meant}
use Rattle.threads.specs.Slice.{threads_in, Front, AllChargeable}
use Rattle.state.specs.declared.Sched.{Sched}
use Rattle.state.specs.Memory.{memory}
use Rattle.state.specs.State.{firsts, core_from, board_of, states_of, lane_start, meant_at, MarksOK, Valid}
use Rattle.state.specs.Done.{Frame, Same, Done}
use Rattle.state.proofs.Firsts.{length-firsts, firsts_same}
use Rattle.state.proofs.Doing.{done_refused, done-taken}
use Rattle.accounts.proofs.Figures.{meant-ticks, meant-timelines}
use Rattle.checks.specs.Check.{core_refusal, tick_refusal}
use Rattle.checks.proofs.Ladder.{hit}
use Rattle.checks.proofs.Refusals.{exit-refusal, close-refusal}
use Rattle.checks.proofs.Answers.{ok-unrefused}
use Rattle.sched_marks.specs.declared.Answered.{Answered}
use Rattle.exit_plan.proofs.Parts.{taken_is, refused-is, answer-refused, answer-taken}
use Rattle.tick_plan.specs.Plan.{tick_threads}
use Rattle.tick_plan.proofs.Reading.{map-firsts, charge-used, priorities_of, priority-charged, front_long}
use Rattle.tick_plan.proofs.Ticking.{threads-taken, charge-all-fits, charge-fits, plan-fits}
use Rattle.close_plan.specs.Close.{close_refusal, close_core, if_taken, charged_threads, closed_sched, PhaseFits, ClosedOf, CloseFits, CloseFinished}
use Rattle.close_plan.proofs.Parts.{close-exits, close-early}

---- how a call ends that is refused, and one that is taken

step-refused : (M : State) (i n : ℕ) → refusal M (exit i) ≡ some n → (step M (exit i)).answer ≡ refused n
unfolding step stepped
step-refused M i n h = rw h

step-taken : (M : State) (i : ℕ) → refusal M (exit i) ≡ none → ((step M (exit i)).answer ≡ ok) × ((step M (exit i)).state ≡ exited M i)
unfolding step stepped accept
step-taken M i h = (rw h, rw h)

if-refused : (a : Result Unit Refusal) (k n : ℕ) → call_answer_meant a ≡ refused k → if_taken a n ≡ 0
if-refused (Ok tt) k n e = absurd (let z : ◌≡◌ {A = ℕ} 0 1 = cc in omega arith)
if-refused (Err r) k n e = refl

if_ok : (a : Result Unit Refusal) (n : ℕ) → call_answer_meant a ≡ ok → if_taken a n ≡ n
if_ok (Ok tt) n e = refl
if_ok (Err r) n e = absurd (let z : ◌≡◌ {A = ℕ} 0 1 = cc in omega arith)

---- the marks cleared

unmarked-eight : (i : ℕ) → get_or (replicate 8 false) i false ≡ false
unmarked-eight i = go 8 i
  where
    go : (n i : ℕ) → get_or (replicate n false) i false ≡ false
    go zero i = refl
    go (suc n) zero = refl
    go (suc n) (suc i) = go n i

sliced-unmarked : (cs : List Core) → sliced_all (map unmarked cs) ≡ map unmarked (sliced_all cs)
unfolding sliced_all
sliced-unmarked [] = refl
sliced-unmarked (c ∷ cs) = ap (λ (l : List Core). unmarked (with_state (sliced c.state) c) ∷ l) (sliced-unmarked cs)

-- what the definition makes of the state after the exit
abbrev closing : State → State
closing e =
    record {
      config = e.config;
      cores = map unmarked (sliced_all e.cores);
      queue = e.queue;
      accounts = charged e;
      now = e.now + 1;
      closed = true;
    }

module _ (s : Sched) (ts : List ThreadInfo) (qs ps ls ws : List ℕ) (v : Valid s (memory ts qs ps ls ws)) (i : ℕ) (e : Answered Unit) (ts₁ : List ThreadInfo) (qs₁ ls₁ : List ℕ)
    (d : Done (exit (close_core s i).0) (call_answer_meant e.answer) s e.sched (memory ts qs ps ls ws) (memory ts₁ qs₁ ps ls₁ ws)) where
  abbrev M : State
  M = meant_at s ts qs ls ws

  abbrev s₁ : Sched
  s₁ = e.sched

  abbrev M₁ : State
  M₁ = meant_at s₁ ts₁ qs₁ ls₁ ws

  abbrev v₁ : Valid s₁ (memory ts₁ qs₁ ps ls₁ ws)
  v₁ = d.valid

  ---- refused: the core is not there, and nothing is done

  module _ (n : ℕ) (h : close_refusal s i ≡ some n) where
    nowhere : (close_core s i).0 ≡ 8
    unfolding close_core
    nowhere = refused-is (close_refusal s i) i 8 n h

    exit-nowhere : refusal M (exit (close_core s i).0) ≡ some 4
    unfolding core_refusal
    exit-nowhere = rw nowhere (exit-refusal s ts qs ls ws 8 ∙ sym (hit 4 (leb s.cores 8) _ (le-leb s.cores 8 v.sizes.cores)))

    exit-refused : call_answer_meant e.answer ≡ refused 4
    exit-refused = d.answer ∙ step-refused M (close_core s i).0 4 exit-nowhere

    same : Same s s₁ (memory ts qs ps ls ws) (memory ts₁ qs₁ ps ls₁ ws)
    same = d.same 4 exit-refused

    none-charged : charged_threads e ≡ 0
    unfolding charged_threads
    none-charged = if-refused e.answer 4 s₁.threads exit-refused

  ---- taken

  module _ (h : close_refusal s i ≡ none) where
    unrefused : refusal M (close i) ≡ none
    unfolding close_refusal
    unrefused = close-refusal s ts qs ls ws i ∙ h

    core-own : (close_core s i).0 ≡ i
    unfolding close_core
    core-own = taken_is (close_refusal s i) i 8 h

    exit-unrefused : refusal M (exit (close_core s i).0) ≡ none
    exit-unrefused = rw core-own (exit-refusal s ts qs ls ws i ∙ close-exits s i h)

    exit-taken : call_answer_meant e.answer ≡ ok
    exit-taken = d.answer ∙ (step-taken M (close_core s i).0 exit-unrefused).0

    state-exited : M₁ ≡ exited M i
    state-exited = d.state ∙ (step-taken M (close_core s i).0 exit-unrefused).1 ∙ ap (exited M) core-own

    all-charged : charged_threads e ≡ s₁.threads
    unfolding charged_threads
    all-charged = if_ok e.answer s₁.threads exit-taken

    -- what the exit leaves as it was
    now-kept : s₁.now.0 ≡ s.now.0
    unfolding exited meant_at
    now-kept = ap (λ (x : State). x.now) state-exited

    closed-kept : s₁.closed ≡ s.closed
    unfolding exited meant_at
    closed-kept = ap (λ (x : State). x.closed) state-exited

    segments-kept : s₁.capacities.segments ≡ s.capacities.segments
    unfolding exited meant_at
    segments-kept = ap (λ (x : State). x.config.cap_s) state-exited

    cores-kept : s₁.cores ≡ s.cores
    unfolding exited meant_at
    cores-kept =
        let own = board_of s in
        sym (length-firsts (board_of s₁) s₁.cores) ∙ ap (λ (x : State). length x.cores) state-exited
        ∙ length-update mark_exit i M.cores ∙ length-firsts own s.cores

    -- so the tick can end
    still_open : s.closed ≡ false
    unfolding core_refusal
    still_open = check-none 11 _ _ (check-rest 4 _ _ (close-exits s i h))

    tick-unrefused : tick_refusal s₁ ≡ none
    unfolding tick_refusal check
    tick-unrefused = rw (closed-kept, still_open, now-kept, close-early s i h)

    phase-fits : PhaseFits s₁ ws
    phase-fits = record { charge = charge-fits s₁ ts₁ qs₁ ps ls₁ ws v₁ tick-unrefused; short = (plan-fits s₁ ts₁ qs₁ ps ls₁ ws v₁ tick-unrefused ws refl).short }

    charge-threads : tick_threads s₁ ≡ charged_threads e
    charge-threads = threads-taken s₁ tick-unrefused ∙ sym all-charged

  ---- what charging the records asks, and what the call's end does

  pub records-fit : (charged_threads e ≤ length ts₁) × AllChargeable (charged_threads e) ts₁
  records-fit = go (close_refusal s i) refl
    where
      go : (o : Option ℕ) → close_refusal s i ≡ o → (charged_threads e ≤ length ts₁) × AllChargeable (charged_threads e) ts₁
      go none h = subst (λ (n : ℕ). (n ≤ length ts₁) × AllChargeable n ts₁) (charge-threads h) (charge-all-fits s₁ ts₁ qs₁ ps ls₁ ws v₁)
      go (some n) h = subst (λ (n : ℕ). (n ≤ length ts₁) × AllChargeable n ts₁) (sym (none-charged n h)) (omega arith, λ k l. absurd (omega arith))

  pub close-fits : CloseFits s i e ws
  close-fits = record { cores = v.sizes.cores; phase = phase-fits }

  ---- the whole

  module _ (ts' : List ThreadInfo) (f : Front (charged_threads e) (charge_threads (cores_meant (states_of s₁.states)) 0 (threads_in ts₁ (charged_threads e))) ts₁ ts')
      (s' : Sched) (a : Result Unit Refusal) (ws' : List ℕ) (fin : CloseFinished s i e ws ws' s' a) where
    refused-done : (n : ℕ) → close_refusal s i ≡ some n → Done (close i) (call_answer_meant a) s s' (memory ts qs ps ls ws) (memory ts' qs₁ ps ls₁ ws')
    unfolding close_refusal
    refused-done n h =
        let k = same n h in
        let r = fin.refused n h in
        let t : ts' ≡ ts₁ = subst (λ (m : ℕ). drop m ts' ≡ drop m ts₁) (none-charged n h) f.rest in
        rw (answer-refused a n (fin.answer ∙ h), r.0, r.1, t, k.threads, k.queue, k.log) (done_refused (close i) s ts qs ps ls ws v n (close-refusal s ts qs ls ws i ∙ h))

    module _ (h : close_refusal s i ≡ none) where
      abbrev C : ClosedOf s₁ ws ws' s'
      C = fin.taken h

      abbrev next : Sched
      next = closed_sched s₁ C.tick C.counted C.states

      ---- the cores

      abbrev own : ℕ → Core
      own = board_of s₁

      abbrev clear : ℕ → Core
      clear = core_from (states_of s₁.states) (replicate 8 false) (replicate 8 false) (replicate 8 false) s₁.marks.progressed

      abbrev left : ℕ → Core
      left = core_from (states_of C.states) (replicate 8 false) (replicate 8 false) (replicate 8 false) s₁.marks.progressed

      cleared-own : (j : ℕ) → clear j ≡ unmarked (own j)
      unfolding core_from
      cleared-own j = rw (unmarked-eight j)

      cores-closed : firsts left s₁.cores ≡ map unmarked (sliced_all (firsts own s₁.cores))
      unfolding pass_of and_then
      cores-closed =
          ap (λ (p : Pass). p.cores) (C.sliced (replicate 8 false) (replicate 8 false) (replicate 8 false) s₁.marks.progressed [] []).done
          ∙ ap (λ (p : Pass). p.cores) (ascend-phase1 0 (firsts clear s₁.cores) [])
          ∙ ap sliced_all (firsts_same clear (λ j. unmarked (own j)) s₁.cores (λ j l. cleared-own j) ∙ sym (map-firsts unmarked own s₁.cores))
          ∙ sliced-unmarked (firsts own s₁.cores)

      marks : MarksOK s₁.cores (states_of C.states) (record s₁.marks { exits = replicate 8 false; blocks = replicate 8 false; yields = replicate 8 false })
      marks =
          record {
            exits = refl;
            blocks = refl;
            yields = refl;
            progressed = v₁.marks.progressed;
            unused = λ j l. (C.sliced (replicate 8 false) (replicate 8 false) (replicate 8 false) s₁.marks.progressed [] []).rest j l ∙ cleared-own j ∙ ap unmarked (v₁.marks.unused j l);
          }

      ---- the records

      front : Front s₁.threads (charge_threads (cores_meant (states_of s₁.states)) 0 (threads_in ts₁ s₁.threads)) ts₁ ts'
      front = subst (λ (n : ℕ). Front n (charge_threads (cores_meant (states_of s₁.states)) 0 (threads_in ts₁ n)) ts₁ ts') (all-charged h) f

      threads-charged : threads_in ts' s₁.threads ≡ charge_threads M₁.cores 0 (threads_in ts₁ s₁.threads)
      unfolding meant_at
      threads-charged = front.front ∙ charge-used s₁.states s₁.marks.exits s₁.marks.blocks s₁.marks.yields s₁.marks.progressed s₁.cores v₁.sizes.cores v₁.marks.unused (threads_in ts₁ s₁.threads)

      long : length ts' ≡ length ts₁
      long =
          front_long s₁.threads _ ts₁ ts' front (priority-charged (cores_meant (states_of s₁.states)) 0 (threads_in ts₁ s₁.threads))
          (omega (arith, v₁.sizes.in_use, v₁.sizes.threads))

      priorities : take s₁.threads ps ≡ priorities_of (threads_in ts' s₁.threads)
      unfolding meant_at threads_in
      priorities = v₁.priorities ∙ sym (ap priorities_of threads-charged ∙ priority-charged M₁.cores 0 (threads_in ts₁ s₁.threads))

      ---- the state

      accounts-charged : (meant_at next ts' qs₁ ls₁ ws').accounts ≡ charged M₁
      unfolding meant_at threads_in charge
      accounts-charged =
          λ j. record {
            threads = threads-charged j;
            ticks = meant-ticks s₁ ts₁ qs₁ ls₁ ws s₁.now.0 C.counted.ticks C.charged.ticks j;
            timelines = meant-timelines s₁ ts₁ qs₁ ls₁ ws s₁.now.0 ws' C.counted.lanes C.charged.lanes j;
            log = M₁.accounts.log;
            context_switches = s₁.context_switches;
          }

      state-closed : meant_at next ts' qs₁ ls₁ ws' ≡ closing M₁
      unfolding meant_at
      state-closed = λ j. record { config = M₁.config; cores = cores-closed j; queue = M₁.queue; accounts = accounts-charged j; now = C.next j; closed = true }

      state-is : meant_at next ts' qs₁ ls₁ ws' ≡ (accept M (close i)).state
      unfolding accept
      state-is = state-closed ∙ ap closing (state-exited h)

      frame : Frame s next (memory ts qs ps ls ws) (memory ts' qs₁ ps ls₁ ws')
      frame =
          let k : lane_start s₁.capacities.segments s₁.cores ≡ lane_start s.capacities.segments s.cores = rw (segments-kept h, cores-kept h) in
          record {
            threads = front.rest ∙ d.frame.threads;
            queue = d.frame.queue;
            prios = refl;
            log = d.frame.log;
            lanes = subst (λ (n : ℕ). drop n ws' ≡ drop n ws) k C.charged.lanes.after;
            ticks = λ j l. C.charged.ticks.rest j (subst (λ (n : ℕ). n ≤ j) (sym (cores-kept h)) l) ∙ d.frame.ticks j l;
            places = λ j l. C.charged.lanes.rest j (subst (λ (n : ℕ). n ≤ j) (sym (cores-kept h)) l) ∙ d.frame.places j l;
          }

      taken_next : Done (close i) (call_answer_meant a) s next (memory ts qs ps ls ws) (memory ts' qs₁ ps ls₁ ws')
      unfolding accept meant_at threads_in close_refusal
      taken_next =
          let z = v₁.sizes in
          let an : call_answer_meant a ≡ ok = answer-taken a (fin.answer ∙ h) in
          done-taken (close i) s ts qs ps ls ws v (call_answer_meant a) next ts' qs₁ ps ls₁ ws' (unrefused h) state-is an (ok-unrefused (call_answer_meant a) an)
          (record { cores = z.cores; in_use = z.in_use; waiting = z.waiting; threads = omega (arith, long, z.threads); queue = z.queue; prios = z.prios; log = z.log; lanes = omega (arith, fin.long, z.lanes) })
          (record { eight = C.charged.eight_lanes; events = v₁.rings.events; segments = λ j l. (C.charged.lanes.lanes j l).ok })
          marks C.words C.charged.eight_ticks priorities frame

      taken-done : Done (close i) (call_answer_meant a) s s' (memory ts qs ps ls ws) (memory ts' qs₁ ps ls₁ ws')
      taken-done = subst (λ (x : Sched). Done (close i) (call_answer_meant a) s x (memory ts qs ps ls ws) (memory ts' qs₁ ps ls₁ ws')) (sym C.is) taken_next

    pub close-done : Done (close i) (call_answer_meant a) s s' (memory ts qs ps ls ws) (memory ts' qs₁ ps ls₁ ws')
    close-done = go (close_refusal s i) refl
      where
        go : (o : Option ℕ) → close_refusal s i ≡ o → Done (close i) (call_answer_meant a) s s' (memory ts qs ps ls ws) (memory ts' qs₁ ps ls₁ ws')
        go none h = taken-done h
        go (some n) h = refused-done n h
