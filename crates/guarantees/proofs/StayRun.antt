-- What `stay_ticks` counts is the growth of the thread's own run ticks over the stay: while a thread is on core c it is on no other core.
use Prim.Native.Nat.{ℕ, zero, suc, ◌+◌, ◌≤◌, ◌<◌}
use mathlib.Core.Path.{◌≡◌, refl, sym, ap, ◌∙◌, subst}
use mathlib.Core.Bool.{Bool, true, false, cond, not, ◌||◌, ◌&&◌}
use mathlib.Core.Option.{Option, none, some}
use mathlib.Core.List.{List, [], ◌∷◌, ◌++◌}
use native.Mathlib.Omega.{arith}
use lib.Dec.{eqb}
use lib.ListN.{length, get_elem?}
use borrow.Author.Tests.{eqb-true, eq-eqb}
use Rattle.model.specs.Types.{RoundRobin, CoreState, Idle, Switching, Running, LeaveReason, Core, ThreadRecord, Accounts, State}
use Rattle.model.specs.Phases.{Rules, Pass, Phase, ascend, and_then, update, holder, sliced, phase1, switched_in, phase2, vacate, phase3, filled, phase4, hand_over, phase5, phase6, phases1_to4, decide}
use Rattle.model.specs.Accounting.{add_counts, finished, set_state, on_thread, logged, runs_on, runs, born}
use Rattle.model.specs.Calls.{Call, spawn, exit, join, retired, yield, priority, timing, force, tick, close, JoinOutcome, Wait, Done, Invalid, accept, stepped, refusal, rules, check, core_at, idle_core, is_running, tid_on, thread_state_of, exited, waiters, wake, outcome, blocking, mark_exit, mark_block, mark_yield, mark_progress, new, made}
use Rattle.guarantees.specs.Claims.{Observed, leaves_on, observed, observe, observe_all, unobserved, refusal_of, moves_of, conditions_hold, ticked, add_if, stay_conditions, timing_is, timing_kept, charges, still_waited, run_ticks, ran_of, stay_end, begins, StayBound}
use Rattle.model.proofs.PhaseLaws.{At, not-both, and_l, and_r, or-true-l, or-false-r}
use Rattle.model.proofs.Refusals.{check-none}
use Rattle.guarantees.proofs.PhaseMoves.{at-core, ascend-at, and_then-at, and_then-before}
use Rattle.guarantees.proofs.Invariants.{phase6-rr, Inv, inv-observed, inv-observe_all, start}
use Rattle.guarantees.proofs.RunTicks.{ran-same, tick-ran, runs-at}
use Rattle.guarantees.proofs.Holders.{held_by, Single, marked-held, Held, held-stepped, held-run, held_new, held-range}
use Rattle.guarantees.proofs.History.{observe_all-run}
use Rattle.guarantees.proofs.Stay.{stay_ticks, stay-ticks}

---- calls other than a tick charge nobody

ran-snoc : (ts : List ThreadRecord) (t : ThreadRecord) (x : ℕ) → t.counts.run ≡ 0 → ran_of (ts ++ (t ∷ [])) x ≡ ran_of ts x
unfolding ran_of run_ticks
ran-snoc [] t zero e = e
ran-snoc [] t (suc x) e = refl
ran-snoc (u ∷ ts) t zero e = refl
ran-snoc (u ∷ ts) t (suc x) e = ran-snoc ts t x e

ran-wake : (e now : ℕ) (w : List ℕ) (b : Accounts) (x : ℕ) → ran_of (wake e now w b).threads x ≡ ran_of b.threads x
unfolding wake logged
ran-wake e now [] b x = refl
ran-wake e now (t ∷ w) b x = ran-wake e now w _ x ∙ ran-same _ (λ y. refl) t b.threads x

ran-exited : (s : State) (i x : ℕ) → ran_of (exited s i).accounts.threads x ≡ ran_of s.accounts.threads x
unfolding exited finished
ran-exited s i x = ran-wake s.config.cap_e s.now _ _ x ∙ ran-same (finished s.now) (λ y. refl) (tid_on s i) s.accounts.threads x

ran-joined : (s : State) (i t : ℕ) (o : JoinOutcome) (x : ℕ) → ran_of (blocking s i t o).accounts.threads x ≡ ran_of s.accounts.threads x
unfolding blocking
ran-joined s i t Done x = refl
ran-joined s i t Invalid x = refl
ran-joined s i t Wait x = ran-same _ (λ y. refl) (tid_on s i) s.accounts.threads x

---- a core keeps its thread till it leaves

abbrev HoldsX : ℕ → Core → Type 0
HoldsX x c = holder c.state ≡ some x

held_at : (x n : ℕ) (cs : List Core) → held_by cs n ≡ some x → At (HoldsX x) n cs
unfolding core_at
held_at x n [] e = let z : ◌≡◌ {A = ℕ} 0 1 = cc in omega arith
held_at x zero (c ∷ cs) e = e
held_at x (suc n) (c ∷ cs) e = held_at x n cs e

keeps-1 : (x : ℕ) (s : CoreState) → holder s ≡ some x → holder (sliced s) ≡ some x
unfolding sliced
keeps-1 x Idle e = e
keeps-1 x (Switching t l) e = e
keeps-1 x (Running t l) e = e

keeps-2 : (x : ℕ) (c : Core) (q : List ℕ) (s : CoreState) (d : Bool) → HoldsX x c → holder s ≡ some x → HoldsX x (switched_in c s d q).core
unfolding switched_in
keeps-2 x c q Idle d h e = h
keeps-2 x c q (Running t l) d h e = h
keeps-2 x c q (Switching t l) true h e = e
keeps-2 x c q (Switching t l) false h e = e

keeps-3 : (x j : ℕ) (c : Core) (q : List ℕ) (o : Option ℕ) (g : Option LeaveReason) → holder c.state ≡ o → o ≡ some x → leaves_on j (vacate j c o g q).moves ≡ false → HoldsX x (vacate j c o g q).core
unfolding vacate leaves_on
keeps-3 x j c q none g z e l = absurd (let n : ◌≡◌ {A = ℕ} 0 1 = cc in omega arith)
keeps-3 x j c q (some t) none z e l = z ∙ e
keeps-3 x j c q (some t) (some r) z e l = absurd (not-both _ (or-true-l (eqb j j) false (eq-eqb j j refl)) l)

keeps-4 : (x j : ℕ) (k : Rules) (c : Core) (q : List ℕ) (s : CoreState) (n : Option ℕ) → HoldsX x c → holder s ≡ some x → HoldsX x (filled k j c s n q).core
unfolding filled
keeps-4 x j k c q (Switching t l) n h e = h
keeps-4 x j k c q (Running t l) n h e = h
keeps-4 x j k c q Idle none h e = h
keeps-4 x j k c q Idle (some t) h e = absurd (let z : ◌≡◌ {A = ℕ} 0 1 = cc in omega arith)

keeps-5 : (x j : ℕ) (k : Rules) (c : Core) (q : List ℕ) (s : CoreState) (w : Bool) (n : Option ℕ) (r : LeaveReason) → HoldsX x c → holder s ≡ some x → leaves_on j (hand_over k j c s w n r q).moves ≡ false → HoldsX x (hand_over k j c s w n r q).core
unfolding hand_over leaves_on
keeps-5 x j k c q Idle w n r h e l = h
keeps-5 x j k c q (Switching t i) w n r h e l = h
keeps-5 x j k c q (Running t i) false n r h e l = h
keeps-5 x j k c q (Running t i) true none r h e l = e
keeps-5 x j k c q (Running t i) true (some u) r h e l = absurd (not-both _ (or-true-l (eqb j j) _ (eq-eqb j j refl)) l)

-- a round robin tick
tick-holds : (k : Rules) → k.policy ≡ RoundRobin → (x j : ℕ) (cs : List Core) (q : List ℕ) → At (HoldsX x) j cs → leaves_on j (decide k cs q).moves ≡ false → At (HoldsX x) j (decide k cs q).cores
unfolding decide phases1_to4 phase1 phase2 phase3 phase4 phase5
tick-holds k e x j cs q a = subst (λ (p : Pass). leaves_on j p.moves ≡ false → At (HoldsX x) j p.cores) (sym (phase6-rr k (and_then p4 (phase5 k)) e)) five
  where
    Any : List ℕ → Type 0
    Any v = Unit {0}

    p1 : Pass
    p1 = ascend phase1 0 cs q

    p2 : Pass
    p2 = and_then p1 phase2

    p3 : Pass
    p3 = and_then p2 phase3

    p4 : Pass
    p4 = and_then p3 (phase4 k)

    five : leaves_on j (and_then p4 (phase5 k)).moves ≡ false → At (HoldsX x) j (and_then p4 (phase5 k)).cores
    five l =
        let l4 = and_then-before j p4 (phase5 k) l in
        let l3 = and_then-before j p3 (phase4 k) l4 in
        let l2 = and_then-before j p2 phase3 l3 in
        let l1 = and_then-before j p1 phase2 l2 in
        and_then-at (HoldsX x) (HoldsX x) Any (phase5 k) j (λ i c v w. tt) (λ c v h w m. keeps-5 x j k _ v c.state _ _ _ h h m) p4
        (and_then-at (HoldsX x) (HoldsX x) Any (phase4 k) j (λ i c v w. tt) (λ c v h w m. keeps-4 x j k c v c.state _ h h) p3
        (and_then-at (HoldsX x) (HoldsX x) Any phase3 j (λ i c v w. tt) (λ c v h w m. keeps-3 x j c v (holder c.state) _ refl h m) p2
        (and_then-at (HoldsX x) (HoldsX x) Any phase2 j (λ i c v w. tt) (λ c v h w m. keeps-2 x c v c.state _ h h) p1
        (ascend-at (HoldsX x) (HoldsX x) Any phase1 j (λ i c v w. tt) (λ c v h w m. keeps-1 x c.state h) 0 j cs q (omega arith) a tt l1) tt l2) tt l3) tt l4) tt l

---- a thread on core c runs just where core c runs

runs-where : (x : ℕ) (cs : List Core) → runs x cs ≡ true → (n : ℕ) × (s : ℕ) × ((core_at cs n).state ≡ Running x s)
unfolding runs core_at runs_on
runs-where x [] e = absurd (not-both false e refl)
runs-where x (c ∷ cs) e = go c.state refl e (λ h. further (runs-where x cs h))
  where
    further : (n : ℕ) × (s : ℕ) × ((core_at cs n).state ≡ Running x s) → (n : ℕ) × (s : ℕ) × ((core_at (c ∷ cs) n).state ≡ Running x s)
    further (n, s, h) = (suc n, s, h)

    here : (t s : ℕ) → c.state ≡ Running t s → (b : Bool) → eqb t x ≡ b → b || runs x cs ≡ true → (runs x cs ≡ true → (n : ℕ) × (s : ℕ) × ((core_at (c ∷ cs) n).state ≡ Running x s)) → (n : ℕ) × (s : ℕ) × ((core_at (c ∷ cs) n).state ≡ Running x s)
    here t s z true f h r = (0, s, z ∙ ap (λ (u : ℕ). Running u s) (eqb-true t x f))
    here t s z false f h r = r h

    go : (s : CoreState) → c.state ≡ s → runs_on x s || runs x cs ≡ true → (runs x cs ≡ true → (n : ℕ) × (s : ℕ) × ((core_at (c ∷ cs) n).state ≡ Running x s)) → (n : ℕ) × (s : ℕ) × ((core_at (c ∷ cs) n).state ≡ Running x s)
    go Idle z h r = r h
    go (Switching t l) z h r = r h
    go (Running t l) z h r = here t l z (eqb t x) refl h r

runs_own : (x c : ℕ) (cs : List Core) → Single cs → held_by cs c ≡ some x → runs x cs ≡ is_running (core_at cs c).state
runs_own x c cs v e = go (core_at cs c).state refl
  where
    elsewhere : (s : CoreState) → (core_at cs c).state ≡ s → is_running s ≡ false → (b : Bool) → runs x cs ≡ b → b ≡ false
    elsewhere s z f false h = refl
    elsewhere s z f true h =
        let k = runs-where x cs h in
        let same : k.0 ≡ c = v k.0 c x (ap holder k.2) e in
        let there : (core_at cs c).state ≡ Running x k.1 = subst (λ (n : ℕ). (core_at cs n).state ≡ Running x k.1) same k.2 in
        absurd (not-both (is_running s) (ap is_running (sym z ∙ there)) f)

    go : (s : CoreState) → (core_at cs c).state ≡ s → runs x cs ≡ is_running s
    go Idle z = elsewhere Idle z refl (runs x cs) refl
    go (Switching t l) z = elsewhere (Switching t l) z refl (runs x cs) refl
    go (Running t l) z = let same : t ≡ x = cc (ap holder z, e) in subst (λ (u : ℕ). runs u cs ≡ true) same (runs-at cs c t l z)

---- along the list

-- one call; Y is what the rest of the list makes of the run ticks, X what it counts
module _ (q k : ℕ) (c x : ℕ) (w : Observed) (v : Held w.state) (rr : w.state.config.policy ≡ RoundRobin) (e : held_by w.state.cores c ≡ some x) where
  abbrev ran : State → ℕ
  ran s = ran_of s.accounts.threads x

  same_step : (s' : State) (X Y : ℕ) → ran s' ≡ ran w.state → held_by s'.cores c ≡ some x → (held_by s'.cores c ≡ some x → Y ≡ ran s' + X) → Y ≡ ran w.state + X
  same_step s' X Y r h ih = omega (arith, ih h)

  tick-step : (b lv : Bool) (X Y : ℕ) → refusal w.state tick ≡ none → is_running (core_at w.state.cores c).state ≡ b → leaves_on c (accept w.state tick).moves ≡ lv
      → (held_by (accept w.state tick).state.cores c ≡ some x → Y ≡ ran (accept w.state tick).state + X)
      → cond lv (ran (accept w.state tick).state) Y ≡ ran w.state + add_if b (cond lv 0 X)
  unfolding refusal accept rules
  tick-step b lv X Y r rb lb ih = go b lv grown lb ih
    where
      unclosed : w.state.closed ≡ false
      unclosed = check-none 11 _ _ r

      grown : ran (accept w.state tick).state ≡ ran w.state + cond b 1 0
      grown = tick-ran w.state x (held-range w.state v.placed unclosed c x e) ∙ ap (λ (a : Bool). ran w.state + cond a 1 0) (runs_own x c w.state.cores v.single e ∙ rb)

      on : leaves_on c (accept w.state tick).moves ≡ false → held_by (accept w.state tick).state.cores c ≡ some x
      on l = at-core (HoldsX x) c (decide (rules w.state) w.state.cores w.state.queue).cores (tick-holds (rules w.state) rr x c w.state.cores w.state.queue (held_at x c w.state.cores e) l)

      go : (b lv : Bool) → ran (accept w.state tick).state ≡ ran w.state + cond b 1 0 → leaves_on c (accept w.state tick).moves ≡ lv
          → (held_by (accept w.state tick).state.cores c ≡ some x → Y ≡ ran (accept w.state tick).state + X) → cond lv (ran (accept w.state tick).state) Y ≡ ran w.state + add_if b (cond lv 0 X)
      go true true g l h = omega arith
      go false true g l h = omega arith
      go true false g l h = omega (arith, h (on l))
      go false false g l h = omega (arith, h (on l))

  step_run : (d : Call) (r : Option ℕ) → refusal w.state d ≡ r → conditions_hold w d r ≡ true → (X Y : ℕ)
      → (held_by (stepped w.state d r).state.cores c ≡ some x → Y ≡ ran (stepped w.state d r).state + X)
      → cond (leaves_on c (stepped w.state d r).moves) (ran (stepped w.state d r).state) Y ≡ ran w.state + add_if (ticked d r && is_running (core_at w.state.cores c).state) (cond (leaves_on c (stepped w.state d r).moves) 0 X)
  unfolding conditions_hold stepped accept leaves_on logged born exited blocking add_counts
  step_run d (some m) er f X Y ih = ih e
  step_run (spawn p t) none er f X Y ih = same_step (accept w.state (spawn p t)).state X Y (ran-snoc w.state.accounts.threads _ x refl) e ih
  step_run (exit i) none er f X Y ih = same_step (exited w.state i) X Y (ran-exited w.state i x) (held-exit ∙ e) ih
    where
      held-exit : held_by (exited w.state i).cores c ≡ held_by w.state.cores c
      held-exit = marked-held mark_exit (λ y. refl) i w.state.cores c
  step_run (join i t) none er f X Y ih = same_step (blocking w.state i t o) X Y (ran-joined w.state i t o x) (held-join o) ih
    where
      o : JoinOutcome
      o = outcome (tid_on w.state i) t (thread_state_of (get_elem? w.state.accounts.threads t))

      held-join : (o : JoinOutcome) → held_by (blocking w.state i t o).cores c ≡ some x
      held-join Done = e
      held-join Invalid = e
      held-join Wait = marked-held mark_block (λ y. refl) i w.state.cores c ∙ e
  step_run (retired i) none er f X Y ih = same_step (accept w.state (retired i)).state X Y refl (marked-held mark_progress (λ y. refl) i w.state.cores c ∙ e) ih
  step_run (yield i) none er f X Y ih = same_step (accept w.state (yield i)).state X Y (ran-same (add_counts 0 0 0 0 0 1) yielded (tid_on w.state i) w.state.accounts.threads x) (marked-held mark_yield (λ y. refl) i w.state.cores c ∙ e) ih
    where
      yielded : (t : ThreadRecord) → (add_counts 0 0 0 0 0 1 t).counts.run ≡ t.counts.run
      yielded t = omega arith
  step_run (priority t m) none er f X Y ih = same_step (accept w.state (priority t m)).state X Y (ran-same _ (λ y. refl) t w.state.accounts.threads x) e ih
  step_run (timing a b) none er f X Y ih = same_step (accept w.state (timing a b)).state X Y refl e ih
  step_run (force i t) none er f X Y ih = absurd (not-both false f refl)
  step_run tick none er f X Y ih = tick-step (is_running (core_at w.state.cores c).state) (leaves_on c (accept w.state tick).moves) X Y er refl refl ih
  step_run (close i) none er f X Y ih = absurd (not-both false f refl)

end-ran : (c x : ℕ) (b : Bool) (s t : State) → ran_of (cond b s t).accounts.threads x ≡ cond b (ran_of s.accounts.threads x) (ran_of t.accounts.threads x)
end-ran c x true s t = refl
end-ran c x false s t = refl

pub stay-grown :
    (q k n c x : ℕ) (ds : List Call) (w : Observed) → Inv q k n w → Held w.state → held_by w.state.cores c ≡ some x → stay_conditions q k c w ds ≡ true
    → ran_of (stay_end c w ds).accounts.threads x ≡ ran_of w.state.accounts.threads x + stay_ticks c w ds
unfolding stay_conditions stay_ticks stay_end observed
stay-grown q k n c x [] w i v e f = omega arith
stay-grown q k n c x (d ∷ ds) w i v e f =
    end-ran c x (leaves_on c (moves_of w d)) (observe w d).state (stay_end c (observe w d) ds)
    ∙ go (leaves_on c (moves_of w d)) refl
    (λ g h. stay-grown q k n c x ds (observe w d) (inv-observed i d (refusal_of w d) (and_l _ _ g)) (held-stepped w.state d (refusal_of w d) refl v) h (and_r (timing_is q k (observe w d).state) _ g))
  where
    G : Bool
    G = timing_is q k (observe w d).state && stay_conditions q k c (observe w d) ds

    f1 : (not (charges c w d) || still_waited w.state) && (leaves_on c (moves_of w d) || G) ≡ true
    f1 = and_r (conditions_hold w d (refusal_of w d)) _ f

    rest : leaves_on c (moves_of w d) || G ≡ true
    rest = and_r (not (charges c w d) || still_waited w.state) _ f1

    R : ℕ
    R = cond (leaves_on c (moves_of w d)) (ran_of (observe w d).state.accounts.threads x) (ran_of (stay_end c (observe w d) ds).accounts.threads x)

    one : (X Y : ℕ) → (held_by (observe w d).state.cores c ≡ some x → Y ≡ ran_of (observe w d).state.accounts.threads x + X)
        → cond (leaves_on c (moves_of w d)) (ran_of (observe w d).state.accounts.threads x) Y ≡ ran_of w.state.accounts.threads x + add_if (charges c w d) (cond (leaves_on c (moves_of w d)) 0 X)
    one X Y ih = step_run q k c x w v i.policy e d (refusal_of w d) refl (and_l _ _ f) X Y ih

    go : (lv : Bool) → leaves_on c (moves_of w d) ≡ lv
        → (timing_is q k (observe w d).state && stay_conditions q k c (observe w d) ds ≡ true → held_by (observe w d).state.cores c ≡ some x → ran_of (stay_end c (observe w d) ds).accounts.threads x ≡ ran_of (observe w d).state.accounts.threads x + stay_ticks c (observe w d) ds)
        → R ≡ ran_of w.state.accounts.threads x + add_if (charges c w d) (cond (leaves_on c (moves_of w d)) 0 (stay_ticks c (observe w d) ds))
    go true l ih = rw l (rw l at (one (stay_ticks c (observe w d) ds) (ran_of (observe w d).state.accounts.threads x + stay_ticks c (observe w d) ds) (λ h. refl)))
    go false l ih = one (stay_ticks c (observe w d) ds) (ran_of (stay_end c (observe w d) ds).accounts.threads x) (ih (subst (λ (b : Bool). b || G ≡ true) l rest))

---- the claim

held-observed : (s : State) (ds : List Call) → Held s → Held (observe_all (unobserved s) ds).state
unfolding unobserved
held-observed s ds v = subst Held (sym (observe_all-run ds (unobserved s))) (held-run ds s v)

pub stay : StayBound
stay q k n cap_t cap_e cap_s entry s e before during t c x b h f =
    let z = start q k n cap_t cap_e cap_s entry s e in
    let w = observe_all (unobserved s) before in
    let v = held-observed s before (held_new RoundRobin q k n cap_t cap_e cap_s entry s e) in
    let g = stay-grown q k _ c x during w (inv-observe_all (unobserved s) z.inv before t) v h f in
    let l = stay-ticks q k n cap_t cap_e cap_s entry s e before during t c b f in
    omega arith
