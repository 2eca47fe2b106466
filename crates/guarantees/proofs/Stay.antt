-- The stay: a core whose thread does not leave has at most a quantum of charged ticks behind it.
use Prim.Native.Nat.{ℕ, zero, suc, pred, ◌+◌, ◌≤◌, ◌<◌}
use mathlib.Core.Path.{◌≡◌, refl, sym, ap, ◌∙◌, subst}
use mathlib.Core.Logic.{◌⊎◌, inl, inr}
use mathlib.Core.Bool.{Bool, true, false, cond, ◌||◌, ◌&&◌, not}
use mathlib.Core.Option.{Option, none, some}
use mathlib.Core.List.{List, [], ◌∷◌, ◌++◌, map, head?}
use native.Mathlib.Omega.{arith}
use lib.Dec.{eqb, leb}
use lib.ListN.{length, get_elem?}
use borrow.Author.Tests.{eqb-true, leb-true, leb-false, eq-eqb, ne_eqb}
use Rattle.model.specs.Invariants.{All}
use Rattle.model.specs.Types.{Policy, RoundRobin, CoreState, Idle, Switching, Running, LeaveReason, Yield, Quantum, Core, Move, starts, leaves, takes, State}
use Rattle.model.specs.Phases.{Rules, Turn, Pass, Phase, ascend, and_then, update, without, dispatched_state, dispatch_moves, sliced, phase1, switched_in, is_due, phase2, leaves_for, holder, vacate, phase3, filled, phase4, hand_over, wants_hand_over, quantum_over, quantum_of, phase5, phase6, phases1_to4, decide, pick_next, choose, ceiling_of, with_state, unyielded}
use Rattle.model.specs.Calls.{Call, spawn, exit, join, retired, yield, priority, timing, force, tick, close, JoinOutcome, Wait, Done, Invalid, outcome, thread_state_of, tid_on, blocking, exited, mark_exit, mark_block, mark_yield, mark_progress, accept, stepped, refusal, check, no_core, out_of, core_state_of, forced_core, taken_by, new, made_of, made, Made, refused_new, initial_state, idle_core, beyond, rules, core_at, is_running, priority_of}
use Rattle.guarantees.specs.Claims.{Observed, gets, takes_on, leaves_on, is_non_empty, observed, observe, timing_is, timing_kept, observe_all, refusal_of, moves_of, conditions_hold, all_reported, still_waited, ticked, add_if, charges, stay_conditions, begins, unobserved}
use Rattle.model.proofs.PhaseLaws.{At, or-false-l, or-false-r, or-false, or-true-l, or_true_r, not-both, and_l, and_r, and-false, implied, other}
use Rattle.model.proofs.Refusals.{check-none}
use Rattle.guarantees.proofs.PhaseMoves.{ascend-at, ascend-queue, ascend-takes, and_then-at, and_then-before, at-update, at-core, at-put, ascend-takes-none, and_then-takes, and_then-takes-none}
use Rattle.guarantees.proofs.Invariants.{All2, Inv, Covers, inv-observed, inv-observe_all, phase6-rr, Start, start, timing_kept-append}

-- the ticks in which core c runs, till its thread leaves
unfoldable pub stay_ticks : (core : ℕ) → Observed → List Call → ℕ
stay_ticks c w [] = 0
stay_ticks c w (k ∷ ks) = add_if (charges c w k) (cond (leaves_on c (moves_of w k)) 0 (stay_ticks c (observe w k) ks))

-- the rules of a round robin scheduler
abbrev pub rr : (quantum cost : ℕ) → (ℕ → ℕ) → Rules
rr q k pr = record { policy = RoundRobin; quantum = q; cost = k; prio = pr }

pub rules-rr : {q k n : ℕ} {w : Observed} → Inv q k n w → rules w.state ≡ rr q k (rules w.state).prio
unfolding rules
rules-rr {w = w} v = λ i. record { policy = v.policy i; quantum = v.quantum i; cost = v.cost i; prio = λ t. priority_of 0 (get_elem? w.state.accounts.threads t) }

-- taking the front takes just that
pub without-front : (h : ℕ) (q : List ℕ) → without h (h ∷ q) ≡ q
unfolding without
without-front h q = rw (eq-eqb h h refl)

module _ (q : ℕ) where
  -- what may still be charged: m more
  abbrev pub RoomAt : ℕ → CoreState → Type 0
  RoomAt m Idle = q ≤ m
  RoomAt m (Switching t l) = q ≤ m
  RoomAt m (Running t s) = (s < q) × (q ≤ s + m)

  abbrev pub Room : ℕ → Core → Type 0
  Room m c = RoomAt m c.state

  -- when a tick is called: the thread may be charged m + 1 more if it runs, and then it has its mark and somebody will wait (b)
  abbrev pub PreAt : Bool → ℕ → CoreState → Bool → Type 0
  PreAt b m Idle p = q ≤ m
  PreAt b m (Switching t l) p = q ≤ m
  PreAt b m (Running t s) p = (q ≤ suc s + m) × (p ≡ true) × (b ≡ true)

  abbrev pub Pre : Bool → ℕ → Core → Type 0
  Pre b m c = PreAt b m c.state c.progressed

  -- between charging and handing over: m more after this tick; a core that began to run just now has slice 0
  abbrev pub MidAt : Bool → ℕ → CoreState → Bool → Type 0
  MidAt b m Idle p = q ≤ m
  MidAt b m (Switching t l) p = q ≤ m
  MidAt b m (Running t s) p = (q ≤ s + m) × ((s ≡ 0) ⊎ ((p ≡ true) × (b ≡ true)))

  abbrev pub Mid : Bool → ℕ → Core → Type 0
  Mid b m c = MidAt b m c.state c.progressed

abbrev pub Waited : Bool → List ℕ → Type 0
Waited b qu = b ≡ true → is_non_empty qu ≡ true

module _ (q k : ℕ) (pr : ℕ → ℕ) (pos : 1 ≤ q) where
  mid-dispatched_state : (b : Bool) (m t : ℕ) (p : Bool) → (w : ℕ) → q ≤ m → MidAt q b m (dispatched_state w t) p
  unfolding dispatched_state
  mid-dispatched_state b m t p zero h = (omega arith, inl refl)
  mid-dispatched_state b m t p (suc w) h = h

  -- phases 2, 3 and 4 keep it
  mid-settled : (b : Bool) (m : ℕ) (c : Core) (qu : List ℕ) (s : CoreState) (d : Bool) → Mid q b m c → MidAt q b m s c.progressed → Mid q b m (switched_in c s d qu).core
  unfolding switched_in
  mid-settled b m c qu Idle d h hs = h
  mid-settled b m c qu (Running t s) d h hs = h
  mid-settled b m c qu (Switching t l) true h hs = (omega arith, inl refl)
  mid-settled b m c qu (Switching t l) false h hs = hs

  mid-vacate :
      (b : Bool) (m j : ℕ) (c : Core) (qu : List ℕ) (s : CoreState) (g : Option LeaveReason) → Mid q b m c → MidAt q b m s c.progressed
      → leaves_on j (vacate j c (holder s) g qu).moves ≡ false → Mid q b m (vacate j c (holder s) g qu).core
  unfolding vacate leaves_on
  mid-vacate b m j c qu Idle g h hs l = hs
  mid-vacate b m j c qu (Switching t i) none h hs l = h
  mid-vacate b m j c qu (Switching t i) (some r) h hs l = absurd (not-both _ (or-true-l (eqb j j) false (eq-eqb j j refl)) l)
  mid-vacate b m j c qu (Running t i) none h hs l = h
  mid-vacate b m j c qu (Running t i) (some r) h hs l = absurd (not-both _ (or-true-l (eqb j j) false (eq-eqb j j refl)) l)

  mid-filled : (b : Bool) (m j : ℕ) (c : Core) (qu : List ℕ) (s : CoreState) (n : Option ℕ) → Mid q b m c → MidAt q b m s c.progressed → Mid q b m (filled (rr q k pr) j c s n qu).core
  unfolding filled
  mid-filled b m j c qu (Switching t l) n h hs = h
  mid-filled b m j c qu (Running t s) n h hs = h
  mid-filled b m j c qu Idle none h hs = h
  mid-filled b m j c qu Idle (some t) h hs = mid-dispatched_state b m t false k hs

  -- phase 5: a core whose thread does not leave has room for what is left
  room-hand_over :
      (b : Bool) (m j : ℕ) (c : Core) (qu : List ℕ) (s : CoreState) (w : Bool) (r : LeaveReason) → wants_hand_over (rr q k pr) c s ≡ w → c.state ≡ s → Mid q b m c → MidAt q b m s c.progressed → Waited b qu
      → leaves_on j (hand_over (rr q k pr) j (unyielded c) s w (head? qu) r qu).moves ≡ false → Room q m (hand_over (rr q k pr) j (unyielded c) s w (head? qu) r qu).core
  unfolding hand_over leaves_on quantum_over quantum_of
  room-hand_over b m j c qu Idle w r e es h hs n l = subst (RoomAt q m) (sym es) hs
  room-hand_over b m j c qu (Switching t i) w r e es h hs n l = subst (RoomAt q m) (sym es) hs
  room-hand_over b m j c qu (Running t s) false r e es h hs n l = subst (RoomAt q m) (sym es) (go hs.1, hs.0)
    where
      go : (s ≡ 0) ⊎ ((c.progressed ≡ true) × (b ≡ true)) → s < q
      go (inl z) = omega arith
      go (inr (p, _)) = leb-false q s (and-false (leb q s) c.progressed (or-false-r c.yields _ e) p)
  room-hand_over b m j c [] (Running t s) true r e es h hs n l = (omega arith, go hs.1)
    where
      go : (s ≡ 0) ⊎ ((c.progressed ≡ true) × (b ≡ true)) → q ≤ 0 + m
      go (inl z) = omega (arith, hs.0)
      go (inr (p, y)) = absurd (not-both false (n y) refl)
  room-hand_over b m j c (u ∷ qu) (Running t s) true r e es h hs n l = absurd (not-both _ (or-true-l (eqb j j) _ (eq-eqb j j refl)) l)

  waited-hand_over :
      (b : Bool) (j : ℕ) (c : Core) (qu : List ℕ) (s : CoreState) (w : Bool) (r : LeaveReason) → Waited b qu → Waited b (hand_over (rr q k pr) j c s w (head? qu) r qu).queue
  unfolding hand_over
  waited-hand_over b j c qu Idle w r n = n
  waited-hand_over b j c qu (Switching t l) w r n = n
  waited-hand_over b j c qu (Running t s) false r n = n
  waited-hand_over b j c [] (Running t s) true r n = n
  waited-hand_over b j c (u ∷ qu) (Running t s) true r n = λ y. subst (λ (l : List ℕ). is_non_empty l ≡ true) (sym (without-front u (qu ++ (t ∷ [])))) (go qu)
    where
      go : (l : List ℕ) → is_non_empty (l ++ (t ∷ [])) ≡ true
      go [] = refl
      go (h ∷ l) = refl

  -- a tick, from when the slices are counted
  tick-room :
      (b : Bool) (m j : ℕ) (cs : List Core) (qu : List ℕ) → At (Mid q b m) j (ascend phase1 0 cs qu).cores → Waited b (phases1_to4 (rr q k pr) cs qu).queue
      → leaves_on j (decide (rr q k pr) cs qu).moves ≡ false → At (Room q m) j (decide (rr q k pr) cs qu).cores
  unfolding decide phase6 phases1_to4 phase2 phase3 phase4 phase5 pick_next choose
  tick-room b m j cs qu a n l =
      let l4 = and_then-before j p4 (phase5 (rr q k pr)) l in
      let l3 = and_then-before j p3 (phase4 (rr q k pr)) l4 in
      let l2 = and_then-before j p2 phase3 l3 in
      and_then-at (Mid q b m) (Room q m) (Waited b) (phase5 (rr q k pr)) j (λ i c v w. waited-hand_over b i (unyielded c) v c.state _ _ w)
      (λ c v h w e. room-hand_over b m j c v c.state _ _ refl refl h h w e) p4
      (and_then-at (Mid q b m) (Mid q b m) Any (phase4 (rr q k pr)) j (λ i c v w. tt) (λ c v h w e. mid-filled b m j c v c.state _ h h) p3
      (and_then-at (Mid q b m) (Mid q b m) Any phase3 j (λ i c v w. tt) (λ c v h w e. mid-vacate b m j c v c.state _ h h e) p2
      (and_then-at (Mid q b m) (Mid q b m) Any phase2 j (λ i c v w. tt) (λ c v h w e. mid-settled b m c v c.state _ h h) p1 a tt l2)
      tt l3)
      tt l4)
      n l
    where
      Any : List ℕ → Type 0
      Any v = Unit {0}

      p1 : Pass
      p1 = ascend phase1 0 cs qu

      p2 : Pass
      p2 = and_then p1 phase2

      p3 : Pass
      p3 = and_then p2 phase3

      p4 : Pass
      p4 = and_then p3 (phase4 (rr q k pr))

  pre-mid : (b : Bool) (m : ℕ) (s : CoreState) (p : Bool) → PreAt q b m s p → MidAt q b m (sliced s) p
  unfolding sliced
  pre-mid b m Idle p h = h
  pre-mid b m (Switching t l) p h = h
  pre-mid b m (Running t s) p h = (h.0, inr (h.1, h.2))

  phase1-still : (j i : ℕ) (cs : List Core) (qu : List ℕ) → leaves_on j (ascend phase1 i cs qu).moves ≡ false
  unfolding ascend phase1 leaves_on
  phase1-still j i [] qu = refl
  phase1-still j i (c ∷ cs) qu = phase1-still j (suc i) cs qu

  pub tick-at :
      (b : Bool) (m j : ℕ) (cs : List Core) (qu : List ℕ) → At (Pre q b m) j cs → Waited b (phases1_to4 (rr q k pr) cs qu).queue
      → leaves_on j (decide (rr q k pr) cs qu).moves ≡ false → At (Room q m) j (decide (rr q k pr) cs qu).cores
  unfolding phase1
  tick-at b m j cs qu a n l =
      tick-room b m j cs qu
      (ascend-at (Pre q b m) (Mid q b m) (λ v. Unit {0}) phase1 j (λ i c v w. tt) (λ c v h w e. pre-mid b m c.state c.progressed h) 0 j cs qu (omega arith) a tt (phase1-still j 0 cs qu))
      n l

---- from the conditions

module _ (q : ℕ) where
  run-pre : (m : ℕ) (s : CoreState) (p : Bool) → RoomAt q (suc m) s → is_running s ≡ true → p ≡ true → PreAt q true m s p
  run-pre m Idle p a h e = absurd (not-both false h refl)
  run-pre m (Switching t l) p a h e = absurd (not-both false h refl)
  run-pre m (Running t s) p a h e = (omega (arith, a.1), e, refl)

  pre-run :
      (m c : ℕ) (cs : List Core) (r : List Bool) → At (Room q (suc m)) c cs → All2 Covers r cs → all_reported cs r ≡ true → is_running (core_at cs c).state ≡ true
      → At (Pre q true m) c cs
  unfolding all_reported core_at
  pre-run m c [] r a v e h = a
  pre-run m zero (x ∷ cs) [] a v e h = absurd v
  pre-run m zero (x ∷ cs) (b ∷ r) a v e h = run-pre m x.state x.progressed a h (v.0 (implied (is_running x.state) b (and_l _ _ e) h))
  pre-run m (suc c) (x ∷ cs) [] a v e h = absurd v
  pre-run m (suc c) (x ∷ cs) (b ∷ r) a v e h = pre-run m c cs r a v.1 (and_r (not (is_running x.state) || b) _ e) h

  rest-pre : (m : ℕ) (s : CoreState) (p : Bool) → RoomAt q m s → is_running s ≡ false → PreAt q false m s p
  rest-pre m Idle p a h = a
  rest-pre m (Switching t l) p a h = a
  rest-pre m (Running t s) p a h = absurd (not-both true refl h)

  pre-rest : (m c : ℕ) (cs : List Core) → At (Room q m) c cs → is_running (core_at cs c).state ≡ false → At (Pre q false m) c cs
  unfolding core_at
  pre-rest m c [] a h = a
  pre-rest m zero (x ∷ cs) a h = rest-pre m x.state x.progressed a h
  pre-rest m (suc c) (x ∷ cs) a h = pre-rest m c cs a h

  no_room : (s : CoreState) → RoomAt q 0 s → is_running s ≡ true → ⊥
  no_room Idle a h = not-both false h refl
  no_room (Switching t l) a h = not-both false h refl
  no_room (Running t s) a h = omega arith

-- one call: F and X stand for what the rest of the list says
module _ (q k n : ℕ) (pos : 1 ≤ q) (c : ℕ) (w : Observed) (v : Inv q k n w) (F : Bool) (X : ℕ) where
  tick-cores :
      (b : Bool) (m : ℕ) → At (Pre q b m) c w.state.cores → (b ≡ true → still_waited w.state ≡ true)
      → leaves_on c (accept w.state tick).moves ≡ false → At (Room q m) c (accept w.state tick).state.cores
  unfolding accept still_waited
  tick-cores b m a s l = subst goal (sym (rules-rr v)) (λ s' l'. tick-at q k (rules w.state).prio pos b m c w.state.cores w.state.queue a s' l') s l
    where
      goal : Rules → Type 0
      goal r =
          (b ≡ true → is_non_empty (phases1_to4 r w.state.cores w.state.queue).queue ≡ true) → leaves_on c (decide r w.state.cores w.state.queue).moves ≡ false
          → At (Room q m) c (decide r w.state.cores w.state.queue).cores

  tick-one :
      (m : ℕ) (b lv : Bool) → At (Room q m) c w.state.cores → all_reported w.state.cores w.reported ≡ true → is_running (core_at w.state.cores c).state ≡ b
      → not b || still_waited w.state ≡ true → leaves_on c (accept w.state tick).moves ≡ lv → lv || F ≡ true → ((m : ℕ) → At (Room q m) c (accept w.state tick).state.cores → F ≡ true → X ≤ m)
      → add_if b (cond lv 0 X) ≤ m
  tick-one m false true a e h s l f ih = omega arith
  tick-one m false false a e h s l f ih = ih m (tick-cores false m (pre-rest q m c w.state.cores a h) (λ x. absurd (not-both false x refl)) l) f
  tick-one zero true lv a e h s l f ih = absurd (no_room q (core_at w.state.cores c).state (at-core (Room q 0) c w.state.cores a) h)
  tick-one (suc m) true true a e h s l f ih = omega arith
  tick-one (suc m) true false a e h s l f ih =
      omega (arith, ih m (tick-cores true m (pre-run q m c w.state.cores w.reported a v.covered e h) (λ x. s) l) f)

  -- any call; r is its refusal
  one :
      (m : ℕ) → At (Room q m) c w.state.cores → (d : Call) (r : Option ℕ) → conditions_hold w d r ≡ true → not (ticked d r && is_running (core_at w.state.cores c).state) || still_waited w.state ≡ true
      → leaves_on c (stepped w.state d r).moves || F ≡ true → ((m : ℕ) → At (Room q m) c (stepped w.state d r).state.cores → F ≡ true → X ≤ m)
      → add_if (ticked d r && is_running (core_at w.state.cores c).state) (cond (leaves_on c (stepped w.state d r).moves) 0 X) ≤ m
  unfolding conditions_hold stepped accept leaves_on exited blocking
  one m a d (some e) f s l ih = ih m a l
  one m a (spawn p e) none f s l ih = ih m a l
  one m a (exit i) none f s l ih = ih m (at-update {P = Room q m} mark_exit (λ x h. h) i c w.state.cores a) l
  one m a (join i t) none f s l ih = ih m (go (outcome (tid_on w.state i) t (thread_state_of (get_elem? w.state.accounts.threads t)))) l
    where
      go : (o : JoinOutcome) → At (Room q m) c (blocking w.state i t o).cores
      go Done = a
      go Invalid = a
      go Wait = at-update {P = Room q m} mark_block (λ x h. h) i c w.state.cores a
  one m a (retired i) none f s l ih = ih m (at-update {P = Room q m} mark_progress (λ x h. h) i c w.state.cores a) l
  one m a (yield i) none f s l ih = ih m (at-update {P = Room q m} mark_yield (λ x h. h) i c w.state.cores a) l
  one m a (priority t u) none f s l ih = ih m a l
  one m a (timing t u) none f s l ih = ih m a l
  one m a (force i t) none f s l ih = absurd (not-both false f refl)
  one m a tick none f s l ih = tick-one m (is_running (core_at w.state.cores c).state) (leaves_on c (accept w.state tick).moves) a f refl s refl l ih
  one m a (close i) none f s l ih = absurd (not-both false f refl)

-- from when the core has room for m more
pub stay-room :
    (q k n : ℕ) → 1 ≤ q → (c : ℕ) (ds : List Call) (w : Observed) (m : ℕ) → Inv q k n w → At (Room q m) c w.state.cores → stay_conditions q k c w ds ≡ true → stay_ticks c w ds ≤ m
unfolding stay_conditions stay_ticks
stay-room q k n pos c [] w m v a f = omega arith
stay-room q k n pos c (d ∷ ds) w m v a f =
    one q k n pos c w v F (stay_ticks c (observe w d) ds) m a d (refusal_of w d) (and_l _ _ f) (and_l _ _ f1) (and_r (not (charges c w d) || still_waited w.state) _ f1)
    (λ m' a' f'. stay-room q k n pos c ds (observe w d) m' (inv-observed v d (refusal_of w d) (and_l _ _ f')) (unfold observed in a') (and_r (timing_is q k (observe w d).state) _ f'))
  where
    F : Bool
    F = timing_is q k (observe w d).state && stay_conditions q k c (observe w d) ds

    f1 : (not (charges c w d) || still_waited w.state) && (leaves_on c (moves_of w d) || F) ≡ true
    f1 = and_r (conditions_hold w d (refusal_of w d)) _ f

---- a stay begins with slice 0

abbrev FreshAt : CoreState → Type 0
FreshAt Idle = Unit {0}
FreshAt (Switching t l) = Unit {0}
FreshAt (Running t s) = s ≡ 0

abbrev Fresh : Core → Type 0
Fresh c = FreshAt c.state

fresh-room : (q : ℕ) → 1 ≤ q → (c : ℕ) (cs : List Core) → At Fresh c cs → At (Room q q) c cs
fresh-room q pos c [] a = a
fresh-room q pos zero (x ∷ cs) a = go x.state a
  where
    go : (s : CoreState) → FreshAt s → RoomAt q q s
    go Idle h = omega arith
    go (Switching t l) h = omega arith
    go (Running t s) h = (omega arith, omega arith)
fresh-room q pos (suc c) (x ∷ cs) a = fresh-room q pos c cs a

fresh-dispatched_state : (k t : ℕ) → FreshAt (dispatched_state k t)
unfolding dispatched_state
fresh-dispatched_state zero t = refl
fresh-dispatched_state (suc k) t = tt

dispatch_moves-own : (k t i j : ℕ) → (i ≡ j → ⊥) → takes_on j (dispatch_moves k t i) ≡ false
unfolding dispatch_moves takes_on
dispatch_moves-own zero t i j h = or-false (eqb i j) false (ne_eqb i j h) refl
dispatch_moves-own (suc k) t i j h = or-false (eqb i j) false (ne_eqb i j h) refl

module _ (k : Rules) where
  filled-own : (i j : ℕ) (c : Core) (qu : List ℕ) (s : CoreState) (n : Option ℕ) → (i ≡ j → ⊥) → takes_on j (filled k i c s n qu).moves ≡ false
  unfolding filled takes_on
  filled-own i j c qu (Switching t l) n h = refl
  filled-own i j c qu (Running t s) n h = refl
  filled-own i j c qu Idle none h = refl
  filled-own i j c qu Idle (some t) h = dispatch_moves-own k.cost t i j h

  filled-fresh : (i : ℕ) (c : Core) (qu : List ℕ) (s : CoreState) (n : Option ℕ) → takes_on i (filled k i c s n qu).moves ≡ true → Fresh (filled k i c s n qu).core
  unfolding filled takes_on
  filled-fresh i c qu (Switching t l) n h = absurd (not-both false h refl)
  filled-fresh i c qu (Running t s) n h = absurd (not-both false h refl)
  filled-fresh i c qu Idle none h = absurd (not-both false h refl)
  filled-fresh i c qu Idle (some t) h = fresh-dispatched_state k.cost t

  hand_over-own : (i j : ℕ) (c : Core) (qu : List ℕ) (s : CoreState) (w : Bool) (n : Option ℕ) (r : LeaveReason) → (i ≡ j → ⊥) → takes_on j (hand_over k i c s w n r qu).moves ≡ false
  unfolding hand_over takes_on
  hand_over-own i j c qu Idle w n r h = refl
  hand_over-own i j c qu (Switching t l) w n r h = refl
  hand_over-own i j c qu (Running t s) false n r h = refl
  hand_over-own i j c qu (Running t s) true none r h = refl
  hand_over-own i j c qu (Running t s) true (some u) r h = dispatch_moves-own k.cost u i j h

  hand_over-fresh : (i : ℕ) (c : Core) (qu : List ℕ) (s : CoreState) (w : Bool) (n : Option ℕ) (r : LeaveReason) → takes_on i (hand_over k i c s w n r qu).moves ≡ true → Fresh (hand_over k i c s w n r qu).core
  unfolding hand_over takes_on
  hand_over-fresh i c qu Idle w n r h = absurd (not-both false h refl)
  hand_over-fresh i c qu (Switching t l) w n r h = absurd (not-both false h refl)
  hand_over-fresh i c qu (Running t s) false n r h = absurd (not-both false h refl)
  hand_over-fresh i c qu (Running t s) true none r h = refl
  hand_over-fresh i c qu (Running t s) true (some u) r h = fresh-dispatched_state k.cost u

  hand_over-keeps : (i : ℕ) (c : Core) (qu : List ℕ) (s : CoreState) (w : Bool) (n : Option ℕ) (r : LeaveReason) → Fresh c → Fresh (hand_over k i c s w n r qu).core
  unfolding hand_over
  hand_over-keeps i c qu Idle w n r h = h
  hand_over-keeps i c qu (Switching t l) w n r h = h
  hand_over-keeps i c qu (Running t s) false n r h = h
  hand_over-keeps i c qu (Running t s) true none r h = refl
  hand_over-keeps i c qu (Running t s) true (some u) r h = fresh-dispatched_state k.cost u

  settled-takes : (j : ℕ) (c : Core) (qu : List ℕ) (s : CoreState) (d : Bool) → takes_on j (switched_in c s d qu).moves ≡ false
  unfolding switched_in takes_on
  settled-takes j c qu Idle d = refl
  settled-takes j c qu (Running t s) d = refl
  settled-takes j c qu (Switching t l) true = refl
  settled-takes j c qu (Switching t l) false = refl

  vacate-takes : (j i : ℕ) (c : Core) (qu : List ℕ) (o : Option ℕ) (g : Option LeaveReason) → takes_on j (vacate i c o g qu).moves ≡ false
  unfolding vacate takes_on
  vacate-takes j i c qu none g = refl
  vacate-takes j i c qu (some t) none = refl
  vacate-takes j i c qu (some t) (some r) = refl

  filled_keeps : (i : ℕ) (c : Core) (qu : List ℕ) (s : CoreState) (n : Option ℕ) → Fresh c → Fresh (filled k i c s n qu).core
  unfolding filled
  filled_keeps i c qu (Switching t l) n h = h
  filled_keeps i c qu (Running t s) n h = h
  filled_keeps i c qu Idle none h = h
  filled_keeps i c qu Idle (some t) h = fresh-dispatched_state k.cost t

  tick-fresh : (j : ℕ) (cs : List Core) (qu : List ℕ) → takes_on j (and_then (phases1_to4 k cs qu) (phase5 k)).moves ≡ true → At Fresh j (and_then (phases1_to4 k cs qu) (phase5 k)).cores
  unfolding phases1_to4 phase1 phase2 phase3 phase4 phase5 takes_on
  tick-fresh j cs qu =
      and_then-takes (phase5 k) Fresh (λ i j' c v. hand_over-own i j' (unyielded c) v c.state _ _ _) (λ i c v. hand_over-fresh i (unyielded c) v c.state _ _ _)
      (λ i c v. hand_over-keeps i (unyielded c) v c.state _ _ _) j _
      (and_then-takes (phase4 k) Fresh (λ i j' c v. filled-own i j' c v c.state _) (λ i c v. filled-fresh i c v c.state _) (λ i c v. filled_keeps i c v c.state _) j _
      (λ h. absurd (not-both _ h
      (and_then-takes-none j _ phase3 (λ i c v. vacate-takes j i c v (holder c.state) _)
      (and_then-takes-none j _ phase2 (λ i c v. settled-takes j c v c.state _) (ascend-takes-none phase1 j (λ i c v. refl) 0 cs qu))))))

---- the calls

or-nobody : (a : Bool) → a || false ≡ true → a ≡ true
or-nobody true e = refl
or-nobody false e = e

forced-core : (i c : ℕ) (o : CoreState) (k t : ℕ) → takes_on c (out_of i o ++ dispatch_moves k t i) ≡ true → i ≡ c
unfolding takes_on out_of dispatch_moves
forced-core i c Idle zero t h = eqb-true i c (or-nobody _ h)
forced-core i c Idle (suc k) t h = eqb-true i c (or-nobody _ h)
forced-core i c (Switching u l) zero t h = eqb-true i c (or-nobody _ h)
forced-core i c (Switching u l) (suc k) t h = eqb-true i c (or-nobody _ h)
forced-core i c (Running u s) zero t h = eqb-true i c (or-nobody _ h)
forced-core i c (Running u s) (suc k) t h = eqb-true i c (or-nobody _ h)

call-fresh :
    {q k n : ℕ} {w : Observed} → Inv q k n w → (c : ℕ) (d : Call) (r : Option ℕ) → refusal w.state d ≡ r → takes_on c (stepped w.state d r).moves ≡ true
    → At Fresh c (stepped w.state d r).state.cores
unfolding stepped accept takes_on refusal decide rules no_core
call-fresh v c d (some m) e h = absurd (not-both false h refl)
call-fresh v c (spawn p t) none e h = absurd (not-both false h refl)
call-fresh v c (exit i) none e h = absurd (not-both false h refl)
call-fresh v c (join i t) none e h = absurd (not-both false h refl)
call-fresh v c (retired i) none e h = absurd (not-both false h refl)
call-fresh v c (yield i) none e h = absurd (not-both false h refl)
call-fresh v c (priority t m) none e h = absurd (not-both false h refl)
call-fresh v c (timing t m) none e h = absurd (not-both false h refl)
call-fresh v c (close i) none e h = absurd (not-both false h refl)
call-fresh {w = w} v c (force i t) none e h =
    subst (λ (j : ℕ). At Fresh j (update i f w.state.cores)) (forced-core i c (core_state_of w.state i) w.state.config.cost (taken_by w.state i t) h)
    (at-put Fresh f (λ x. fresh-dispatched_state w.state.config.cost (taken_by w.state i t)) i w.state.cores (leb-false _ i (check-none 4 (no_core w.state i) _ e)))
  where
    f : Core → Core
    f = forced_core w.state.config.cost (taken_by w.state i t)
call-fresh {w = w} v c tick none e h =
    subst (λ (p : Pass). takes_on c p.moves ≡ true → At Fresh c p.cores) (sym (phase6-rr (rules w.state) _ v.policy)) (tick-fresh (rules w.state) c w.state.cores w.state.queue) h

begins-fresh : {q k n : ℕ} (c : ℕ) (ds : List Call) (d : Call) (w : Observed) → Inv q k n w → timing_kept q k w (d ∷ ds) ≡ true → begins c w (d ∷ ds) ≡ true → At Fresh c (observe_all w (d ∷ ds)).state.cores
unfolding begins observe_all timing_kept observed
begins-fresh c [] d w v t b = call-fresh v c d (refusal_of w d) refl b
begins-fresh c (d' ∷ ds) d w v t b = begins-fresh c ds d' (observe w d) (inv-observed v d (refusal_of w d) (and_l _ _ t)) (and_r (timing_is _ _ (observe w d).state) _ t) b

---- the claim

creation-fresh : (q k n : ℕ) (s : State) → Start q k n s → At Fresh 0 s.cores
creation-fresh q k n s z = subst (At Fresh 0) (sym z.first.1) refl

-- the ticks in which core c ran during its stay; `proofs/StayRun` shows that they are what its thread's record grew by
pub stay-ticks :
    (q k n cap_t cap_e cap_s entry : ℕ) (s : State) → new RoundRobin q k n cap_t cap_e cap_s entry ≡ made s →
    (before during : List Call) → timing_kept q k (unobserved s) before ≡ true →
    (c : ℕ) → begins c (unobserved s) before ≡ true →
    stay_conditions q k c (observe_all (unobserved s) before) during ≡ true →
    stay_ticks c (observe_all (unobserved s) before) during ≤ q
unfolding begins observe_all unobserved
stay-ticks q k n cap_t cap_e cap_s entry s e before during t c b f =
    let z = start q k n cap_t cap_e cap_s entry s e in
    stay-room q k (suc (pred n)) z.pos c during (observe_all (unobserved s) before) q (inv-observe_all (unobserved s) z.inv before t)
    (fresh-room q z.pos c (observe_all (unobserved s) before).state.cores (begun before t b)) f
  where
    begun : (ds : List Call) → timing_kept q k (unobserved s) ds ≡ true → begins c (unobserved s) ds ≡ true → At Fresh c (observe_all (unobserved s) ds).state.cores
    begun [] h b' = subst (λ (j : ℕ). At Fresh j s.cores) (sym (eqb-true c 0 b')) (creation-fresh q k n s (start q k n cap_t cap_e cap_s entry s e))
    begun (d ∷ ds) h b' = begins-fresh c ds d (unobserved s) (start q k n cap_t cap_e cap_s entry s e).inv h b'
