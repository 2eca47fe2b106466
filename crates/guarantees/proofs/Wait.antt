-- The wait. Each core i owes x's queue a number nᵢ of dispatches; `Good` says that it can pay them within the next T ticks:
--     rem + (quantum + cost) × nᵢ ≤ T + (quantum + cost)
-- where rem is the number of ticks till its next dispatch. A tick lowers T by one; on each core it lowers rem, or it dispatches, which pays one.
-- The sum of what is owed stays above the number of threads ahead of x, so x is taken before T is up.
use Prim.Native.Nat.{ℕ, zero, suc, pred, ◌+◌, ◌*◌, ◌/◌, ◌≤◌, ◌<◌, max}
use mathlib.Core.Path.{◌≡◌, refl, sym, ap, ◌∙◌, subst}
use mathlib.Core.Logic.{◌⊎◌, inl, inr}
use mathlib.Core.Bool.{Bool, true, false, cond, ◌||◌, ◌&&◌, not}
use mathlib.Core.Option.{Option, none, some}
use mathlib.Core.List.{List, [], ◌∷◌, ◌++◌, map, head?, append-nil}
use native.Mathlib.Omega.{arith}
use lib.Dec.{eqb, leb}
use native.Mathlib.Nat.{lt-mul-div-succ}
use lib.ListN.{length, get_elem?, replicate}
use borrow.Author.Tests.{leb-true, leb-false, not-true}
use Rattle.model.specs.Invariants.{All}
use Rattle.model.specs.Types.{CoreState, Idle, Switching, Running, LeaveReason, Core, Move, starts, leaves, takes, State}
use Rattle.model.specs.Phases.{Rules, Turn, Pass, Phase, ascend, and_then, update, without, dispatched_state, dispatch_moves, sliced, phase1, switched_in, is_due, phase2, leaves_for, holder, vacate, phase3, filled, phase4, hand_over, wants_hand_over, quantum_over, quantum_of, phase5, phase6, phases1_to4, decide, pick_next, choose, with_state, unyielded}
use Rattle.model.specs.Calls.{Call, spawn, exit, join, retired, yield, priority, timing, force, tick, close, JoinOutcome, Wait, Done, Invalid, outcome, thread_state_of, tid_on, waiters, blocking, exited, mark_exit, mark_block, mark_yield, mark_progress, accept, stepped, refusal, rules, elem, is_running, is_none}
use Rattle.model.specs.Bound.{bound}
use Rattle.guarantees.specs.Claims.{Observed, gets, all_reported, observed, observe, timing_is, timing_kept, observe_all, unobserved, refusal_of, moves_of, conditions_hold, ticked, add_if, less_if, wait_conditions, ticks, gets_within, gets_none, WaitBound, WaitBound'}
use Rattle.model.proofs.PhaseLaws.{or-false-r, or-true-l, or_true_r, not-both, and_l, and_r, and-false, implied, other}
use Rattle.guarantees.proofs.PhaseMoves.{gets-append}
use Rattle.guarantees.proofs.Invariants.{Fit, FitAt, All2, Covers, Inv, inv-observed, inv-observe_all, Start, start, timing_kept-append}
use Rattle.guarantees.proofs.Queue.{ahead, elem-append, ahead-append, elem-front, ahead-front, elem_at, ahead-at}
use Rattle.guarantees.proofs.Stay.{rr, rules-rr, without-front}

pub add : List ℕ → ℕ
add [] = 0
add (n ∷ ns) = n + add ns

---- a phase, with x waiting

-- a turn that leaves x waiting: the core owes `quota` now, and no more was paid than x moved up
pub record TurnKept (x : ℕ) (Q : Core → ℕ → Type 0) (t : Turn) (n : ℕ) (qu : List ℕ) : Type 0 where
  pub quota : ℕ
  pub good : Q t.core quota
  pub waits : elem x t.queue ≡ true
  pub paid : n + ahead x t.queue ≤ quota + ahead x qu

pub record PassKept (x : ℕ) (Q : Core → ℕ → Type 0) (p : Pass) (ns : List ℕ) (qu : List ℕ) : Type 0 where
  pub quotas : List ℕ
  pub good : All2 Q p.cores quotas
  pub waits : elem x p.queue ≡ true
  pub paid : add ns + ahead x p.queue ≤ add quotas + ahead x qu

-- x gets a core in the turn, or goes on waiting
abbrev pub TurnEnds : (x : ℕ) (Q : Core → ℕ → Type 0) (t : Turn) (n : ℕ) (qu : List ℕ) → Type 0
TurnEnds x Q t n qu = (gets x t.moves ≡ true) ⊎ TurnKept x Q t n qu

abbrev pub PassEnds : (x : ℕ) (Q : Core → ℕ → Type 0) (p : Pass) (ns : List ℕ) (qu : List ℕ) → Type 0
PassEnds x Q p ns qu = (gets x p.moves ≡ true) ⊎ PassKept x Q p ns qu

abbrev pub Law : (x : ℕ) (P Q : Core → ℕ → Type 0) (f : Phase) → Type 0
Law x P Q f = (i : ℕ) (c : Core) (n : ℕ) (qu : List ℕ) → P c n → elem x qu ≡ true → TurnEnds x Q (f i c qu) n qu

module _ (x : ℕ) (P Q : Core → ℕ → Type 0) (f : Phase) (law : Law x P Q f) where
  pub ascend-wait : (i : ℕ) (cs : List Core) (ns : List ℕ) (qu : List ℕ) → All2 P cs ns → elem x qu ≡ true → PassEnds x Q (ascend f i cs qu) ns qu
  unfolding ascend add
  ascend-wait i [] [] qu a e = inr (record { quotas = []; good = tt; waits = e; paid = omega arith })
  ascend-wait i [] (n ∷ ns) qu a e = absurd a
  ascend-wait i (c ∷ cs) [] qu a e = absurd a
  ascend-wait i (c ∷ cs) (n ∷ ns) qu a e = go (law i c n qu a.0 e) (λ q' e'. ascend-wait (suc i) cs ns q' a.1 e')
    where
      t : Turn
      t = f i c qu

      r : Pass
      r = ascend f (suc i) cs t.queue

      go : TurnEnds x Q t n qu → ((q' : List ℕ) → elem x q' ≡ true → PassEnds x Q (ascend f (suc i) cs q') ns q') → PassEnds x Q (ascend f i (c ∷ cs) qu) (n ∷ ns) qu
      go (inl h) rest = inl (gets-append x t.moves r.moves ∙ or-true-l _ _ h)
      go (inr h) rest = go2 h (rest t.queue h.waits)
        where
          go2 : TurnKept x Q t n qu → PassEnds x Q r ns t.queue → PassEnds x Q (ascend f i (c ∷ cs) qu) (n ∷ ns) qu
          go2 h (inl g) = inl (gets-append x t.moves r.moves ∙ or_true_r (gets x t.moves) _ g)
          go2 h (inr g) = inr (record { quotas = h.quota ∷ g.quotas; good = (h.good, g.good); waits = g.waits; paid = omega (arith, h.paid, g.paid) })

  pub and_then-wait : (p : Pass) (ns : List ℕ) (qu : List ℕ) → PassEnds x P p ns qu → PassEnds x Q (and_then p f) ns qu
  unfolding and_then
  and_then-wait p ns qu (inl h) = inl (gets-append x p.moves _ ∙ or-true-l _ _ h)
  and_then-wait p ns qu (inr h) = go h (ascend-wait 0 p.cores h.quotas p.queue h.good h.waits)
    where
      go : (h : PassKept x P p ns qu) → PassEnds x Q (ascend f 0 p.cores p.queue) h.quotas p.queue → PassEnds x Q (and_then p f) ns qu
      go h (inl g) = inl (gets-append x p.moves _ ∙ or_true_r (gets x p.moves) _ g)
      go h (inr g) = inr (record { quotas = g.quotas; good = g.good; waits = g.waits; paid = omega (arith, h.paid, g.paid) })

---- one core in each phase

module _ (q k : ℕ) where
  -- between calls: T ticks are enough for what the core owes
  abbrev pub GoodAt : (T : ℕ) → CoreState → ℕ → Type 0
  GoodAt T Idle n = 1 + (q + k) * n ≤ T + (q + k)
  GoodAt T (Switching t l) n = (1 ≤ l) × (l ≤ k) × (l + q + (q + k) * n ≤ T + (q + k))
  GoodAt T (Running t s) n = (1 + (q + k) * n ≤ T + (q + k)) × (q + (q + k) * n ≤ T + (q + k) + s)

  abbrev pub Good : (T : ℕ) → Core → ℕ → Type 0
  Good T c n = GoodAt T c.state n

  -- when a tick is called, one more than T is left and a running core has its mark
  abbrev pub ToldAt : (T : ℕ) → CoreState → Bool → ℕ → Type 0
  ToldAt T s p n = GoodAt (suc T) s n × (is_running s ≡ true → p ≡ true)

  abbrev pub Told : (T : ℕ) → Core → ℕ → Type 0
  Told T c n = ToldAt T c.state c.progressed n

  -- after the slices are counted
  abbrev pub CountedAt : (T : ℕ) → CoreState → Bool → ℕ → Type 0
  CountedAt T Idle p n = (q + k) * n ≤ T + (q + k)
  CountedAt T (Switching t l) p n = (1 ≤ l) × (l ≤ k) × (l + q + (q + k) * n ≤ suc T + (q + k))
  CountedAt T (Running t s) p n = ((q + k) * n ≤ T + (q + k)) × (q + (q + k) * n ≤ T + (q + k) + s) × (p ≡ true)

  abbrev pub Counted : (T : ℕ) → Core → ℕ → Type 0
  Counted T c n = CountedAt T c.state c.progressed n

  -- after the switches are counted, and after departures: an idle core has to take a thread now, a core over its quantum to hand over
  abbrev pub DueAt : (T : ℕ) → CoreState → Bool → ℕ → Type 0
  DueAt T Idle p n = (q + k) * n ≤ T + (q + k)
  DueAt T (Switching t l) p n = (1 ≤ l) × (l ≤ k) × (l + q + (q + k) * n ≤ T + (q + k))
  DueAt T (Running t s) p n = ((q + k) * n ≤ T + (q + k)) × (q + (q + k) * n ≤ T + (q + k) + s) × ((s ≡ 0) ⊎ (p ≡ true))

  abbrev pub Due : (T : ℕ) → Core → ℕ → Type 0
  Due T c n = DueAt T c.state c.progressed n

  -- after idle cores are filled: none is idle
  abbrev pub HeldAt : (T : ℕ) → CoreState → Bool → ℕ → Type 0
  HeldAt T Idle p n = ⊥
  HeldAt T (Switching t l) p n = DueAt T (Switching t l) p n
  HeldAt T (Running t s) p n = DueAt T (Running t s) p n

  abbrev pub OnCore : (T : ℕ) → Core → ℕ → Type 0
  OnCore T c n = HeldAt T c.state c.progressed n

module _ (q k x T : ℕ) (pr : ℕ → ℕ) (pos : 1 ≤ q) where
  -- a turn that touches neither queue nor quota
  same : (Q : Core → ℕ → Type 0) (c : Core) (ms : List Move) (n : ℕ) (qu : List ℕ) → Q c n → elem x qu ≡ true → TurnEnds x Q (record { core = c; queue = qu; moves = ms }) n qu
  same Q c ms n qu h e = inr (record { quota = n; good = h; waits = e; paid = omega arith })

  counted : (s : CoreState) (p : Bool) (n : ℕ) → ToldAt q k T s p n → CountedAt q k T (sliced s) p n
  unfolding sliced
  counted Idle p n h = omega (arith, h.0)
  counted (Switching t l) p n h = h.0
  counted (Running t s) p n h = (omega (arith, h.0.0), omega (arith, h.0.1), h.1 refl)

  wait-1 : Law x (Told q k T) (Counted q k T) phase1
  unfolding phase1
  wait-1 i c n qu h e = same (Counted q k T) _ _ n qu (counted c.state c.progressed n h) e

  due : (c : Core) (qu : List ℕ) (n : ℕ) (s : CoreState) (b : Bool) → is_due s ≡ b → c.state ≡ s → CountedAt q k T s c.progressed n → elem x qu ≡ true → TurnEnds x (Due q k T) (switched_in c s b qu) n qu
  unfolding switched_in
  due c qu n Idle b eb es h e = same (Due q k T) _ _ n qu (subst (λ (s : CoreState). DueAt q k T s c.progressed n) (sym es) h) e
  due c qu n (Running t s) b eb es h e = same (Due q k T) _ _ n qu (subst (λ (s : CoreState). DueAt q k T s c.progressed n) (sym es) (h.0, h.1, inr h.2)) e
  due c qu n (Switching t l) true eb es h e = same (Due q k T) _ _ n qu (omega arith, omega (arith, leb-true l 1 eb), inl refl) e
  due c qu n (Switching t l) false eb es h e = same (Due q k T) _ _ n qu (omega (arith, leb-false l 1 eb), omega arith, omega (arith, leb-false l 1 eb)) e

  wait-2 : Law x (Counted q k T) (Due q k T) phase2
  unfolding phase2
  wait-2 i c n qu h e = due c qu n c.state (is_due c.state) refl refl h e

  idle-due : (s : CoreState) (p : Bool) (n : ℕ) → DueAt q k T s p n → (q + k) * n ≤ T + (q + k)
  idle-due Idle p n h = h
  idle-due (Switching t l) p n h = omega arith
  idle-due (Running t s) p n h = h.0

  record_leave : (i : ℕ) (c : Core) (qu : List ℕ) (n : ℕ) (o : Option ℕ) (g : Option LeaveReason) → Due q k T c n → elem x qu ≡ true → TurnEnds x (Due q k T) (vacate i c o g qu) n qu
  unfolding vacate
  record_leave i c qu n none g h e = same (Due q k T) _ _ n qu (idle-due c.state c.progressed n h) e
  record_leave i c qu n (some t) none h e = same (Due q k T) _ _ n qu h e
  record_leave i c qu n (some t) (some r) h e = same (Due q k T) _ _ n qu (idle-due c.state c.progressed n h) e

  wait-3 : Law x (Due q k T) (Due q k T) phase3
  unfolding phase3
  wait-3 i c n qu h e = record_leave i c qu n (holder c.state) (leaves_for c.exits c.blocks) h e

  -- what a dispatch pays
  paid_at : (n : ℕ) → (q + k) * n ≤ T + (q + k) → (q + k) * pred n ≤ T
  paid_at zero h = omega arith
  paid_at (suc n) h = omega arith

  held-dispatched_state : (w t n : ℕ) (p : Bool) → w ≡ k → (q + k) * n ≤ T → HeldAt q k T (dispatched_state w t) p n
  unfolding dispatched_state
  held-dispatched_state zero t n p ew h = (omega arith, omega arith, inl refl)
  held-dispatched_state (suc w) t n p ew h = (omega arith, omega arith, omega arith)

  good-dispatched_state : (w t n : ℕ) → w ≡ k → (q + k) * n ≤ T → GoodAt q k T (dispatched_state w t) n
  unfolding dispatched_state
  good-dispatched_state zero t n ew h = (omega arith, omega arith)
  good-dispatched_state (suc w) t n ew h = (omega arith, omega arith, omega arith)

  gets-dispatch_moves : (w t i : ℕ) → eqb t x ≡ true → gets x (dispatch_moves w t i) ≡ true
  unfolding dispatch_moves gets
  gets-dispatch_moves zero t i h = or-true-l _ _ h
  gets-dispatch_moves (suc w) t i h = or-true-l _ _ h

  -- 4: an idle core takes the front
  fills : (i : ℕ) (c : Core) (n : ℕ) (s : CoreState) (qu : List ℕ) → c.state ≡ s → DueAt q k T s c.progressed n → elem x qu ≡ true → TurnEnds x (OnCore q k T) (filled (rr q k pr) i c s (head? qu) qu) n qu
  unfolding filled elem
  fills i c n (Switching t l) qu es h e = same (OnCore q k T) _ _ n qu (subst (λ (s : CoreState). HeldAt q k T s c.progressed n) (sym es) h) e
  fills i c n (Running t s) qu es h e = same (OnCore q k T) _ _ n qu (subst (λ (s : CoreState). HeldAt q k T s c.progressed n) (sym es) h) e
  fills i c n Idle [] es h e = absurd (not-both false e refl)
  fills i c n Idle (u ∷ qu) es h e = go (eqb u x) refl
    where
      go : (b : Bool) → eqb u x ≡ b → TurnEnds x (OnCore q k T) (filled (rr q k pr) i c Idle (some u) (u ∷ qu)) n (u ∷ qu)
      go true b = inl (gets-dispatch_moves k u i b)
      go false b =
          inr
          (record {
            quota = pred n;
            good = held-dispatched_state k u (pred n) false refl (paid_at n h);
            waits = subst (λ (l : List ℕ). elem x l ≡ true) (sym (without-front u qu)) (elem-front x u qu b e);
            paid = rw (without-front u qu, ahead-front x u qu b) (omega arith);
          })

  wait-4 : Law x (Due q k T) (OnCore q k T) (phase4 (rr q k pr))
  unfolding phase4 pick_next choose
  wait-4 i c n qu h e = fills i c n c.state qu refl h e

  -- 5: a core over its quantum hands over to the front; any other has time left
  hands :
      (i : ℕ) (c : Core) (n : ℕ) (s : CoreState) (w : Bool) (r : LeaveReason) (qu : List ℕ) → wants_hand_over (rr q k pr) c s ≡ w → c.state ≡ s → HeldAt q k T s c.progressed n → elem x qu ≡ true
      → TurnEnds x (Good q k T) (hand_over (rr q k pr) i (unyielded c) s w (head? qu) r qu) n qu
  unfolding hand_over elem quantum_over quantum_of gets
  hands i c n Idle w r qu ew es h e = absurd h
  hands i c n (Switching t l) w r qu ew es h e = same (Good q k T) _ _ n qu (subst (λ (s : CoreState). GoodAt q k T s n) (sym es) h) e
  hands i c n (Running t s) false r qu ew es h e = same (Good q k T) _ _ n qu (subst (λ (s : CoreState). GoodAt q k T s n) (sym es) (omega (arith, less h.2, h.1), h.1)) e
    where
      less : (s ≡ 0) ⊎ (c.progressed ≡ true) → s < q
      less (inl z) = omega arith
      less (inr m) = leb-false q s (and-false (leb q s) c.progressed (or-false-r c.yields _ ew) m)
  hands i c n (Running t s) true r [] ew es h e = absurd (not-both false e refl)
  hands i c n (Running t s) true r (u ∷ qu) ew es h e = go (eqb u x) refl
    where
      go : (b : Bool) → eqb u x ≡ b → TurnEnds x (Good q k T) (hand_over (rr q k pr) i (unyielded c) (Running t s) true (some u) r (u ∷ qu)) n (u ∷ qu)
      go true b = inl (gets-dispatch_moves k u i b)
      go false b =
          let w = elem-front x u qu b e in
          inr
          (record {
            quota = pred n;
            good = good-dispatched_state k u (pred n) refl (paid_at n h.0);
            waits = subst (λ (l : List ℕ). elem x l ≡ true) (sym (without-front u (qu ++ (t ∷ [])))) (elem-append x qu (t ∷ []) w);
            paid = rw (without-front u (qu ++ (t ∷ [])), ahead-front x u qu b, ahead-append x qu (t ∷ []) w) (omega arith);
          })

  wait-5 : Law x (OnCore q k T) (Good q k T) (phase5 (rr q k pr))
  unfolding phase5 pick_next choose
  wait-5 i c n qu h e = hands i c n c.state (wants_hand_over (rr q k pr) c c.state) _ qu refl refl h e

  -- a whole tick
  pub tick-wait : (cs : List Core) (ns : List ℕ) (qu : List ℕ) → All2 (Told q k T) cs ns → elem x qu ≡ true → PassEnds x (Good q k T) (decide (rr q k pr) cs qu) ns qu
  unfolding decide phases1_to4 phase6
  tick-wait cs ns qu a e =
      and_then-wait x (OnCore q k T) (Good q k T) (phase5 (rr q k pr)) wait-5 _ ns qu
      (and_then-wait x (Due q k T) (OnCore q k T) (phase4 (rr q k pr)) wait-4 _ ns qu
      (and_then-wait x (Due q k T) (Due q k T) phase3 wait-3 _ ns qu
      (and_then-wait x (Counted q k T) (Due q k T) phase2 wait-2 _ ns qu (ascend-wait x (Told q k T) (Counted q k T) phase1 wait-1 0 cs ns qu a e))))

---- the calls

told : (q k T : ℕ) (cs : List Core) (ns : List ℕ) (r : List Bool) → All2 (Good q k (suc T)) cs ns → All2 Covers r cs → all_reported cs r ≡ true → All2 (Told q k T) cs ns
unfolding all_reported
told q k T [] [] r a v e = tt
told q k T [] (n ∷ ns) r a v e = absurd a
told q k T (c ∷ cs) [] r a v e = absurd a
told q k T (c ∷ cs) (n ∷ ns) [] a v e = absurd v
told q k T (c ∷ cs) (n ∷ ns) (b ∷ r) a v e = ((a.0, λ h. v.0 (implied (is_running c.state) b (and_l _ _ e) h)), told q k T cs ns r a.1 v.1 (and_r (not (is_running c.state) || b) _ e))

-- no time is left only if nothing is owed
nothing-owed : (q k : ℕ) → 1 ≤ q → (cs : List Core) (ns : List ℕ) → All2 (Good q k 0) cs ns → add ns ≡ 0
unfolding add
nothing-owed q k pos [] [] a = refl
nothing-owed q k pos [] (n ∷ ns) a = absurd a
nothing-owed q k pos (c ∷ cs) [] a = absurd a
nothing-owed q k pos (c ∷ cs) (zero ∷ ns) a = omega (arith, nothing-owed q k pos cs ns a.1)
nothing-owed q k pos (c ∷ cs) (suc n ∷ ns) a = absurd (go c.state a.0)
  where
    go : (s : CoreState) → GoodAt q k 0 s (suc n) → ⊥
    go Idle h = omega arith
    go (Switching t l) h = omega arith
    go (Running t s) h = omega arith

good-update : (q k T : ℕ) (f : Core → Core) → ((c : Core) → (f c).state ≡ c.state) → (i : ℕ) (cs : List Core) (ns : List ℕ) → All2 (Good q k T) cs ns → All2 (Good q k T) (update i f cs) ns
unfolding update
good-update q k T f h i [] ns a = a
good-update q k T f h i (c ∷ cs) [] a = absurd a
good-update q k T f h zero (c ∷ cs) (n ∷ ns) a = (subst (λ (s : CoreState). GoodAt q k T s n) (sym (h c)) a.0, a.1)
good-update q k T f h (suc i) (c ∷ cs) (n ∷ ns) a = (a.0, good-update q k T f h i cs ns a.1)

-- where x stands: what is owed is more than what is ahead of it
pub record Stands (q k x T : ℕ) (s : State) (ns : List ℕ) : Type 0 where
  pub good : All2 (Good q k T) s.cores ns
  pub waits : elem x s.queue ≡ true
  pub owed : ahead x s.queue < add ns

-- a call that only joins threads to the back of the queue and marks a core
behind : {q k x T : ℕ} {s : State} {ns : List ℕ} → Stands q k x T s ns → (s' : State) (r : List ℕ) → s'.queue ≡ s.queue ++ r → All2 (Good q k T) s'.cores ns → Stands q k x T s' ns
behind {x = x} {s = s} z s' r e g = record { good = g; waits = rw e (elem-append x s.queue r z.waits); owed = rw (e, ahead-append x s.queue r z.waits) z.owed }

-- one call: F, N and G stand for what the rest of the list says
module _ (q k n x : ℕ) (pos : 1 ≤ q) (w : Observed) (v : Inv q k n w) (F : Bool) (N : ℕ) (G : ℕ → Bool) where
  Rest : State → Type 0
  Rest s = (T : ℕ) (ns : List ℕ) → Stands q k x T s ns → F ≡ true → T ≤ N → G T ≡ true

  tick-one :
      (T : ℕ) (ns : List ℕ) → Stands q k x (suc T) w.state ns → all_reported w.state.cores w.reported ≡ true → gets x (accept w.state tick).moves || F ≡ true → suc T ≤ suc N
      → Rest (accept w.state tick).state → gets x (accept w.state tick).moves || G T ≡ true
  unfolding accept Rest
  tick-one T ns z e f l ih =
      go (subst (λ (r : Rules). PassEnds x (Good q k T) (decide r w.state.cores w.state.queue) ns w.state.queue) (sym (rules-rr v))
      (tick-wait q k x T (rules w.state).prio pos w.state.cores ns w.state.queue (told q k T w.state.cores ns w.reported z.good v.covered e) z.waits))
      (gets x p.moves) refl f
    where
      p : Pass
      p = decide (rules w.state) w.state.cores w.state.queue

      go : PassEnds x (Good q k T) p ns w.state.queue → (b : Bool) → gets x p.moves ≡ b → b || F ≡ true → b || G T ≡ true
      go h true b f' = refl
      go (inl h) false b f' = absurd (not-both _ h b)
      go (inr h) false b f' = ih T h.quotas (record { good = h.good; waits = h.waits; owed = omega (arith, h.paid, z.owed) }) f' (omega arith)

  one :
      (T : ℕ) (ns : List ℕ) → Stands q k x (suc T) w.state ns → (d : Call) (r : Option ℕ) → conditions_hold w d r ≡ true → gets x (stepped w.state d r).moves || F ≡ true → suc T ≤ add_if (ticked d r) N
      → Rest (stepped w.state d r).state → gets x (stepped w.state d r).moves || G (less_if (ticked d r) T) ≡ true
  unfolding conditions_hold stepped accept gets exited blocking Rest
  one T ns z d (some e) f g l ih = ih (suc T) ns z g l
  one T ns z (spawn p e) none f g l ih = ih (suc T) ns (behind z _ _ refl z.good) g l
  one T ns z (exit i) none f g l ih = ih (suc T) ns (behind z _ _ refl (good-update q k (suc T) mark_exit (λ c. refl) i w.state.cores ns z.good)) g l
  one T ns z (join i t) none f g l ih = ih (suc T) ns (go (outcome (tid_on w.state i) t (thread_state_of (get_elem? w.state.accounts.threads t)))) g l
    where
      go : (o : JoinOutcome) → Stands q k x (suc T) (blocking w.state i t o) ns
      go Done = z
      go Invalid = z
      go Wait = behind z _ [] (sym (append-nil _)) (good-update q k (suc T) mark_block (λ c. refl) i w.state.cores ns z.good)
  one T ns z (retired i) none f g l ih = ih (suc T) ns (behind z _ [] (sym (append-nil _)) (good-update q k (suc T) mark_progress (λ c. refl) i w.state.cores ns z.good)) g l
  one T ns z (yield i) none f g l ih = ih (suc T) ns (behind z _ [] (sym (append-nil _)) (good-update q k (suc T) mark_yield (λ c. refl) i w.state.cores ns z.good)) g l
  one T ns z (priority t u) none f g l ih = ih (suc T) ns (behind z _ [] (sym (append-nil _)) z.good) g l
  one T ns z (timing t u) none f g l ih = ih (suc T) ns (behind z _ [] (sym (append-nil _)) z.good) g l
  one T ns z (force i t) none f g l ih = absurd (not-both false f refl)
  one T ns z tick none f g l ih = tick-one T ns z f g l ih
  one T ns z (close i) none f g l ih = absurd (not-both false f refl)

time-left : (q k : ℕ) → 1 ≤ q → {x : ℕ} {s : State} {ns : List ℕ} → Stands q k x 0 s ns → ⊥
time-left q k pos {s = s} {ns = ns} z = let e = nothing-owed q k pos s.cores ns z.good in omega arith

-- wherever x stands
pub wait-stands :
    (q k n x : ℕ) → 1 ≤ q → (ds : List Call) (w : Observed) (T : ℕ) (ns : List ℕ) → Inv q k n w → Stands q k x T w.state ns → wait_conditions q k x w ds ≡ true → T ≤ ticks w ds
    → gets_within T x w ds ≡ true
unfolding wait_conditions ticks gets_within observed Rest
wait-stands q k n x pos [] w zero ns v z f l = absurd (time-left q k pos z)
wait-stands q k n x pos [] w (suc T) ns v z f l = absurd (omega arith)
wait-stands q k n x pos (d ∷ ds) w zero ns v z f l = absurd (time-left q k pos z)
wait-stands q k n x pos (d ∷ ds) w (suc T) ns v z f l =
    one q k n x pos w v (timing_is q k (observe w d).state && wait_conditions q k x (observe w d) ds) (ticks (observe w d) ds) (λ T'. gets_within T' x (observe w d) ds) T ns z d (refusal_of w d) (and_l _ _ f) (and_r (conditions_hold w d (refusal_of w d)) _ f) l
    (λ T' ns' z' f' l'. wait-stands q k n x pos ds (observe w d) T' ns' (inv-observed v d (refusal_of w d) (and_l _ _ f')) z' (and_r (timing_is q k (observe w d).state) _ f') l')

---- the claim

-- every core owes m dispatches, and (quantum + cost) × m ticks are enough
good-all : (q k m : ℕ) → 1 ≤ q → (cs : List Core) → All (Fit k) cs → All2 (Good q k (m * (q + k))) cs (replicate (length cs) m)
good-all q k m pos [] a = tt
good-all q k m pos (c ∷ cs) a = (go c.state a.0, good-all q k m pos cs a.1)
  where
    go : (s : CoreState) → FitAt k s → GoodAt q k (m * (q + k)) s m
    go Idle h = omega arith
    go (Switching t l) h = (h.0, h.1, omega arith)
    go (Running t s) h = (omega arith, omega arith)

add-replicate : (n m : ℕ) → add (replicate n m) ≡ n * m
unfolding add
add-replicate zero m = omega arith
add-replicate (suc n) m = omega (arith, add-replicate n m)

-- p / cores + 1 from each core is more than p
enough : (n p len a : ℕ) → len ≡ suc (pred n) → a ≤ p → a < add (replicate len (p / max n 1 + 1))
enough n p len a e h =
    let m : len ≡ max n 1 = omega arith in
    rw (add-replicate, m) (omega (arith, lt-mul-div-succ p {b = max n 1} (omega arith)))

pub wait : WaitBound
wait q k n cap_t cap_e cap_s entry s e before during t x p at f l =
    let z = start q k n cap_t cap_e cap_s entry s e in
    let v = inv-observe_all (unobserved s) z.inv before t in
    wait-stands q k (suc (pred n)) x z.pos during w (bound p n q k) (replicate (length w.state.cores) (p / max n 1 + 1)) v
    (record { good = good-all q k (p / max n 1 + 1) z.pos w.state.cores v.fit; waits = elem_at x p w.state.queue at; owed = enough n p (length w.state.cores) _ v.size (ahead-at x p w.state.queue at) }) f l
  where
    w : Observed
    w = observe_all (unobserved s) before

-- the other way round
none_within : (x T : ℕ) (ds : List Call) (w : Observed) → gets_within T x w ds ≡ true → gets_none x w ds ≡ true → ⊥
unfolding gets_within gets_none
none_within x T [] w g h = not-both false g refl
none_within x zero (d ∷ ds) w g h = not-both false g refl
none_within x (suc T) (d ∷ ds) w g h =
    none_within x (less_if (ticked d (refusal_of w d)) T) ds (observe w d) (other (gets x (moves_of w d)) _ g (not-true _ (and_l _ _ h))) (and_r (not (gets x (moves_of w d))) _ h)

pub wait' : WaitBound'
wait' q k n cap_t cap_e cap_s entry s e before during t x p at f g = go (leb (bound p n q k) (ticks w during)) refl
  where
    w : Observed
    w = observe_all (unobserved s) before

    go : (b : Bool) → leb (bound p n q k) (ticks w during) ≡ b → ticks w during < bound p n q k
    go true b = absurd (none_within x (bound p n q k) during w (wait q k n cap_t cap_e cap_s entry s e before during t x p at f (leb-true _ _ b)) g)
    go false b = leb-false _ _ b
