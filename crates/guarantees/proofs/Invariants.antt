-- What every run of a round robin scheduler keeps: policy and timing, how long a core may still switch, and that a reported core has its mark.
use Prim.Native.Nat.{ℕ, zero, suc, pred, ◌+◌, ◌≤◌}
use mathlib.Core.Path.{◌≡◌, refl, sym, ap, ◌∙◌, subst}
use mathlib.Core.Bool.{Bool, true, false, ◌&&◌}
use mathlib.Core.Option.{Option, none, some}
use mathlib.Core.List.{List, [], ◌∷◌, ◌++◌, map}
use native.Mathlib.Omega.{arith}
use lib.Dec.{eqb}
use lib.ListN.{length, length-map, get_elem?, replicate, length-replicate}
use borrow.Author.Tests.{eqb-true, leb-false, ltb-false}
use Rattle.model.specs.Invariants.{All}
use Rattle.model.specs.Types.{Policy, RoundRobin, Priority, CoreState, Idle, Switching, Running, LeaveReason, Core, Move, starts, leaves, takes, State}
use Rattle.model.specs.Phases.{Rules, Pass, and_then, update, dispatched_state, dispatch_moves, sliced, phase1, switched_in, is_due, phase2, leaves_for, holder, vacate, phase3, filled, phase4, hand_over, phase5, phase6, phases1_to4, decide, pick_next, with_state, unyielded, cleared}
use Rattle.model.specs.Calls.{Call, spawn, exit, join, retired, yield, priority, timing, force, tick, close, JoinOutcome, Wait, Done, Invalid, accept, stepped, rules, exited, blocking, outcome, thread_state_of, tid_on, out_of, core_state_of, sliced_all, unmarked, taken_by, forced_core, mark_exit, mark_block, mark_yield, mark_progress, Made, made, unmade, new, made_of, refused_new, initial_state, idle_core, beyond}
use Rattle.guarantees.specs.Claims.{Observed, reports_after, reports_cleared, reports, observed, observe, timing_is, timing_kept, observe_all, refusal_of, unobserved}
use Rattle.model.proofs.PhaseLaws.{all-update, length-update, ascend-length, ascend-all, and_l, and_r, or-false-l, not-both, phase6-rests}
use Rattle.model.proofs.Refusals.{check-none}

---- a core that switches has between 1 and the cost to go

abbrev pub FitAt : ℕ → CoreState → Type 0
FitAt k Idle = Unit {0}
FitAt k (Switching t l) = (1 ≤ l) × (l ≤ k)
FitAt k (Running t s) = Unit {0}

abbrev pub Fit : ℕ → Core → Type 0
Fit k c = FitAt k c.state

pub fit-dispatched_state : (k t : ℕ) → FitAt k (dispatched_state k t)
unfolding dispatched_state
fit-dispatched_state zero t = tt
fit-dispatched_state (suc n) t = (omega arith, omega arith)

fit-sliced : (k : ℕ) (s : CoreState) → FitAt k s → FitAt k (sliced s)
unfolding sliced
fit-sliced k Idle h = h
fit-sliced k (Switching t l) h = h
fit-sliced k (Running t s) h = h

fit-1 : (k i : ℕ) (c : Core) (q : List ℕ) → Fit k c → Fit k (phase1 i c q).core
unfolding phase1
fit-1 k i c q h = fit-sliced k c.state h

fit-settled : (k : ℕ) (c : Core) (q : List ℕ) (s : CoreState) (b : Bool) → is_due s ≡ b → Fit k c → FitAt k s → Fit k (switched_in c s b q).core
unfolding switched_in
fit-settled k c q Idle b e h hs = h
fit-settled k c q (Running t s) b e h hs = h
fit-settled k c q (Switching t l) true e h hs = tt
fit-settled k c q (Switching t l) false e h hs = (omega (arith, leb-false l 1 e), omega arith)

fit-2 : (k i : ℕ) (c : Core) (q : List ℕ) → Fit k c → Fit k (phase2 i c q).core
unfolding phase2
fit-2 k i c q h = fit-settled k c q c.state (is_due c.state) refl h h

fit-vacate : (k i : ℕ) (c : Core) (q : List ℕ) (o : Option ℕ) (g : Option LeaveReason) → Fit k c → Fit k (vacate i c o g q).core
unfolding vacate
fit-vacate k i c q none g h = tt
fit-vacate k i c q (some t) none h = h
fit-vacate k i c q (some t) (some r) h = tt

fit-3 : (k i : ℕ) (c : Core) (q : List ℕ) → Fit k c → Fit k (phase3 i c q).core
unfolding phase3
fit-3 k i c q h = fit-vacate k i c q (holder c.state) (leaves_for c.exits c.blocks) h

fit-filled : (k : Rules) (i : ℕ) (c : Core) (q : List ℕ) (s : CoreState) (n : Option ℕ) → Fit k.cost c → Fit k.cost (filled k i c s n q).core
unfolding filled
fit-filled k i c q (Switching t l) n h = h
fit-filled k i c q (Running t s) n h = h
fit-filled k i c q Idle none h = h
fit-filled k i c q Idle (some t) h = fit-dispatched_state k.cost t

fit-4 : (k : Rules) (i : ℕ) (c : Core) (q : List ℕ) → Fit k.cost c → Fit k.cost (phase4 k i c q).core
unfolding phase4
fit-4 k i c q h = fit-filled k i c q c.state (pick_next k i none q) h

fit-hand_over : (k : Rules) (i : ℕ) (c : Core) (q : List ℕ) (s : CoreState) (w : Bool) (n : Option ℕ) (r : LeaveReason) → Fit k.cost c → Fit k.cost (hand_over k i c s w n r q).core
unfolding hand_over
fit-hand_over k i c q Idle w n r h = h
fit-hand_over k i c q (Switching t l) w n r h = h
fit-hand_over k i c q (Running t s) false n r h = h
fit-hand_over k i c q (Running t s) true none r h = tt
fit-hand_over k i c q (Running t s) true (some u) r h = fit-dispatched_state k.cost u

fit-5 : (k : Rules) (i : ℕ) (c : Core) (q : List ℕ) → Fit k.cost c → Fit k.cost (phase5 k i c q).core
unfolding phase5
fit-5 k i c q h = fit-hand_over k i (unyielded c) q c.state _ _ _ h

pub phase6-rr : (k : Rules) (p : Pass) → k.policy ≡ RoundRobin → phase6 k.policy k p ≡ p
phase6-rr k p e = subst (λ (o : Policy). phase6 o k p ≡ p) (sym e) (phase6-rests RoundRobin k p not-priority)
  where
    not-priority : RoundRobin ≡ Priority → ⊥
    not-priority p = let z : ◌≡◌ {A = ℕ} 0 1 = cc in omega arith

pub decide-fit : (k : Rules) → k.policy ≡ RoundRobin → (cs : List Core) (q : List ℕ) → All (Fit k.cost) cs → All (Fit k.cost) (decide k cs q).cores
unfolding decide phases1_to4 and_then
decide-fit k e cs q a =
    subst (λ (p : Pass). All (Fit k.cost) p.cores) (sym (phase6-rr k _ e))
    (ascend-all F F (phase5 k) (fit-5 k) 0 _ _
    (ascend-all F F (phase4 k) (fit-4 k) 0 _ _ (ascend-all F F phase3 (fit-3 w) 0 _ _ (ascend-all F F phase2 (fit-2 w) 0 _ _ (ascend-all F F phase1 (fit-1 w) 0 cs q a)))))
  where
    w : ℕ
    w = k.cost

    F : Core → Type 0
    F = Fit k.cost

pub decide-length : (k : Rules) → k.policy ≡ RoundRobin → (cs : List Core) (q : List ℕ) → length (decide k cs q).cores ≡ length cs
unfolding decide phases1_to4 and_then
decide-length k e cs q =
    ap (λ (p : Pass). length p.cores) (phase6-rr k _ e) ∙ ascend-length (phase5 k) 0 _ _ ∙ ascend-length (phase4 k) 0 _ _ ∙ ascend-length phase3 0 _ _ ∙ ascend-length phase2 0 _ _ ∙ ascend-length phase1 0 cs q

---- the same through a call

all_map : (P : Core → Type 0) (f : Core → Core) → ((c : Core) → P c → P (f c)) → (cs : List Core) → All P cs → All P (map f cs)
all_map P f h [] a = tt
all_map P f h (c ∷ cs) a = (h c a.0, all_map P f h cs a.1)

pub accept-fit : (s : State) (c : Call) → s.config.policy ≡ RoundRobin → All (Fit s.config.cost) s.cores → All (Fit s.config.cost) (accept s c).state.cores
unfolding accept blocking exited rules sliced_all
accept-fit s (spawn p e) r a = a
accept-fit s (exit i) r a = all-update mark_exit (λ c h. h) i s.cores a
accept-fit s (join i t) r a = go (outcome (tid_on s i) t (thread_state_of (get_elem? s.accounts.threads t)))
  where
    go : (o : JoinOutcome) → All (Fit s.config.cost) (blocking s i t o).cores
    go Done = a
    go Invalid = a
    go Wait = all-update mark_block (λ c h. h) i s.cores a
accept-fit s (retired i) r a = all-update mark_progress (λ c h. h) i s.cores a
accept-fit s (yield i) r a = all-update mark_yield (λ c h. h) i s.cores a
accept-fit s (priority t n) r a = a
accept-fit s (timing q w) r a = a
accept-fit s (force i n) r a = all-update (forced_core s.config.cost (taken_by s i n)) (λ c h. fit-dispatched_state s.config.cost (taken_by s i n)) i s.cores a
accept-fit s tick r a = decide-fit (rules s) r s.cores s.queue a
accept-fit s (close i) r a =
    all_map (Fit s.config.cost) unmarked (λ c h. h) (sliced_all (update i mark_exit s.cores))
    (all_map (Fit s.config.cost) (λ c. with_state (sliced c.state) c) (λ c h. fit-sliced s.config.cost c.state h) (update i mark_exit s.cores) (all-update mark_exit (λ c h. h) i s.cores a))

---- a core that reported has its mark

abbrev pub All2 : {A B : Type 0} → (A → B → Type 0) → List A → List B → Type 0
All2 R [] [] = Unit {0}
All2 R [] (b ∷ bs) = ⊥
All2 R (a ∷ xs) [] = ⊥
All2 R (a ∷ xs) (b ∷ bs) = R a b × All2 R xs bs

abbrev pub Covers : Bool → Core → Type 0
Covers b c = b ≡ true → c.progressed ≡ true

pub all2-length : {A B : Type 0} (R : A → B → Type 0) (xs : List A) (ys : List B) → All2 R xs ys → length xs ≡ length ys
all2-length R [] [] a = refl
all2-length R [] (y ∷ ys) a = absurd a
all2-length R (x ∷ xs) [] a = absurd a
all2-length R (x ∷ xs) (y ∷ ys) a = ap suc (all2-length R xs ys a.1)

covers-update :
    (g : Bool → Bool) (f : Core → Core) → ((b : Bool) (c : Core) → Covers b c → Covers (g b) (f c)) → (n : ℕ) (r : List Bool) (cs : List Core)
    → All2 Covers r cs → All2 Covers (update n g r) (update n f cs)
unfolding update
covers-update g f h n [] [] a = tt
covers-update g f h n [] (c ∷ cs) a = absurd a
covers-update g f h n (b ∷ r) [] a = absurd a
covers-update g f h zero (b ∷ r) (c ∷ cs) a = (h b c a.0, a.1)
covers-update g f h (suc n) (b ∷ r) (c ∷ cs) a = (a.0, covers-update g f h n r cs a.1)

update_same {ℓ} : {A : Type ℓ} (n : ℕ) (xs : List A) → update n (λ (x : A). x) xs ≡ xs
unfolding update
update_same n [] = refl
update_same zero (x ∷ xs) = refl
update_same (suc n) (x ∷ xs) = ap (λ l. x ∷ l) (update_same n xs)

covers-cores : (f : Core → Core) → ((c : Core) → (f c).progressed ≡ c.progressed) → (n : ℕ) (r : List Bool) (cs : List Core) → All2 Covers r cs → All2 Covers r (update n f cs)
covers-cores f h n r cs a = subst (λ (l : List Bool). All2 Covers l (update n f cs)) (update_same n r) (covers-update (λ b. b) f (λ b c k e. h c ∙ k e) n r cs a)

covers-map : (f : Core → Core) → ((c : Core) → (f c).progressed ≡ c.progressed) → (r : List Bool) (cs : List Core) → All2 Covers r cs → All2 Covers r (map f cs)
covers-map f h [] [] a = tt
covers-map f h [] (c ∷ cs) a = absurd a
covers-map f h (b ∷ r) [] a = absurd a
covers-map f h (b ∷ r) (c ∷ cs) a = ((λ e. h c ∙ a.0 e), covers-map f h r cs a.1)

covers-reports_cleared : (ms : List Move) (r : List Bool) (cs : List Core) → All2 Covers r cs → All2 Covers (reports_cleared ms r) cs
unfolding reports_cleared
covers-reports_cleared [] r cs a = a
covers-reports_cleared (starts t ∷ ms) r cs a = covers-reports_cleared ms r cs a
covers-reports_cleared (leaves t i x ∷ ms) r cs a = covers-reports_cleared ms r cs a
covers-reports_cleared (takes t i ∷ ms) r cs a =
    covers-reports_cleared ms _ cs (subst (λ (l : List Core). All2 Covers (update i (λ (b : Bool). false) r) l) (update_same i cs) (covers-update (λ b. false) (λ c. c) (λ b c h e. absurd (not-both false e refl)) i r cs a))

pub covers-none : {A : Type 0} (r : List A) (cs : List Core) → length r ≡ length cs → All2 Covers (map (λ (b : A). false) r) cs
covers-none [] [] e = tt
covers-none [] (c ∷ cs) e = omega arith
covers-none (b ∷ r) [] e = omega arith
covers-none (b ∷ r) (c ∷ cs) e = ((λ p. absurd (not-both false p refl)), covers-none r cs (omega arith))

forced-moves : (i : ℕ) (o : CoreState) (k t : ℕ) (r : List Bool) → reports_cleared (out_of i o ++ dispatch_moves k t i) r ≡ update i (λ b. false) r
unfolding reports_cleared out_of dispatch_moves
forced-moves i Idle zero t r = refl
forced-moves i Idle (suc k) t r = refl
forced-moves i (Switching u l) zero t r = refl
forced-moves i (Switching u l) (suc k) t r = refl
forced-moves i (Running u s) zero t r = refl
forced-moves i (Running u s) (suc k) t r = refl

pub accept-covers :
    (s : State) (c : Call) (r : List Bool) → s.config.policy ≡ RoundRobin → All2 Covers r s.cores
    → All2 Covers (reports_cleared (accept s c).moves (reports_after c r)) (accept s c).state.cores
unfolding accept blocking exited rules sliced_all reports_after reports_cleared
accept-covers s (spawn p e) r o a = a
accept-covers s (exit i) r o a = covers-cores mark_exit (λ c. refl) i r s.cores a
accept-covers s (join i t) r o a = go (outcome (tid_on s i) t (thread_state_of (get_elem? s.accounts.threads t)))
  where
    go : (o : JoinOutcome) → All2 Covers r (blocking s i t o).cores
    go Done = a
    go Invalid = a
    go Wait = covers-cores mark_block (λ c. refl) i r s.cores a
accept-covers s (retired i) r o a = covers-update (λ b. true) mark_progress (λ b c h e. refl) i r s.cores a
accept-covers s (yield i) r o a = covers-cores mark_yield (λ c. refl) i r s.cores a
accept-covers s (priority t n) r o a = a
accept-covers s (timing q w) r o a = a
accept-covers s (force i n) r o a =
    subst (λ (l : List Bool). All2 Covers l (update i (forced_core s.config.cost (taken_by s i n)) s.cores)) (sym (forced-moves i (core_state_of s i) s.config.cost (taken_by s i n) r))
    (covers-update (λ b. false) (forced_core s.config.cost (taken_by s i n)) (λ b c h e. absurd (not-both false e refl)) i r s.cores a)
accept-covers s tick r o a =
    covers-reports_cleared (decide (rules s) s.cores s.queue).moves _ _ (covers-none r _ (all2-length Covers r s.cores a ∙ sym (decide-length (rules s) o s.cores s.queue)))
accept-covers s (close i) r o a =
    covers-map unmarked (λ c. refl) r (sliced_all (update i mark_exit s.cores))
    (covers-map (λ c. with_state (sliced c.state) c) (λ c. refl) r (update i mark_exit s.cores) (covers-cores mark_exit (λ c. refl) i r s.cores a))

---- all of it, through a call and a list of calls

pub record Inv (q k n : ℕ) (w : Observed) : Type 0 where
  pub policy : w.state.config.policy ≡ RoundRobin
  pub quantum : w.state.config.quantum ≡ q
  pub cost : w.state.config.cost ≡ k
  pub fit : All (Fit k) w.state.cores
  pub covered : All2 Covers w.reported w.state.cores
  pub size : length w.state.cores ≡ n

accept-policy : (s : State) (c : Call) → (accept s c).state.config.policy ≡ s.config.policy
unfolding accept blocking exited
accept-policy s (spawn p e) = refl
accept-policy s (exit i) = refl
accept-policy s (join i t) = go (outcome (tid_on s i) t (thread_state_of (get_elem? s.accounts.threads t)))
  where
    go : (o : JoinOutcome) → (blocking s i t o).config.policy ≡ s.config.policy
    go Done = refl
    go Invalid = refl
    go Wait = refl
accept-policy s (retired i) = refl
accept-policy s (yield i) = refl
accept-policy s (priority t n) = refl
accept-policy s (timing q w) = refl
accept-policy s (force i n) = refl
accept-policy s tick = refl
accept-policy s (close i) = refl

accept-length : (s : State) (c : Call) → s.config.policy ≡ RoundRobin → length (accept s c).state.cores ≡ length s.cores
unfolding accept blocking exited rules sliced_all
accept-length s (spawn p e) o = refl
accept-length s (exit i) o = length-update mark_exit i s.cores
accept-length s (join i t) o = go (outcome (tid_on s i) t (thread_state_of (get_elem? s.accounts.threads t)))
  where
    go : (j : JoinOutcome) → length (blocking s i t j).cores ≡ length s.cores
    go Done = refl
    go Invalid = refl
    go Wait = length-update mark_block i s.cores
accept-length s (retired i) o = length-update mark_progress i s.cores
accept-length s (yield i) o = length-update mark_yield i s.cores
accept-length s (priority t n) o = refl
accept-length s (timing q w) o = refl
accept-length s (force i n) o = length-update _ i s.cores
accept-length s tick o = decide-length (rules s) o s.cores s.queue
accept-length s (close i) o = length-map (sliced_all (update i mark_exit s.cores)) unmarked ∙ length-map (update i mark_exit s.cores) _ ∙ length-update mark_exit i s.cores

pub inv-observed : {q k n : ℕ} {w : Observed} → Inv q k n w → (c : Call) (r : Option ℕ) → timing_is q k (observed w c r).state ≡ true → Inv q k n (observed w c r)
unfolding observed stepped reports
inv-observed v c (some m) e = v
inv-observed {q} {k} {n} {w} v c none e =
    record {
      policy = accept-policy w.state c ∙ v.policy;
      quantum = eqb-true _ q (and_l _ _ e);
      cost = eqb-true _ k (and_r (eqb (accept w.state c).state.config.quantum q) _ e);
      fit = subst (λ (m : ℕ). All (Fit m) (accept w.state c).state.cores) v.cost (accept-fit w.state c v.policy (subst (λ (m : ℕ). All (Fit m) w.state.cores) (sym v.cost) v.fit));
      covered = accept-covers w.state c w.reported v.policy v.covered;
      size = accept-length w.state c v.policy ∙ v.size;
    }

pub inv-observe_all : {q k n : ℕ} (w : Observed) → Inv q k n w → (cs : List Call) → timing_kept q k w cs ≡ true → Inv q k n (observe_all w cs)
unfolding observe_all timing_kept
inv-observe_all w v [] e = v
inv-observe_all w v (c ∷ cs) e = inv-observe_all (observe w c) (inv-observed v c (refusal_of w c) (and_l _ _ e)) cs (and_r (timing_is _ _ (observe w c).state) _ e)

---- creation

fit-replicate : (k n : ℕ) → All (Fit k) (replicate n idle_core)
fit-replicate k zero = tt
fit-replicate k (suc n) = (tt, fit-replicate k n)

inv-started : (q k m t e s entry : ℕ) → Inv q k (suc m) (unobserved (initial_state m entry (record { policy = RoundRobin; quantum = q; cost = k; cap_t = t; cap_e = e; cap_s = s })))
unfolding unobserved initial_state
inv-started q k m t e s entry =
    record { policy = refl; quantum = refl; cost = refl; fit = (tt, fit-replicate k m); covered = covers-none cs cs refl; size = ap suc (length-replicate m idle_core) }
  where
    cs : List Core
    cs = cleared (Running 0 0) false false ∷ replicate m idle_core

-- what an accepted `new` left
pub record Start (q k n : ℕ) (s : State) : Type 0 where
  pub pos : 1 ≤ q
  pub inv : Inv q k (suc (pred n)) (unobserved s)
  pub first : (rest : List Core) × (s.cores ≡ cleared (Running 0 0) false false ∷ rest)

abbrev state_of : State → Made → State
state_of d (made s) = s
state_of d (unmade m) = d

pub start : (q k n t e c entry : ℕ) (s : State) → new RoundRobin q k n t e c entry ≡ made s → Start q k n s
unfolding new made_of refused_new beyond initial_state
start q k n t e c entry s h = go (refused_new q k n t e c) refl h
  where
    s0 : State
    s0 = initial_state (pred n) entry (record { policy = RoundRobin; quantum = q; cost = k; cap_t = t; cap_e = e; cap_s = c })

    go : (r : Option ℕ) → refused_new q k n t e c ≡ r → made_of r s0 ≡ made s → Start q k n s
    go (some m) er es = absurd (let z : ◌≡◌ {A = ℕ} 0 1 = cc in omega arith)
    go none er es =
        subst (Start q k n) (ap (state_of s) es)
        (record {
          pos = ltb-false q 1 (or-false-l _ _ (or-false-l (beyond 1 1_000_000 q) _ (check-none 1 _ _ er)));
          inv = inv-started q k (pred n) t e c entry;
          first = (replicate (pred n) idle_core, refl);
        })

pub timing_kept-append : (q k : ℕ) (w : Observed) (xs ys : List Call) → timing_kept q k w (xs ++ ys) ≡ true → (timing_kept q k w xs ≡ true) × (timing_kept q k (observe_all w xs) ys ≡ true)
unfolding timing_kept observe_all
timing_kept-append q k w [] ys e = (refl, e)
timing_kept-append q k w (x ∷ xs) ys e =
    let r = timing_kept-append q k (observe w x) xs ys (and_r (timing_is q k (observe w x).state) _ e) in
    (both (timing_is q k (observe w x).state) _ (and_l (timing_is q k (observe w x).state) _ e) r.0, r.1)
  where
    both : (a b : Bool) → a ≡ true → b ≡ true → a && b ≡ true
    both true b p h = h
    both false b p h = p
