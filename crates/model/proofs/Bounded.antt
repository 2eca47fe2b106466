-- What every number of a run stays below: the counters of the records and of the cores, the slices, the sizes. So no addition of a program leaves its
-- type, and no subtraction of the summary goes below 0. All of it is one record that every call keeps, refused or not, under every policy.
use Prim.Native.Nat.{ℕ, zero, suc, pred, ◌+◌, ◌*◌, ◌-◌, ◌≤◌, ◌<◌, max}
use mathlib.Core.Path.{◌≡◌, refl, sym, ap, ◌∙◌, subst}
use mathlib.Core.Bool.{Bool, true, false, cond, not, ◌||◌, ◌&&◌}
use mathlib.Core.Option.{Option, none, some}
use mathlib.Core.List.{List, [], ◌∷◌, ◌++◌, map, zip_with}
use native.Mathlib.Omega.{arith}
use lib.Dec.{eqb, leb, ltb}
use lib.ListN.{length, get_elem?, replicate, length-append, length-map, length-replicate, drop, length-drop}
use borrow.Author.Tests.{leb-true, leb-false, ltb-true, ltb-false}
use Rattle.model.specs.Invariants.{All, Placed, Roomy, Between, ThreadIn, TicksIn, CoreStateIn, CoreIn, Settings, Sizes, Bounded}
use Rattle.model.specs.Types.{Policy, Off, Fifo, RoundRobin, Priority, CoreState, Idle, Switching, Running, LeaveReason, Exit, Block, Yield, Quantum, Preempt, Forced, Core, Move, starts, leaves, takes}
use Rattle.model.specs.Types.{ThreadState, Ready, Exited, OnCore, Blocked, Times, Counts, ThreadRecord, CoreTicks, Segment, Event, EventKind, Config, Accounts, State}
use Rattle.model.specs.Phases.{Rules, Turn, Pass, Phase, ascend, and_then, update, dispatched_state, dispatch_moves, dispatch, sliced, phase1, switched_in, is_due, phase2, leaves_for, holder, vacate, phase3, filled, phase4, hand_over, wants_hand_over, ceiling_of, unyielded, phase5, phase6, phases1_to4, decide, pick_next, with_state, cleared, Victim, Preemption, next_preemption, preempted, preempt_rounds}
use Rattle.model.specs.Accounting.{set_state, set_priority, add_counts, or_else, started, finished, left, record_leave, record_dispatch, born, set_threads, on_thread, logged, apply_move, apply_moves, charge_core, runs, holds, charge_waiting, charge_threads, charge, newest, grown, lane_of, takes_in}
use Rattle.model.specs.Calls.{Call, spawn, exit, join, retired, yield, priority, timing, force, tick, close, JoinOutcome, Wait, Done, Invalid, accept, stepped, refusal, step, run, rules, no_core, leaving, any_leaving, cannot_take, limit_now, limit_switches, bad_timing, core_state_of, core_at, tid_on, thread_state_of, yields_of, exited, blocking, outcome, waiters, wake, mark_exit, mark_block, mark_yield, mark_progress, unmarked, forced_core, taken_by, out_of, sliced_all, priority_of, parent_of, idle_core, Made, made, unmade, new, made_of, refused_new, initial_state, beyond}
use Rattle.model.proofs.PhaseLaws.{all-update, length-update, ascend-length, ascend-all, or-false-l, or-false-r, not-both}
use Rattle.model.proofs.Refusals.{check-none, check-rest}
use Rattle.model.proofs.Placement.{placed-accept, placed-new, roomy-accept}

---- lists

pub all_map : {A : Type 0} (P Q : A → Type 0) → ((x : A) → P x → Q x) → (xs : List A) → All P xs → All Q xs
all_map P Q h [] a = tt
all_map P Q h (x ∷ xs) a = (h x a.0, all_map P Q h xs a.1)

pub all_snoc : {A : Type 0} (P : A → Type 0) (xs : List A) (y : A) → All P xs → P y → All P (xs ++ (y ∷ []))
all_snoc P [] y a h = (h, tt)
all_snoc P (x ∷ xs) y a h = (a.0, all_snoc P xs y a.1 h)

-- one entry changed, if there is one
pub all-change : {A : Type 0} (P Q : A → Type 0) (f : A → A) (n : ℕ) (xs : List A) → ((x : A) → get_elem? xs n ≡ some x → P x → Q (f x)) → ((x : A) → P x → Q x) → All P xs → All Q (update n f xs)
unfolding update
all-change P Q f n [] h w a = tt
all-change P Q f zero (x ∷ xs) h w a = (h x refl a.0, all_map P Q w xs a.1)
all-change P Q f (suc n) (x ∷ xs) h w a = (w x a.0, all-change P Q f n xs h w a.1)

pub all-at : {A : Type 0} (P : A → Type 0) (xs : List A) (n : ℕ) (x : A) → All P xs → get_elem? xs n ≡ some x → P x
all-at P [] n x a e = absurd (let z : ◌≡◌ {A = ℕ} 0 1 = cc in omega arith)
all-at P (y ∷ xs) zero x a e = subst P (same e) a.0
  where
    same : ◌≡◌ {A = Option _} (some y) (some x) → y ≡ x
    same k = cc
all-at P (y ∷ xs) (suc n) x a e = all-at P xs n x a.1 e

between-up : (a b c : ℕ) (o : Option ℕ) → b ≤ c → Between a b o → Between a c o
between-up a b c none l h = tt
between-up a b c (some n) l h = (h.0, omega (arith, h.1))

---- one record

pub thread-up : (now now' d d' p p' : ℕ) → now ≤ now' → d ≤ d' → p ≤ p' → (t : ThreadRecord) → ThreadIn now d p t → ThreadIn now' d' p' t
thread-up now now' d d' p p' a b c t h =
    record {
      run = omega (arith, h.run);
      ready = omega (arith, h.ready);
      blocked = omega (arith, h.blocked);
      dispatches = omega (arith, h.dispatches);
      preemptions = omega (arith, h.preemptions);
      yields = h.yields;
      arrival = omega (arith, h.arrival);
      first_run = between-up _ now now' t.times.first_run a h.first_run;
      finish = between-up _ (now + 1) (now' + 1) t.times.finish (omega arith) h.finish;
    }

-- counters raised, within bounds
pub counted : (now now' d d' p p' a b c x y z : ℕ) (t : ThreadRecord) → now ≤ now' → now + a ≤ now' → now + b ≤ now' → now + c ≤ now' → d + x ≤ d' → p + y ≤ p' → t.counts.yields + z ≤ limit_now → ThreadIn now d p t → ThreadIn now' d' p' (add_counts a b c x y z t)
unfolding add_counts
counted now now' d d' p p' a b c x y z t e1 e2 e3 e4 e5 e6 e7 h =
    record {
      run = omega (arith, h.run);
      ready = omega (arith, h.ready);
      blocked = omega (arith, h.blocked);
      dispatches = omega (arith, h.dispatches);
      preemptions = omega (arith, h.preemptions);
      yields = e7;
      arrival = omega (arith, h.arrival);
      first_run = between-up _ now now' t.times.first_run e1 h.first_run;
      finish = between-up _ (now + 1) (now' + 1) t.times.finish (omega arith) h.finish;
    }

-- another life, priority or last move: nothing of this is looked at
pub lived : (now d p : ℕ) (t u : ThreadRecord) → u.counts ≡ t.counts → u.times ≡ t.times → ThreadIn now d p t → ThreadIn now d p u
lived now d p t u e f h =
    record {
      run = rw e h.run;
      ready = rw e h.ready;
      blocked = rw e h.blocked;
      dispatches = rw e h.dispatches;
      preemptions = rw e h.preemptions;
      yields = rw e h.yields;
      arrival = rw f h.arrival;
      first_run = subst (λ (m : Times). Between m.arrival now m.first_run) (sym f) h.first_run;
      finish = subst (λ (m : Times). Between m.arrival (now + 1) m.finish) (sym f) h.finish;
    }

pub started-in : (now d p : ℕ) (t : ThreadRecord) → ThreadIn now d p t → ThreadIn now d p (started now t)
unfolding started or_else
started-in now d p t h =
    record {
      run = h.run;
      ready = h.ready;
      blocked = h.blocked;
      dispatches = h.dispatches;
      preemptions = h.preemptions;
      yields = h.yields;
      arrival = h.arrival;
      first_run = first t.times.first_run h.first_run;
      finish = h.finish;
    }
  where
    first : (o : Option ℕ) → Between t.times.arrival now o → Between t.times.arrival now (or_else o now)
    first none k = (h.arrival, omega arith)
    first (some n) k = k

pub finished-in : (now d p : ℕ) (t : ThreadRecord) → ThreadIn now d p t → ThreadIn now d p (finished now t)
unfolding finished
finished-in now d p t h =
    record {
      run = h.run;
      ready = h.ready;
      blocked = h.blocked;
      dispatches = h.dispatches;
      preemptions = h.preemptions;
      yields = h.yields;
      arrival = h.arrival;
      first_run = h.first_run;
      finish = (omega (arith, h.arrival), omega arith);
    }

---- moves

-- what counts as a preemption; dispatches and preemptions of a list of moves
abbrev pub loss : LeaveReason → ℕ
loss Exit = 0
loss Block = 0
loss Yield = 0
loss Quantum = 1
loss Preempt = 1
loss Forced = 1

unfoldable pub losses_in : List Move → ℕ
losses_in [] = 0
losses_in (starts t ∷ ms) = losses_in ms
losses_in (leaves t i r ∷ ms) = loss r + losses_in ms
losses_in (takes t i ∷ ms) = losses_in ms

takes-append : (a b : List Move) → takes_in (a ++ b) ≡ takes_in a + takes_in b
unfolding takes_in
takes-append [] b = omega arith
takes-append (starts t ∷ a) b = takes-append a b
takes-append (leaves t i r ∷ a) b = takes-append a b
takes-append (takes t i ∷ a) b = omega (arith, takes-append a b)

losses-append : (a b : List Move) → losses_in (a ++ b) ≡ losses_in a + losses_in b
unfolding losses_in
losses-append [] b = omega arith
losses-append (starts t ∷ a) b = losses-append a b
losses-append (leaves t i r ∷ a) b = omega (arith, losses-append a b)
losses-append (takes t i ∷ a) b = losses-append a b

-- at most n dispatches, and as many preemptions at most
abbrev Fair : ℕ → List Move → Type 0
Fair n ms = (losses_in ms ≤ takes_in ms) × (takes_in ms ≤ n)

abbrev FairP : ℕ → Pass → Type 0
FairP n p = Fair n p.moves

abbrev Long : ℕ → Pass → Type 0
Long n p = length p.cores ≡ n

pub fair-append : (m n k : ℕ) (a b : List Move) → m + n ≤ k → Fair m a → Fair n b → Fair k (a ++ b)
fair-append m n k a b e f g = (omega (arith, takes-append a b, losses-append a b, f.0, g.0), omega (arith, takes-append a b, f.1, g.1))

fair-none : Fair 0 []
unfolding takes_in losses_in
fair-none = (omega arith, omega arith)

fair-starts : (t : ℕ) → Fair 0 (starts t ∷ [])
unfolding takes_in losses_in
fair-starts t = (omega arith, omega arith)

fair-dispatch : (k t i : ℕ) → Fair 1 (dispatch_moves k t i)
unfolding takes_in losses_in dispatch_moves
fair-dispatch zero t i = (omega arith, omega arith)
fair-dispatch (suc k) t i = (omega arith, omega arith)

fair-swap : (k t u i : ℕ) (r : LeaveReason) → Fair 1 (leaves t i r ∷ dispatch_moves k u i)
unfolding takes_in losses_in dispatch_moves
fair-swap zero t u i Exit = (omega arith, omega arith)
fair-swap zero t u i Block = (omega arith, omega arith)
fair-swap zero t u i Yield = (omega arith, omega arith)
fair-swap zero t u i Quantum = (omega arith, omega arith)
fair-swap zero t u i Preempt = (omega arith, omega arith)
fair-swap zero t u i Forced = (omega arith, omega arith)
fair-swap (suc k) t u i Exit = (omega arith, omega arith)
fair-swap (suc k) t u i Block = (omega arith, omega arith)
fair-swap (suc k) t u i Yield = (omega arith, omega arith)
fair-swap (suc k) t u i Quantum = (omega arith, omega arith)
fair-swap (suc k) t u i Preempt = (omega arith, omega arith)
fair-swap (suc k) t u i Forced = (omega arith, omega arith)

fair-up : (m n : ℕ) (ms : List Move) → m ≤ n → Fair m ms → Fair n ms
fair-up m n ms l h = (h.0, omega (arith, h.1))

ascend-none : (f : Phase) → ((i : ℕ) (c : Core) (q : List ℕ) → Fair 0 (f i c q).moves) → (i : ℕ) (cs : List Core) (q : List ℕ) → Fair 0 (ascend f i cs q).moves
unfolding ascend
ascend-none f h i [] q = fair-none
ascend-none f h i (c ∷ cs) q = fair-append 0 0 0 (f i c q).moves _ (omega arith) (h i c q) (ascend-none f h (suc i) cs (f i c q).queue)

ascend-some : (f : Phase) → ((i : ℕ) (c : Core) (q : List ℕ) → Fair 1 (f i c q).moves) → (i : ℕ) (cs : List Core) (q : List ℕ) → Fair (length cs) (ascend f i cs q).moves
unfolding ascend
ascend-some f h i [] q = fair-none
ascend-some f h i (c ∷ cs) q = fair-append 1 (length cs) (suc (length cs)) (f i c q).moves _ (omega arith) (h i c q) (ascend-some f h (suc i) cs (f i c q).queue)

fair-2 : (i : ℕ) (c : Core) (q : List ℕ) → Fair 0 (phase2 i c q).moves
unfolding phase2 switched_in
fair-2 i c q = go c.state (is_due c.state)
  where
    go : (s : CoreState) (b : Bool) → Fair 0 (switched_in c s b q).moves
    go Idle b = fair-none
    go (Running t s) b = fair-none
    go (Switching t l) true = fair-starts t
    go (Switching t l) false = fair-none

fair-3 : (i : ℕ) (c : Core) (q : List ℕ) → Fair 0 (phase3 i c q).moves
unfolding phase3 vacate takes_in losses_in
fair-3 i c q = go (holder c.state) c.exits c.blocks
  where
    go : (o : Option ℕ) (x b : Bool) → Fair 0 (vacate i c o (leaves_for x b) q).moves
    go none x b = fair-none
    go (some t) true b = (omega arith, omega arith)
    go (some t) false true = (omega arith, omega arith)
    go (some t) false false = fair-none

fair-4 : (k : Rules) (i : ℕ) (c : Core) (q : List ℕ) → Fair 1 (phase4 k i c q).moves
unfolding phase4 filled
fair-4 k i c q = go c.state (pick_next k i none q)
  where
    go : (s : CoreState) (n : Option ℕ) → Fair 1 (filled k i c s n q).moves
    go (Switching t l) n = fair-up 0 1 [] (omega arith) fair-none
    go (Running t s) n = fair-up 0 1 [] (omega arith) fair-none
    go Idle none = fair-up 0 1 [] (omega arith) fair-none
    go Idle (some h) = fair-dispatch k.cost h i

fair-5 : (k : Rules) (i : ℕ) (c : Core) (q : List ℕ) → Fair 1 (phase5 k i c q).moves
unfolding phase5 hand_over
fair-5 k i c q = go c.state (wants_hand_over k c c.state) (pick_next k i (ceiling_of k c.state) q) (cond c.yields Yield Quantum)
  where
    go : (s : CoreState) (w : Bool) (n : Option ℕ) (r : LeaveReason) → Fair 1 (hand_over k i (unyielded c) s w n r q).moves
    go Idle w n r = fair-up 0 1 [] (omega arith) fair-none
    go (Switching t l) w n r = fair-up 0 1 [] (omega arith) fair-none
    go (Running t s) false n r = fair-up 0 1 [] (omega arith) fair-none
    go (Running t s) true none r = fair-up 0 1 [] (omega arith) fair-none
    go (Running t s) true (some h) r = fair-swap k.cost t h i r

fair-6 : (k : Rules) (n m : ℕ) (p : Pass) → Fair m p.moves → Fair (m + n) (preempt_rounds k n p).moves
unfolding preempt_rounds preempted
fair-6 k zero m p h = fair-up m (m + 0) _ (omega arith) h
fair-6 k (suc n) m p h = go (next_preemption k p) (λ q g. fair-6 k n (m + 1) q g)
  where
    go : (o : Option Preemption) → ((q : Pass) → Fair (m + 1) q.moves → Fair (m + 1 + n) (preempt_rounds k n q).moves) → FairP (m + suc n) (elim o [ none ↦ p | some w ↦ preempt_rounds k n (preempted k Preempt w.victim w.best p) ])
    go none ih = fair-up m (m + suc n) _ (omega arith) h
    go (some w) ih = fair-up (m + 1 + n) (m + suc n) _ (omega arith) (ih _ (fair-append m 1 (m + 1) p.moves _ (omega arith) h (fair-swap k.cost w.victim.tid w.best w.victim.core Preempt)))

length-6 : (k : Rules) (n : ℕ) (p : Pass) → length (preempt_rounds k n p).cores ≡ length p.cores
unfolding preempt_rounds preempted
length-6 k zero p = refl
length-6 k (suc n) p = go (next_preemption k p) (λ q. length-6 k n q)
  where
    go : (o : Option Preemption) → ((q : Pass) → length (preempt_rounds k n q).cores ≡ length q.cores) → Long (length p.cores) (elim o [ none ↦ p | some w ↦ preempt_rounds k n (preempted k Preempt w.victim w.best p) ])
    go none ih = refl
    go (some w) ih = ih _ ∙ length-update _ w.victim.core p.cores

length-up_to5 : (k : Rules) (cs : List Core) (q : List ℕ) → length (and_then (phases1_to4 k cs q) (phase5 k)).cores ≡ length cs
unfolding phases1_to4 and_then
length-up_to5 k cs q = ascend-length (phase5 k) 0 _ _ ∙ ascend-length (phase4 k) 0 _ _ ∙ ascend-length phase3 0 _ _ ∙ ascend-length phase2 0 _ _ ∙ ascend-length phase1 0 cs q

pub length-decide : (k : Rules) (cs : List Core) (q : List ℕ) → length (decide k cs q).cores ≡ length cs
unfolding decide phase6
length-decide k cs q = go k.policy
  where
    go : (o : Policy) → length (phase6 o k (and_then (phases1_to4 k cs q) (phase5 k))).cores ≡ length cs
    go Off = length-up_to5 k cs q
    go Fifo = length-up_to5 k cs q
    go RoundRobin = length-up_to5 k cs q
    go Priority = length-6 k _ _ ∙ length-up_to5 k cs q

-- a tick end dispatches at most three times on each core, and preempts no oftener than it dispatches
pub fair-decide : (k : Rules) (cs : List Core) (q : List ℕ) → Fair (3 * length cs) (decide k cs q).moves
unfolding decide phase6 phases1_to4 and_then phase1
fair-decide k cs q = go k.policy
  where
    p5 : Pass
    p5 = and_then (phases1_to4 k cs q) (phase5 k)

    two : Fair (2 * length cs) p5.moves
    two =
        fair-append (length cs) (length cs) (2 * length cs) _ _ (omega arith)
        (fair-append 0 (length cs) (length cs) _ _ (omega arith)
        (fair-append 0 0 0 _ _ (omega arith) (fair-append 0 0 0 _ _ (omega arith) (ascend-none phase1 (λ i c u. fair-none) 0 cs q) (ascend-none phase2 fair-2 0 _ _)) (ascend-none phase3 fair-3 0 _ _))
        (subst (λ (n : ℕ). Fair n (ascend (phase4 k) 0 c3 q3).moves) e3 (ascend-some (phase4 k) (fair-4 k) 0 c3 q3)))
        (subst (λ (n : ℕ). Fair n (ascend (phase5 k) 0 (phases1_to4 k cs q).cores (phases1_to4 k cs q).queue).moves) e4 (ascend-some (phase5 k) (fair-5 k) 0 _ _))
      where
        p3 : Pass
        p3 = and_then (and_then (ascend phase1 0 cs q) phase2) phase3

        c3 : List Core
        c3 = p3.cores

        q3 : List ℕ
        q3 = p3.queue

        e3 : length p3.cores ≡ length cs
        e3 = ascend-length phase3 0 _ _ ∙ ascend-length phase2 0 _ _ ∙ ascend-length phase1 0 cs q

        e4 : length (phases1_to4 k cs q).cores ≡ length cs
        e4 = ascend-length (phase4 k) 0 _ _ ∙ e3

    go : (o : Policy) → Fair (3 * length cs) (phase6 o k p5).moves
    go Off = fair-up (2 * length cs) _ _ (omega arith) two
    go Fifo = fair-up (2 * length cs) _ _ (omega arith) two
    go RoundRobin = fair-up (2 * length cs) _ _ (omega arith) two
    go Priority = fair-up (2 * length cs + length p5.cores) _ _ (omega (arith, length-up_to5 k cs q)) (fair-6 k (length p5.cores) (2 * length cs) p5 two)

---- the records, through moves and a charge

pub left_in_lem : (now d p i : ℕ) (r : LeaveReason) (t : ThreadRecord) → ThreadIn now d p t → ThreadIn now d (p + loss r) (record_leave now i r t)
unfolding record_leave left
left_in_lem now d p i Exit t h = lived now d (p + 0) t _ refl refl (thread-up now now d d p (p + 0) (omega arith) (omega arith) (omega arith) t h)
left_in_lem now d p i Block t h = lived now d (p + 0) t _ refl refl (thread-up now now d d p (p + 0) (omega arith) (omega arith) (omega arith) t h)
left_in_lem now d p i Yield t h = lived now d (p + 0) t _ refl refl (thread-up now now d d p (p + 0) (omega arith) (omega arith) (omega arith) t h)
left_in_lem now d p i Quantum t h = lived now d (p + 1) (add_counts 0 0 0 0 1 0 t) _ refl refl (counted now now d d p (p + 1) 0 0 0 0 1 0 t (omega arith) (omega arith) (omega arith) (omega arith) (omega arith) (omega arith) (omega (arith, h.yields)) h)
left_in_lem now d p i Preempt t h = lived now d (p + 1) (add_counts 0 0 0 0 1 0 t) _ refl refl (counted now now d d p (p + 1) 0 0 0 0 1 0 t (omega arith) (omega arith) (omega arith) (omega arith) (omega arith) (omega arith) (omega (arith, h.yields)) h)
left_in_lem now d p i Forced t h = lived now d (p + 1) (add_counts 0 0 0 0 1 0 t) _ refl refl (counted now now d d p (p + 1) 0 0 0 0 1 0 t (omega arith) (omega arith) (omega arith) (omega arith) (omega arith) (omega arith) (omega (arith, h.yields)) h)

pub record_dispatch-in : (now d p i : ℕ) (t : ThreadRecord) → ThreadIn now d p t → ThreadIn now (d + 1) p (record_dispatch now i t)
unfolding record_dispatch
record_dispatch-in now d p i t h = lived now (d + 1) p (add_counts 0 0 0 1 0 0 t) _ refl refl (counted now now d (d + 1) p p 0 0 0 1 0 0 t (omega arith) (omega arith) (omega arith) (omega arith) (omega arith) (omega arith) (omega (arith, h.yields)) h)

pub applied-in : (e now d p : ℕ) (ms : List Move) (b : Accounts) → All (ThreadIn now d p) b.threads → All (ThreadIn now (d + takes_in ms) (p + losses_in ms)) (apply_moves e now ms b).threads
unfolding apply_moves apply_move logged takes_in losses_in
applied-in e now d p [] b a = all_map _ _ (thread-up now now d (d + 0) p (p + 0) (omega arith) (omega arith) (omega arith)) b.threads a
applied-in e now d p (starts t ∷ ms) b a = applied-in e now d p ms _ (all-change (ThreadIn now d p) (ThreadIn now d p) (started now) t b.threads (λ x g h. started-in now d p x h) (λ x h. h) a)
applied-in e now d p (leaves t i r ∷ ms) b a =
    all_map _ _ (thread-up now now (d + takes_in ms) (d + takes_in ms) (p + loss r + losses_in ms) (p + (loss r + losses_in ms)) (omega arith) (omega arith) (omega arith)) (apply_moves e now ms (apply_move e now (leaves t i r) b)).threads
    (applied-in e now d (p + loss r) ms (apply_move e now (leaves t i r) b) (all-change (ThreadIn now d p) (ThreadIn now d (p + loss r)) (record_leave now i r) t b.threads (λ x g h. left_in_lem now d p i r x h) (λ x h. thread-up now now d d p (p + loss r) (omega arith) (omega arith) (omega arith) x h) a))
applied-in e now d p (takes t i ∷ ms) b a =
    all_map _ _ (thread-up now now (d + 1 + takes_in ms) (d + suc (takes_in ms)) (p + losses_in ms) (p + losses_in ms) (omega arith) (omega arith) (omega arith)) (apply_moves e now ms (apply_move e now (takes t i) b)).threads
    (applied-in e now (d + 1) p ms (apply_move e now (takes t i) b) (all-change (ThreadIn now d p) (ThreadIn now (d + 1) p) (record_dispatch now i) t b.threads (λ x g h. record_dispatch-in now d p i x h) (λ x h. thread-up now now d (d + 1) p p (omega arith) (omega arith) (omega arith) x h) a))

pub applied-switches : (e now : ℕ) (ms : List Move) (b : Accounts) → (apply_moves e now ms b).context_switches ≡ b.context_switches + takes_in ms
unfolding apply_moves apply_move logged takes_in
applied-switches e now [] b = omega arith
applied-switches e now (starts t ∷ ms) b = applied-switches e now ms _
applied-switches e now (leaves t i r ∷ ms) b = applied-switches e now ms _
applied-switches e now (takes t i ∷ ms) b = omega (arith, applied-switches e now ms (apply_move e now (takes t i) b))

pub applied-ticks : (e now : ℕ) (ms : List Move) (b : Accounts) → (apply_moves e now ms b).ticks ≡ b.ticks
unfolding apply_moves apply_move logged
applied-ticks e now [] b = refl
applied-ticks e now (starts t ∷ ms) b = applied-ticks e now ms _
applied-ticks e now (leaves t i r ∷ ms) b = applied-ticks e now ms _
applied-ticks e now (takes t i ∷ ms) b = applied-ticks e now ms _

pub wake-in : (P : ThreadRecord → Type 0) → ((t : ThreadRecord) → P t → P (set_state Ready t)) → (e now : ℕ) (w : List ℕ) (b : Accounts) → All P b.threads → All P (wake e now w b).threads
unfolding wake logged
wake-in P h e now [] b a = a
wake-in P h e now (x ∷ w) b a = wake-in P h e now w _ (all-change P P (set_state Ready) x b.threads (λ t g k. h t k) (λ t k. k) a)

wake-switches : (e now : ℕ) (w : List ℕ) (b : Accounts) → (wake e now w b).context_switches ≡ b.context_switches
unfolding wake logged
wake-switches e now [] b = refl
wake-switches e now (x ∷ w) b = wake-switches e now w _

pub wake-ticks : (e now : ℕ) (w : List ℕ) (b : Accounts) → (wake e now w b).ticks ≡ b.ticks
unfolding wake logged
wake-ticks e now [] b = refl
wake-ticks e now (x ∷ w) b = wake-ticks e now w _

pub charged-in : (now d p : ℕ) (cs : List Core) (i : ℕ) (ts : List ThreadRecord) → All (ThreadIn now d p) ts → All (ThreadIn (now + 1) d p) (charge_threads cs i ts)
unfolding charge_threads charge_waiting
charged-in now d p cs i [] a = tt
charged-in now d p cs i (t ∷ ts) a = (go (runs i cs) (holds i cs) t.state, charged-in now d p cs (suc i) ts a.1)
  where
    same : ThreadIn (now + 1) d p t
    same = thread-up now (now + 1) d d p p (omega arith) (omega arith) (omega arith) t a.0

    add : (x y z : ℕ) → x ≤ 1 → y ≤ 1 → z ≤ 1 → ThreadIn (now + 1) d p (add_counts x y z 0 0 0 t)
    add x y z l m n = counted now (now + 1) d d p p x y z 0 0 0 t (omega arith) (omega arith) (omega arith) (omega arith) (omega arith) (omega arith) (omega (arith, a.0.yields)) a.0

    go : (b c : Bool) (l : ThreadState) → ThreadIn (now + 1) d p (cond b (add_counts 1 0 0 0 0 0 t) (cond c t (charge_waiting l t)))
    go true c l = add 1 0 0 (omega arith) (omega arith) (omega arith)
    go false true l = same
    go false false Ready = add 0 1 0 (omega arith) (omega arith) (omega arith)
    go false false (Blocked u) = add 0 0 1 (omega arith) (omega arith) (omega arith)
    go false false (OnCore j) = same
    go false false Exited = same

---- the cores' counters, the log and the timelines

pub charge_core-in : (now : ℕ) (cs : List Core) (ns : List CoreTicks) → All (TicksIn now) ns → All (TicksIn (now + 1)) (zip_with (λ (c : Core) (n : CoreTicks). charge_core c.state n) cs ns)
unfolding charge_core zip_with
charge_core-in now [] ns a = tt
charge_core-in now (c ∷ cs) [] a = tt
charge_core-in now (c ∷ cs) (n ∷ ns) a = (go c.state, charge_core-in now cs ns a.1)
  where
    go : (s : CoreState) → TicksIn (now + 1) (charge_core s n)
    go Idle = omega (arith, a.0)
    go (Switching t l) = omega (arith, a.0)
    go (Running t l) = omega (arith, a.0)

zip_length : {A B C : Type 0} (f : A → B → C) (xs : List A) (ys : List B) → length ys ≡ length xs → length (zip_with f xs ys) ≡ length xs
unfolding zip_with
zip_length f [] ys e = refl
zip_length f (x ∷ xs) [] e = absurd (omega arith)
zip_length f (x ∷ xs) (y ∷ ys) e = ap suc (zip_length f xs ys (omega arith))

pub newest-in : {A : Type 0} (n : ℕ) (l : List A) → length (newest n l) ≤ n
unfolding newest
newest-in n l = rw length-drop (omega arith)

pub sizes-threads : (e c n : ℕ) (b : Accounts) (ts : List ThreadRecord) → Sizes e c n b → Sizes e c n (set_threads ts b)
sizes-threads e c n b ts h = record { ticks = h.ticks; timelines = h.timelines; log = h.log; segments = h.segments }

pub sizes-logged : (e c n now t : ℕ) (k : EventKind) (b : Accounts) → Sizes e c n b → Sizes e c n (logged e now t k b)
unfolding logged
sizes-logged e c n now t k b h = record { ticks = h.ticks; timelines = h.timelines; log = newest-in e _; segments = h.segments }

pub sizes-applied : (e c n now : ℕ) (ms : List Move) (b : Accounts) → Sizes e c n b → Sizes e c n (apply_moves e now ms b)
unfolding apply_moves apply_move
sizes-applied e c n now [] b h = h
sizes-applied e c n now (starts t ∷ ms) b h = sizes-applied e c n now ms _ (sizes-threads e c n b _ h)
sizes-applied e c n now (leaves t i r ∷ ms) b h = sizes-applied e c n now ms _ (sizes-logged e c n now t _ _ (sizes-threads e c n b _ h))
sizes-applied e c n now (takes t i ∷ ms) b h = sizes-applied e c n now ms _ (sizes-logged e c n now t _ _ (record { ticks = h.ticks; timelines = h.timelines; log = h.log; segments = h.segments }))

pub sizes-wake : (e c n now : ℕ) (w : List ℕ) (b : Accounts) → Sizes e c n b → Sizes e c n (wake e now w b)
unfolding wake
sizes-wake e c n now [] b h = h
sizes-wake e c n now (x ∷ w) b h = sizes-wake e c n now w _ (sizes-logged e c n now x _ _ (sizes-threads e c n b _ h))

pub sizes-charge : (e c now : ℕ) (cs : List Core) (b : Accounts) → Sizes e c (length cs) b → Sizes e c (length cs) (charge c now cs b)
unfolding charge zip_with
sizes-charge e c now cs b h = record { ticks = zip_length _ cs b.ticks h.ticks; timelines = zip_length _ cs b.timelines h.timelines; log = h.log; segments = all_grown cs b.timelines }
  where
    all_grown : (xs : List Core) (ls : List (List Segment)) → All (λ (l : List Segment). length l ≤ c) (zip_with (λ (x : Core) (l : List Segment). newest c (grown now (lane_of x.state) l)) xs ls)
    all_grown [] ls = tt
    all_grown (x ∷ xs) [] = tt
    all_grown (x ∷ xs) (l ∷ ls) = (newest-in c _, all_grown xs ls)

---- the cores

pub dispatched_state-in : (now k t : ℕ) → k ≤ 10_000 → CoreStateIn now (dispatched_state k t)
unfolding dispatched_state
dispatched_state-in now zero t h = omega arith
dispatched_state-in now (suc k) t h = (omega arith, h)

pub sliced-in : (now : ℕ) (s : CoreState) → CoreStateIn now s → CoreStateIn (now + 1) (sliced s)
unfolding sliced
sliced-in now Idle h = tt
sliced-in now (Switching t l) h = h
sliced-in now (Running t s) h = omega arith

pub settled-in : (now : ℕ) (c : Core) (q : List ℕ) (s : CoreState) (b : Bool) → is_due s ≡ b → CoreIn now c → CoreStateIn now s → CoreIn now (switched_in c s b q).core
unfolding switched_in
settled-in now c q Idle b e h hs = h
settled-in now c q (Running t s) b e h hs = h
settled-in now c q (Switching t l) true e h hs = omega arith
settled-in now c q (Switching t l) false e h hs = (omega (arith, leb-false l 1 e), omega (arith, hs.1))

pub vacate-in : (now i : ℕ) (c : Core) (q : List ℕ) (o : Option ℕ) (g : Option LeaveReason) → CoreIn now c → CoreIn now (vacate i c o g q).core
unfolding vacate
vacate-in now i c q none g h = tt
vacate-in now i c q (some t) none h = h
vacate-in now i c q (some t) (some r) h = tt

pub filled_in : (now : ℕ) (k : Rules) (i : ℕ) (c : Core) (q : List ℕ) (s : CoreState) (n : Option ℕ) → k.cost ≤ 10_000 → CoreIn now c → CoreIn now (filled k i c s n q).core
unfolding filled
filled_in now k i c q (Switching t l) n w h = h
filled_in now k i c q (Running t s) n w h = h
filled_in now k i c q Idle none w h = h
filled_in now k i c q Idle (some t) w h = dispatched_state-in now k.cost t w

pub hand_over-in : (now : ℕ) (k : Rules) (i : ℕ) (c : Core) (q : List ℕ) (s : CoreState) (b : Bool) (n : Option ℕ) (r : LeaveReason) → k.cost ≤ 10_000 → CoreIn now c → CoreIn now (hand_over k i c s b n r q).core
unfolding hand_over
hand_over-in now k i c q Idle b n r w h = h
hand_over-in now k i c q (Switching t l) b n r w h = h
hand_over-in now k i c q (Running t s) false n r w h = h
hand_over-in now k i c q (Running t s) true none r w h = omega arith
hand_over-in now k i c q (Running t s) true (some u) r w h = dispatched_state-in now k.cost u w

pub preempt_rounds-in : (now : ℕ) (k : Rules) (n : ℕ) (p : Pass) → k.cost ≤ 10_000 → All (CoreIn now) p.cores → All (CoreIn now) (preempt_rounds k n p).cores
unfolding preempt_rounds preempted
preempt_rounds-in now k zero p w a = a
preempt_rounds-in now k (suc n) p w a = go (next_preemption k p) (λ q h. preempt_rounds-in now k n q w h)
  where
    In : Pass → Type 0
    In q = All (CoreIn now) q.cores

    go : (o : Option Preemption) → ((q : Pass) → All (CoreIn now) q.cores → All (CoreIn now) (preempt_rounds k n q).cores) → In (elim o [ none ↦ p | some v ↦ preempt_rounds k n (preempted k Preempt v.victim v.best p) ])
    go none ih = a
    go (some v) ih = ih _ (all-update {P = CoreIn now} (dispatch k.cost v.best) (λ c h. dispatched_state-in now k.cost v.best w) v.victim.core p.cores a)

pub decide-in : (now : ℕ) (k : Rules) (cs : List Core) (q : List ℕ) → k.cost ≤ 10_000 → All (CoreIn now) cs → All (CoreIn (now + 1)) (decide k cs q).cores
unfolding decide phases1_to4 and_then phase6 phase1 phase2 phase3 phase4 phase5
decide-in now k cs q w a = go k.policy
  where
    P : Core → Type 0
    P = CoreIn (now + 1)

    five : All (CoreIn (now + 1)) (and_then (phases1_to4 k cs q) (phase5 k)).cores
    five =
        ascend-all P P (phase5 k) (λ i c u h. hand_over-in (now + 1) k i (unyielded c) u c.state _ _ _ w h) 0 _ _
        (ascend-all P P (phase4 k) (λ i c u h. filled_in (now + 1) k i c u c.state _ w h) 0 _ _
        (ascend-all P P phase3 (λ i c u h. vacate-in (now + 1) i c u _ _ h) 0 _ _
        (ascend-all P P phase2 (λ i c u h. settled-in (now + 1) c u c.state _ refl h h) 0 _ _
        (ascend-all (CoreIn now) P phase1 (λ i c u h. sliced-in now c.state h) 0 cs q a))))

    go : (o : Policy) → All (CoreIn (now + 1)) (phase6 o k (and_then (phases1_to4 k cs q) (phase5 k))).cores
    go Off = five
    go Fifo = five
    go RoundRobin = five
    go Priority = preempt_rounds-in (now + 1) k _ _ w five

---- a call

pub accept-cores : (s : State) (c : Call) → length (accept s c).state.cores ≡ length s.cores
unfolding accept blocking exited sliced_all
accept-cores s (spawn p e) = refl
accept-cores s (exit i) = length-update mark_exit i s.cores
accept-cores s (join i t) = go (outcome (tid_on s i) t (thread_state_of (get_elem? s.accounts.threads t)))
  where
    go : (j : JoinOutcome) → length (blocking s i t j).cores ≡ length s.cores
    go Done = refl
    go Invalid = refl
    go Wait = length-update mark_block i s.cores
accept-cores s (retired i) = length-update mark_progress i s.cores
accept-cores s (yield i) = length-update mark_yield i s.cores
accept-cores s (priority t n) = refl
accept-cores s (timing q w) = refl
accept-cores s (force i n) = length-update _ i s.cores
accept-cores s tick = length-decide (rules s) s.cores s.queue
accept-cores s (close i) = length-map (sliced_all (update i mark_exit s.cores)) unmarked ∙ length-map (update i mark_exit s.cores) _ ∙ length-update mark_exit i s.cores

settings-accept : (s : State) (c : Call) → refusal s c ≡ none → Settings s.config → Settings (accept s c).state.config
unfolding accept blocking exited refusal bad_timing
settings-accept s (spawn p e) r h = h
settings-accept s (exit i) r h = h
settings-accept s (join i t) r h = go (outcome (tid_on s i) t (thread_state_of (get_elem? s.accounts.threads t)))
  where
    go : (j : JoinOutcome) → Settings (blocking s i t j).config
    go Done = h
    go Invalid = h
    go Wait = h
settings-accept s (retired i) r h = h
settings-accept s (yield i) r h = h
settings-accept s (priority t n) r h = h
settings-accept s (timing q w) r h =
    let e = check-none 1 _ _ r in
    let a : q ≤ 1_000_000 = ltb-false 1_000_000 q (or-false-l (ltb 1_000_000 q) _ e) in
    let b : w ≤ 10_000 = ltb-false 10_000 w (or-false-r (ltb 1_000_000 q) _ e) in
    record { quantum = omega arith; quantum' = omega arith; cost = b; cap_t = h.cap_t; cap_t' = h.cap_t'; cap_e = h.cap_e; cap_e' = h.cap_e'; cap_s = h.cap_s; cap_s' = h.cap_s' }
settings-accept s (force i n) r h = h
settings-accept s tick r h = h
settings-accept s (close i) r h = h

sizes-exited : (c : ℕ) (s : State) (i : ℕ) → Sizes s.config.cap_e c (length s.cores) s.accounts → Sizes s.config.cap_e c (length s.cores) (exited s i).accounts
unfolding exited
sizes-exited c s i h = sizes-wake s.config.cap_e c (length s.cores) s.now _ _ (sizes-threads s.config.cap_e c (length s.cores) s.accounts _ h)

-- (the number of cores is `accept-cores`' matter)
sizes-accept : (s : State) (c : Call) → Sizes s.config.cap_e s.config.cap_s (length s.cores) s.accounts → Sizes (accept s c).state.config.cap_e (accept s c).state.config.cap_s (length s.cores) (accept s c).state.accounts
unfolding accept blocking
sizes-accept s (spawn p e) h = sizes-logged _ _ _ s.now _ _ _ (sizes-threads _ _ _ s.accounts _ h)
sizes-accept s (exit i) h = sized
  where
    sized : Sizes (exited s i).config.cap_e (exited s i).config.cap_s (length s.cores) (exited s i).accounts
    sized = unfold exited in sizes-exited s.config.cap_s s i h
sizes-accept s (join i t) h = go (outcome (tid_on s i) t (thread_state_of (get_elem? s.accounts.threads t)))
  where
    go : (j : JoinOutcome) → Sizes (blocking s i t j).config.cap_e (blocking s i t j).config.cap_s (length s.cores) (blocking s i t j).accounts
    go Done = h
    go Invalid = h
    go Wait = sizes-threads _ _ _ s.accounts _ h
sizes-accept s (retired i) h = h
sizes-accept s (yield i) h = sizes-threads _ _ _ s.accounts _ h
sizes-accept s (priority t n) h = sizes-logged _ _ _ s.now _ _ _ (sizes-threads _ _ _ s.accounts _ h)
sizes-accept s (timing q w) h = h
sizes-accept s (force i n) h = sizes-applied _ _ _ s.now _ _ h
sizes-accept s tick h = sizes-applied _ _ _ (s.now + 1) _ _ (sizes-charge _ _ s.now s.cores s.accounts h)
sizes-accept s (close i) h = sized
  where
    e : State
    e = exited s i

    same : length e.cores ≡ length s.cores
    same = unfold exited in length-update mark_exit i s.cores

    sized : Sizes e.config.cap_e e.config.cap_s (length s.cores) (charge e.config.cap_s e.now e.cores e.accounts)
    sized = unfold exited in subst (λ (n : ℕ). Sizes s.config.cap_e s.config.cap_s n (charge s.config.cap_s s.now e.cores e.accounts)) same (sizes-charge s.config.cap_e s.config.cap_s s.now e.cores e.accounts (subst (λ (n : ℕ). Sizes s.config.cap_e s.config.cap_s n e.accounts) (sym same) (sizes-exited s.config.cap_s s i h)))

-- now: a tick and a close are refused at the limit
now-accept : (s : State) (c : Call) → refusal s c ≡ none → s.now ≤ limit_now → (accept s c).state.now ≤ limit_now
unfolding accept blocking exited refusal
now-accept s (spawn p e) r h = h
now-accept s (exit i) r h = h
now-accept s (join i t) r h = go (outcome (tid_on s i) t (thread_state_of (get_elem? s.accounts.threads t)))
  where
    go : (j : JoinOutcome) → (blocking s i t j).now ≤ limit_now
    go Done = h
    go Invalid = h
    go Wait = h
now-accept s (retired i) r h = h
now-accept s (yield i) r h = h
now-accept s (priority t n) r h = h
now-accept s (timing q w) r h = h
now-accept s (force i n) r h = h
now-accept s tick r h = let l = leb-false limit_now s.now (check-none 18 _ _ (check-rest 11 _ _ r)) in omega arith
now-accept s (close i) r h = let l = leb-false limit_now s.now (check-none 18 _ _ (check-rest 13 _ _ (check-rest 12 _ _ (check-rest 11 _ _ (check-rest 4 _ _ r))))) in omega arith

-- the moves of a forced switch
pub forced-fair : (i : ℕ) (o : CoreState) (k t : ℕ) → Fair 1 (out_of i o ++ dispatch_moves k t i)
unfolding out_of
forced-fair i Idle k t = fair-dispatch k t i
forced-fair i (Switching u l) k t = fair-dispatch k t i
forced-fair i (Running u l) k t = fair-swap k u t i Forced

cannot-rest : (s : State) (i : ℕ) (n : Option ℕ) (r : Option ℕ) → cannot_take s i n r ≡ none → r ≡ none
unfolding cannot_take
cannot-rest s i none r e = check-rest 16 _ r e
cannot-rest s i (some t) r e = check-rest 15 _ r e

-- the moves of a call: a tick's are fair to three a core, a force's to one, no other has any
pub moved : (s : State) (c : Call) → (accept s c).state.accounts.context_switches ≡ s.accounts.context_switches + takes_in (accept s c).moves
unfolding accept blocking exited charge logged takes_in
moved s (spawn p e) = omega arith
moved s (exit i) = omega (arith, wake-switches s.config.cap_e s.now (waiters (tid_on s i) 0 (update (tid_on s i) (finished s.now) s.accounts.threads)) (on_thread (tid_on s i) (finished s.now) s.accounts))
moved s (join i t) = go (outcome (tid_on s i) t (thread_state_of (get_elem? s.accounts.threads t)))
  where
    go : (j : JoinOutcome) → (blocking s i t j).accounts.context_switches ≡ s.accounts.context_switches + 0
    go Done = omega arith
    go Invalid = omega arith
    go Wait = omega arith
moved s (retired i) = omega arith
moved s (yield i) = omega arith
moved s (priority t n) = omega arith
moved s (timing q w) = omega arith
moved s (force i n) = applied-switches s.config.cap_e s.now (out_of i (core_state_of s i) ++ dispatch_moves s.config.cost (taken_by s i n) i) s.accounts
moved s tick = applied-switches s.config.cap_e (s.now + 1) (decide (rules s) s.cores s.queue).moves (charge s.config.cap_s s.now s.cores s.accounts)
moved s (close i) = omega (arith, wake-switches s.config.cap_e s.now (waiters (tid_on s i) 0 (update (tid_on s i) (finished s.now) s.accounts.threads)) (on_thread (tid_on s i) (finished s.now) s.accounts))

switches-accept : (s : State) (c : Call) → refusal s c ≡ none → length s.cores ≤ 8 → s.accounts.context_switches ≤ limit_switches + 24 * s.now → (accept s c).state.accounts.context_switches ≤ limit_switches + 24 * (accept s c).state.now
unfolding accept blocking exited refusal takes_in charge logged
switches-accept s (spawn p e) r few h = h
switches-accept s (exit i) r few h = omega (arith, moved s (exit i))
switches-accept s (join i t) r few h = go (outcome (tid_on s i) t (thread_state_of (get_elem? s.accounts.threads t)))
  where
    go : (j : JoinOutcome) → (blocking s i t j).accounts.context_switches ≤ limit_switches + 24 * (blocking s i t j).now
    go Done = h
    go Invalid = h
    go Wait = h
switches-accept s (retired i) r few h = h
switches-accept s (yield i) r few h = h
switches-accept s (priority t n) r few h = h
switches-accept s (timing q w) r few h = h
switches-accept s (force i n) r few h =
    let l : s.accounts.context_switches < limit_switches = leb-false limit_switches s.accounts.context_switches (check-none 19 _ none (cannot-rest s i n _ (check-rest 14 _ _ (check-rest 12 _ _ (check-rest 11 _ _ (check-rest 4 _ _ r)))))) in
    omega (arith, moved s (force i n), (forced-fair i (core_state_of s i) s.config.cost (taken_by s i n)).1)
switches-accept s tick r few h = omega (arith, moved s tick, (fair-decide (rules s) s.cores s.queue).1)
switches-accept s (close i) r few h = omega (arith, moved s (close i))

ticks-accept : (s : State) (c : Call) → All (TicksIn s.now) s.accounts.ticks → All (TicksIn (accept s c).state.now) (accept s c).state.accounts.ticks
unfolding accept blocking exited charge logged
ticks-accept s (spawn p e) a = a
ticks-accept s (exit i) a = subst (All (TicksIn s.now)) (sym (wake-ticks s.config.cap_e s.now _ _)) a
ticks-accept s (join i t) a = go (outcome (tid_on s i) t (thread_state_of (get_elem? s.accounts.threads t)))
  where
    go : (j : JoinOutcome) → All (TicksIn (blocking s i t j).now) (blocking s i t j).accounts.ticks
    go Done = a
    go Invalid = a
    go Wait = a
ticks-accept s (retired i) a = a
ticks-accept s (yield i) a = a
ticks-accept s (priority t n) a = a
ticks-accept s (timing q w) a = a
ticks-accept s (force i n) a = subst (All (TicksIn s.now)) (sym (applied-ticks s.config.cap_e s.now (out_of i (core_state_of s i) ++ dispatch_moves s.config.cost (taken_by s i n) i) s.accounts)) a
ticks-accept s tick a =
    subst (All (TicksIn (s.now + 1))) (sym (applied-ticks s.config.cap_e (s.now + 1) (decide (rules s) s.cores s.queue).moves (charge s.config.cap_s s.now s.cores s.accounts))) (charge_core-in s.now s.cores s.accounts.ticks a)
ticks-accept s (close i) a = charge_core-in s.now (update i mark_exit s.cores) _ (subst (All (TicksIn s.now)) (sym (wake-ticks s.config.cap_e s.now _ _)) a)

all-cores : (P Q : Core → Type 0) (f : Core → Core) → ((c : Core) → P c → Q (f c)) → (cs : List Core) → All P cs → All Q (map f cs)
all-cores P Q f h [] a = tt
all-cores P Q f h (c ∷ cs) a = (h c a.0, all-cores P Q f h cs a.1)

cores-accept : (s : State) (c : Call) → s.config.cost ≤ 10_000 → All (CoreIn s.now) s.cores → All (CoreIn (accept s c).state.now) (accept s c).state.cores
unfolding accept blocking exited rules sliced_all
cores-accept s (spawn p e) w a = a
cores-accept s (exit i) w a = all-update {P = CoreIn s.now} mark_exit (λ c h. h) i s.cores a
cores-accept s (join i t) w a = go (outcome (tid_on s i) t (thread_state_of (get_elem? s.accounts.threads t)))
  where
    go : (j : JoinOutcome) → All (CoreIn (blocking s i t j).now) (blocking s i t j).cores
    go Done = a
    go Invalid = a
    go Wait = all-update {P = CoreIn s.now} mark_block (λ c h. h) i s.cores a
cores-accept s (retired i) w a = all-update {P = CoreIn s.now} mark_progress (λ c h. h) i s.cores a
cores-accept s (yield i) w a = all-update {P = CoreIn s.now} mark_yield (λ c h. h) i s.cores a
cores-accept s (priority t n) w a = a
cores-accept s (timing q k) w a = a
cores-accept s (force i n) w a = all-update {P = CoreIn s.now} (forced_core s.config.cost (taken_by s i n)) (λ c h. dispatched_state-in s.now s.config.cost (taken_by s i n) w) i s.cores a
cores-accept s tick w a = decide-in s.now (rules s) s.cores s.queue w a
cores-accept s (close i) w a =
    all-cores (CoreIn (s.now + 1)) (CoreIn (s.now + 1)) unmarked (λ c h. h) (sliced_all (update i mark_exit s.cores))
    (all-cores (CoreIn s.now) (CoreIn (s.now + 1)) (λ c. with_state (sliced c.state) c) (λ c h. sliced-in s.now c.state h) (update i mark_exit s.cores) (all-update {P = CoreIn s.now} mark_exit (λ c h. h) i s.cores a))

-- the records, with d and p for what bounds dispatches and preemptions
pub exited-in : (s : State) (i d p : ℕ) → All (ThreadIn s.now d p) s.accounts.threads → All (ThreadIn s.now d p) (exited s i).accounts.threads
unfolding exited
exited-in s i d p a =
    wake-in (ThreadIn s.now d p) (λ t h. lived s.now d p t (set_state Ready t) refl refl h) s.config.cap_e s.now _ (on_thread (tid_on s i) (finished s.now) s.accounts)
    (all-change (ThreadIn s.now d p) (ThreadIn s.now d p) (finished s.now) (tid_on s i) s.accounts.threads (λ x g h. finished-in s.now d p x h) (λ x h. h) a)

pub born-in : (t : ℕ) (q : Option ℕ) (e n now d p : ℕ) → ThreadIn now d p (born t q e n now)
unfolding born
born-in t q e n now d p = record { run = omega arith; ready = omega arith; blocked = omega arith; dispatches = omega arith; preemptions = omega arith; yields = omega arith; arrival = omega arith; first_run = tt; finish = tt }

pub yield-below : (s : State) (i : ℕ) (x : ThreadRecord) → refusal s (yield i) ≡ none → get_elem? s.accounts.threads (tid_on s i) ≡ some x → x.counts.yields < limit_now
unfolding refusal yields_of
yield-below s i x r g =
    subst (λ (o : Option ThreadRecord). yields_of o < limit_now) g (leb-false limit_now (yields_of (get_elem? s.accounts.threads (tid_on s i))) (check-none 19 _ none (check-rest 13 _ _ (check-rest 12 _ _ (check-rest 11 _ _ (check-rest 4 _ _ r))))))

threads-accept :
    (s : State) (c : Call) (d p : ℕ) → refusal s c ≡ none → All (ThreadIn s.now d p) s.accounts.threads
    → All (ThreadIn (accept s c).state.now (d + takes_in (accept s c).moves) (p + losses_in (accept s c).moves)) (accept s c).state.accounts.threads
unfolding accept blocking charge logged takes_in losses_in
threads-accept s c d p r a = go c r
  where
    P : ThreadRecord → Type 0
    P = ThreadIn s.now d p

    P0 : ThreadRecord → Type 0
    P0 = ThreadIn s.now (d + 0) (p + 0)

    up : (ts : List ThreadRecord) → All (ThreadIn s.now d p) ts → All (ThreadIn s.now (d + 0) (p + 0)) ts
    up ts b = all_map _ _ (thread-up s.now s.now d (d + 0) p (p + 0) (omega arith) (omega arith) (omega arith)) ts b

    go : (c : Call) → refusal s c ≡ none → All (ThreadIn (accept s c).state.now (d + takes_in (accept s c).moves) (p + losses_in (accept s c).moves)) (accept s c).state.accounts.threads
    go (spawn q e) r = all_snoc (ThreadIn s.now (d + 0) (p + 0)) s.accounts.threads _ (up s.accounts.threads a) (born-in _ q e _ s.now (d + 0) (p + 0))
    go (exit i) r = out
      where
        out : All (ThreadIn (exited s i).now (d + 0) (p + 0)) (exited s i).accounts.threads
        out = unfold exited in up (exited s i).accounts.threads (exited-in s i d p a)
    go (join i t) r = two (outcome (tid_on s i) t (thread_state_of (get_elem? s.accounts.threads t)))
      where
        two : (j : JoinOutcome) → All (ThreadIn (blocking s i t j).now (d + 0) (p + 0)) (blocking s i t j).accounts.threads
        two Done = up s.accounts.threads a
        two Invalid = up s.accounts.threads a
        two Wait = up (update (tid_on s i) (set_state (Blocked t)) s.accounts.threads) (all-change P P (set_state (Blocked t)) (tid_on s i) s.accounts.threads (λ x g h. lived s.now d p x (set_state (Blocked t) x) refl refl h) (λ x h. h) a)
    go (retired i) r = up s.accounts.threads a
    go (yield i) r =
        up (update (tid_on s i) (add_counts 0 0 0 0 0 1) s.accounts.threads) (all-change P P (add_counts 0 0 0 0 0 1) (tid_on s i) s.accounts.threads
        (λ x g h. counted s.now s.now d d p p 0 0 0 0 0 1 x (omega arith) (omega arith) (omega arith) (omega arith) (omega arith) (omega arith) (omega (arith, yield-below s i x r g)) h) (λ x h. h) a)
    go (priority t n) r = up (update t (set_priority n) s.accounts.threads) (all-change P P (set_priority n) t s.accounts.threads (λ x g h. lived s.now d p x (set_priority n x) refl refl h) (λ x h. h) a)
    go (timing q w) r = up s.accounts.threads a
    go (force i n) r = applied-in s.config.cap_e s.now d p (out_of i (core_state_of s i) ++ dispatch_moves s.config.cost (taken_by s i n) i) s.accounts a
    go tick r = applied-in s.config.cap_e (s.now + 1) d p (decide (rules s) s.cores s.queue).moves (charge s.config.cap_s s.now s.cores s.accounts) (charged-in s.now d p s.cores 0 s.accounts.threads a)
    go (close i) r = out
      where
        out : All (ThreadIn ((exited s i).now + 1) (d + 0) (p + 0)) (charge_threads (exited s i).cores 0 (exited s i).accounts.threads)
        out = unfold exited in all_map (ThreadIn (s.now + 1) d p) (ThreadIn (s.now + 1) (d + 0) (p + 0)) (thread-up (s.now + 1) (s.now + 1) d (d + 0) p (p + 0) (omega arith) (omega arith) (omega arith)) (charge_threads (exited s i).cores 0 (exited s i).accounts.threads) (charged-in s.now d p (exited s i).cores 0 (exited s i).accounts.threads (exited-in s i d p a))

-- preemptions are no more than dispatches, whatever the call
pub accept-fair : (s : State) (c : Call) → losses_in (accept s c).moves ≤ takes_in (accept s c).moves
unfolding accept takes_in losses_in
accept-fair s (spawn p e) = omega arith
accept-fair s (exit i) = omega arith
accept-fair s (join i t) = omega arith
accept-fair s (retired i) = omega arith
accept-fair s (yield i) = omega arith
accept-fair s (priority t n) = omega arith
accept-fair s (timing q w) = omega arith
accept-fair s (force i n) = (forced-fair i (core_state_of s i) s.config.cost (taken_by s i n)).0
accept-fair s tick = (fair-decide (rules s) s.cores s.queue).0
accept-fair s (close i) = omega arith

pub bounded-accept : (s : State) (c : Call) → refusal s c ≡ none → Bounded s → Bounded (accept s c).state
bounded-accept s c r v =
    let e = accept-cores s c in
    let f = accept-fair s c in
    let m = moved s c in
    record {
      placed = placed-accept s c r v.placed;
      roomy = roomy-accept s c r v.roomy;
      settings = settings-accept s c r v.settings;
      some = omega (arith, v.some, e);
      few = omega (arith, v.few, e);
      sizes = subst (λ (n : ℕ). Sizes (accept s c).state.config.cap_e (accept s c).state.config.cap_s n (accept s c).state.accounts) (sym e) (sizes-accept s c v.sizes);
      now = now-accept s c r v.now;
      context_switches = switches-accept s c r v.few v.context_switches;
      threads = all_map _ _ (thread-up (accept s c).state.now (accept s c).state.now (s.accounts.context_switches + 1 + takes_in (accept s c).moves) ((accept s c).state.accounts.context_switches + 1) (s.accounts.context_switches + losses_in (accept s c).moves) (accept s c).state.accounts.context_switches (omega arith) (omega (arith, m)) (omega (arith, m, f)))
          (accept s c).state.accounts.threads (threads-accept s c (s.accounts.context_switches + 1) s.accounts.context_switches r v.threads);
      ticks = ticks-accept s c v.ticks;
      cores = cores-accept s c v.settings.cost v.cores;
    }

pub bounded-step : (s : State) (c : Call) → Bounded s → Bounded (step s c).state
unfolding step stepped
bounded-step s c v = go (refusal s c) refl
  where
    go : (r : Option ℕ) → refusal s c ≡ r → Bounded (stepped s c r).state
    go (some n) e = v
    go none e = bounded-accept s c e v

pub bounded-run : (cs : List Call) (s : State) → Bounded s → Bounded (run s cs)
unfolding run
bounded-run [] s v = v
bounded-run (c ∷ cs) s v = bounded-run cs (step s c).state (bounded-step s c v)

---- creation

all_replicate : {A : Type 0} (P : A → Type 0) (n : ℕ) (x : A) → P x → All P (replicate n x)
all_replicate P zero x h = tt
all_replicate P (suc n) x h = (h, all_replicate P n x h)

cores-replicate : (P : Core → Type 0) (n : ℕ) (x : Core) → P x → All P (replicate n x)
cores-replicate P zero x h = tt
cores-replicate P (suc n) x h = (h, cores-replicate P n x h)

within : (a b n : ℕ) → beyond a b n ≡ false → (a ≤ n) × (n ≤ b)
unfolding beyond
within a b n e = (ltb-false n a (or-false-l (ltb n a) _ e), ltb-false b n (or-false-r (ltb n a) _ e))

settings-new : (p : Policy) (q w n t e c : ℕ) → refused_new q w n t e c ≡ none → Settings (record { policy = p; quantum = q; cost = w; cap_t = t; cap_e = e; cap_s = c })
unfolding refused_new
settings-new p q w n t e c er =
    let a = check-none 1 _ _ er in
    let b = check-none 3 _ none (check-rest 2 _ _ (check-rest 1 _ _ er)) in
    let bq = within 1 1_000_000 q (or-false-l (beyond 1 1_000_000 q) _ a) in
    let bt = within 1 256 t (or-false-l (beyond 1 256 t) _ b) in
    let b2 = or-false-r (beyond 1 256 t) _ b in
    let be = within 1 512 e (or-false-l (beyond 1 512 e) _ b2) in
    let bs = within 1 4096 c (or-false-r (beyond 1 512 e) _ b2) in
    record { quantum = bq.0; quantum' = bq.1; cost = ltb-false 10_000 w (or-false-r (beyond 1 1_000_000 q) _ a); cap_t = bt.0; cap_t' = bt.1; cap_e = be.0; cap_e' = be.1; cap_s = bs.0; cap_s' = bs.1 }

bounded-first : (p : Policy) (q w n t e c entry : ℕ) → refused_new q w n t e c ≡ none → (k : Config) → Settings k → Placed (initial_state (pred n) entry k) → Bounded (initial_state (pred n) entry k)
unfolding initial_state started add_counts born or_else refused_new
bounded-first p q w n t e c entry er k set pl =
    let l : n ≤ 8 = ltb-false 8 n (check-none 2 _ _ (check-rest 1 _ _ er)) in
    record {
      placed = pl;
      roomy = set.cap_t;
      settings = set;
      some = omega arith;
      few = rw length-replicate (omega arith);
      sizes = record {
        ticks = length-replicate (suc (pred n)) _ ∙ ap suc (sym (length-replicate (pred n) idle_core));
        timelines = length-replicate (suc (pred n)) _ ∙ ap suc (sym (length-replicate (pred n) idle_core));
        log = newest-in k.cap_e _;
        segments = all_replicate _ (suc (pred n)) _ (omega arith);
      };
      now = omega arith;
      context_switches = omega arith;
      threads = (record { run = omega arith; ready = omega arith; blocked = omega arith; dispatches = omega arith; preemptions = omega arith; yields = omega arith; arrival = omega arith; first_run = (omega arith, omega arith); finish = tt }, tt);
      ticks = all_replicate _ (suc (pred n)) _ refl;
      cores = (omega arith, cores-replicate (CoreIn 0) (pred n) idle_core tt);
    }

pub bounded-new : (p : Policy) (q w n t e c entry : ℕ) (s : State) → new p q w n t e c entry ≡ made s → Bounded s
unfolding new made_of
bounded-new p q w n t e c entry s h = go (refused_new q w n t e c) refl h
  where
    k : Config
    k = record { policy = p; quantum = q; cost = w; cap_t = t; cap_e = e; cap_s = c }

    s0 : State
    s0 = initial_state (pred n) entry k

    state_of : Made → State
    state_of (made x) = x
    state_of (unmade m) = s

    go : (r : Option ℕ) → refused_new q w n t e c ≡ r → made_of r s0 ≡ made s → Bounded s
    go (some m) er es = absurd (let z : ◌≡◌ {A = ℕ} 0 1 = cc in omega arith)
    go none er es = subst Bounded (ap state_of es) (bounded-first p q w n t e c entry er k (settings-new p q w n t e c er) (placed-new p q w n t e c entry s0 (rw er)))

---- in figures, for a program's types: `now`, slices and the records' ticks fit 32 bits with one to spare, context switches 64 with any tick's to spare

pub now-figure : (s : State) → Bounded s → s.now ≤ 4_000_000_000
unfolding limit_now
now-figure s v = v.now

pub switches-figure : (s : State) → Bounded s → s.accounts.context_switches ≤ 136_000_000_000
unfolding limit_now limit_switches
switches-figure s v = omega (arith, v.now, v.context_switches)

pub yields-figure : (s : State) → Bounded s → (x : ℕ) (t : ThreadRecord) → get_elem? s.accounts.threads x ≡ some t → t.counts.yields ≤ 4_000_000_000
unfolding limit_now
yields-figure s v x t e = (all-at (ThreadIn s.now (s.accounts.context_switches + 1) s.accounts.context_switches) s.accounts.threads x t v.threads e).yields
