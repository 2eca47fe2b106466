-- The summary's numbers are small: each counter is at most `now`, and the counts of moves at most the number of moves so far.
use Prim.Native.Nat.{ℕ, zero, suc, ◌+◌, ◌-◌, ◌*◌, ◌^◌, ◌≤◌, ◌<◌}
use mathlib.Core.Path.{◌≡◌, refl, sym, ap, ◌∙◌}
use mathlib.Core.Bool.{Bool, true, false, cond}
use mathlib.Core.Option.{Option, none, some}
use mathlib.Core.List.{List, [], ◌∷◌, ◌++◌, map, zip_with}
use native.Mathlib.Omega.{arith}
use native.Mathlib.Nat.{mul-le-mul}
use lib.ListN.{length, get_elem?, length-append}
use Rattle.script.specs.Invariants.{Modest, ThreadIn, TicksIn, Counted}
use Rattle.model.specs.Invariants.{All, AllO}
use Rattle.model.specs.Types.{CoreState, Idle, Switching, Running, LeaveReason, Exit, Block, Yield, Quantum, Preempt, Forced, Core, Move, starts, leaves, takes, ThreadState, Ready, Exited, OnCore, Blocked, ThreadRecord, CoreTicks, EventKind, Accounts, State}
use Rattle.model.specs.Phases.{update, decide, dispatch_moves}
use Rattle.model.specs.Accounting.{add_counts, or_else, started, finished, left, record_leave, record_dispatch, born, set_threads, on_thread, logged, switched_once, apply_move, apply_moves, charge_core, runs, holds, charge_waiting, charge_threads, charge, total, since, one, Sums, sums, set_state, set_priority}
use Rattle.model.specs.Calls.{Call, spawn, exit, join, retired, yield, priority, timing, force, tick, close, JoinOutcome, Wait, Done, Invalid, tid_on, thread_state_of, core_state_of, rules, waiters, wake, exited, outcome, blocking, out_of, taken_by, accept}

---- lists of records

all-update : {A : Type 0} (P : A → Type 0) (f : A → A) → ((x : A) → P x → P (f x)) → (n : ℕ) (xs : List A) → All P xs → All P (update n f xs)
unfolding update
all-update P f h n [] a = tt
all-update P f h zero (x ∷ xs) a = (h x a.0, a.1)
all-update P f h (suc n) (x ∷ xs) a = (a.0, all-update P f h n xs a.1)

all_snoc : {A : Type 0} (P : A → Type 0) (xs : List A) (y : A) → All P xs → P y → All P (xs ++ (y ∷ []))
all_snoc P [] y a h = (h, tt)
all_snoc P (x ∷ xs) y a h = (a.0, all_snoc P xs y a.1 h)

total-all : {A : Type 0} (f : A → ℕ) (m : ℕ) (xs : List A) → All (λ (x : A). f x ≤ m) xs → total f xs ≤ m * length xs
unfolding total
total-all f m [] a = omega arith
total-all f m (x ∷ xs) a = omega (arith, a.0, total-all f m xs a.1)

all-imp : {A : Type 0} (P Q : A → Type 0) → ((x : A) → P x → Q x) → (xs : List A) → All P xs → All Q xs
all-imp P Q h [] a = tt
all-imp P Q h (x ∷ xs) a = (h x a.0, all-imp P Q h xs a.1)

total-update : {A : Type 0} (f : A → ℕ) (g : A → A) (k : ℕ) → ((x : A) → f (g x) ≤ f x + k) → (n : ℕ) (xs : List A) → total f (update n g xs) ≤ total f xs + k
unfolding total update
total-update f g k h n [] = omega arith
total-update f g k h zero (x ∷ xs) = omega (arith, h x)
total-update f g k h (suc n) (x ∷ xs) = omega (arith, total-update f g k h n xs)

total-snoc : {A : Type 0} (f : A → ℕ) (xs : List A) (y : A) → total f (xs ++ (y ∷ [])) ≡ total f xs + f y
unfolding total
total-snoc f [] y = omega arith
total-snoc f (x ∷ xs) y = omega (arith, total-snoc f xs y)

---- a thread's counters, a core's

abbrev preempted : ThreadRecord → ℕ
preempted t = t.counts.preemptions

-- a change of one record that raises its preemptions by k at most
module _ (now M : ℕ) (b : Accounts) (h : Counted now M b) where
  on-thread : (k x : ℕ) (f : ThreadRecord → ThreadRecord) → ((t : ThreadRecord) → ThreadIn now t → ThreadIn now (f t)) → ((t : ThreadRecord) → (f t).counts.preemptions ≤ t.counts.preemptions + k) → Counted now (M + k) (on_thread x f b)
  on-thread k x f p q =
      record { threads = all-update (ThreadIn now) f p x b.threads h.threads; ticks = h.ticks; cores = h.cores; context_switches = omega (arith, h.context_switches); preempted = omega (arith, h.preempted, total-update (λ (t : ThreadRecord). t.counts.preemptions) f k q x b.threads) }

  pub counted-more : (K : ℕ) → M ≤ K → Counted now K b
  counted-more K l = record { threads = h.threads; ticks = h.ticks; cores = h.cores; context_switches = omega (arith, h.context_switches); preempted = omega (arith, h.preempted) }

  counted-logged : (e n x : ℕ) (kind : EventKind) → Counted now M (logged e n x kind b)
  unfolding logged
  counted-logged e n x kind = record { threads = h.threads; ticks = h.ticks; cores = h.cores; context_switches = h.context_switches; preempted = h.preempted }

  counted-switched : Counted now (M + 1) (switched_once b)
  counted-switched = record { threads = h.threads; ticks = h.ticks; cores = h.cores; context_switches = omega (arith, h.context_switches); preempted = omega (arith, h.preempted) }

---- what moves change

started-in : (now : ℕ) (t : ThreadRecord) → ThreadIn now t → ThreadIn now (started now t)
unfolding started or_else
started-in now t h = record { ready = h.ready; first = go t.times.first_run h.first; finish = h.finish }
  where
    go : (o : Option ℕ) → AllO (λ (x : ℕ). x ≤ now) o → AllO (λ (x : ℕ). x ≤ now) (or_else o now)
    go none a = omega arith
    go (some x) a = a

started-timing_kept : (now : ℕ) (t : ThreadRecord) → (started now t).counts.preemptions ≤ t.counts.preemptions + 0
unfolding started
started-timing_kept now t = omega arith

left_in_lem : (now : ℕ) (r : LeaveReason) (t : ThreadRecord) → ThreadIn now t → ThreadIn now (left r t)
unfolding left add_counts
left_in_lem now Exit t h = h
left_in_lem now Block t h = h
left_in_lem now Yield t h = record { ready = h.ready; first = h.first; finish = h.finish }
left_in_lem now Quantum t h = record { ready = omega (arith, h.ready); first = h.first; finish = h.finish }
left_in_lem now Preempt t h = record { ready = omega (arith, h.ready); first = h.first; finish = h.finish }
left_in_lem now Forced t h = record { ready = omega (arith, h.ready); first = h.first; finish = h.finish }

left-once : (r : LeaveReason) (t : ThreadRecord) → (left r t).counts.preemptions ≤ t.counts.preemptions + 1
unfolding left add_counts
left-once Exit t = omega arith
left-once Block t = omega arith
left-once Yield t = omega arith
left-once Quantum t = omega arith
left-once Preempt t = omega arith
left-once Forced t = omega arith

record_leave-in : (now i : ℕ) (r : LeaveReason) (t : ThreadRecord) → ThreadIn now t → ThreadIn now (record_leave now i r t)
unfolding record_leave
record_leave-in now i r t h = let k = left_in_lem now r t h in record { ready = k.ready; first = k.first; finish = k.finish }

record_leave-once : (now i : ℕ) (r : LeaveReason) (t : ThreadRecord) → (record_leave now i r t).counts.preemptions ≤ t.counts.preemptions + 1
unfolding record_leave
record_leave-once now i r t = left-once r t

record_dispatch-in : (now i : ℕ) (t : ThreadRecord) → ThreadIn now t → ThreadIn now (record_dispatch now i t)
unfolding record_dispatch add_counts
record_dispatch-in now i t h = record { ready = omega (arith, h.ready); first = h.first; finish = h.finish }

record_dispatch-timing_kept : (now i : ℕ) (t : ThreadRecord) → (record_dispatch now i t).counts.preemptions ≤ t.counts.preemptions + 0
unfolding record_dispatch add_counts
record_dispatch-timing_kept now i t = omega arith

counted-book : (e now M : ℕ) (m : Move) (b : Accounts) → Counted now M b → Counted now (M + 1) (apply_move e now m b)
unfolding apply_move
counted-book e now M (starts t) b h = counted-more now (M + 0) _ (on-thread now M b h 0 t (started now) (started-in now) (started-timing_kept now)) (M + 1) (omega arith)
counted-book e now M (leaves t i r) b h = counted-logged now (M + 1) _ (on-thread now M b h 1 t (record_leave now i r) (record_leave-in now i r) (record_leave-once now i r)) e now t _
counted-book e now M (takes t i) b h =
    let k = counted-switched now (M + 0) _ (on-thread now M b h 0 t (record_dispatch now i) (record_dispatch-in now i) (record_dispatch-timing_kept now i)) in
    counted-logged now (M + 1) _ (counted-more now (M + 0 + 1) _ k (M + 1) (omega arith)) e now t _

pub counted-applied : (e now M : ℕ) (ms : List Move) (b : Accounts) → Counted now M b → Counted now (M + length ms) (apply_moves e now ms b)
unfolding apply_moves
counted-applied e now M [] b h = counted-more now M b h (M + 0) (omega arith)
counted-applied e now M (m ∷ ms) b h = counted-more now (M + 1 + length ms) _ (counted-applied e now (M + 1) ms (apply_move e now m b) (counted-book e now M m b h)) (M + suc (length ms)) (omega arith)

---- what charging changes

charge_waiting-in : (now : ℕ) (l : ThreadState) (t : ThreadRecord) → ThreadIn now t → ThreadIn (now + 1) (charge_waiting l t)
unfolding charge_waiting add_counts
charge_waiting-in now l t h = go l
  where
    later : AllO (λ (x : ℕ). x ≤ now + 1) t.times.first_run
    later = up t.times.first_run h.first
      where
        up : (o : Option ℕ) → AllO (λ (x : ℕ). x ≤ now) o → AllO (λ (x : ℕ). x ≤ now + 1) o
        up none a = tt
        up (some x) a = omega arith

    last : AllO (λ (x : ℕ). x ≤ now + 1 + 1) t.times.finish
    last = up t.times.finish h.finish
      where
        up : (o : Option ℕ) → AllO (λ (x : ℕ). x ≤ now + 1) o → AllO (λ (x : ℕ). x ≤ now + 1 + 1) o
        up none a = tt
        up (some x) a = omega arith

    go : (l : ThreadState) → ThreadIn (now + 1) (charge_waiting l t)
    go Ready = record { ready = omega (arith, h.ready); first = later; finish = last }
    go Exited = record { ready = omega (arith, h.ready); first = later; finish = last }
    go (OnCore i) = record { ready = omega (arith, h.ready); first = later; finish = last }
    go (Blocked u) = record { ready = omega (arith, h.ready); first = later; finish = last }

-- a thread that ran, or is switched in, is charged as one that waits for nothing
later-in : (now : ℕ) (t : ThreadRecord) → ThreadIn now t → ThreadIn (now + 1) t
unfolding charge_waiting
later-in now t h = charge_waiting-in now Exited t h

ran-in : (now : ℕ) (t : ThreadRecord) → ThreadIn now t → ThreadIn now (add_counts 1 0 0 0 0 0 t)
unfolding add_counts
ran-in now t h = record { ready = omega (arith, h.ready); first = h.first; finish = h.finish }

charged-in : (now : ℕ) (cs : List Core) (i : ℕ) (ts : List ThreadRecord) → All (ThreadIn now) ts → All (ThreadIn (now + 1)) (charge_threads cs i ts)
unfolding charge_threads
charged-in now cs i [] a = tt
charged-in now cs i (t ∷ ts) a = (go (runs i cs) (holds i cs), charged-in now cs (suc i) ts a.1)
  where
    go : (x y : Bool) → ThreadIn (now + 1) (cond x (add_counts 1 0 0 0 0 0 t) (cond y t (charge_waiting t.state t)))
    go true y = later-in now (add_counts 1 0 0 0 0 0 t) (ran-in now t a.0)
    go false true = later-in now t a.0
    go false false = charge_waiting-in now t.state t a.0

charged-timing_kept : (cs : List Core) (i : ℕ) (ts : List ThreadRecord) → total (λ (t : ThreadRecord). t.counts.preemptions) (charge_threads cs i ts) ≤ total (λ (t : ThreadRecord). t.counts.preemptions) ts
unfolding charge_threads total charge_waiting add_counts
charged-timing_kept cs i [] = omega arith
charged-timing_kept cs i (t ∷ ts) = omega (arith, go (runs i cs) (holds i cs) t.state, charged-timing_kept cs (suc i) ts)
  where
    go : (x y : Bool) (l : ThreadState) → (cond x (add_counts 1 0 0 0 0 0 t) (cond y t (charge_waiting l t))).counts.preemptions ≤ t.counts.preemptions
    go true y l = omega arith
    go false true l = omega arith
    go false false Ready = omega arith
    go false false Exited = omega arith
    go false false (OnCore j) = omega arith
    go false false (Blocked u) = omega arith

charge_core-in : (now : ℕ) (c : CoreState) (n : CoreTicks) → TicksIn now n → TicksIn (now + 1) (charge_core c n)
unfolding charge_core
charge_core-in now Idle n h = record { busy = omega (arith, h.busy); switching = omega (arith, h.switching); idle = omega (arith, h.idle) }
charge_core-in now (Switching t l) n h = record { busy = omega (arith, h.busy); switching = omega (arith, h.switching); idle = omega (arith, h.idle) }
charge_core-in now (Running t l) n h = record { busy = omega (arith, h.busy); switching = omega (arith, h.switching); idle = omega (arith, h.idle) }

abbrev charge_cores : List Core → List CoreTicks → List CoreTicks
charge_cores cs ns = zip_with (λ (c : Core) (n : CoreTicks). charge_core c.state n) cs ns

tallies-in : (now : ℕ) (cs : List Core) (ns : List CoreTicks) → All (TicksIn now) ns → All (TicksIn (now + 1)) (charge_cores cs ns)
unfolding zip_with
tallies-in now [] ns a = tt
tallies-in now (c ∷ cs) [] a = tt
tallies-in now (c ∷ cs) (n ∷ ns) a = (charge_core-in now c.state n a.0, tallies-in now cs ns a.1)

tallies-length : (cs : List Core) (ns : List CoreTicks) → length (charge_cores cs ns) ≤ length ns
unfolding zip_with
tallies-length [] ns = omega arith
tallies-length (c ∷ cs) [] = omega arith
tallies-length (c ∷ cs) (n ∷ ns) = omega (arith, tallies-length cs ns)

pub counted-charged : (cap now M : ℕ) (cs : List Core) (b : Accounts) → Counted now M b → Counted (now + 1) M (charge cap now cs b)
unfolding charge
counted-charged cap now M cs b h =
    record {
      threads = charged-in now cs 0 b.threads h.threads;
      ticks = tallies-in now cs b.ticks h.ticks;
      cores = omega (arith, tallies-length cs b.ticks, h.cores);
      context_switches = h.context_switches;
      preempted = omega (arith, charged-timing_kept cs 0 b.threads, h.preempted);
    }

---- every call

state-in : (now : ℕ) (l : ThreadState) (t : ThreadRecord) → ThreadIn now t → ThreadIn now (set_state l t)
state-in now l t h = record { ready = h.ready; first = h.first; finish = h.finish }

counted-wake : (e now M : ℕ) (w : List ℕ) (b : Accounts) → Counted now M b → Counted now M (wake e now w b)
unfolding wake
counted-wake e now M [] b h = h
counted-wake e now M (x ∷ w) b h =
    let k = counted-more now (M + 0) _ (on-thread now M b h 0 x (set_state Ready) (state-in now Ready) (λ t. omega arith)) M (omega arith) in
    counted-wake e now M w _ (counted-logged now M _ k e now x _)

finished-in : (now : ℕ) (t : ThreadRecord) → ThreadIn now t → ThreadIn now (finished now t)
unfolding finished
finished-in now t h = record { ready = h.ready; first = h.first; finish = omega arith }

finished-timing_kept : (now : ℕ) (t : ThreadRecord) → (finished now t).counts.preemptions ≤ t.counts.preemptions + 0
unfolding finished
finished-timing_kept now t = omega arith

counted-exited : (s : State) (i M : ℕ) → Counted s.now M s.accounts → Counted s.now M (exited s i).accounts
unfolding exited
counted-exited s i M h =
    counted-wake s.config.cap_e s.now M _ _ (counted-more s.now (M + 0) _ (on-thread s.now M s.accounts h 0 (tid_on s i) (finished s.now) (finished-in s.now) (finished-timing_kept s.now)) M (omega arith))

counted-blocking : (s : State) (i t M : ℕ) (o : JoinOutcome) → Counted s.now M s.accounts → Counted (blocking s i t o).now M (blocking s i t o).accounts
unfolding blocking
counted-blocking s i t M Done h = h
counted-blocking s i t M Invalid h = h
counted-blocking s i t M Wait h = counted-more s.now (M + 0) _ (on-thread s.now M s.accounts h 0 (tid_on s i) (set_state (Blocked t)) (state-in s.now (Blocked t)) (λ x. omega arith)) M (omega arith)

born-in : (t : ℕ) (p : Option ℕ) (e k now : ℕ) → ThreadIn now (born t p e k now)
unfolding born
born-in t p e k now = record { ready = omega arith; first = tt; finish = tt }

born-none : (t : ℕ) (p : Option ℕ) (e k now : ℕ) → (born t p e k now).counts.preemptions ≡ 0
unfolding born
born-none t p e k now = refl

counted-born : (now M : ℕ) (b : Accounts) (t : ThreadRecord) → Counted now M b → ThreadIn now t → t.counts.preemptions ≡ 0 → Counted now M (set_threads (b.threads ++ (t ∷ [])) b)
counted-born now M b t h k z =
    record { threads = all_snoc (ThreadIn now) b.threads t h.threads k; ticks = h.ticks; cores = h.cores; context_switches = h.context_switches; preempted = omega (arith, h.preempted, total-snoc (λ (x : ThreadRecord). x.counts.preemptions) b.threads t) }

yields-in : (now : ℕ) (t : ThreadRecord) → ThreadIn now t → ThreadIn now (add_counts 0 0 0 0 0 1 t)
unfolding add_counts
yields-in now t h = record { ready = omega (arith, h.ready); first = h.first; finish = h.finish }

yields-timing_kept : (t : ThreadRecord) → (add_counts 0 0 0 0 0 1 t).counts.preemptions ≤ t.counts.preemptions + 0
unfolding add_counts
yields-timing_kept t = omega arith

-- a call that makes no move
none_more : (now M : ℕ) (b : Accounts) → Counted now M b → Counted now (M + 0) b
none_more now M b h = counted-more now M b h (M + 0) (omega arith)

pub counted-accept : (s : State) (c : Call) (M : ℕ) → Counted s.now M s.accounts → Counted (accept s c).state.now (M + length (accept s c).moves) (accept s c).state.accounts
unfolding accept exited
counted-accept s (spawn p e) M h =
    none_more _ M _ (counted-logged s.now M _ (counted-born s.now M s.accounts (born (length s.accounts.threads) p e _ s.now) h (born-in _ p e _ s.now) (born-none _ p e _ s.now)) s.config.cap_e s.now _ _)
counted-accept s (exit i) M h = none_more _ M _ (counted-exited s i M h)
counted-accept s (join i t) M h = none_more _ M _ (counted-blocking s i t M (outcome (tid_on s i) t (thread_state_of (get_elem? s.accounts.threads t))) h)
counted-accept s (retired i) M h = none_more _ M _ h
counted-accept s (yield i) M h = on-thread s.now M s.accounts h 0 (tid_on s i) (add_counts 0 0 0 0 0 1) (yields-in s.now) yields-timing_kept
counted-accept s (priority t n) M h =
    counted-logged s.now (M + 0) _ (on-thread s.now M s.accounts h 0 t (set_priority n) (λ x k. record { ready = k.ready; first = k.first; finish = k.finish }) (λ x. omega arith)) s.config.cap_e s.now t _
counted-accept s (timing q w) M h = none_more _ M _ h
counted-accept s (force i n) M h = counted-applied s.config.cap_e s.now M _ s.accounts h
counted-accept s tick M h = counted-applied s.config.cap_e (s.now + 1) M _ _ (counted-charged s.config.cap_s s.now M s.cores s.accounts h)
counted-accept s (close i) M h = none_more _ M _ (counted-charged s.config.cap_s (exited s i).now M (exited s i).cores (exited s i).accounts (counted-exited s i M h))

---- the sheet

first-most : (now : ℕ) (t : ThreadRecord) → ThreadIn now t → since t.times.arrival t.times.first_run ≤ now
first-most now t h = go t.times.first_run h.first
  where
    go : (o : Option ℕ) → AllO (λ (x : ℕ). x ≤ now) o → since t.times.arrival o ≤ now
    go none a = omega arith
    go (some x) a = omega arith

finish-most : (now : ℕ) (t : ThreadRecord) → ThreadIn now t → since t.times.arrival t.times.finish ≤ now + 1
finish-most now t h = go t.times.finish h.finish
  where
    go : (o : Option ℕ) → AllO (λ (x : ℕ). x ≤ now + 1) o → since t.times.arrival o ≤ now + 1
    go none a = omega arith
    go (some x) a = omega arith

one-most : (o : Option ℕ) → one o ≤ 1
one-most none = omega arith
one-most (some x) = omega arith

all_any : {A : Type 0} (P : A → Type 0) → ((x : A) → P x) → (xs : List A) → All P xs
all_any P h [] = tt
all_any P h (x ∷ xs) = (h x, all_any P h xs)

pub modest : (now M : ℕ) (b : Accounts) → Counted now M b → now ≤ 4_000_000_000 → M < 10 ^ 20 → length b.threads ≤ 256 → Modest now (sums b)
unfolding sums
modest now M b h hn h_m ht =
    let ts = b.threads in
    let ns = b.ticks in
    let often : now * length ts ≤ 4_000_000_000 * 256 = mul-le-mul hn ht in
    let up : now + 1 ≤ 4_000_000_001 = omega arith in
    let up3 : now + now + now ≤ 12_000_000_000 = omega arith in
    let oftener : (now + 1) * length ts ≤ 4_000_000_001 * 256 = mul-le-mul up ht in
    let busy : now * length ns ≤ 4_000_000_000 * 8 = mul-le-mul hn h.cores in
    let three : (now + now + now) * length ns ≤ 12_000_000_000 * 8 = mul-le-mul up3 h.cores in
    record {
      threads = omega arith;
      finished = omega (arith, total-all (λ (t : ThreadRecord). one t.times.finish) 1 ts (all_any _ (λ t. one-most t.times.finish) ts));
      now = omega arith;
      context_switches = omega (arith, h.context_switches);
      preemptions = omega (arith, h.preempted);
      waiting = omega (arith, total-all (λ (t : ThreadRecord). t.counts.ready) now ts (all-imp (ThreadIn now) _ (λ t k. k.ready) ts h.threads));
      response = omega (arith, total-all (λ (t : ThreadRecord). since t.times.arrival t.times.first_run) now ts (all-imp (ThreadIn now) _ (first-most now) ts h.threads));
      turnaround = omega (arith, total-all (λ (t : ThreadRecord). since t.times.arrival t.times.finish) (now + 1) ts (all-imp (ThreadIn now) _ (finish-most now) ts h.threads));
      busy = omega (arith, total-all (λ (n : CoreTicks). n.busy) now ns (all-imp (TicksIn now) _ (λ n k. k.busy) ns h.ticks));
      core_ticks = omega (arith, total-all (λ (n : CoreTicks). n.busy + n.switching + n.idle) (now + now + now) ns (all-imp (TicksIn now) _ (λ n k. omega (arith, k.busy, k.switching, k.idle)) ns h.ticks));
    }
