-- The same through every call, under every policy: from creation on, the queue holds only ready threads, each once.
use Prim.Native.Nat.{ℕ, zero, suc, pred, ◌+◌, ◌≤◌, ◌<◌}
use mathlib.Core.Path.{◌≡◌, refl, sym, ap, ◌∙◌, subst, fun_ext}
use mathlib.Core.Bool.{Bool, true, false, cond, not, ◌||◌, ◌&&◌}
use mathlib.Core.Option.{Option, none, some}
use mathlib.Core.Logic.{◌≢◌}
use mathlib.Core.List.{List, [], ◌∷◌, ◌++◌, map, append-nil, append_assoc}
use native.Mathlib.Omega.{arith}
use lib.Dec.{eqb, leb, ltb}
use lib.ListN.{length, get_elem?, replicate, length-append}
use Rattle.model.specs.Invariants.{All, States, Once, QueueOK, Each, Loose, OKAt, CoreOK, CoresOK, states_of, Placed, Roomy, AllO}
use Rattle.model.specs.Accounting.{started, apply_move, charge_threads}
use Rattle.model.proofs.PhaseLaws.{length-update}
use borrow.Author.Tests.{eqb-true, eqb-false, eq-eqb, ne_eqb, leb-false, not-true, not-false}
use Rattle.model.specs.Types.{Policy, CoreState, Idle, Switching, Running, LeaveReason, Forced, Core, Move, starts, leaves, takes, ThreadState, Ready, Exited, OnCore, Blocked, ThreadRecord, Config, Accounts, State}
use Rattle.model.specs.Phases.{Rules, Pass, update, without, pick_next, holder, dispatched_state, dispatch_moves, dispatch, decide, cleared}
use Rattle.model.specs.Accounting.{finished, set_state, add_counts, on_thread, logged, apply_moves, charge, born, set_priority}
use Rattle.model.specs.Calls.{Call, spawn, exit, join, retired, yield, priority, timing, force, tick, close, JoinOutcome, Wait, Done, Invalid, accept, stepped, refusal, step, run, rules, check, no_core, leaving, any_leaving, cannot_take, is_idle, is_switching, is_running, is_none, core_at, core_state_of, tid_of, tid_on, elem, thread_state_of, idle_core, exited, blocking, outcome, waiters, wake, blocked_on, mark_exit, mark_block, mark_yield, mark_progress, unmarked, forced_core, taken_by, out_of, back_of, Made, made, unmade, new, made_of, refused_new, initial_state}
use Rattle.model.proofs.PhaseLaws.{not-both, or-false-l, or-false-r, or-false, At}
use Rattle.model.proofs.Refusals.{check-none, check-rest}
use Rattle.model.proofs.ThreadStates.{put, put_same, put_other, push, HoldAt, HeldCore, HeldCores, PassOK, PassFine, decide-held, states_of-same, states_of-put, states_of-applied, states_of-charged, map-all, all-elem, absent, next-in, swaps, takes-h, update-held, TurnOK, after, left_l, snoc-all, snoc-once, without-out, without-once, without_all}

---- what an unrefused call may count on

-- the thread of a core that nobody left is held there
pub held_on : (L : States) (i j m : ℕ) (cs : List Core) → m ≡ j + i → Each (CoreOK L) j cs → leaving (core_at cs i) ≡ false → is_idle (core_at cs i).state ≡ false → L (tid_of (holder (core_at cs i).state)) ≡ some (OnCore m)
unfolding leaving core_at tid_of
held_on L i j m [] e h g d = absurd (not-both true refl d)
held_on L zero j m (c ∷ cs) e h g d = subst (λ (k : ℕ). L (tid_of (holder c.state)) ≡ some (OnCore k)) (omega arith) (go c.state (c.exits || c.blocks) h.0 g d)
  where
    go : (s : CoreState) (b : Bool) → OKAt L j s b → b ≡ false → is_idle s ≡ false → L (tid_of (holder s)) ≡ some (OnCore j)
    go Idle b k x y = absurd (not-both true refl y)
    go (Switching t l) true k x y = absurd (not-both true refl x)
    go (Switching t l) false k x y = k
    go (Running t s) true k x y = absurd (not-both true refl x)
    go (Running t s) false k x y = k
held_on L (suc i) j m (c ∷ cs) e h g d = held_on L i (suc j) m cs (omega arith) h.1 g d

-- cores under other lives: what is held elsewhere stays held, who is loose stays loose
ok-move : (L M : States) (i : ℕ) (s : CoreState) (g : Bool) → ((x : ℕ) → L x ≡ some (OnCore i) → M x ≡ some (OnCore i)) → ((x : ℕ) → Loose (L x) → Loose (M x)) → OKAt L i s g → OKAt M i s g
ok-move L M i Idle g f k h = tt
ok-move L M i (Switching t l) true f k h = k t h
ok-move L M i (Switching t l) false f k h = f t h
ok-move L M i (Running t s) true f k h = k t h
ok-move L M i (Running t s) false f k h = f t h

each-move : (L M : States) (i : ℕ) (cs : List Core) → ((x j : ℕ) → i ≤ j → L x ≡ some (OnCore j) → M x ≡ some (OnCore j)) → ((x : ℕ) → Loose (L x) → Loose (M x)) → Each (CoreOK L) i cs → Each (CoreOK M) i cs
each-move L M i [] f k h = tt
each-move L M i (c ∷ cs) f k h = (ok-move L M i c.state (c.exits || c.blocks) (λ x e. f x i (omega arith) e) k h.0, each-move L M (suc i) cs (λ x j l e. f x j (omega arith) e) k h.1)

each-change :
    (L M : States) (f : Core → Core) (n i m : ℕ) (cs : List Core) → m ≡ i + n → ((x j : ℕ) → (j ≡ m → ⊥) → L x ≡ some (OnCore j) → M x ≡ some (OnCore j)) → ((x : ℕ) → Loose (L x) → Loose (M x))
    → CoreOK M m (f (core_at cs n)) → Each (CoreOK L) i cs → Each (CoreOK M) i (update n f cs)
unfolding update core_at
each-change L M f n i m [] e g k o h = tt
each-change L M f zero i m (c ∷ cs) e g k o h = (subst (λ (j : ℕ). CoreOK M j (f c)) (omega arith) o, each-move L M (suc i) cs (λ x j l p. g x j (λ z. omega arith) p) k h.1)
each-change L M f (suc n) i m (c ∷ cs) e g k o h = (ok-move L M i c.state (c.exits || c.blocks) (λ x p. g x i (λ z. omega arith) p) k h.0, each-change L M f n (suc i) m cs (omega arith) g k o h.1)

-- a mark that no rule here reads
each-mark : (L : States) (f : Core → Core) → ((i : ℕ) (c : Core) → CoreOK L i c → CoreOK L i (f c)) → (n i : ℕ) (cs : List Core) → Each (CoreOK L) i cs → Each (CoreOK L) i (update n f cs)
unfolding update
each-mark L f h n i [] a = tt
each-mark L f h zero i (c ∷ cs) a = (h i c a.0, a.1)
each-mark L f h (suc n) i (c ∷ cs) a = (a.0, each-mark L f h n (suc i) cs a.1)

-- a thread that was held at m, set loose
module _ (L : States) (t m : ℕ) (l : ThreadState) (ht : L t ≡ some (OnCore m)) where
  held-differs : (x j : ℕ) → (j ≡ m → ⊥) → L x ≡ some (OnCore j) → x ≡ t → ⊥
  held-differs x j n e z = n (same (rw z at e) ht)
    where
      same : L t ≡ some (OnCore j) → L t ≡ some (OnCore m) → j ≡ m
      same a b = cc

  put-held : (x j : ℕ) → (j ≡ m → ⊥) → L x ≡ some (OnCore j) → put t l L x ≡ some (OnCore j)
  put-held x j n e = put_other t x l L (held-differs x j n e) ∙ e

  loose-differs : (x : ℕ) → Loose (L x) → x ≡ t → ⊥
  loose-differs x h z = subst Loose (ap L z ∙ ht) h

  put-loose : (x : ℕ) → Loose (L x) → Loose (put t l L x)
  put-loose x h = subst Loose (sym (put_other t x l L (loose-differs x h))) h

  put-queue : (q : List ℕ) → QueueOK L q → QueueOK (put t l L) q
  put-queue q v = record { ready = map-all _ _ q (λ x e p. put_other t x l L (λ z. ready-differs x p z) ∙ p) v.ready; once = v.once }
    where
      ready-differs : (x : ℕ) → L x ≡ some Ready → x ≡ t → ⊥
      ready-differs x p z = subst Loose (ap L z ∙ ht) (subst Loose (sym p) tt)

---- exit

pub wakes : List ℕ → States → States
wakes [] L = L
wakes (x ∷ w) L = wakes w (put x Ready L)

states_of-wake : (e now : ℕ) (w : List ℕ) (b : Accounts) → states_of (wake e now w b).threads ≡ wakes w (states_of b.threads)
unfolding wake wakes logged
states_of-wake e now [] b = refl
states_of-wake e now (x ∷ w) b = states_of-wake e now w _ ∙ ap (wakes w) (fun_ext (λ y. states_of-put (set_state Ready) Ready (λ t. refl) x b.threads y))

-- the waiters are blocked on t, and stand in thread order
Waiter : ℕ → ℕ → List ThreadRecord → ℕ → Type 0
Waiter t i ts x = (d : ℕ) × (x ≡ i + d) × (states_of ts d ≡ some (Blocked t))

later-all : (t i : ℕ) (h : ThreadRecord) (ts : List ThreadRecord) (w : List ℕ) → All (Waiter t (suc i) ts) w → All (Waiter t i (h ∷ ts)) w
unfolding Waiter states_of
later-all t i h ts [] a = tt
later-all t i h ts (x ∷ w) a = ((suc a.0.0, omega (arith, a.0.1), a.0.2), later-all t i h ts w a.1)

waiters-all : (t i : ℕ) (ts : List ThreadRecord) → All (Waiter t i ts) (waiters t i ts)
unfolding waiters Waiter states_of thread_state_of
waiters-all t i [] = tt
waiters-all t i (h ∷ ts) = go h.state refl (later-all t i h ts (waiters t (suc i) ts) (waiters-all t (suc i) ts))
  where
    go : (l : ThreadState) → h.state ≡ l → All (Waiter t i (h ∷ ts)) (waiters t (suc i) ts) → All (Waiter t i (h ∷ ts)) (cond (blocked_on t l) (i ∷ waiters t (suc i) ts) (waiters t (suc i) ts))
    go Ready e r = r
    go Exited e r = r
    go (OnCore j) e r = r
    go (Blocked u) e r = two (eqb u t) refl
      where
        two : (b : Bool) → eqb u t ≡ b → All (Waiter t i (h ∷ ts)) (cond b (i ∷ waiters t (suc i) ts) (waiters t (suc i) ts))
        two true p = ((0, omega arith, ap some (e ∙ ap Blocked (eqb-true u t p))), r)
        two false p = r

waiters-once : (t i : ℕ) (ts : List ThreadRecord) → Once (waiters t i ts)
unfolding waiters Waiter elem
waiters-once t i [] = tt
waiters-once t i (h ∷ ts) = go (blocked_on t h.state) (waiters-once t (suc i) ts)
  where
    out : (w : List ℕ) → All (Waiter t (suc i) ts) w → elem i w ≡ false
    out [] a = refl
    out (x ∷ w) a = or-false (eqb x i) _ (ne_eqb x i (λ e. omega (arith, a.0.1))) (out w a.1)

    go : (b : Bool) → Once (waiters t (suc i) ts) → Once (cond b (i ∷ waiters t (suc i) ts) (waiters t (suc i) ts))
    go true r = (out (waiters t (suc i) ts) (waiters-all t (suc i) ts), r)
    go false r = r

-- woken threads join the back
wake-queue : (t : ℕ) (w : List ℕ) (L : States) (q : List ℕ) → All (λ (x : ℕ). L x ≡ some (Blocked t)) w → Once w → QueueOK L q → QueueOK (wakes w L) (q ++ w)
unfolding wakes
wake-queue t [] L q a o v = subst (QueueOK L) (sym (append-nil q)) v
wake-queue t (x ∷ w) L q a o v =
    subst (QueueOK (wakes w (put x Ready L))) (append_assoc q (x ∷ []) w)
    (wake-queue t w (put x Ready L) (q ++ (x ∷ []))
    (map-all _ _ w (λ y e p. put_other x y Ready L (λ z. not-both _ e (subst (λ (u : ℕ). elem u w ≡ false) (sym z) o.0)) ∙ p) a.1) o.1
    (push L x (Blocked t) q a.0 (λ e. blocked-ready e) v))
  where
    blocked-ready : Blocked t ≡ Ready → ⊥
    blocked-ready e = let z : ◌≡◌ {A = ℕ} 0 1 = cc in omega arith

wake-held : (t : ℕ) (w : List ℕ) (L : States) (x j : ℕ) → All (λ (y : ℕ). L y ≡ some (Blocked t)) w → Once w → L x ≡ some (OnCore j) → wakes w L x ≡ some (OnCore j)
unfolding wakes
wake-held t [] L x j a o h = h
wake-held t (y ∷ w) L x j a o h =
    wake-held t w (put y Ready L) x j (map-all _ _ w (λ u e p. put_other y u Ready L (λ z. not-both _ e (subst (λ (b : ℕ). elem b w ≡ false) (sym z) o.0)) ∙ p) a.1) o.1
    (put_other y x Ready L (λ z. differ (ap L z ∙ a.0)) ∙ h)
  where
    differ : L x ≡ some (Blocked t) → ⊥
    differ e = let z : ◌≡◌ {A = ℕ} 0 1 = cc in omega arith

put-ready-loose : (y x : ℕ) (L : States) → Loose (L x) → Loose (put y Ready L x)
put-ready-loose y x L h = go (eqb x y) refl (L x) refl h
  where
    go : (b : Bool) → eqb x y ≡ b → (o : Option ThreadState) → L x ≡ o → Loose o → Loose (put y Ready L x)
    go b e none f k = absurd k
    go true e (some l) f k = subst (λ (o : Option ThreadState). Loose o) (sym (subst (λ (z : ℕ). put z Ready L x ≡ some Ready) (eqb-true x y e) (put_same x Ready l L f))) tt
    go false e (some l) f k = subst (λ (o : Option ThreadState). Loose o) (sym (put_other y x Ready L (λ z. eqb-false x y e z) ∙ f)) k

wake-loose : (w : List ℕ) (L : States) (x : ℕ) → Loose (L x) → Loose (wakes w L x)
unfolding wakes
wake-loose [] L x h = h
wake-loose (y ∷ w) L x h = wake-loose w (put y Ready L) x (put-ready-loose y x L h)

loose-core : (M : States) (i : ℕ) (s : CoreState) → Loose (M (tid_of (holder s))) → OKAt M i s true
unfolding tid_of
loose-core M i Idle h = tt
loose-core M i (Switching t l) h = h
loose-core M i (Running t s) h = h

waiters-blocked : (t : ℕ) (ts : List ThreadRecord) → All (λ (x : ℕ). states_of ts x ≡ some (Blocked t)) (waiters t 0 ts)
unfolding Waiter
waiters-blocked t ts = map-all _ _ (waiters t 0 ts) (λ x e h. subst (λ (d : ℕ). states_of ts d ≡ some (Blocked t)) (omega (arith, h.1)) h.2) (waiters-all t 0 ts)

pub exited-placed :
    (s : State) (i : ℕ) → states_of s.accounts.threads (tid_on s i) ≡ some (OnCore i) → QueueOK (states_of s.accounts.threads) s.queue → CoresOK (states_of s.accounts.threads) 0 s.cores
    → (QueueOK (states_of (exited s i).accounts.threads) (exited s i).queue) × (CoresOK (states_of (exited s i).accounts.threads) 0 (exited s i).cores)
unfolding exited CoresOK tid_on core_state_of
exited-placed s i ht v a = (
  subst (λ (M : States). QueueOK M (s.queue ++ w)) (sym e_n) (wake-queue t w L1 s.queue blocked (waiters-once t 0 ts) (put-queue L t i Exited ht s.queue v)),
  subst (λ (M : States). Each (CoreOK M) 0 (update i mark_exit s.cores)) (sym e_n)
      (each-change L (wakes w L1) mark_exit i 0 i s.cores (omega arith) (λ x j n e. wake-held t w L1 x j blocked (waiters-once t 0 ts) (put-held L t i Exited ht x j n e))
      (λ x h. wake-loose w L1 x (put-loose L t i Exited ht x h)) (loose-core (wakes w L1) i (core_at s.cores i).state (wake-loose w L1 t (subst Loose (sym (put_same t Exited (OnCore i) L ht)) tt))) a),
)
  where
    t : ℕ
    t = tid_of (holder (core_at s.cores i).state)

    L : States
    L = states_of s.accounts.threads

    L1 : States
    L1 = put t Exited L

    ts : List ThreadRecord
    ts = update t (finished s.now) s.accounts.threads

    w : List ℕ
    w = waiters t 0 ts

    e1 : states_of ts ≡ L1
    e1 = fun_ext (λ x. states_of-put (finished s.now) Exited (λ y. unfold finished in refl) t s.accounts.threads x)

    blocked : All (λ (x : ℕ). L1 x ≡ some (Blocked t)) w
    blocked = subst (λ (M : States). All (λ (x : ℕ). M x ≡ some (Blocked t)) w) e1 (waiters-blocked t ts)

    e_n : states_of (wake s.config.cap_e s.now w (on_thread t (finished s.now) s.accounts)).threads ≡ wakes w L1
    e_n = states_of-wake s.config.cap_e s.now w (on_thread t (finished s.now) s.accounts) ∙ ap (wakes w) e1

---- the other calls

states_of-known : (ts : List ThreadRecord) (b : ThreadRecord) (x : ℕ) (l : ThreadState) → states_of ts x ≡ some l → states_of (ts ++ (b ∷ [])) x ≡ some l
unfolding states_of thread_state_of
states_of-known [] b x l e = cc
states_of-known (t ∷ ts) b zero l e = e
states_of-known (t ∷ ts) b (suc x) l e = states_of-known ts b x l e

states_of-new : (ts : List ThreadRecord) (b : ThreadRecord) → states_of (ts ++ (b ∷ [])) (length ts) ≡ some b.state
unfolding states_of thread_state_of
states_of-new [] b = refl
states_of-new (t ∷ ts) b = states_of-new ts b

pub states_of-range : (ts : List ThreadRecord) (x : ℕ) (l : ThreadState) → states_of ts x ≡ some l → x < length ts
unfolding states_of thread_state_of
states_of-range [] x l e = let z : ◌≡◌ {A = ℕ} 0 1 = cc in absurd (omega arith)
states_of-range (t ∷ ts) zero l e = omega arith
states_of-range (t ∷ ts) (suc x) l e = omega (arith, states_of-range ts x l e)

loose-known : (L M : States) → ((x : ℕ) (l : ThreadState) → L x ≡ some l → M x ≡ some l) → (x : ℕ) → Loose (L x) → Loose (M x)
loose-known L M f x h = go (L x) refl h
  where
    go : (o : Option ThreadState) → L x ≡ o → Loose o → Loose (M x)
    go none e k = absurd k
    go (some l) e k = subst Loose (sym (f x l e)) k

pub held-ok : (L : States) (i : ℕ) (cs : List Core) → HeldCores L i cs → Each (CoreOK L) i cs
held-ok L i [] h = tt
held-ok L i (c ∷ cs) h = (rw (h.0.no_exit, h.0.no_block) (go c.state h.0.held), held-ok L (suc i) cs h.1)
  where
    go : (s : CoreState) → HoldAt L i s → OKAt L i s false
    go Idle k = tt
    go (Switching t l) k = k
    go (Running t s) k = k

-- nobody left: every core's thread is held there
ok-held : (L : States) (i : ℕ) (cs : List Core) → any_leaving cs ≡ false → Each (CoreOK L) i cs → HeldCores L i cs
unfolding any_leaving leaving
ok-held L i [] g h = tt
ok-held L i (c ∷ cs) g h =
    (record { no_exit = or-false-l c.exits _ here; no_block = or-false-r c.exits _ here; held = go c.state (c.exits || c.blocks) here h.0 }, ok-held L (suc i) cs (or-false-r (c.exits || c.blocks) _ g) h.1)
  where
    here : c.exits || c.blocks ≡ false
    here = or-false-l (c.exits || c.blocks) _ g

    go : (s : CoreState) (b : Bool) → b ≡ false → OKAt L i s b → HoldAt L i s
    go Idle b e k = tt
    go (Switching t l) true e k = absurd (not-both true refl e)
    go (Switching t l) false e k = k
    go (Running t s) true e k = absurd (not-both true refl e)
    go (Running t s) false e k = k

pub any_none : (cs : List Core) (i : ℕ) → any_leaving cs ≡ false → leaving (core_at cs i) ≡ false
unfolding any_leaving core_at leaving
any_none [] i e = refl
any_none (c ∷ cs) zero e = or-false-l (c.exits || c.blocks) _ e
any_none (c ∷ cs) (suc i) e = any_none cs i (or-false-r (c.exits || c.blocks) _ e)

-- a forced switch
forced :
    (L : States) (i k t : ℕ) (cs : List Core) (q : List ℕ) (o : CoreState) → (core_at cs i).state ≡ o → is_switching o ≡ false → any_leaving cs ≡ false → L t ≡ some Ready → QueueOK L q → Each (CoreOK L) 0 cs
    → (QueueOK (after (out_of i o ++ dispatch_moves k t i) L) (without t (q ++ back_of o))) × (Each (CoreOK (after (out_of i o ++ dispatch_moves k t i) L)) 0 (update i (forced_core k t) cs))
unfolding out_of back_of left_l tid_of
forced L i k t cs q Idle e w g r v a = (
  subst (λ (l : List ℕ). QueueOK (after (dispatch_moves k t i) L) (without t l)) (sym (append-nil q)) (T idle_core).queue,
  held-ok (after (dispatch_moves k t i) L) 0 (update i (forced_core k t) cs) (update-held L (after (dispatch_moves k t i) L) (forced_core k t) i 0 i cs (omega arith) (ok-held L 0 cs g a) (T idle_core).frame (λ c h. (T c).core)),
)
  where
    T : (c : Core) → TurnOK L (after (dispatch_moves k t i) L) i (forced_core k t c) (without t q)
    T c = takes-h L i k t (unmarked c) q refl refl r v
forced L i k t cs q (Switching u l) e w g r v a = absurd (not-both true refl w)
forced L i k t cs q (Running u s) e w g r v a =
    ((T idle_core).queue, held-ok N 0 (update i (forced_core k t) cs) (update-held L N (forced_core k t) i 0 i cs (omega arith) (ok-held L 0 cs g a) (T idle_core).frame (λ c h. (T c).core)))
  where
    N : States
    N = after (leaves u i Forced ∷ dispatch_moves k t i) L

    hu : L u ≡ some (OnCore i)
    hu = subst (λ (o : CoreState). L (tid_of (holder o)) ≡ some (OnCore i)) e (held_on L i 0 i cs (omega arith) a (any_none cs i g) (subst (λ (o : CoreState). is_idle o ≡ false) (sym e) refl))

    T : (c : Core) → TurnOK L N i (forced_core k t c) (without t (q ++ (u ∷ [])))
    T c = swaps L i k u t Forced (unmarked c) q refl refl refl hu r v

-- the thread that a force takes is ready
taken-ready : (s : State) (i : ℕ) (n : Option ℕ) (r : Option ℕ) → cannot_take s i n r ≡ none → QueueOK (states_of s.accounts.threads) s.queue → states_of s.accounts.threads (taken_by s i n) ≡ some Ready
unfolding cannot_take taken_by tid_of
taken-ready s i (some t) r e v = all-elem _ s.queue t v.ready (not-false (elem t s.queue) (check-none 15 _ r e))
taken-ready s i none r e v = go (pick_next (rules s) i none s.queue) (next-in _ (rules s) i none s.queue v.ready) (check-none 16 _ r e)
  where
    go : (o : Option ℕ) → AllO (λ (h : ℕ). states_of s.accounts.threads h ≡ some Ready) o → is_none o ≡ false → states_of s.accounts.threads (tid_of o) ≡ some Ready
    go none a x = absurd (not-both true refl x)
    go (some h) a x = a

not-running : (s : CoreState) → not (is_running s) ≡ false → is_idle s ≡ false
not-running Idle e = absurd (not-both true refl e)
not-running (Switching t l) e = refl
not-running (Running t s) e = refl

-- the thread of a core that exit, join, yield and close accept
own_held : (s : State) (i n : ℕ) (b : Bool) (r : Option ℕ) → (b ≡ false → is_idle (core_at s.cores i).state ≡ false)
    → check 4 (no_core s i) (check 11 s.closed (check 12 (leaving (core_at s.cores i)) (check n b r))) ≡ none → Placed s → (s.closed ≡ false) × (states_of s.accounts.threads (tid_on s i) ≡ some (OnCore i))
unfolding tid_on core_state_of CoresOK
own_held s i n b r f e v =
    let e4 = check-rest 4 _ _ e in
    let e11 = check-rest 11 _ _ e4 in
    let e12 = check-rest 12 _ _ e11 in
    let o = check-none 11 _ _ e4 in
    (o, held_on (states_of s.accounts.threads) i 0 i s.cores (omega arith) (v.cores o) (check-none 12 _ _ e11) (f (check-none n b r e12)))

placed-spawn : (s : State) (p : Option ℕ) (e : ℕ) → Placed s → Placed (accept s (spawn p e)).state
unfolding accept born logged CoresOK
placed-spawn s p e v =
    record {
      queue = record {
        ready = snoc-all (λ h. M h ≡ some Ready) t s.queue (map-all (λ h. L h ≡ some Ready) (λ h. M h ≡ some Ready) s.queue (λ x m h. known x Ready h) v.queue.ready) (states_of-new ts _);
        once = snoc-once t s.queue v.queue.once (absent L s.queue t v.queue.ready (λ h. absurd (let l = states_of-range ts t Ready h in omega arith)));
      };
      cores = λ o. each-move L M 0 s.cores (λ x j l h. known x (OnCore j) h) (loose-known L M known) (v.cores o);
    }
  where
    ts : List ThreadRecord
    ts = s.accounts.threads

    t : ℕ
    t = length s.accounts.threads

    L : States
    L = states_of s.accounts.threads

    M : States
    M = states_of (accept s (spawn p e)).state.accounts.threads

    known : (x : ℕ) (l : ThreadState) → L x ≡ some l → M x ≡ some l
    known x l h = states_of-known ts _ x l h

placed-exit : (s : State) (i : ℕ) → refusal s (exit i) ≡ none → Placed s → Placed (exited s i)
unfolding refusal core_state_of
placed-exit s i r v =
    let h = own_held s i 13 _ _ (λ x. x) r v in
    let z = exited-placed s i h.1 v.queue (v.cores h.0) in
    record { queue = z.0; cores = λ o. z.1 }

placed-join : (s : State) (i t : ℕ) (o : JoinOutcome) → refusal s (join i t) ≡ none → Placed s → Placed (blocking s i t o)
unfolding refusal blocking core_state_of tid_on CoresOK
placed-join s i t Done r v = v
placed-join s i t Invalid r v = v
placed-join s i t Wait r v =
    record {
      queue = subst (λ (M : States). QueueOK M s.queue) (sym e_m) (put-queue L u i (Blocked t) hu s.queue v.queue);
      cores = λ o. subst (λ (M : States). Each (CoreOK M) 0 (update i mark_block s.cores)) (sym e_m)
          (each-change L (put u (Blocked t) L) mark_block i 0 i s.cores (omega arith) (put-held L u i (Blocked t) hu) (put-loose L u i (Blocked t) hu) (own (core_at s.cores i).exits) (v.cores h.0));
    }
  where
    L : States
    L = states_of s.accounts.threads

    u : ℕ
    u = tid_of (holder (core_at s.cores i).state)

    h : (s.closed ≡ false) × (states_of s.accounts.threads (tid_on s i) ≡ some (OnCore i))
    h = own_held s i 13 _ _ (not-running (core_at s.cores i).state) r v

    hu : L u ≡ some (OnCore i)
    hu = h.1

    e_m : states_of (update u (set_state (Blocked t)) s.accounts.threads) ≡ put u (Blocked t) L
    e_m = fun_ext (λ x. states_of-put (set_state (Blocked t)) (Blocked t) (λ y. refl) u s.accounts.threads x)

    own : (b : Bool) → OKAt (put u (Blocked t) L) i (core_at s.cores i).state (b || true)
    own b = subst (OKAt (put u (Blocked t) L) i (core_at s.cores i).state) (sym (or-end b)) (loose-core (put u (Blocked t) L) i (core_at s.cores i).state (subst Loose (sym (put_same u (Blocked t) (OnCore i) L hu)) tt))
      where
        or-end : (b : Bool) → b || true ≡ true
        or-end true = refl
        or-end false = refl

-- a call that changes no life
placed_same : (s s' : State) → states_of s'.accounts.threads ≡ states_of s.accounts.threads → s'.queue ≡ s.queue → (s'.closed ≡ false → Each (CoreOK (states_of s.accounts.threads)) 0 s'.cores) → Placed s → Placed s'
unfolding CoresOK
placed_same s s' e q c v =
    record {
      queue = subst (λ (M : States). QueueOK M s'.queue) (sym e) (subst (QueueOK (states_of s.accounts.threads)) (sym q) v.queue);
      cores = λ o. subst (λ (M : States). Each (CoreOK M) 0 s'.cores) (sym e) (c o);
    }

pub placed-force : (s : State) (i : ℕ) (n : Option ℕ) → refusal s (force i n) ≡ none → Placed s → Placed (accept s (force i n)).state
unfolding refusal accept core_state_of CoresOK
placed-force s i n r v =
    let r4 = check-rest 4 _ _ r in
    let r11 = check-rest 11 _ _ r4 in
    let r12 = check-rest 12 _ _ r11 in
    let r14 = check-rest 14 _ _ r12 in
    let z = forced (states_of s.accounts.threads) i s.config.cost (taken_by s i n) s.cores s.queue (core_at s.cores i).state refl (check-none 14 _ _ r12) (check-none 12 _ _ r11) (taken-ready s i n _ r14 v.queue) v.queue (v.cores (check-none 11 _ _ r4)) in
    let e = states_of-applied s.config.cap_e s.now (out_of i (core_at s.cores i).state ++ dispatch_moves s.config.cost (taken_by s i n) i) s.accounts in
    record {
      queue = subst (λ (M : States). QueueOK M (without (taken_by s i n) (s.queue ++ back_of (core_at s.cores i).state))) (sym e) z.0;
      cores = λ o. subst (λ (M : States). Each (CoreOK M) 0 (update i (forced_core s.config.cost (taken_by s i n)) s.cores)) (sym e) z.1;
    }

placed-tick : (s : State) → refusal s tick ≡ none → Placed s → Placed (accept s tick).state
unfolding refusal accept charge CoresOK
placed-tick s r v =
    let p = decide (rules s) s.cores s.queue in
    let h = decide-held (states_of s.accounts.threads) (rules s) s.cores s.queue (v.cores (check-none 11 _ _ r)) v.queue in
    let e = states_of-applied s.config.cap_e (s.now + 1) p.moves (charge s.config.cap_s s.now s.cores s.accounts) ∙ ap (after p.moves) (fun_ext (λ x. states_of-charged s.cores 0 s.accounts.threads x)) in
    record {
      queue = subst (λ (M : States). QueueOK M p.queue) (sym e) h.queue;
      cores = λ o. subst (λ (M : States). Each (CoreOK M) 0 p.cores) (sym e) (held-ok (after p.moves (states_of s.accounts.threads)) 0 p.cores h.cores);
    }

placed-close : (s : State) (i : ℕ) → refusal s (close i) ≡ none → Placed s → Placed (accept s (close i)).state
unfolding refusal accept charge core_state_of
placed-close s i r v =
    let h = own_held s i 13 _ _ (λ x. x) r v in
    let z = exited-placed s i h.1 v.queue (v.cores h.0) in
    record {
      queue = subst (λ (M : States). QueueOK M (exited s i).queue) (sym (fun_ext (λ x. states_of-charged (exited s i).cores 0 (exited s i).accounts.threads x))) z.0;
      cores = λ o. absurd (not-both true refl o);
    }

pub placed-accept : (s : State) (c : Call) → refusal s c ≡ none → Placed s → Placed (accept s c).state
unfolding accept CoresOK logged add_counts
placed-accept s (spawn p e) r v = placed-spawn s p e v
placed-accept s (exit i) r v = placed-exit s i r v
placed-accept s (join i t) r v = placed-join s i t (outcome (tid_on s i) t (thread_state_of (get_elem? s.accounts.threads t))) r v
placed-accept s (retired i) r v = placed_same s _ refl refl (λ o. each-mark _ mark_progress (λ j c h. h) i 0 s.cores (v.cores o)) v
placed-accept s (yield i) r v = placed_same s _ (fun_ext (λ x. states_of-same (add_counts 0 0 0 0 0 1) (λ y. refl) (tid_on s i) s.accounts.threads x)) refl (λ o. each-mark _ mark_yield (λ j c h. h) i 0 s.cores (v.cores o)) v
placed-accept s (priority t n) r v = placed_same s _ (fun_ext (λ x. states_of-same (set_priority n) (λ y. refl) t s.accounts.threads x)) refl (λ o. v.cores o) v
placed-accept s (timing q w) r v = placed_same s _ refl refl (λ o. v.cores o) v
placed-accept s (force i n) r v = placed-force s i n r v
placed-accept s tick r v = placed-tick s r v
placed-accept s (close i) r v = placed-close s i r v

---- every run

pub placed-run : (cs : List Call) (s : State) → Placed s → Placed (run s cs)
unfolding run step stepped
placed-run [] s v = v
placed-run (c ∷ cs) s v = placed-run cs (step s c).state (go (refusal s c) refl)
  where
    go : (r : Option ℕ) → refusal s c ≡ r → Placed (stepped s c r).state
    go (some n) e = v
    go none e = placed-accept s c e v

placed-idle : (L : States) (n i : ℕ) → Each (CoreOK L) i (replicate n idle_core)
placed-idle L zero i = tt
placed-idle L (suc n) i = (tt, placed-idle L n (suc i))

pub placed-new : (p : Policy) (q w n t e c entry : ℕ) (s : State) → new p q w n t e c entry ≡ made s → Placed s
unfolding new made_of initial_state CoresOK states_of thread_state_of started add_counts
placed-new p q w n t e c entry s h = go (refused_new q w n t e c) h
  where
    s0 : State
    s0 = initial_state (pred n) entry (record { policy = p; quantum = q; cost = w; cap_t = t; cap_e = e; cap_s = c })

    state_of : Made → State
    state_of (made x) = x
    state_of (unmade m) = s

    p0 : Placed s0
    p0 = record { queue = record { ready = tt; once = tt }; cores = λ o. (refl, placed-idle _ (pred n) 1) }

    go : (r : Option ℕ) → made_of r s0 ≡ made s → Placed s
    go none k = subst Placed (ap state_of k) p0
    go (some m) k = absurd (let z : ◌≡◌ {A = ℕ} 0 1 = cc in omega arith)

---- room: the queue is no longer than the list of threads, which is no longer than T

length_without : (t : ℕ) (q : List ℕ) → length q ≤ suc (length (without t q))
unfolding without
length_without t [] = omega arith
length_without t (h ∷ q) = go (eqb h t) (length_without t q)
  where
    go : (b : Bool) → length q ≤ suc (length (without t q)) → suc (length q) ≤ suc (length (cond b q (h ∷ without t q)))
    go true k = omega arith
    go false k = omega arith

pigeons : (n : ℕ) (q : List ℕ) → Once q → All (λ (h : ℕ). h < n) q → length q ≤ n
pigeons zero [] o a = omega arith
pigeons zero (h ∷ q) o a = absurd (let l = a.0 in omega arith)
pigeons (suc n) q o a =
    let k = pigeons n (without n q) (without-once n q o)
    (map-all _ _ (without n q) (λ x e l. smaller x l (λ z. not-both _ e (subst (λ (y : ℕ). elem y (without n q) ≡ false) (sym z) (without-out n q o)))) (without_all _ n q a)) in
    omega (arith, length_without n q)
  where
    smaller : (x : ℕ) → x < suc n → (x ≡ n → ⊥) → x < n
    smaller x l d = go (eqb x n) refl
      where
        go : (b : Bool) → eqb x n ≡ b → x < n
        go true e = absurd (d (eqb-true x n e))
        go false e = let f : x ≢ n = d in omega arith

pub queue-fits : (s : State) → Placed s → length s.queue ≤ length s.accounts.threads
queue-fits s v = pigeons (length s.accounts.threads) s.queue v.queue.once (map-all _ _ s.queue (λ x e h. states_of-range s.accounts.threads x Ready h) v.queue.ready)

length-wake : (e now : ℕ) (w : List ℕ) (b : Accounts) → length (wake e now w b).threads ≡ length b.threads
unfolding wake logged
length-wake e now [] b = refl
length-wake e now (x ∷ w) b = length-wake e now w _ ∙ length-update (set_state Ready) x b.threads

length-applied : (e now : ℕ) (ms : List Move) (b : Accounts) → length (apply_moves e now ms b).threads ≡ length b.threads
unfolding apply_moves apply_move logged
length-applied e now [] b = refl
length-applied e now (starts t ∷ ms) b = length-applied e now ms _ ∙ length-update _ t b.threads
length-applied e now (leaves t i r ∷ ms) b = length-applied e now ms _ ∙ length-update _ t b.threads
length-applied e now (takes t i ∷ ms) b = length-applied e now ms _ ∙ length-update _ t b.threads

length-charged : (cs : List Core) (i : ℕ) (ts : List ThreadRecord) → length (charge_threads cs i ts) ≡ length ts
unfolding charge_threads
length-charged cs i [] = refl
length-charged cs i (t ∷ ts) = ap suc (length-charged cs (suc i) ts)

pub roomy-accept : (s : State) (c : Call) → refusal s c ≡ none → Roomy s → Roomy (accept s c).state
unfolding accept refusal logged exited blocking charge
roomy-accept s (spawn p e) r h = rw length-append (let l : length s.accounts.threads < s.config.cap_t = leb-false _ _ (check-none 17 _ _ (check-rest 11 _ _ r)) in omega arith)
roomy-accept s (exit i) r h = rw (length-wake, length-update) h
roomy-accept s (join i t) r h = go (outcome (tid_on s i) t (thread_state_of (get_elem? s.accounts.threads t)))
  where
    go : (o : JoinOutcome) → Roomy (blocking s i t o)
    go Done = h
    go Invalid = h
    go Wait = rw length-update h
roomy-accept s (retired i) r h = h
roomy-accept s (yield i) r h = rw length-update h
roomy-accept s (priority t n) r h = rw length-update h
roomy-accept s (timing q w) r h = h
roomy-accept s (force i n) r h = rw length-applied h
roomy-accept s tick r h = rw (length-applied, length-charged) h
roomy-accept s (close i) r h = rw (length-charged, length-wake, length-update) h

pub roomy-run : (cs : List Call) (s : State) → Roomy s → Roomy (run s cs)
unfolding run step stepped
roomy-run [] s h = h
roomy-run (c ∷ cs) s h = roomy-run cs (step s c).state (go (refusal s c) refl)
  where
    go : (r : Option ℕ) → refusal s c ≡ r → Roomy (stepped s c r).state
    go (some n) e = h
    go none e = roomy-accept s c e h

---- threads are made and never unmade

threads-accept : (s : State) (c : Call) → length s.accounts.threads ≤ length (accept s c).state.accounts.threads
unfolding accept logged exited blocking charge
threads-accept s (spawn p e) = rw length-append (omega arith)
threads-accept s (exit i) = rw (length-wake, length-update) (omega arith)
threads-accept s (join i t) = go (outcome (tid_on s i) t (thread_state_of (get_elem? s.accounts.threads t)))
  where
    go : (o : JoinOutcome) → length s.accounts.threads ≤ length (blocking s i t o).accounts.threads
    go Done = omega arith
    go Invalid = omega arith
    go Wait = rw length-update (omega arith)
threads-accept s (retired i) = omega arith
threads-accept s (yield i) = rw length-update (omega arith)
threads-accept s (priority t n) = rw length-update (omega arith)
threads-accept s (timing q w) = omega arith
threads-accept s (force i n) = rw length-applied (omega arith)
threads-accept s tick = rw (length-applied, length-charged) (omega arith)
threads-accept s (close i) = rw (length-charged, length-wake, length-update) (omega arith)

pub threads-grow : (s : State) (c : Call) → length s.accounts.threads ≤ length (step s c).state.accounts.threads
unfolding step stepped
threads-grow s c = go (refusal s c)
  where
    go : (r : Option ℕ) → length s.accounts.threads ≤ length (stepped s c r).state.accounts.threads
    go (some n) = omega arith
    go none = threads-accept s c
