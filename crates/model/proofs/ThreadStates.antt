-- Who is where. A thread stands in the queue at most once, and exactly the ready ones may; a core's thread is held there, unless it exited or blocked
-- in this tick. So the queue is never longer than the list of threads, and no number in it or on a core is out of range.
use Prim.Native.Nat.{ℕ, zero, suc, pred, ◌+◌, ◌≤◌, ◌<◌}
use mathlib.Core.Path.{◌≡◌, refl, sym, ap, ◌∙◌, subst, fun_ext}
use mathlib.Core.Bool.{Bool, true, false, cond, not, ◌||◌, ◌&&◌}
use mathlib.Core.Option.{Option, none, some}
use mathlib.Core.List.{List, [], ◌∷◌, ◌++◌, head?}
use native.Mathlib.Omega.{arith}
use lib.Dec.{eqb, leb, ltb, eqb-suc-suc}
use lib.ListN.{length, get_elem?}
use borrow.Author.Tests.{eqb-true, eqb-false, eq-eqb, ne_eqb}
use Rattle.model.specs.Invariants.{All, States, Once, QueueOK, Each, Loose, OKAt, CoreOK, CoresOK, states_of, AllO}
use Rattle.model.specs.Types.{Policy, Off, Fifo, RoundRobin, Priority, CoreState, Idle, Switching, Running, LeaveReason, Exit, Block, Yield, Quantum, Preempt, Forced, Core, Move, starts, leaves, takes, ThreadState, Ready, Exited, OnCore, Blocked, ThreadRecord, Accounts, State}
use Rattle.model.specs.Phases.{Rules, Turn, Pass, Phase, ascend, and_then, update, without, most_urgent, more_urgent, eligible, choose, pick_next, holder, dispatched_state, dispatch_moves, dispatch, filled, hand_over, unyielded, wants_hand_over, ceiling_of, phase1, phase2, phase3, phase4, phase5, phase6, phases1_to4, decide, Victim, Preemption, next_preemption, preemption_of, preempted, preempt_rounds, least_urgent, sliced, switched_in, is_due, vacate, leaves_for, cleared}
use Rattle.model.specs.Accounting.{apply_move, apply_moves, on_thread, started, record_leave, left, record_dispatch, add_counts, logged, charge_threads, runs, holds, charge_waiting, charge}
use Rattle.model.specs.Calls.{thread_state_of, elem, leaving}
use Rattle.model.proofs.PhaseLaws.{not-both, or-false-l, or-false-r, or-false, At}
use Rattle.model.proofs.Preempt.{urgent-in, IsRun, Stands, least_urgent-stands}

---- a thread's life set

abbrev pub known : Option ThreadState → ThreadState → Option ThreadState
known none l = none
known (some m) l = some l

pub put : ℕ → ThreadState → States → States
put t l L x = cond (eqb x t) (known (L x) l) (L x)

pub put_same : (t : ℕ) (l m : ThreadState) (L : States) → L t ≡ some m → put t l L t ≡ some l
unfolding put
put_same t l m L e = rw (eq-eqb t t refl, e)

pub put_other : (t x : ℕ) (l : ThreadState) (L : States) → (x ≡ t → ⊥) → put t l L x ≡ L x
unfolding put
put_other t x l L n = rw (ne_eqb x t n)

---- the queue

pub map-all : (P Q : ℕ → Type 0) (q : List ℕ) → ((h : ℕ) → elem h q ≡ true → P h → Q h) → All P q → All Q q
unfolding elem
map-all P Q [] f a = tt
map-all P Q (h ∷ q) f a = (f h (here h q) a.0, map-all P Q q (λ x e p. f x (there x e) p) a.1)
  where
    here : (h : ℕ) (q : List ℕ) → eqb h h || elem h q ≡ true
    here h q = rw (eq-eqb h h refl)

    there : (x : ℕ) → elem x q ≡ true → eqb h x || elem x q ≡ true
    there x e = go (eqb h x)
      where
        go : (b : Bool) → b || elem x q ≡ true
        go true = refl
        go false = e

pub all-elem : (P : ℕ → Type 0) (q : List ℕ) (x : ℕ) → All P q → elem x q ≡ true → P x
unfolding elem
all-elem P [] x a e = absurd (not-both false e refl)
all-elem P (h ∷ q) x a e = go (eqb h x) refl e (λ k. all-elem P q x a.1 k)
  where
    go : (b : Bool) → eqb h x ≡ b → b || elem x q ≡ true → (elem x q ≡ true → P x) → P x
    go true p k ih = subst P (eqb-true h x p) a.0
    go false p k ih = ih k

-- a thread of another life is not in the queue
pub absent : (L : States) (q : List ℕ) (t : ℕ) → All (λ (h : ℕ). L h ≡ some Ready) q → (L t ≡ some Ready → ⊥) → elem t q ≡ false
absent L q t a n = go (elem t q) refl
  where
    go : (b : Bool) → elem t q ≡ b → b ≡ false
    go true e = absurd (n (all-elem (λ h. L h ≡ some Ready) q t a e))
    go false e = refl

pub snoc-once : (t : ℕ) (q : List ℕ) → Once q → elem t q ≡ false → Once (q ++ (t ∷ []))
unfolding elem
snoc-once t [] o n = (refl, tt)
snoc-once t (h ∷ q) o n = (elem-snoc h q o.0 (λ e. eqb-false h t (or-false-l (eqb h t) _ n) e), snoc-once t q o.1 (or-false-r (eqb h t) _ n))
  where
    elem-snoc : (h : ℕ) (q : List ℕ) → elem h q ≡ false → (h ≡ t → ⊥) → elem h (q ++ (t ∷ [])) ≡ false
    elem-snoc h [] e m = or-false (eqb t h) false (ne_eqb t h (λ p. m (sym p))) refl
    elem-snoc h (g ∷ q) e m = or-false (eqb g h) _ (or-false-l (eqb g h) _ e) (elem-snoc h q (or-false-r (eqb g h) _ e) m)

pub snoc-all : (P : ℕ → Type 0) (t : ℕ) (q : List ℕ) → All P q → P t → All P (q ++ (t ∷ []))
snoc-all P t [] a h = (h, tt)
snoc-all P t (g ∷ q) a h = (a.0, snoc-all P t q a.1 h)

-- taken out, a thread is out
without-elem : (t x : ℕ) (q : List ℕ) → elem x q ≡ false → elem x (without t q) ≡ false
unfolding elem without
without-elem t x [] e = refl
without-elem t x (h ∷ q) e = go (eqb h t) (without-elem t x q (or-false-r (eqb h x) _ e))
  where
    go : (b : Bool) → elem x (without t q) ≡ false → elem x (cond b q (h ∷ without t q)) ≡ false
    go true k = or-false-r (eqb h x) _ e
    go false k = or-false (eqb h x) _ (or-false-l (eqb h x) _ e) k

pub without-out : (t : ℕ) (q : List ℕ) → Once q → elem t (without t q) ≡ false
unfolding elem without
without-out t [] o = refl
without-out t (h ∷ q) o = go (eqb h t) refl (without-out t q o.1)
  where
    go : (b : Bool) → eqb h t ≡ b → elem t (without t q) ≡ false → elem t (cond b q (h ∷ without t q)) ≡ false
    go true e k = subst (λ (x : ℕ). elem x q ≡ false) (eqb-true h t e) o.0
    go false e k = or-false (eqb h t) _ e k

pub without-once : (t : ℕ) (q : List ℕ) → Once q → Once (without t q)
unfolding without
without-once t [] o = tt
without-once t (h ∷ q) o = go (eqb h t) (without-once t q o.1)
  where
    go : (b : Bool) → Once (without t q) → Once (cond b q (h ∷ without t q))
    go true k = o.1
    go false k = (without-elem t h q o.0, k)

pub without_all : (P : ℕ → Type 0) (t : ℕ) (q : List ℕ) → All P q → All P (without t q)
unfolding without
without_all P t [] a = tt
without_all P t (h ∷ q) a = go (eqb h t) (without_all P t q a.1)
  where
    go : (b : Bool) → All P (without t q) → All P (cond b q (h ∷ without t q))
    go true k = a.1
    go false k = (a.0, k)

---- the two things that happen to the queue

ready_held : (L : States) (x y i : ℕ) → L x ≡ some Ready → L y ≡ some (OnCore i) → x ≡ y → ⊥
ready_held L x y i p q e = let r : L x ≡ some (OnCore i) = rw e q in let z : ◌≡◌ {A = ℕ} 0 1 = cc in omega arith

-- a thread that was not ready goes to the back
pub push : (L : States) (t : ℕ) (l : ThreadState) (q : List ℕ) → L t ≡ some l → (l ≡ Ready → ⊥) → QueueOK L q → QueueOK (put t Ready L) (q ++ (t ∷ []))
push L t l q h n v =
    record {
      ready = snoc-all _ t q (map-all _ _ q (λ x e p. put_other t x Ready L (λ k. differ x p k) ∙ p) v.ready) (put_same t Ready l L h);
      once = snoc-once t q v.once (absent L q t v.ready (λ r. differ t r refl));
    }
  where
    differ : (x : ℕ) → L x ≡ some Ready → x ≡ t → ⊥
    differ x p k = n (same (rw k at p) h)
      where
        same : L t ≡ some Ready → L t ≡ some l → l ≡ Ready
        same a b = cc

pub held-unready : (i : ℕ) → OnCore i ≡ Ready → ⊥
held-unready i e = let z : ◌≡◌ {A = ℕ} 0 1 = cc in omega arith

-- a thread is taken out to be held
pub take_out : (L : States) (t i : ℕ) (q : List ℕ) → QueueOK L q → QueueOK (put t (OnCore i) L) (without t q)
take_out L t i q v =
    record {
      ready = map-all _ _ (without t q) (λ x e p. put_other t x (OnCore i) L (λ k. not-both _ e (subst (λ (y : ℕ). elem y (without t q) ≡ false) (sym k) (without-out t q v.once))) ∙ p) (without_all _ t q v.ready);
      once = without-once t q v.once;
    }

---- lives through moves

unfoldable pub left_l : LeaveReason → ℕ → States → States
left_l Exit t L = L
left_l Block t L = L
left_l Yield t L = put t Ready L
left_l Quantum t L = put t Ready L
left_l Preempt t L = put t Ready L
left_l Forced t L = put t Ready L

unfoldable pub after : List Move → States → States
after [] L = L
after (starts t ∷ ms) L = after ms L
after (leaves t i r ∷ ms) L = after ms (left_l r t L)
after (takes t i ∷ ms) L = after ms (put t (OnCore i) L)

pub after-append : (a b : List Move) (L : States) → after (a ++ b) L ≡ after b (after a L)
unfolding after
after-append [] b L = refl
after-append (starts t ∷ a) b L = after-append a b L
after-append (leaves t i r ∷ a) b L = after-append a b (left_l r t L)
after-append (takes t i ∷ a) b L = after-append a b (put t (OnCore i) L)

pub after-dispatch_moves : (k t i : ℕ) (L : States) → after (dispatch_moves k t i) L ≡ put t (OnCore i) L
unfolding after dispatch_moves
after-dispatch_moves zero t i L = refl
after-dispatch_moves (suc k) t i L = refl

---- the next thread is one of the queue

up_to-all : (P : ℕ → Type 0) (pr : ℕ → ℕ) (o : Option ℕ) (q : List ℕ) → All P q → All P (eligible pr o q)
unfolding eligible
up_to-all P pr none q a = a
up_to-all P pr (some n) [] a = tt
up_to-all P pr (some n) (h ∷ q) a = go (leb (pr h) n) (up_to-all P pr (some n) q a.1)
  where
    go : (b : Bool) → All P (eligible pr (some n) q) → All P (cond b (h ∷ eligible pr (some n) q) (eligible pr (some n) q))
    go true k = (a.0, k)
    go false k = k

pub next-in : (P : ℕ → Type 0) (k : Rules) (i : ℕ) (o : Option ℕ) (q : List ℕ) → All P q → AllO P (pick_next k i o q)
unfolding pick_next choose
next-in P k i o q a = go k.policy
  where
    front : (l : List ℕ) → All P l → AllO P (head? l)
    front [] b = tt
    front (h ∷ l) b = b.0

    go : (p : Policy) → AllO P (choose p k.prio o q)
    go Off = front q a
    go Fifo = front q a
    go RoundRobin = front q a
    go Priority = urgent-in k.prio P (eligible k.prio o q) (up_to-all P k.prio o q a)

---- cores that nobody left in this tick

abbrev pub HoldAt : States → ℕ → CoreState → Type 0
HoldAt L i Idle = Unit {0}
HoldAt L i (Switching t l) = L t ≡ some (OnCore i)
HoldAt L i (Running t s) = L t ≡ some (OnCore i)

pub record HeldCore (L : States) (i : ℕ) (c : Core) : Type 0 where
  pub no_exit : c.exits ≡ false
  pub no_block : c.blocks ≡ false
  pub held : HoldAt L i c.state

-- a property of each core and its number
abbrev pub HeldCores : States → ℕ → List Core → Type 0
HeldCores L i cs = Each (HeldCore L) i cs

-- what a core holds stays held under lives that agree on it
move-hold : (L M : States) (i : ℕ) (s : CoreState) → ((t : ℕ) → L t ≡ some (OnCore i) → M t ≡ some (OnCore i)) → HoldAt L i s → HoldAt M i s
move-hold L M i Idle f h = tt
move-hold L M i (Switching t l) f h = f t h
move-hold L M i (Running t s) f h = f t h

move-core : (L M : States) (i : ℕ) (c : Core) → ((t : ℕ) → L t ≡ some (OnCore i) → M t ≡ some (OnCore i)) → HeldCore L i c → HeldCore M i c
move-core L M i c f h = record { no_exit = h.no_exit; no_block = h.no_block; held = move-hold L M i c.state f h.held }

move-cores : (L M : States) (i : ℕ) (cs : List Core) → ((t j : ℕ) → i ≤ j → L t ≡ some (OnCore j) → M t ≡ some (OnCore j)) → HeldCores L i cs → HeldCores M i cs
move-cores L M i [] f h = tt
move-cores L M i (c ∷ cs) f h = (move-core L M i c (λ t e. f t i (omega arith) e) h.0, move-cores L M (suc i) cs (λ t j l e. f t j (omega arith) e) h.1)

-- lives L before, M after
pub record TurnOK (L M : States) (i : ℕ) (c : Core) (q : List ℕ) : Type 0 where
  pub core : HeldCore M i c
  pub queue : QueueOK M q
  pub frame : (x j : ℕ) → (j ≡ i → ⊥) → L x ≡ some (OnCore j) → M x ≡ some (OnCore j)

pub record PassOK (L M : States) (i : ℕ) (cs : List Core) (q : List ℕ) : Type 0 where
  pub cores : HeldCores M i cs
  pub queue : QueueOK M q
  pub frame : (x j : ℕ) → j < i → L x ≡ some (OnCore j) → M x ≡ some (OnCore j)

abbrev pub TurnFine : States → ℕ → Turn → Type 0
TurnFine L i t = TurnOK L (after t.moves L) i t.core t.queue

abbrev pub PassFine : States → ℕ → Pass → Type 0
PassFine L i p = PassOK L (after p.moves L) i p.cores p.queue

abbrev pub TurnLaw : Phase → Type 0
TurnLaw f = (L : States) (i : ℕ) (c : Core) (q : List ℕ) → HeldCore L i c → QueueOK L q → TurnFine L i (f i c q)

pub ascend-held : (f : Phase) → TurnLaw f → (cs : List Core) (i : ℕ) (q : List ℕ) (L : States) → HeldCores L i cs → QueueOK L q → PassFine L i (ascend f i cs q)
unfolding ascend after
ascend-held f law [] i q L h v = record { cores = tt; queue = v; frame = λ x j l e. e }
ascend-held f law (c ∷ cs) i q L h v =
    let t = law L i c q h.0 v in
    let M = after (f i c q).moves L in
    let p = ascend f (suc i) cs (f i c q).queue in
    let r = ascend-held f law cs (suc i) (f i c q).queue M (move-cores L M (suc i) cs (λ x j l e. t.frame x j (λ k. omega arith) e) h.1) t.queue in
    subst (λ (N : States). PassOK L N i ((f i c q).core ∷ p.cores) p.queue) (sym (after-append (f i c q).moves p.moves L))
    (record {
      cores = (move-core M (after p.moves M) i (f i c q).core (λ x e. r.frame x i (omega arith) e) t.core, r.cores);
      queue = r.queue;
      frame = λ x j l e. r.frame x j (omega arith) (t.frame x j (λ k. omega arith) e);
    })

pub and_then-held : (f : Phase) → TurnLaw f → (p : Pass) (L : States) → PassFine L 0 p → PassFine L 0 (and_then p f)
unfolding and_then
and_then-held f law p L h =
    let M = after p.moves L in
    let r = ascend-held f law p.cores 0 p.queue M h.cores h.queue in
    subst (λ (N : States). PassOK L N 0 (and_then p f).cores (and_then p f).queue) (sym (after-append p.moves (ascend f 0 p.cores p.queue).moves L))
    (record { cores = r.cores; queue = r.queue; frame = λ x j l e. absurd (omega arith) })

---- phases 4 and 5

hold-dispatched_state : (L : States) (i k t : ℕ) → L t ≡ some (OnCore i) → HoldAt L i (dispatched_state k t)
unfolding dispatched_state
hold-dispatched_state L i zero t h = h
hold-dispatched_state L i (suc k) t h = h

-- nothing moves
stays : (L : States) (i : ℕ) (c : Core) (q : List ℕ) → HeldCore L i c → QueueOK L q → TurnOK L L i c q
stays L i c q h v = record { core = h; queue = v; frame = λ x j n e. e }

-- an idle core takes h
pub takes-h : (L : States) (i k h : ℕ) (c : Core) (q : List ℕ) → c.exits ≡ false → c.blocks ≡ false → L h ≡ some Ready → QueueOK L q → TurnOK L (after (dispatch_moves k h i) L) i (dispatch k h c) (without h q)
takes-h L i k h c q x b r v =
    subst (λ (N : States). TurnOK L N i (dispatch k h c) (without h q)) (sym (after-dispatch_moves k h i L))
    (record {
      core = record { no_exit = x; no_block = b; held = hold-dispatched_state _ i k h (put_same h (OnCore i) Ready L r) };
      queue = take_out L h i q v;
      frame = λ y j n e. put_other h y (OnCore i) L (λ p. ready_held L h y j r e (sym p)) ∙ e;
    })

fills : (k : Rules) (L : States) (i : ℕ) (c : Core) (q : List ℕ) (s : CoreState) (n : Option ℕ) → AllO (λ (h : ℕ). L h ≡ some Ready) n → HeldCore L i c → QueueOK L q → TurnFine L i (filled k i c s n q)
unfolding filled after
fills k L i c q (Switching t l) n a h v = stays L i c q h v
fills k L i c q (Running t s) n a h v = stays L i c q h v
fills k L i c q Idle none a h v = stays L i c q h v
fills k L i c q Idle (some u) a h v = takes-h L i k.cost u c q h.no_exit h.no_block a v

held-4 : (k : Rules) → TurnLaw (phase4 k)
unfolding phase4
held-4 k L i c q h v = fills k L i c q c.state (pick_next k i none q) (next-in _ k i none q v.ready) h v

-- a running core hands over from t to u
pub swaps :
    (L : States) (i k t u : ℕ) (r : LeaveReason) (c : Core) (q : List ℕ) → left_l r t L ≡ put t Ready L → c.exits ≡ false → c.blocks ≡ false → L t ≡ some (OnCore i) → L u ≡ some Ready → QueueOK L q
    → TurnOK L (after (leaves t i r ∷ dispatch_moves k u i) L) i (dispatch k u c) (without u (q ++ (t ∷ [])))
unfolding after
swaps L i k t u r c q e x b ht hu v =
    subst (λ (N : States). TurnOK L (after (dispatch_moves k u i) N) i (dispatch k u c) (without u (q ++ (t ∷ [])))) (sym e)
    (let T = takes-h (put t Ready L) i k u c (q ++ (t ∷ [])) x b (put_other t u Ready L (ready_held L u t i hu ht) ∙ hu) (push L t (OnCore i) q ht (held-unready i) v) in
    record { core = T.core; queue = T.queue; frame = λ y j n p. T.frame y j n (put_other t y Ready L (λ z. other-core y j n p z) ∙ p) })
  where
    other-core : (y j : ℕ) → (j ≡ i → ⊥) → L y ≡ some (OnCore j) → y ≡ t → ⊥
    other-core y j n p z = n (same (rw z at p) ht)
      where
        same : L t ≡ some (OnCore j) → L t ≡ some (OnCore i) → j ≡ i
        same a b = cc

back : (b : Bool) (t : ℕ) (L : States) → left_l (cond b Yield Quantum) t L ≡ put t Ready L
unfolding left_l
back true t L = refl
back false t L = refl

hands : (k : Rules) (L : States) (i : ℕ) (c : Core) (q : List ℕ) (s : CoreState) (w : Bool) (n : Option ℕ) (b : Bool) → c.state ≡ s → AllO (λ (h : ℕ). L h ≡ some Ready) n → HeldCore L i c → QueueOK L q
    → TurnFine L i (hand_over k i (unyielded c) s w n (cond b Yield Quantum) q)
unfolding hand_over after
hands k L i c q Idle w n b e a h v = stays L i (unyielded c) q (record { no_exit = h.no_exit; no_block = h.no_block; held = h.held }) v
hands k L i c q (Switching t l) w n b e a h v = stays L i (unyielded c) q (record { no_exit = h.no_exit; no_block = h.no_block; held = h.held }) v
hands k L i c q (Running t s) false n b e a h v = stays L i (unyielded c) q (record { no_exit = h.no_exit; no_block = h.no_block; held = h.held }) v
hands k L i c q (Running t s) true none b e a h v = stays L i _ q (record { no_exit = h.no_exit; no_block = h.no_block; held = subst (HoldAt L i) e h.held }) v
hands k L i c q (Running t s) true (some u) b e a h v = swaps L i k.cost t u (cond b Yield Quantum) (unyielded c) q (back b t L) h.no_exit h.no_block (subst (HoldAt L i) e h.held) a v

held-5 : (k : Rules) → TurnLaw (phase5 k)
unfolding phase5
held-5 k L i c q h v = hands k L i c q c.state (wants_hand_over k c c.state) (pick_next k i (ceiling_of k c.state) q) c.yields refl (next-in _ k i _ q v.ready) h v

---- phases 1 to 3: nobody's life changes

ok-sliced : (L : States) (i : ℕ) (s : CoreState) (g : Bool) → OKAt L i s g → OKAt L i (sliced s) g
unfolding sliced
ok-sliced L i Idle g h = tt
ok-sliced L i (Switching t l) g h = h
ok-sliced L i (Running t s) true h = h
ok-sliced L i (Running t s) false h = h

ok-settled : (L : States) (i : ℕ) (c : Core) (q : List ℕ) (s : CoreState) (b : Bool) → CoreOK L i c → OKAt L i s (c.exits || c.blocks) → CoreOK L i (switched_in c s b q).core
unfolding switched_in
ok-settled L i c q Idle b h hs = h
ok-settled L i c q (Running t s) b h hs = h
ok-settled L i c q (Switching t l) true h hs = go (c.exits || c.blocks) hs
  where
    go : (g : Bool) → OKAt L i (Switching t l) g → OKAt L i (Running t 0) g
    go true k = k
    go false k = k
ok-settled L i c q (Switching t l) false h hs = go (c.exits || c.blocks) hs
  where
    go : (g : Bool) → OKAt L i (Switching t l) g → OKAt L i (Switching t (pred l)) g
    go true k = k
    go false k = k

ok-vacate : (L : States) (i : ℕ) (c : Core) (q : List ℕ) (s : CoreState) (x b : Bool) → c.state ≡ s → OKAt L i s (x || b) → HeldCore L i (vacate i c (holder s) (leaves_for x b) q).core
unfolding vacate
ok-vacate L i c q Idle x b e h = record { no_exit = refl; no_block = refl; held = tt }
ok-vacate L i c q (Switching t l) true b e h = record { no_exit = refl; no_block = refl; held = tt }
ok-vacate L i c q (Switching t l) false true e h = record { no_exit = refl; no_block = refl; held = tt }
ok-vacate L i c q (Switching t l) false false e h = record { no_exit = refl; no_block = refl; held = subst (HoldAt L i) (sym e) h }
ok-vacate L i c q (Running t l) true b e h = record { no_exit = refl; no_block = refl; held = tt }
ok-vacate L i c q (Running t l) false true e h = record { no_exit = refl; no_block = refl; held = tt }
ok-vacate L i c q (Running t l) false false e h = record { no_exit = refl; no_block = refl; held = subst (HoldAt L i) (sym e) h }

-- a phase that leaves lives and queue alone
abbrev Quiet : States → Phase → Type 0
Quiet L f = (i : ℕ) (c : Core) (q : List ℕ) → (after (f i c q).moves L ≡ L) × ((f i c q).queue ≡ q)

ascend-quiet : (L : States) (f : Phase) → Quiet L f → (cs : List Core) (i : ℕ) (q : List ℕ) → (after (ascend f i cs q).moves L ≡ L) × ((ascend f i cs q).queue ≡ q)
unfolding ascend after
ascend-quiet L f h [] i q = (refl, refl)
ascend-quiet L f h (c ∷ cs) i q =
    let r = ascend-quiet L f h cs (suc i) (f i c q).queue in
    (after-append (f i c q).moves _ L ∙ ap (after (ascend f (suc i) cs (f i c q).queue).moves) (h i c q).0 ∙ r.0, r.1 ∙ (h i c q).1)

ascend-each : (P Q : ℕ → Core → Type 0) (f : Phase) → ((i : ℕ) (c : Core) (q : List ℕ) → P i c → Q i (f i c q).core) → (cs : List Core) (i : ℕ) (q : List ℕ) → Each P i cs → Each Q i (ascend f i cs q).cores
unfolding ascend
ascend-each P Q f h [] i q a = tt
ascend-each P Q f h (c ∷ cs) i q a = (h i c q a.0, ascend-each P Q f h cs (suc i) (f i c q).queue a.1)

quiet-1 : (L : States) → Quiet L phase1
unfolding phase1 after
quiet-1 L i c q = (refl, refl)

quiet-2 : (L : States) → Quiet L phase2
unfolding phase2 switched_in after
quiet-2 L i c q = go c.state (is_due c.state)
  where
    go : (s : CoreState) (b : Bool) → (after (switched_in c s b q).moves L ≡ L) × ((switched_in c s b q).queue ≡ q)
    go Idle b = (refl, refl)
    go (Running t s) b = (refl, refl)
    go (Switching t l) true = (refl, refl)
    go (Switching t l) false = (refl, refl)

quiet-3 : (L : States) → Quiet L phase3
unfolding phase3 vacate after left_l
quiet-3 L i c q = go (holder c.state) c.exits c.blocks
  where
    go : (o : Option ℕ) (x b : Bool) → (after (vacate i c o (leaves_for x b) q).moves L ≡ L) × ((vacate i c o (leaves_for x b) q).queue ≡ q)
    go none x b = (refl, refl)
    go (some t) true b = (refl, refl)
    go (some t) false true = (refl, refl)
    go (some t) false false = (refl, refl)

abbrev Same : States → List ℕ → Pass → Type 0
Same L q p = (after p.moves L ≡ L) × (p.queue ≡ q)

and_then-same : (L : States) (q : List ℕ) (f : Phase) → Quiet L f → (p : Pass) → Same L q p → Same L q (and_then p f)
unfolding and_then
and_then-same L q f h p s =
    let r = ascend-quiet L f h p.cores 0 p.queue in
    (after-append p.moves _ L ∙ ap (after (ascend f 0 p.cores p.queue).moves) s.0 ∙ r.0, r.1 ∙ s.1)

and_then-each : (P Q : ℕ → Core → Type 0) (f : Phase) → ((i : ℕ) (c : Core) (q : List ℕ) → P i c → Q i (f i c q).core) → (p : Pass) → Each P 0 p.cores → Each Q 0 (and_then p f).cores
unfolding and_then
and_then-each P Q f h p a = ascend-each P Q f h p.cores 0 p.queue a

up-to-3 : (L : States) (cs : List Core) (q : List ℕ) → CoresOK L 0 cs → QueueOK L q → PassFine L 0 (and_then (and_then (ascend phase1 0 cs q) phase2) phase3)
unfolding CoresOK phase1 phase2 phase3
up-to-3 L cs q a v =
    let s = and_then-same L q phase3 (quiet-3 L) p2 (and_then-same L q phase2 (quiet-2 L) p1 (ascend-quiet L phase1 (quiet-1 L) cs 0 q)) in
    subst (λ (M : States). PassOK L M 0 p3.cores p3.queue) (sym s.0)
    (record {
      cores = and_then-each (CoreOK L) (HeldCore L) phase3 (λ i c u h. ok-vacate L i c u c.state c.exits c.blocks refl h) p2
          (and_then-each (CoreOK L) (CoreOK L) phase2 (λ i c u h. ok-settled L i c u c.state _ h h) p1
          (ascend-each (CoreOK L) (CoreOK L) phase1 (λ i c u h. ok-sliced L i c.state (c.exits || c.blocks) h) cs 0 q a));
      queue = subst (QueueOK L) (sym s.1) v;
      frame = λ x j l e. absurd (omega arith);
    })
  where
    p1 : Pass
    p1 = ascend phase1 0 cs q

    p2 : Pass
    p2 = and_then p1 phase2

    p3 : Pass
    p3 = and_then p2 phase3

---- one core swapped: phase 6 and a forced switch

held_at : (M : States) (t n i m : ℕ) (cs : List Core) → m ≡ i + n → HeldCores M i cs → At (IsRun t) n cs → M t ≡ some (OnCore m)
unfolding IsRun
held_at M t n i m [] e h a = absurd a
held_at M t zero i m (c ∷ cs) e h a = subst (λ (j : ℕ). M t ≡ some (OnCore j)) (omega arith) (subst (HoldAt M i) a.1 h.0.held)
held_at M t (suc n) i m (c ∷ cs) e h a = held_at M t n (suc i) m cs (omega arith) h.1 a

pub update-held :
    (M N : States) (f : Core → Core) (n i m : ℕ) (cs : List Core) → m ≡ i + n → HeldCores M i cs → ((x j : ℕ) → (j ≡ m → ⊥) → M x ≡ some (OnCore j) → N x ≡ some (OnCore j))
    → ((c : Core) → HeldCore M m c → HeldCore N m (f c)) → HeldCores N i (update n f cs)
unfolding update
update-held M N f n i m [] e h g k = tt
update-held M N f zero i m (c ∷ cs) e h g k =
    (subst (λ (j : ℕ). HeldCore M j c → HeldCore N j (f c)) (omega arith) (k c) h.0, move-cores M N (suc i) cs (λ x j l p. g x j (λ z. omega arith) p) h.1)
update-held M N f (suc n) i m (c ∷ cs) e h g k = (move-core M N i c (λ x p. g x i (λ z. omega arith) p) h.0, update-held M N f n (suc i) m cs (omega arith) h.1 g k)

-- what one core's swap does to a pass
swap-pass :
    (L : States) (k : Rules) (r : LeaveReason) (v : Victim) (b : ℕ) (p : Pass) → ((M : States) → left_l r v.tid M ≡ put v.tid Ready M) → PassFine L 0 p → Stands 0 p.cores v → after p.moves L b ≡ some Ready → PassFine L 0 (preempted k r v b p)
unfolding preempted Stands
swap-pass L k r v b p back h s hb =
    subst (λ (N : States). PassOK L N 0 (update v.core (dispatch k.cost b) p.cores) (without b (p.queue ++ (v.tid ∷ [])))) (sym (after-append p.moves (leaves v.tid v.core r ∷ dispatch_moves k.cost b v.core) L))
    (record { cores = update-held M N (dispatch k.cost b) v.core 0 v.core p.cores (omega arith) h.cores (T (cleared Idle false false) refl refl).frame (λ c y. (T c y.no_exit y.no_block).core); queue = (T (cleared Idle false false) refl refl).queue; frame = λ x j l e. absurd (omega arith) })
  where
    M : States
    M = after p.moves L

    N : States
    N = after (leaves v.tid v.core r ∷ dispatch_moves k.cost b v.core) M

    T : (c : Core) → c.exits ≡ false → c.blocks ≡ false → TurnOK M N v.core (dispatch k.cost b c) (without b (p.queue ++ (v.tid ∷ [])))
    T c x y = swaps M v.core k.cost v.tid b r c p.queue (back M) x y (held_at M v.tid s.0 0 v.core p.cores s.1 h.cores s.2) hb h.queue

preempt_rounds-held : (L : States) (k : Rules) (n : ℕ) (p : Pass) → PassFine L 0 p → PassFine L 0 (preempt_rounds k n p)
unfolding preempt_rounds next_preemption preemption_of left_l
preempt_rounds-held L k zero p h = h
preempt_rounds-held L k (suc n) p h = go (next_preemption k p) (swap-in k p (λ b. after p.moves L b ≡ some Ready) h.queue.ready) (λ p' h'. preempt_rounds-held L k n p' h')
  where
    -- a swap takes an entry of the queue and a core's own thread
    Good : Preemption → Type 0
    Good w = (after p.moves L w.best ≡ some Ready) × Stands 0 p.cores w.victim

    swap-in : (k : Rules) (p : Pass) (P : ℕ → Type 0) → All P p.queue → AllO (λ (w : Preemption). P w.best × Stands 0 p.cores w.victim) (next_preemption k p)
    swap-in k p P a = two (most_urgent k.prio p.queue) (urgent-in k.prio P p.queue a) (least_urgent k.prio 0 p.cores) (least_urgent-stands k.prio 0 p.cores)
      where
        pick : (b : ℕ) (v : Victim) (u : Bool) → P b → Stands 0 p.cores v → AllO (λ (w : Preemption). P w.best × Stands 0 p.cores w.victim) (cond u (some (record { victim = v; best = b })) none)
        pick b v true x y = (x, y)
        pick b v false x y = tt

        two : (o : Option ℕ) → AllO P o → (v : Option Victim) → AllO (Stands 0 p.cores) v → AllO (λ (w : Preemption). P w.best × Stands 0 p.cores w.victim) (preemption_of k.prio o v)
        two none x v y = tt
        two (some b) x none y = tt
        two (some b) x (some v) y = pick b v (ltb (k.prio b) (k.prio v.tid)) x y

    go : (o : Option Preemption) → AllO Good o → ((p' : Pass) → PassFine L 0 p' → PassFine L 0 (preempt_rounds k n p')) → PassFine L 0 (elim o [ none ↦ p | some w ↦ preempt_rounds k n (preempted k Preempt w.victim w.best p) ])
    go none i ih = h
    go (some w) i ih = ih _ (swap-pass L k Preempt w.victim w.best p (λ M. refl) h i.1 i.0)

pub decide-held : (L : States) (k : Rules) (cs : List Core) (q : List ℕ) → CoresOK L 0 cs → QueueOK L q → PassFine L 0 (decide k cs q)
unfolding decide phases1_to4 phase6
decide-held L k cs q a v = go k.policy (and_then-held (phase5 k) (held-5 k) _ L (and_then-held (phase4 k) (held-4 k) _ L (up-to-3 L cs q a v)))
  where
    go : (o : Policy) → PassFine L 0 (and_then (phases1_to4 k cs q) (phase5 k)) → PassFine L 0 (phase6 o k (and_then (phases1_to4 k cs q) (phase5 k)))
    go Off h = h
    go Fifo h = h
    go RoundRobin h = h
    go Priority h = preempt_rounds-held L k _ _ h

---- the accounts say the same

pub states_of-same : (f : ThreadRecord → ThreadRecord) → ((t : ThreadRecord) → (f t).state ≡ t.state) → (n : ℕ) (ts : List ThreadRecord) (x : ℕ) → states_of (update n f ts) x ≡ states_of ts x
unfolding states_of thread_state_of update
states_of-same f h n [] x = refl
states_of-same f h zero (t ∷ ts) zero = ap some (h t)
states_of-same f h zero (t ∷ ts) (suc x) = refl
states_of-same f h (suc n) (t ∷ ts) zero = refl
states_of-same f h (suc n) (t ∷ ts) (suc x) = states_of-same f h n ts x

pub states_of-put : (f : ThreadRecord → ThreadRecord) (l : ThreadState) → ((t : ThreadRecord) → (f t).state ≡ l) → (n : ℕ) (ts : List ThreadRecord) (x : ℕ) → states_of (update n f ts) x ≡ put n l (states_of ts) x
unfolding states_of thread_state_of update put
states_of-put f l h n [] x = go (eqb x n)
  where
    go : (b : Bool) → ◌≡◌ {A = Option ThreadState} none (cond b none none)
    go true = refl
    go false = refl
states_of-put f l h zero (t ∷ ts) zero = ap some (h t)
states_of-put f l h zero (t ∷ ts) (suc x) = rw (ne_eqb (suc x) 0 (λ e. omega arith))
states_of-put f l h (suc n) (t ∷ ts) zero = rw (ne_eqb 0 (suc n) (λ e. omega arith))
states_of-put f l h (suc n) (t ∷ ts) (suc x) = states_of-put f l h n ts x ∙ rw (eqb-suc-suc x n)

state-started : (now : ℕ) (t : ThreadRecord) → (started now t).state ≡ t.state
unfolding started
state-started now t = refl

states_of-left : (now i : ℕ) (r : LeaveReason) (t : ℕ) (ts : List ThreadRecord) (x : ℕ) → states_of (update t (record_leave now i r) ts) x ≡ left_l r t (states_of ts) x
unfolding record_leave left left_l add_counts
states_of-left now i Exit t ts x = states_of-same _ (λ y. refl) t ts x
states_of-left now i Block t ts x = states_of-same _ (λ y. refl) t ts x
states_of-left now i Yield t ts x = states_of-put _ Ready (λ y. refl) t ts x
states_of-left now i Quantum t ts x = states_of-put _ Ready (λ y. refl) t ts x
states_of-left now i Preempt t ts x = states_of-put _ Ready (λ y. refl) t ts x
states_of-left now i Forced t ts x = states_of-put _ Ready (λ y. refl) t ts x

pub states_of-applied : (e now : ℕ) (ms : List Move) (b : Accounts) → states_of (apply_moves e now ms b).threads ≡ after ms (states_of b.threads)
unfolding apply_moves apply_move after logged record_dispatch started add_counts
states_of-applied e now [] b = refl
states_of-applied e now (starts t ∷ ms) b = states_of-applied e now ms _ ∙ ap (after ms) (fun_ext (λ x. states_of-same (started now) (λ y. refl) t b.threads x))
states_of-applied e now (leaves t i r ∷ ms) b = states_of-applied e now ms _ ∙ ap (after ms) (fun_ext (λ x. states_of-left now i r t b.threads x))
states_of-applied e now (takes t i ∷ ms) b = states_of-applied e now ms _ ∙ ap (after ms) (fun_ext (λ x. states_of-put (record_dispatch now i) (OnCore i) (λ y. refl) t b.threads x))

pub states_of-charged : (cs : List Core) (i : ℕ) (ts : List ThreadRecord) (x : ℕ) → states_of (charge_threads cs i ts) x ≡ states_of ts x
unfolding states_of thread_state_of charge_threads add_counts charge_waiting
states_of-charged cs i [] x = refl
states_of-charged cs i (t ∷ ts) zero = ap some (go (runs i cs) (holds i cs) t.state refl)
  where
    go : (a b : Bool) (l : ThreadState) → t.state ≡ l → (cond a (add_counts 1 0 0 0 0 0 t) (cond b t (charge_waiting l t))).state ≡ t.state
    go true b l e = refl
    go false true l e = refl
    go false false Ready e = refl
    go false false Exited e = refl
    go false false (OnCore j) e = refl
    go false false (Blocked u) e = refl
states_of-charged cs i (t ∷ ts) (suc x) = states_of-charged cs (suc i) ts x
