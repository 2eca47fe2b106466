-- The definition in the forms that a program's loops and arrays have: a pass one core further, an array's element set, a scan that keeps the best
-- so far. These are for whoever proves a program equal to the definition; the claims do not use them.
use Prim.Native.Nat.{ℕ, zero, suc, ◌+◌, ◌≤◌, ◌<◌}
use mathlib.Core.Path.{◌≡◌, refl, sym, ap, ◌∙◌, subst}
use mathlib.Core.Bool.{Bool, true, false, cond, ◌||◌}
use mathlib.Core.Option.{Option, none, some}
use mathlib.Core.List.{List, [], ◌∷◌, ◌++◌, append_assoc, append-nil, map}
use native.Mathlib.Nat.{add-zero, add-suc, suc-add}
use native.Mathlib.Omega.{arith}
use lib.Dec.{eqb, leb, ltb}
use lib.Seq.{take-length, drop-length}
use lib.ListN.{length, get_or, set, take, drop, get_elem?}
use borrow.Author.Tests.{eq-eqb, ne_eqb, lt-ltb, le-ltb, ltb-true, ltb-false}
use Rattle.model.specs.Types.{CoreState, Idle, Switching, Running, Core, Move, starts, leaves, takes, ThreadRecord, Accounts, SwitchEntry}
use Rattle.model.specs.Phases.{Turn, Pass, Phase, ascend, update, without, more_urgent, most_urgent, Victim, less_urgent, candidate, least_urgent, with_state, sliced, phase1}
use Rattle.model.specs.Accounting.{apply_moves, apply_move, switch_list, charge_threads, add_counts, runs, holds, charge_waiting}
use Rattle.model.specs.Types.{State}
use Rattle.model.specs.Calls.{Call, step, run, core_at, idle_core, sliced_all, waiters, blocked_on, elem}
use Rattle.model.proofs.PhaseLaws.{not-both, or-false-l, or-false-r}

---- a phase as a loop

-- a pass over further cores, after one over the first
abbrev pub joined : Pass → Pass → Pass
joined a b = record { cores = a.cores ++ b.cores; queue = b.queue; moves = a.moves ++ b.moves }

-- over some cores, then over the rest, which begin at core j
pub ascend-append :
    (f : Phase) (i j : ℕ) (xs ys : List Core) (q : List ℕ) → j ≡ i + length xs
    → ascend f i (xs ++ ys) q ≡ joined (ascend f i xs q) (ascend f j ys (ascend f i xs q).queue)
unfolding ascend
ascend-append f i j [] ys q e = ap (λ (m : ℕ). ascend f m ys q) (omega arith)
ascend-append f i j (x ∷ xs) ys q e =
    let t = f i x q in
    ap (λ (p : Pass). record { cores = t.core ∷ p.cores; queue = p.queue; moves = t.moves ++ p.moves }) (ascend-append f (suc i) j xs ys t.queue (omega arith)) ∙ rw append_assoc

-- the loop's step: core j's turn
pub ascend-snoc :
    (f : Phase) (j : ℕ) (xs : List Core) (c : Core) (q : List ℕ) → j ≡ length xs
    → ascend f 0 (xs ++ (c ∷ [])) q
    ≡ joined (ascend f 0 xs q) (record { cores = (f j c (ascend f 0 xs q).queue).core ∷ []; queue = (f j c (ascend f 0 xs q).queue).queue; moves = (f j c (ascend f 0 xs q).queue).moves })
unfolding ascend
ascend-snoc f j xs c q e = ascend-append f 0 j xs (c ∷ []) q (omega arith) ∙ rw append-nil

-- a phase in an array: the first i cores have had their turns, the others are as they were
abbrev pub in_place : Phase → (from i : ℕ) → List Core → List ℕ → List Core
in_place f j i cs q = (ascend f j (take i cs) q).cores ++ drop i cs

pub in_place-start : (f : Phase) (j : ℕ) (cs : List Core) (q : List ℕ) → in_place f j 0 cs q ≡ cs
unfolding ascend
in_place-start f j cs q = refl

pub in_place-end : (f : Phase) (j : ℕ) (cs : List Core) (q : List ℕ) → in_place f j (length cs) cs q ≡ (ascend f j cs q).cores
in_place-end f j cs q = rw (take-length, drop-length, append-nil)

-- what core i's turn finds there
pub in_place-at : (f : Phase) (j i : ℕ) (cs : List Core) (q : List ℕ) (d : Core) → i < length cs → get_or (in_place f j i cs q) i d ≡ get_or cs i d
unfolding ascend
in_place-at f j i [] q d l = absurd (omega arith)
in_place-at f j zero (c ∷ cs) q d l = refl
in_place-at f j (suc i) (c ∷ cs) q d l = in_place-at f (suc j) i cs (f j c q).queue d (omega arith)

-- core i's turn (m is its number): the array's element, the queue and the moves after it
pub record Turned (f : Phase) (j i : ℕ) (cs : List Core) (q : List ℕ) (t : Turn) : Type 0 where
  pub cores : set (in_place f j i cs q) i t.core ≡ in_place f j (suc i) cs q
  pub queue : t.queue ≡ (ascend f j (take (suc i) cs) q).queue
  pub moves : (ascend f j (take i cs) q).moves ++ t.moves ≡ (ascend f j (take (suc i) cs) q).moves

pub in_place-turn : (f : Phase) (j i m : ℕ) (cs : List Core) (q : List ℕ) (d : Core) → m ≡ j + i → i < length cs → Turned f j i cs q (f m (get_or cs i d) (ascend f j (take i cs) q).queue)
unfolding ascend
in_place-turn f j i m [] q d e l = absurd (omega arith)
in_place-turn f j zero m (c ∷ cs) q d e l = subst (λ (n : ℕ). Turned f j 0 (c ∷ cs) q (f n c q)) (omega arith) (record { cores = refl; queue = refl; moves = sym (append-nil (f j c q).moves) })
in_place-turn f j (suc i) m (c ∷ cs) q d e l =
    let r = in_place-turn f (suc j) i m cs (f j c q).queue d (omega arith) (omega arith) in
    record { cores = ap (λ l. (f j c q).core ∷ l) r.cores; queue = r.queue; moves = append_assoc (f j c q).moves _ _ ∙ ap (λ l. (f j c q).moves ++ l) r.moves }

-- phase 1 on the cores is the map that `close` makes
pub ascend-phase1 : (i : ℕ) (cs : List Core) (q : List ℕ) → ascend phase1 i cs q ≡ record { cores = sliced_all cs; queue = q; moves = [] }
unfolding ascend phase1 sliced_all
ascend-phase1 i [] q = refl
ascend-phase1 i (c ∷ cs) q = ap (λ (p : Pass). record { cores = with_state (sliced c.state) c ∷ p.cores; queue = p.queue; moves = p.moves }) (ascend-phase1 (suc i) cs q)

---- arrays

pub update-set {ℓ} : {A : Type ℓ} (f : A → A) (n : ℕ) (xs : List A) (d : A) → update n f xs ≡ set xs n (f (get_or xs n d))
unfolding update
update-set f n [] d = refl
update-set f zero (x ∷ xs) d = refl
update-set f (suc n) (x ∷ xs) d = ap (λ l. x ∷ l) (update-set f n xs d)

pub core_at-get_d : (cs : List Core) (i : ℕ) → core_at cs i ≡ get_or cs i idle_core
unfolding core_at
core_at-get_d [] i = refl
core_at-get_d (c ∷ cs) zero = refl
core_at-get_d (c ∷ cs) (suc i) = core_at-get_d cs i

---- the queue

-- a thread that stands at p and not before is taken out there
pub without_at : (t p : ℕ) (q : List ℕ) → get_elem? q p ≡ some t → elem t (take p q) ≡ false → without t q ≡ take p q ++ drop (suc p) q
unfolding without elem
without_at t p [] e n = cc
without_at t zero (h ∷ q) e n = rw (eq-eqb h t (cc))
without_at t (suc p) (h ∷ q) e n = rw (or-false-l (eqb h t) _ n) (ap (λ l. h ∷ l) (without_at t p q e (or-false-r (eqb h t) _ n)))

pub without-none : (t : ℕ) (q : List ℕ) → elem t q ≡ false → without t q ≡ q
unfolding without elem
without-none t [] n = refl
without-none t (h ∷ q) n = rw (or-false-l (eqb h t) _ n) (ap (λ l. h ∷ l) (without-none t q (or-false-r (eqb h t) _ n)))

---- scans

-- the most urgent so far, and one more: it takes over only if it is strictly smaller
abbrev pub scan : (ℕ → ℕ) → Option ℕ → ℕ → ℕ
scan pr none h = h
scan pr (some b) h = cond (ltb (pr h) (pr b)) h b

pub most_urgent-snoc : (pr : ℕ → ℕ) (q : List ℕ) (h : ℕ) → most_urgent pr (q ++ (h ∷ [])) ≡ some (scan pr (most_urgent pr q) h)
unfolding most_urgent more_urgent
most_urgent-snoc pr [] h = refl
most_urgent-snoc pr (g ∷ q) h = rw (most_urgent-snoc pr q h) (ap some (go (most_urgent pr q)))
  where
    four : (b : ℕ) (u v : Bool) → ltb (pr h) (pr b) ≡ u → ltb (pr b) (pr g) ≡ v → cond (ltb (pr (cond u h b)) (pr g)) (cond u h b) g ≡ cond (ltb (pr h) (pr (cond v b g))) h (cond v b g)
    four b true true eu ev = rw (eu, lt-ltb (pr h) (pr g) (omega (arith, ltb-true (pr h) (pr b) eu, ltb-true (pr b) (pr g) ev)))
    four b true false eu ev = refl
    four b false true eu ev = rw (eu, ev)
    four b false false eu ev = rw (ev, le-ltb (pr h) (pr g) (omega (arith, ltb-false (pr h) (pr b) eu, ltb-false (pr b) (pr g) ev)))

    go : (r : Option ℕ) → more_urgent pr g (some (scan pr r h)) ≡ scan pr (some (more_urgent pr g r)) h
    go none = refl
    go (some b) = four b (ltb (pr h) (pr b)) (ltb (pr b) (pr g)) refl refl

---- the accounts

pub apply_moves-append : (e now : ℕ) (a b : List Move) (k : Accounts) → apply_moves e now (a ++ b) k ≡ apply_moves e now b (apply_moves e now a k)
unfolding apply_moves
apply_moves-append e now [] b k = refl
apply_moves-append e now (m ∷ a) b k = apply_moves-append e now a b (apply_move e now m k)

switch_list-append' : (a b : List Move) (es : List SwitchEntry) → switch_list es (a ++ b) ≡ switch_list (switch_list es a) b
unfolding switch_list
switch_list-append' [] b es = refl
switch_list-append' (starts t ∷ a) b es = switch_list-append' a b es
switch_list-append' (leaves t i r ∷ a) b es = switch_list-append' a b _
switch_list-append' (takes t i ∷ a) b es = switch_list-append' a b _

pub switch_list-append : (es : List SwitchEntry) (a b : List Move) → switch_list es (a ++ b) ≡ switch_list (switch_list es a) b
switch_list-append es a b = switch_list-append' a b es

---- phase 6's victim: the largest so far, and one more core, which takes over unless it is strictly smaller

abbrev pub sofar : (ℕ → ℕ) → Option Victim → ℕ → CoreState → Option Victim
sofar pr v i Idle = v
sofar pr v i (Switching t l) = v
sofar pr none i (Running t s) = some (record { tid = t; core = i })
sofar pr (some v) i (Running t s) = some (cond (ltb (pr t) (pr v.tid)) v (record { tid = t; core = i }))

pub least_urgent-snoc : (pr : ℕ → ℕ) (i j : ℕ) (cs : List Core) (c : Core) → j ≡ i + length cs → least_urgent pr i (cs ++ (c ∷ [])) ≡ sofar pr (least_urgent pr i cs) j c.state
unfolding least_urgent less_urgent candidate
least_urgent-snoc pr i j [] c e = go c.state
  where
    go : (s : CoreState) → candidate pr i s none ≡ sofar pr none j s
    go Idle = refl
    go (Switching t l) = refl
    go (Running t s) = ap (λ (m : ℕ). some (record { tid = t; core = m })) (omega arith)
least_urgent-snoc pr i j (d ∷ cs) c e = rw (least_urgent-snoc pr (suc i) j cs c (omega arith)) (go d.state c.state (least_urgent pr (suc i) cs))
  where
    -- v before w before u: who is worst of the three
    four : (v w : Victim) (u : ℕ) (a b : Bool) → ltb (pr u) (pr w.tid) ≡ a → ltb (pr w.tid) (pr v.tid) ≡ b
        → cond (ltb (pr (cond a w (record { tid = u; core = j })).tid) (pr v.tid)) v (cond a w (record { tid = u; core = j }))
        ≡ cond (ltb (pr u) (pr (cond b v w).tid)) (cond b v w) (record { tid = u; core = j })
    four v w u true true ea eb = rw (eb, lt-ltb (pr u) (pr v.tid) (omega (arith, ltb-true (pr u) (pr w.tid) ea, ltb-true (pr w.tid) (pr v.tid) eb)))
    four v w u true false ea eb = rw (ea, eb)
    four v w u false true ea eb = refl
    four v w u false false ea eb = rw (ea, le-ltb (pr u) (pr v.tid) (omega (arith, ltb-false (pr u) (pr w.tid) ea, ltb-false (pr w.tid) (pr v.tid) eb)))

    go : (s s' : CoreState) (r : Option Victim) → candidate pr i s (sofar pr r j s') ≡ sofar pr (candidate pr i s r) j s'
    go Idle s' r = refl
    go (Switching t l) s' r = refl
    go (Running t s) Idle r = refl
    go (Running t s) (Switching u l) r = refl
    go (Running t s) (Running u l) none = refl
    go (Running t s) (Running u l) (some w) = ap some (four (record { tid = t; core = i }) w u (ltb (pr u) (pr w.tid)) (ltb (pr w.tid) (pr t)) refl refl)

---- a list of calls, one further

pub run-append : (s : State) (a b : List Call) → run s (a ++ b) ≡ run (run s a) b
unfolding run
run-append s [] b = refl
run-append s (c ∷ a) b = run-append (step s c).state a b

pub run-snoc : (s : State) (a : List Call) (c : Call) → run s (a ++ (c ∷ [])) ≡ (step (run s a) c).state
unfolding run
run-snoc s [] c = refl
run-snoc s (d ∷ a) c = run-snoc (step s d).state a c
