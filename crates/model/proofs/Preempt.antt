-- Phase 6 comes to rest: after as many rounds as there are cores no waiting number is strictly below the largest running one.
use Prim.Native.Nat.{ℕ, zero, suc, ◌+◌, ◌≤◌, ◌<◌}
use mathlib.Core.Path.{◌≡◌, refl, sym, ap, ◌∙◌, subst}
use mathlib.Core.Bool.{Bool, true, false, cond}
use mathlib.Core.Option.{Option, none, some}
use mathlib.Core.List.{List, [], ◌∷◌, ◌++◌}
use native.Mathlib.Omega.{arith}
use lib.Dec.{eqb, ltb}
use lib.ListN.{length}
use borrow.Author.Tests.{ltb-true, ltb-false, lt-ltb, le-ltb}
use Rattle.model.specs.Invariants.{All, AllO}
use Rattle.model.specs.Types.{CoreState, Idle, Switching, Running, LeaveReason, Preempt, Core}
use Rattle.model.specs.Phases.{Rules, Pass, Victim, less_urgent, candidate, least_urgent, update, dispatch, dispatched_state, without, more_urgent, most_urgent, Preemption, preemption_of, next_preemption, preempted, preempt_rounds}
use Rattle.model.proofs.PhaseLaws.{At}

-- every entry of a queue
without_all : (P : ℕ → Type 0) (t : ℕ) (q : List ℕ) → All P q → All P (without t q)
unfolding without
without_all P t [] a = tt
without_all P t (h ∷ q) a = go (eqb h t) (without_all P t q a.1)
  where
    go : (b : Bool) → All P (without t q) → All P (cond b q (h ∷ without t q))
    go true r = a.1
    go false r = (a.0, r)

snoc-all : (P : ℕ → Type 0) (t : ℕ) (q : List ℕ) → All P q → P t → All P (q ++ (t ∷ []))
snoc-all P t [] a h = (h, tt)
snoc-all P t (g ∷ q) a h = (a.0, snoc-all P t q a.1 h)

weaken : (P Q : ℕ → Type 0) → ((h : ℕ) → P h → Q h) → (q : List ℕ) → All P q → All Q q
weaken P Q f [] a = tt
weaken P Q f (h ∷ q) a = (f h a.0, weaken P Q f q a.1)

-- what is found, if anything
unfoldable pub IsRun : ℕ → Core → Type 0
IsRun t c = (s : ℕ) × (c.state ≡ Running t s)

-- the victim's core runs its thread
unfoldable pub Stands : ℕ → List Core → Victim → Type 0
Stands i cs v = (j : ℕ) × (v.core ≡ i + j) × At (IsRun v.tid) j cs

module _ (pr : ℕ → ℕ) where
  -- the most urgent one is an entry, and no entry is more urgent
  pub urgent-in : (P : ℕ → Type 0) (q : List ℕ) → All P q → AllO P (most_urgent pr q)
  unfolding most_urgent more_urgent
  urgent-in P [] a = tt
  urgent-in P (h ∷ q) a = go (most_urgent pr q) (urgent-in P q a.1)
    where
      two : (b : ℕ) (u : Bool) → P b → P (cond u b h)
      two b true r = r
      two b false r = a.0

      go : (o : Option ℕ) → AllO P o → P (more_urgent pr h o)
      go none r = a.0
      go (some b) r = two b (ltb (pr b) (pr h)) r

  urgent-least : (q : List ℕ) → AllO (λ (b : ℕ). All (λ (h : ℕ). pr b ≤ pr h) q) (most_urgent pr q)
  unfolding most_urgent more_urgent
  urgent-least [] = tt
  urgent-least (h ∷ []) = (omega arith, tt)
  urgent-least (h ∷ (g ∷ q)) = two (more_urgent pr g (most_urgent pr q)) (ltb (pr (more_urgent pr g (most_urgent pr q))) (pr h)) refl (urgent-least (g ∷ q))
    where
      two : (b : ℕ) (u : Bool) → ltb (pr b) (pr h) ≡ u → All (λ (x : ℕ). pr b ≤ pr x) (g ∷ q) → All (λ (x : ℕ). pr (cond u b h) ≤ pr x) (h ∷ (g ∷ q))
      two b true e a = (omega (arith, ltb-true (pr b) (pr h) e), a)
      two b false e a = (omega arith, weaken _ _ (λ x l. omega (arith, ltb-false (pr b) (pr h) e)) (g ∷ q) a)

  pub least_urgent-stands : (i : ℕ) (cs : List Core) → AllO (Stands i cs) (least_urgent pr i cs)
  unfolding least_urgent candidate less_urgent Stands IsRun
  least_urgent-stands i [] = tt
  least_urgent-stands i (c ∷ cs) = go c.state refl (least_urgent pr (suc i) cs) (least_urgent-stands (suc i) cs)
    where
      later : (v : Victim) → Stands (suc i) cs v → Stands i (c ∷ cs) v
      later v h = (suc h.0, omega (arith, h.1), h.2)

      two : (t s : ℕ) (u : Victim) (b : Bool) → c.state ≡ Running t s → Stands (suc i) cs u → Stands i (c ∷ cs) (cond b (record { tid = t; core = i }) u)
      two t s u true e h = (0, omega arith, (s, e))
      two t s u false e h = later u h

      go : (s : CoreState) → c.state ≡ s → (o : Option Victim) → AllO (Stands (suc i) cs) o → AllO (Stands i (c ∷ cs)) (candidate pr i s o)
      go Idle e none h = tt
      go Idle e (some v) h = later v h
      go (Switching t l) e none h = tt
      go (Switching t l) e (some v) h = later v h
      go (Running t s) e none h = (0, omega arith, (s, e))
      go (Running t s) e (some v) h = two t s v (ltb (pr v.tid) (pr t)) e h

  -- the cores that run a number above m
  hot : ℕ → CoreState → ℕ
  hot m Idle = 0
  hot m (Switching t l) = 0
  hot m (Running t s) = cond (ltb m (pr t)) 1 0

  above : ℕ → List Core → ℕ
  above m [] = 0
  above m (c ∷ cs) = hot m c.state + above m cs

  above-length : (m : ℕ) (cs : List Core) → above m cs ≤ length cs
  unfolding above hot
  above-length m [] = omega arith
  above-length m (c ∷ cs) = omega (arith, go c.state, above-length m cs)
    where
      two : (b : Bool) → cond b 1 0 ≤ 1
      two true = omega arith
      two false = omega arith

      go : (s : CoreState) → hot m s ≤ 1
      go Idle = omega arith
      go (Switching t l) = omega arith
      go (Running t s) = two (ltb m (pr t))

  above-mono : (m n : ℕ) (cs : List Core) → m ≤ n → above n cs ≤ above m cs
  unfolding above hot
  above-mono m n [] h = omega arith
  above-mono m n (c ∷ cs) h = omega (arith, go c.state, above-mono m n cs h)
    where
      two : (t : ℕ) (a b : Bool) → ltb n (pr t) ≡ a → ltb m (pr t) ≡ b → cond a 1 0 ≤ cond b 1 0
      two t true true ea eb = omega arith
      two t true false ea eb = absurd (omega (arith, ltb-true n (pr t) ea, ltb-false m (pr t) eb))
      two t false b ea eb = omega arith

      go : (s : CoreState) → hot n s ≤ hot m s
      go Idle = omega arith
      go (Switching t l) = omega arith
      go (Running t s) = two t (ltb n (pr t)) (ltb m (pr t)) refl refl

  above-update : (m t j : ℕ) (f : Core → Core) (cs : List Core) → m < pr t → ((c : Core) → hot m (f c).state ≡ 0) → At (IsRun t) j cs → suc (above m (update j f cs)) ≡ above m cs
  unfolding above hot update IsRun
  above-update m t j f [] l h a = absurd a
  above-update m t zero f (c ∷ cs) l h a = rw (h c, a.1, lt-ltb m (pr t) l) (omega arith)
  above-update m t (suc j) f (c ∷ cs) l h a = omega (arith, above-update m t j f cs l h a)

  dispatched_state-cold : (k b : ℕ) → hot (pr b) (dispatched_state k b) ≡ 0
  unfolding hot dispatched_state
  dispatched_state-cold zero b = rw (le-ltb (pr b) (pr b) (omega arith))
  dispatched_state-cold (suc k) b = refl

Hot : Rules → ℕ → Pass → Type 0
Hot k n p = AllO (λ (b : ℕ). above k.prio (k.prio b) p.cores ≤ n) (most_urgent k.prio p.queue)

-- a round: nobody loses, or one core fewer runs a number above the best waiting one
round : (k : Rules) (n : ℕ) (p : Pass) (b : ℕ) (v : Victim) → All (λ (h : ℕ). k.prio b ≤ k.prio h) p.queue → Stands 0 p.cores v → k.prio b < k.prio v.tid → above k.prio (k.prio b) p.cores ≤ suc n
    → Hot k n (preempted k Preempt v b p)
unfolding Hot preempted Stands
round k n p b v least stands less few =
    weak_o (most_urgent k.prio (without b (p.queue ++ (v.tid ∷ [])))) (urgent-in k.prio (λ h. k.prio b ≤ k.prio h) (without b (p.queue ++ (v.tid ∷ []))) (without_all _ b _ (snoc-all _ v.tid p.queue least (omega arith))))
  where
    cs : List Core
    cs = update v.core (dispatch k.cost b) p.cores

    fewer : suc (above k.prio (k.prio b) cs) ≡ above k.prio (k.prio b) p.cores
    fewer = above-update k.prio (k.prio b) v.tid v.core (dispatch k.cost b) p.cores less (λ c. dispatched_state-cold k.prio k.cost b) (subst (λ (j : ℕ). At (IsRun v.tid) j p.cores) (omega (arith, stands.1)) stands.2)

    weak_o : (o : Option ℕ) → AllO (λ (h : ℕ). k.prio b ≤ k.prio h) o → AllO (λ (h : ℕ). above k.prio (k.prio h) cs ≤ n) o
    weak_o none a = tt
    weak_o (some h) a = omega (arith, above-mono k.prio (k.prio b) (k.prio h) cs a, fewer)

-- what a swap is made on
record Info (k : Rules) (n : ℕ) (p : Pass) (w : Preemption) : Type 0 where
  least : All (λ (h : ℕ). k.prio w.best ≤ k.prio h) p.queue
  stands : Stands 0 p.cores w.victim
  less : k.prio w.best < k.prio w.victim.tid
  few : above k.prio (k.prio w.best) p.cores ≤ n

info : (k : Rules) (n : ℕ) (p : Pass) → Hot k n p → AllO (Info k n p) (next_preemption k p)
unfolding next_preemption preemption_of Hot
info k n p h = go (most_urgent k.prio p.queue) (urgent-least k.prio p.queue) h (least_urgent k.prio 0 p.cores) (least_urgent-stands k.prio 0 p.cores)
  where
    two : (b : ℕ) (v : Victim) (u : Bool) → ltb (k.prio b) (k.prio v.tid) ≡ u → All (λ (x : ℕ). k.prio b ≤ k.prio x) p.queue → above k.prio (k.prio b) p.cores ≤ n → Stands 0 p.cores v
        → AllO (Info k n p) (cond u (some (record { victim = v; best = b })) none)
    two b v true e l f s = record { least = l; stands = s; less = ltb-true (k.prio b) (k.prio v.tid) e; few = f }
    two b v false e l f s = tt

    go : (o : Option ℕ) → AllO (λ (b : ℕ). All (λ (x : ℕ). k.prio b ≤ k.prio x) p.queue) o → AllO (λ (b : ℕ). above k.prio (k.prio b) p.cores ≤ n) o → (v : Option Victim) → AllO (Stands 0 p.cores) v
        → AllO (Info k n p) (preemption_of k.prio o v)
    go none l f v s = tt
    go (some b) l f none s = tt
    go (some b) l f (some v) s = two b v (ltb (k.prio b) (k.prio v.tid)) refl l f s

-- with enough rounds there is no next swap
rest : (k : Rules) (n : ℕ) (p : Pass) → Hot k n p → next_preemption k (preempt_rounds k n p) ≡ none
unfolding preempt_rounds Stands
rest k zero p h = go (next_preemption k p) (info k 0 p h)
  where
    go : (o : Option Preemption) → AllO (Info k 0 p) o → o ≡ none
    go none i = refl
    go (some w) i =
        absurd
        (omega (arith, i.few, above-update k.prio (k.prio w.best) w.victim.tid i.stands.0 (dispatch k.cost w.best) p.cores i.less (λ c. dispatched_state-cold k.prio k.cost w.best) i.stands.2))
rest k (suc n) p h = go (next_preemption k p) refl (info k (suc n) p h) (λ p' h'. rest k n p' h')
  where
    go : (o : Option Preemption) → next_preemption k p ≡ o → AllO (Info k (suc n) p) o → ((p' : Pass) → Hot k n p' → next_preemption k (preempt_rounds k n p') ≡ none)
        → next_preemption k (elim o [ none ↦ p | some w ↦ preempt_rounds k n (preempted k Preempt w.victim w.best p) ]) ≡ none
    go none e i ih = e
    go (some w) e i ih = ih (preempted k Preempt w.victim w.best p) (round k n p w.best w.victim i.least i.stands i.less i.few)

-- as many rounds as there are cores are enough
pub preempt_rounds-rest : (k : Rules) (p : Pass) → next_preemption k (preempt_rounds k (length p.cores) p) ≡ none
unfolding Hot
preempt_rounds-rest k p = rest k (length p.cores) p (all (most_urgent k.prio p.queue))
  where
    all : (o : Option ℕ) → AllO (λ (b : ℕ). above k.prio (k.prio b) p.cores ≤ length p.cores) o
    all none = tt
    all (some b) = above-length k.prio (k.prio b) p.cores
