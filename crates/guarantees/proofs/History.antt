-- The run that the claims watch is the definition's, and what they take for a report is what 01 says.
use Prim.Native.Nat.{ℕ, zero, suc, ◌+◌, ◌≤◌, ◌<◌}
use mathlib.Core.Path.{◌≡◌, refl, sym, ap, ◌∙◌, subst}
use mathlib.Core.Logic.{◌⊎◌, inl, inr}
use mathlib.Core.Bool.{Bool, true, false, cond, not, ◌||◌, ◌&&◌}
use mathlib.Core.Option.{Option, none, some}
use mathlib.Core.List.{List, [], ◌∷◌, ◌++◌, map}
use native.Mathlib.Omega.{arith}
use lib.Dec.{eqb, leb}
use lib.ListN.{length, get_or, set}
use lib.Seq.{get_or-set_same, get_or-set_other}
use borrow.Author.Tests.{eqb-true, eqb-false, leb-false}
use Rattle.model.specs.Types.{Core, Move, starts, leaves, takes, State}
use Rattle.model.specs.Phases.{update}
use Rattle.model.specs.Calls.{Call, spawn, exit, join, retired, yield, priority, timing, force, tick, close, accept, stepped, refusal, step, run, no_core}
use Rattle.guarantees.specs.Claims.{Observed, takes_on, reports_after, reports_cleared, reports, observed, observe, observe_all, unobserved, refusal_of, moves_of, ticked, is_tick, timing_kept, timing_is}
use Rattle.model.proofs.PhaseLaws.{not-both, and_l, and_r, or-false-l, or-false-r}
use Rattle.model.proofs.Refusals.{check-none}
use Rattle.model.proofs.LoopLaws.{update-set}
use Rattle.guarantees.proofs.Invariants.{Inv, Covers, all2-length, inv-observed, inv-observe_all, Start, start, timing_kept-append}

pub observe_all-run : (cs : List Call) (w : Observed) → (observe_all w cs).state ≡ run w.state cs
unfolding observe_all run observed step
observe_all-run [] w = refl
observe_all-run (c ∷ cs) w = observe_all-run cs (observe w c)

---- 01: a core reports "if an unrefused `retired` of it stands before that call and after every earlier tick and dispatch on it"

-- neither an unrefused tick nor a dispatch on core c
pub calm : (core : ℕ) → Observed → List Call → Bool
calm c w [] = true
calm c w (d ∷ ds) = (not (ticked d (refusal_of w d)) && not (takes_on c (moves_of w d))) && calm c (observe w d) ds

pub record Said (c : ℕ) (w : Observed) (ds : List Call) : Type 0 where
  pub before : List Call
  pub after : List Call
  pub split : ds ≡ before ++ retired c ∷ after
  pub unrefused : refusal_of (observe_all w before) (retired c) ≡ none
  pub since : calm c (observe (observe_all w before) (retired c)) after ≡ true

abbrev pub flag : ℕ → List Bool → Bool
flag c r = get_or r c false

flag-update-other : (c i : ℕ) (f : Bool → Bool) (r : List Bool) → (c ≡ i → ⊥) → flag c (update i f r) ≡ flag c r
flag-update-other c i f r h = rw (update-set f i r false) (get_or-set_other r i c _ false h)

flag-range : (c : ℕ) (r : List Bool) → flag c r ≡ true → c < length r
flag-range c [] e = absurd (not-both false e refl)
flag-range zero (b ∷ r) e = omega arith
flag-range (suc c) (b ∷ r) e = omega (arith, flag-range c r e)

flag-update-same : (c : ℕ) (f : Bool → Bool) (r : List Bool) → c < length r → flag c (update c f r) ≡ f (flag c r)
flag-update-same c f r h = rw (update-set f c r false) (get_or-set_same r c _ false h)

flag-false : {A : Type 0} (c : ℕ) (r : List A) → flag c (map (λ (x : A). false) r) ≡ false
flag-false c [] = refl
flag-false zero (x ∷ r) = refl
flag-false (suc c) (x ∷ r) = flag-false c r

-- a move takes core c's report back if it is a dispatch on it, and only then
reports_cleared-other : (c : ℕ) (ms : List Move) (r : List Bool) → takes_on c ms ≡ false → flag c (reports_cleared ms r) ≡ flag c r
unfolding reports_cleared takes_on
reports_cleared-other c [] r h = refl
reports_cleared-other c (starts t ∷ ms) r h = reports_cleared-other c ms r h
reports_cleared-other c (leaves t i x ∷ ms) r h = reports_cleared-other c ms r h
reports_cleared-other c (takes t i ∷ ms) r h =
    reports_cleared-other c ms (update i (λ b. false) r) (or-false-r (eqb i c) _ h) ∙ flag-update-other c i _ r (λ e. eqb-false i c (or-false-l (eqb i c) _ h) (sym e))

reports_cleared-false : (c : ℕ) (ms : List Move) (r : List Bool) → flag c r ≡ false → flag c (reports_cleared ms r) ≡ false
unfolding reports_cleared update
reports_cleared-false c [] r h = h
reports_cleared-false c (starts t ∷ ms) r h = reports_cleared-false c ms r h
reports_cleared-false c (leaves t i x ∷ ms) r h = reports_cleared-false c ms r h
reports_cleared-false c (takes t i ∷ ms) r h = reports_cleared-false c ms (update i (λ b. false) r) (update-false i r c h)
  where
    update-false : (i : ℕ) (r : List Bool) (c : ℕ) → flag c r ≡ false → flag c (update i (λ b. false) r) ≡ false
    update-false i [] c h = refl
    update-false zero (b ∷ r) zero h = refl
    update-false zero (b ∷ r) (suc c) h = h
    update-false (suc i) (b ∷ r) zero h = h
    update-false (suc i) (b ∷ r) (suc c) h = update-false i r c h

-- the words give the flag

reports_after-keeps : (c : ℕ) (d : Call) (r : List Bool) → is_tick d ≡ false → flag c r ≡ true → flag c (reports_after d r) ≡ true
unfolding reports_after
reports_after-keeps c tick r t h = absurd (not-both true refl t)
reports_after-keeps c (retired i) r t h = go (eqb i c) refl
  where
    go : (b : Bool) → eqb i c ≡ b → flag c (update i (λ x. true) r) ≡ true
    go true e = subst (λ (j : ℕ). flag c (update j (λ x. true) r) ≡ true) (sym (eqb-true i c e)) (flag-update-same c (λ x. true) r (flag-range c r h))
    go false e = flag-update-other c i _ r (λ e'. eqb-false i c e (sym e')) ∙ h
reports_after-keeps c (spawn p e) r t h = h
reports_after-keeps c (exit i) r t h = h
reports_after-keeps c (join i u) r t h = h
reports_after-keeps c (yield i) r t h = h
reports_after-keeps c (priority u n) r t h = h
reports_after-keeps c (timing u n) r t h = h
reports_after-keeps c (force i u) r t h = h
reports_after-keeps c (close i) r t h = h

not-true' : (b : Bool) → not b ≡ true → b ≡ false
not-true' true e = sym e
not-true' false e = refl

step_keeps :
    (c : ℕ) (w : Observed) (d : Call) (r : Option ℕ) → flag c w.reported ≡ true → not (ticked d r) && not (takes_on c (stepped w.state d r).moves) ≡ true → flag c (observed w d r).reported ≡ true
unfolding observed reports stepped
step_keeps c w d (some n) h e = h
step_keeps c w d none h e =
    reports_cleared-other c (accept w.state d).moves _ (not-true' _ (and_r (not (is_tick d)) _ e)) ∙ reports_after-keeps c d w.reported (not-true' (is_tick d) (and_l _ _ e)) h

calm-keeps : (c : ℕ) (ds : List Call) (w : Observed) → flag c w.reported ≡ true → calm c w ds ≡ true → flag c (observe_all w ds).reported ≡ true
unfolding calm observe_all
calm-keeps c [] w h e = h
calm-keeps c (d ∷ ds) w h e = calm-keeps c ds (observe w d) (step_keeps c w d (refusal_of w d) h (and_l _ _ e)) (and_r (not (ticked d (refusal_of w d)) && not (takes_on c (moves_of w d))) _ e)

observe_all-append : (xs ys : List Call) (w : Observed) → observe_all w (xs ++ ys) ≡ observe_all (observe_all w xs) ys
unfolding observe_all
observe_all-append [] ys w = refl
observe_all-append (x ∷ xs) ys w = observe_all-append xs ys (observe w x)

retired-flag : {q k n : ℕ} (c : ℕ) (w : Observed) → Inv q k n w → (r : Option ℕ) → refusal_of w (retired c) ≡ r → r ≡ none → flag c (observed w (retired c) r).reported ≡ true
unfolding observed reports stepped accept reports_after reports_cleared refusal no_core
retired-flag c w v (some m) e z = cc
retired-flag c w v none e z = flag-update-same c (λ b. true) w.reported (omega (arith, leb-false _ c (check-none 4 (no_core w.state c) _ e), all2-length Covers w.reported w.state.cores v.covered))

-- (every run of a round robin scheduler whose timing is kept)
pub said-flag :
    {q k n : ℕ} (c : ℕ) (ds : List Call) (w : Observed) → Inv q k n w → timing_kept q k w ds ≡ true → Said c w ds → flag c (observe_all w ds).reported ≡ true
unfolding observe_all
said-flag {q} {k} c ds w v t s =
    subst (λ (l : List Call). flag c (observe_all w l).reported ≡ true) (sym s.split)
    (subst (λ (u : Observed). flag c u.reported ≡ true) (sym (observe_all-append s.before (retired c ∷ s.after) w))
    (calm-keeps c s.after (observe (observe_all w s.before) (retired c))
    (retired-flag c (observe_all w s.before) (inv-observe_all w v s.before (timing_kept-append q k w s.before (retired c ∷ s.after) (subst (λ (l : List Call). timing_kept q k w l ≡ true) s.split t)).0) _ refl s.unrefused)
    s.since))

-- the flag gives the words

reports_after-from : (c : ℕ) (d : Call) (r : List Bool) → flag c (reports_after d r) ≡ true → ((d ≡ retired c) ⊎ ((is_tick d ≡ false) × (flag c r ≡ true)))
unfolding reports_after
reports_after-from c tick r h = absurd (not-both _ h (flag-false c r))
reports_after-from c (retired i) r h = go (eqb i c) refl
  where
    go : (b : Bool) → eqb i c ≡ b → ((retired i ≡ retired c) ⊎ ((false ≡ false) × (flag c r ≡ true)))
    go true e = inl (ap retired (eqb-true i c e))
    go false e = inr (refl, sym (flag-update-other c i (λ b. true) r (λ e'. eqb-false i c e (sym e'))) ∙ h)
reports_after-from c (spawn p e) r h = inr (refl, h)
reports_after-from c (exit i) r h = inr (refl, h)
reports_after-from c (join i u) r h = inr (refl, h)
reports_after-from c (yield i) r h = inr (refl, h)
reports_after-from c (priority u n) r h = inr (refl, h)
reports_after-from c (timing u n) r h = inr (refl, h)
reports_after-from c (force i u) r h = inr (refl, h)
reports_after-from c (close i) r h = inr (refl, h)

reports_cleared-taken : (c : ℕ) (ms : List Move) (r : List Bool) → takes_on c ms ≡ true → flag c (reports_cleared ms r) ≡ false
unfolding reports_cleared takes_on update
reports_cleared-taken c [] r h = absurd (not-both false h refl)
reports_cleared-taken c (starts t ∷ ms) r h = reports_cleared-taken c ms r h
reports_cleared-taken c (leaves t i x ∷ ms) r h = reports_cleared-taken c ms r h
reports_cleared-taken c (takes t i ∷ ms) r h = go (eqb i c) refl h (λ k. reports_cleared-taken c ms (update i (λ b. false) r) k)
  where
    cleared : (j : ℕ) (l : List Bool) → flag j (update j (λ b. false) l) ≡ false
    cleared j [] = refl
    cleared zero (b ∷ l) = refl
    cleared (suc j) (b ∷ l) = cleared j l

    go : (b : Bool) → eqb i c ≡ b → b || takes_on c ms ≡ true → (takes_on c ms ≡ true → flag c (reports_cleared ms (update i (λ x. false) r)) ≡ false) → flag c (reports_cleared ms (update i (λ x. false) r)) ≡ false
    go true e k ih = reports_cleared-false c ms _ (subst (λ (j : ℕ). flag c (update j (λ x. false) r) ≡ false) (sym (eqb-true i c e)) (cleared c r))
    go false e k ih = ih k

both : (a b : Bool) → a ≡ false → b ≡ false → not a && not b ≡ true
both true b p q = absurd (not-both true refl p)
both false true p q = absurd (not-both true refl q)
both false false p q = refl

step_from :
    (c : ℕ) (w : Observed) (d : Call) (r : Option ℕ) → flag c (observed w d r).reported ≡ true
    → ((r ≡ none) × (d ≡ retired c)) ⊎ ((flag c w.reported ≡ true) × (not (ticked d r) && not (takes_on c (stepped w.state d r).moves) ≡ true))
unfolding observed reports stepped takes_on
step_from c w d (some n) h = inr (h, refl)
step_from c w d none h = go (takes_on c (accept w.state d).moves) refl
  where
    go2 : takes_on c (accept w.state d).moves ≡ false → ((d ≡ retired c) ⊎ ((is_tick d ≡ false) × (flag c w.reported ≡ true)))
        → ((◌≡◌ {A = Option ℕ} none none) × (d ≡ retired c)) ⊎ ((flag c w.reported ≡ true) × (not (is_tick d) && not (takes_on c (accept w.state d).moves) ≡ true))
    go2 e (inl k) = inl (refl, k)
    go2 e (inr (t, k)) = inr (k, both (is_tick d) (takes_on c (accept w.state d).moves) t e)

    go : (b : Bool) → takes_on c (accept w.state d).moves ≡ b
        → ((◌≡◌ {A = Option ℕ} none none) × (d ≡ retired c)) ⊎ ((flag c w.reported ≡ true) × (not (is_tick d) && not (takes_on c (accept w.state d).moves) ≡ true))
    go true e = absurd (not-both _ h (reports_cleared-taken c (accept w.state d).moves _ e))
    go false e = go2 e (reports_after-from c d w.reported (sym (reports_cleared-other c (accept w.state d).moves (reports_after d w.reported) e) ∙ h))

said-now : (c : ℕ) (w : Observed) (ds : List Call) (d : Call) → d ≡ retired c → refusal_of w d ≡ none → calm c (observe w d) ds ≡ true → Said c w (d ∷ ds)
unfolding observe_all
said-now c w ds d e =
    subst (λ (x : Call). refusal_of w x ≡ none → calm c (observe w x) ds ≡ true → Said c w (x ∷ ds)) (sym e) (λ u k. record { before = []; after = ds; split = refl; unrefused = u; since = k })

said-later : (c : ℕ) (w : Observed) (ds : List Call) (d : Call) → Said c (observe w d) ds → Said c w (d ∷ ds)
unfolding observe_all
said-later c w ds d s = record { before = d ∷ s.before; after = s.after; split = ap (λ l. d ∷ l) s.split; unrefused = s.unrefused; since = s.since }

flag-from : (c : ℕ) (ds : List Call) (w : Observed) → flag c (observe_all w ds).reported ≡ true → Said c w ds ⊎ ((flag c w.reported ≡ true) × (calm c w ds ≡ true))
unfolding observe_all calm
flag-from c [] w h = inr (h, refl)
flag-from c (d ∷ ds) w h = go (flag-from c ds (observe w d) h)
  where
    here : calm c (observe w d) ds ≡ true
        → ((refusal_of w d ≡ none) × (d ≡ retired c)) ⊎ ((flag c w.reported ≡ true) × (not (ticked d (refusal_of w d)) && not (takes_on c (moves_of w d)) ≡ true))
        → Said c w (d ∷ ds) ⊎ ((flag c w.reported ≡ true) × (calm c w (d ∷ ds) ≡ true))
    here k (inl (u, e)) = inl (said-now c w ds d e u k)
    here k (inr (f, e)) = inr (f, and_both (not (ticked d (refusal_of w d)) && not (takes_on c (moves_of w d))) _ e k)
      where
        and_both : (a b : Bool) → a ≡ true → b ≡ true → a && b ≡ true
        and_both true b p q = q
        and_both false b p q = p

    go : Said c (observe w d) ds ⊎ ((flag c (observe w d).reported ≡ true) × (calm c (observe w d) ds ≡ true)) → Said c w (d ∷ ds) ⊎ ((flag c w.reported ≡ true) × (calm c w (d ∷ ds) ≡ true))
    go (inl s) = inl (said-later c w ds d s)
    go (inr (f, k)) = here k (step_from c w d (refusal_of w d) f)

pub flag-said : (c : ℕ) (ds : List Call) (s : State) → flag c (observe_all (unobserved s) ds).reported ≡ true → Said c (unobserved s) ds
unfolding unobserved
flag-said c ds s h = go (flag-from c ds (unobserved s) h)
  where
    go : Said c (unobserved s) ds ⊎ ((flag c (unobserved s).reported ≡ true) × (calm c (unobserved s) ds ≡ true)) → Said c (unobserved s) ds
    go (inl k) = k
    go (inr (f, k)) = absurd (not-both _ f (flag-false c s.cores))
