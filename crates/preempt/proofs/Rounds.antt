-- A round of phase 6, and the rounds as the loop has them.
-- Assumes nothing.
use Prim.Native.Nat.{ℕ, zero, suc, ◌+◌, ◌-◌, ◌≤◌, ◌<◌}
use mathlib.Core.Path.{◌≡◌, refl, sym, ap, ◌∙◌}
use mathlib.Core.Logic.{⊎_elim}
use mathlib.Core.Bool.{Bool, false}
use mathlib.Core.Option.{Option, none, some}
use mathlib.Core.List.{List, [], ◌∷◌, ◌++◌}
use native.Mathlib.Nat.{le_of_suc-le-suc, not-suc-le-zero, eq-or-lt_of_le}
use native.Mathlib.Omega.{arith}
use lib.ListN.{length, get_or, set, take, length-take}
use lib.Seq.{get_or-set_same, get_or-set_other}
use Rattle.model.specs.Types.{Policy, Priority, Preempt, Core, Move}
use Rattle.model.specs.Phases.{Rules, Pass, Preemption, dispatch, without, most_urgent, least_urgent, update, preempted, preemption_of, next_preemption, preempt_rounds, phase6}
use Rattle.model.specs.Reading.{core_state_meant}
use Rattle.model.specs.declared.CoreState as Program
use Rattle.model.specs.declared.CoreState.TheVariants
use Rattle.model.proofs.Preempt
use Rattle.queue.specs.Ready.{remove_at}
use Rattle.dispatch.specs.Swaps.{Swapped}
use Rattle.turns.proofs.Steps.{mark-cleared, besides}
use Rattle.phases.specs.Cores.{firsts, pass_of, core_at}
use Rattle.phases.proofs.Loops.{firsts-length, firsts_same}

---- a round

pub rounds-none : (k : Rules) (p : Pass) (m : ℕ) → next_preemption k p ≡ none → preempt_rounds k m p ≡ p
unfolding preempt_rounds
rounds-none k p zero e = refl
rounds-none k p (suc m) e = rw (e, preempt_rounds)

pub rounds-some : (k : Rules) (p : Pass) (m m' : ℕ) (w : Preemption) → m ≡ suc m' → next_preemption k p ≡ some w → preempt_rounds k m p ≡ preempt_rounds k m' (preempted k Preempt w.victim w.best p)
unfolding preempt_rounds
rounds-some k p m m' w em e = rw em (rw (e, preempt_rounds))

update-left {ℓ} : {A : Type ℓ} (f : A → A) (v : ℕ) (xs ys : List A) → v < length xs → update v f (xs ++ ys) ≡ update v f xs ++ ys
unfolding update
update-left f v [] ys l = absurd (not-suc-le-zero l)
update-left f zero (x ∷ xs) ys l = refl
update-left f (suc v) (x ∷ xs) ys l = ap (λ r. x ∷ r) (update-left f v xs ys (le_of_suc-le-suc l))

update-last {ℓ} : {A : Type ℓ} (f : A → A) (v : ℕ) (xs : List A) (y : A) → v ≡ length xs → update v f (xs ++ (y ∷ [])) ≡ xs ++ (f y ∷ [])
unfolding update
update-last f zero [] y e = refl
update-last f (suc v) [] y e = absurd (omega arith)
update-last f zero (x ∷ xs) y e = absurd (omega arith)
update-last f (suc v) (x ∷ xs) y e = ap (λ r. x ∷ r) (update-last f v xs y (omega arith))

pub firsts-update {ℓ} : {A : Type ℓ} (f : A → A) (g g' : ℕ → A) (v n : ℕ) → v < n → g' v ≡ f (g v) → ((j : ℕ) → (j ≡ v → ⊥) → g' j ≡ g j) → firsts g' n ≡ update v f (firsts g n)
unfolding firsts
firsts-update f g g' v zero l e k = absurd (not-suc-le-zero l)
firsts-update f g g' v (suc n) l e k = ⊎_elim (λ z. last z) (λ z. inner z (firsts-update f g g' v n z e k)) (eq-or-lt_of_le (le_of_suc-le-suc l))
  where
    last : v ≡ n → firsts g' n ++ (g' n ∷ []) ≡ update v f (firsts g n ++ (g n ∷ []))
    last z =
        (λ i. firsts_same g' g n (λ j h. k j (λ y. omega arith)) i ++ ((rw z at e) i ∷ [])) ∙
        sym (update-last f v (firsts g n) (g n) (rw (firsts-length g n) z))

    inner : v < n → firsts g' n ≡ update v f (firsts g n) → firsts g' n ++ (g' n ∷ []) ≡ update v f (firsts g n ++ (g n ∷ []))
    inner z ih =
        (λ i. ih i ++ (k n (λ y. omega arith) i ∷ [])) ∙
        sym (update-left f v (firsts g n) (g n ∷ []) (rw (firsts-length g n) z))

-- the other cores
pub preempted-others :
    (cs : List Program.CoreState) (ex bl yi pr pr' : List Bool) (v : ℕ) (r : Program.CoreState) → pr' ≡ set pr v false → (j : ℕ) → (j ≡ v → ⊥) → core_at (set cs v r) ex bl yi pr' j ≡ core_at cs ex bl yi pr j
unfolding core_at
preempted-others cs ex bl yi pr pr' v r e j d =
    λ i. record { state = core_state_meant (get_or-set_other cs v j r TheVariants.Idle d i); exits = get_or ex j false; blocks = get_or bl j false; yields = get_or yi j false; progressed = besides pr v e j d i }

pub preempted-pass :
    (k : Rules) (n : ℕ) (cs : List Program.CoreState) (ex bl yi pr pr' : List Bool) (q q' : List ℕ) (m m' : List Move) (v t at : ℕ) (r : Program.CoreState) → v < n → v < length cs
    → ((s : List ℕ) → without (get_or q at 0) (q ++ s) ≡ remove_at at q ++ s) → Swapped t Preempt v at k.cost pr pr' q q' m m' (core_state_meant r)
    → pass_of n (core_at (set cs v r) ex bl yi pr') q' m' ≡ preempted k Preempt (record { tid = t; core = v }) (get_or q at 0) (pass_of n (core_at cs ex bl yi pr) q m)
unfolding pass_of preempted core_at
preempted-pass k n cs ex bl yi pr pr' q q' m m' v t at r l h first w =
    λ i. record { cores = cores i; queue = (w.queue ∙ sym (first (t ∷ []))) i; moves = w.moves i }
  where
    here : core_at (set cs v r) ex bl yi pr' v ≡ dispatch k.cost (get_or q at 0) (core_at cs ex bl yi pr v)
    here = λ i. record { state = (ap core_state_meant (get_or-set_same cs v r TheVariants.Idle h) ∙ w.state) i; exits = get_or ex v false; blocks = get_or bl v false; yields = get_or yi v false; progressed = mark-cleared pr v w.mark i }

    cores : firsts (core_at (set cs v r) ex bl yi pr') n ≡ update v (dispatch k.cost (get_or q at 0)) (firsts (core_at cs ex bl yi pr) n)
    cores = firsts-update (dispatch k.cost (get_or q at 0)) (core_at cs ex bl yi pr) (core_at (set cs v r) ex bl yi pr') v n l here (preempted-others cs ex bl yi pr pr' v r w.mark)

---- rounds as the loop has them: i are done

module _ (k : Rules) (n : ℕ) (whole : Pass) where
  pub rounds-start : preempt_rounds k (n - 0) whole ≡ preempt_rounds k n whole
  rounds-start = ap (λ (m : ℕ). preempt_rounds k m whole) (omega arith)

  module _ (g : ℕ → Core) (q : List ℕ) (m : List Move) (i : ℕ) (inv : preempt_rounds k (n - i) (pass_of n g q m) ≡ preempt_rounds k n whole) where
    next-is : (o : Option Preemption) → preemption_of k.prio (most_urgent k.prio q) (least_urgent k.prio 0 (firsts g n)) ≡ o → next_preemption k (pass_of n g q m) ≡ o
    unfolding next_preemption pass_of
    next-is o e = e

    pub rounds-rest : preemption_of k.prio (most_urgent k.prio q) (least_urgent k.prio 0 (firsts g n)) ≡ none → pass_of n g q m ≡ preempt_rounds k n whole
    rounds-rest e = sym (rounds-none k (pass_of n g q m) (n - i) (next-is none e)) ∙ inv

    pub rounds-end : n ≤ i → pass_of n g q m ≡ preempt_rounds k n whole
    unfolding preempt_rounds
    rounds-end l =
        let z : n - i ≡ 0 = omega arith in
        rw z at inv

    pub rounds-go :
        i < n → (w : Preemption) → preemption_of k.prio (most_urgent k.prio q) (least_urgent k.prio 0 (firsts g n)) ≡ some w → (p' : Pass)
        → p' ≡ preempted k Preempt w.victim w.best (pass_of n g q m) → preempt_rounds k (n - (i + 1)) p' ≡ preempt_rounds k n whole
    rounds-go l w e p' ep =
        rw ep (sym (rounds-some k (pass_of n g q m) (n - i) (n - (i + 1)) w (omega arith) (next-is (some w) e)) ∙ inv)

pub below : (q : List ℕ) (n k : ℕ) → k < length (take n q) → k < n
below q n k = simp length-take (λ h. omega arith)

pub phase6-is : (k : Rules) (p : Policy) → p ≡ Priority → (n : ℕ) (g : ℕ → Core) (q : List ℕ) (m : List Move) → preempt_rounds k n (pass_of n g q m) ≡ phase6 p k (pass_of n g q m)
unfolding phase6 pass_of
phase6-is k p e n g q m = rw (e, firsts-length g n)

-- after n rounds it has come to rest
pub rounds-settled : (k : Rules) (n : ℕ) (g : ℕ → Core) (q : List ℕ) (m : List Move) (p : Pass) → p ≡ preempt_rounds k n (pass_of n g q m) → next_preemption k p ≡ none
unfolding pass_of
rounds-settled k n g q m p e = rw e (rw (firsts-length g n) at (Preempt.preempt_rounds-rest k (record { cores = firsts g n; queue = q; moves = m })))
