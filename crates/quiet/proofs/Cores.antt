-- All cores: the tests of eight cores are the test of those that are used, and what a quiet state says of each.
use Prim.Native.Nat.{ℕ, zero, suc, ◌<◌, ◌≤◌}
use mathlib.Core.Path.{◌≡◌, refl, sym, ◌∙◌}
use mathlib.Core.Bool.{Bool, true, false, not, ◌||◌}
use mathlib.Core.List.{List}
use native.Mathlib.Numerals.{add-one}
use native.Mathlib.Omega.{arith}
use borrow.Author.Tests.{lt-leb, leb-true, leb-false, not-true, not-false}
use borrow.Author.Count.{below_none, below_more}
use lib.Dec.{leb}
use lib.ListN.{get_or, get_or-eq_default}
use Rattle.settings.specs.Reading.{policy_meant}
use Rattle.model.specs.Invariants.{All}
use Rattle.model.specs.Types.{Core, Idle}
use Rattle.model.specs.Phases.{is_preemptive, decide}
use Rattle.model.specs.Calls.{sliced_all}
use Rattle.model.specs.Reading.{core_state_meant}
use Rattle.model.proofs.PhaseLaws.{and_l, and_r, other, or-false-l, or-false-r, not-both}
use Rattle.model.specs.declared.CoreState.TheVariants as CoreStateCases
use Rattle.model.proofs.Bounded.{all_snoc}
use Rattle.turns.specs.Turns.{rules_of}
use Rattle.state.specs.declared.CoreWords.{CoreWords}
use Rattle.state.specs.declared.Eight.{Eight}
use Rattle.state.specs.declared.Sched.{Sched}
use Rattle.state.specs.State.{firsts, core_from, board_of, state_in, states_of}
use Rattle.quiet.specs.Quiet.{calm_in, calm, is_priority, each_below, calm_at, is_quiet, sliced_below, state_at, Roomy}
use Rattle.quiet.proofs.Resting.{still, decide-calm}
use Rattle.quiet.proofs.Words.{calm-held, kept}

---- a test of the first n numbers

module _ (g : ℕ → Bool) where
  pub each-true : (n : ℕ) → ((j : ℕ) → j < n → g j ≡ true) → each_below g n ≡ true
  unfolding each_below
  each-true zero h = refl
  each-true (suc n) h = rw (each-true n (λ j l. h j (omega arith)), h n (omega arith))

  pub each_at : (n : ℕ) → each_below g n ≡ true → (j : ℕ) → j < n → g j ≡ true
  unfolding each_below
  each_at zero h = below_none (λ i. g i ≡ true)
  each_at (suc n) h = λ j l. below_more (λ i. g i ≡ true) n (each_at n (and_l (each_below g n) (g n) h)) (and_r (each_below g n) (g n) h) j (rw add-one l)

  pub each-not : (n j : ℕ) → j < n → g j ≡ false → each_below g n ≡ false
  each-not n j l h = go (each_below g n) refl
    where
      go : (b : Bool) → each_below g n ≡ b → b ≡ false
      go true e = absurd (not-both (g j) (each_at n e j l) h)
      go false e = refl

---- the ladder of tests

module _ (s : Sched) (rr : Bool) (q : ℕ) where
  -- what is tested of core j
  abbrev pub test_at : ℕ → Bool
  test_at j = leb s.cores j || calm_in rr q (get_or s.marks.exits j false) (get_or s.marks.blocks j false) (get_or s.marks.yields j false) (get_or s.marks.progressed j false) (state_at s.states j)

  test-calm : (j : ℕ) → (leb s.cores j || calm_at s rr q j) ≡ test_at j
  unfolding calm core_from
  test-calm j = refl

  -- one test fails
  pub calm-not : (j : ℕ) (r : Bool) → r ≡ test_at j → r ≡ false → false ≡ each_below (calm_at s rr q) s.cores
  calm-not j r e h =
      let f : leb s.cores j || calm_at s rr q j ≡ false = test-calm j ∙ sym e ∙ h in
      sym (each-not (calm_at s rr q) s.cores j (leb-false s.cores j (or-false-l _ (calm_at s rr q j) f)) (or-false-r (leb s.cores j) _ f))

  pub calm_pass : (j : ℕ) (r : Bool) → r ≡ test_at j → not r ≡ false → test_at j ≡ true
  calm_pass j r e h = sym e ∙ not-false r h

  calm-all : ((j : ℕ) → j < s.cores → test_at j ≡ true) → true ≡ each_below (calm_at s rr q) s.cores
  calm-all f = sym (each-true (calm_at s rr q) s.cores (λ j k. other _ _ (test-calm j ∙ f j k) (lt-leb s.cores j k)))

  -- there is one core, and it passes
  pub calm-one : s.cores ≡ 1 → test_at 0 ≡ true → true ≡ each_below (calm_at s rr q) s.cores
  calm-one h t = calm-all (λ j k. below_more (λ i. test_at i ≡ true) 0 (below_none (λ i. test_at i ≡ true)) t j (omega (arith, h, k)))

  -- all but the last pass
  pub calm-last : s.cores ≤ 8 → ((j : ℕ) → j < 7 → test_at j ≡ true) → (r : Bool) → r ≡ test_at 7 → r ≡ each_below (calm_at s rr q) s.cores
  calm-last l f r e = go r refl
    where
      go : (b : Bool) → r ≡ b → b ≡ each_below (calm_at s rr q) s.cores
      go false h = calm-not 7 r e h
      go true h =
          let all : (j : ℕ) → j < 8 → test_at j ≡ true = below_more (λ j. test_at j ≡ true) 7 f (sym e ∙ h) in
          calm-all (λ j k. all j (omega arith))

module _ (s : Sched) (p : Bool) (ep : p ≡ is_priority (policy_meant s.config.policy)) where
  pub quiet-priority : p ≡ true → false ≡ is_quiet s
  unfolding is_quiet
  quiet-priority h = rw (sym ep ∙ h)

  pub quiet-others : p ≡ false → (rr r : Bool) → rr ≡ is_preemptive (policy_meant s.config.policy) → r ≡ each_below (calm_at s rr s.config.quantum) s.cores → r ≡ is_quiet s
  unfolding is_quiet
  quiet-others h rr r er e = rw (sym ep ∙ h, ← er) e

-- seven facts as one
pub seven : (P : ℕ → Type 0) → P 0 → P 1 → P 2 → P 3 → P 4 → P 5 → P 6 → (j : ℕ) → j < 7 → P j
seven P a b c d e f g = below_more P 6 (below_more P 5 (below_more P 4 (below_more P 3 (below_more P 2 (below_more P 1 (below_more P 0 (below_none P) a) b) c) d) e) f) g

---- a quiet state

pub quiet_calm : (s : Sched) → is_quiet s ≡ true → (j : ℕ) → j < s.cores → calm_at s (is_preemptive (policy_meant s.config.policy)) s.config.quantum j ≡ true
unfolding is_quiet
quiet_calm s h = each_at (calm_at s (is_preemptive (policy_meant s.config.policy)) s.config.quantum) s.cores (and_r (not (is_priority (policy_meant s.config.policy))) _ h)

pub quiet-policy : (s : Sched) → is_quiet s ≡ true → is_priority (policy_meant s.config.policy) ≡ false
unfolding is_quiet
quiet-policy s h = not-true _ (and_l _ (each_below (calm_at s (is_preemptive (policy_meant s.config.policy)) s.config.quantum) s.cores) h)

pub states-sliced :
    (e e' : Eight) (n : ℕ) → n ≤ 8 → ((j : ℕ) → j < 7 → state_at e' j ≡ sliced_below n j (state_at e j)) → state_at e' 7 ≡ sliced_below n 7 (state_at e 7)
    → (j : ℕ) → state_at e' j ≡ sliced_below n j (state_at e j)
states-sliced e e' n l f g j = go (leb 8 j) refl
  where
    go : (b : Bool) → leb 8 j ≡ b → state_at e' j ≡ sliced_below n j (state_at e j)
    go false h = below_more (λ i. state_at e' i ≡ sliced_below n i (state_at e i)) 7 f g j (leb-false 8 j h)
    go true h =
        let k : 8 ≤ j = leb-true 8 j h in
        rw (get_or-eq_default (states_of e') CoreStateCases.Idle k, get_or-eq_default (states_of e) CoreStateCases.Idle k) (kept n j Idle (omega arith))

-- of one core, the words of the others stay
pub states-one :
    (e : Eight) (w : CoreWords) (n : ℕ) → n ≡ 1 → core_state_meant (state_in w) ≡ sliced_below n 0 (state_at e 0)
    → (j : ℕ) → state_at (record { c0 = w; c1 = e.c1; c2 = e.c2; c3 = e.c3; c4 = e.c4; c5 = e.c5; c6 = e.c6; c7 = e.c7 }) j ≡ sliced_below n j (state_at e j)
states-one e w n h f zero = f
states-one e w n h f (suc j) = kept n (suc j) _ (omega (arith, h))

-- what a slice's growth asks of core j's words
module _ (s : Sched) (h : is_quiet s ≡ true) (r : Roomy s) where
  abbrev Growing : CoreWords → ℕ → Type 0
  Growing w j = j < s.cores → (2 ≤ w.kind) × (w.count < 4294967295)

  pub growing : (w : CoreWords) (j : ℕ) → get_or (states_of s.states) j CoreStateCases.Idle ≡ state_in w → Growing w j
  unfolding calm core_from
  growing w j e l =
      calm-held w.kind w.tid w.count (is_preemptive (policy_meant s.config.policy)) s.config.quantum (board_of s j).exits (board_of s j).blocks (board_of s j).yields (board_of s j).progressed (rw e at (quiet_calm s h j l)) (rw e at (r j l))

---- the phases of a quiet state

all_firsts : {A : Type 0} (P : A → Type 0) (g : ℕ → A) (n : ℕ) → ((j : ℕ) → j < n → P (g j)) → All P (firsts g n)
unfolding firsts
all_firsts P g zero h = tt
all_firsts P g (suc n) h = all_snoc P (firsts g n) (g n) (all_firsts P g n (λ j l. h j (omega arith))) (h n (omega arith))

abbrev pub cores_of : Sched → List Core
cores_of s = firsts (board_of s) s.cores

pub decide-quiet :
    (s : Sched) → is_quiet s ≡ true → (ps q : List ℕ) → decide (rules_of s.config.policy s.config.quantum s.config.switch_cost ps) (cores_of s) q ≡ still (sliced_all (cores_of s)) q
decide-quiet s h ps q =
    decide-calm (rules_of s.config.policy s.config.quantum s.config.switch_cost ps) (cores_of s) q (quiet-policy s h)
    (all_firsts (λ (c : Core). calm (is_preemptive (policy_meant s.config.policy)) s.config.quantum c ≡ true) (board_of s) s.cores (quiet_calm s h))
