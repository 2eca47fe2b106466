-- A phase as a loop over the cores: what it has made after i turns. One law for every phase.
-- Assumes nothing.
use Prim.Native.Nat.{ℕ, zero, suc, ◌+◌, ◌≤◌, ◌<◌}
use mathlib.Core.Path.{◌≡◌, refl, sym, ap, ◌∙◌}
use mathlib.Core.Bool.{Bool, false}
use mathlib.Core.List.{List, [], ◌∷◌, ◌++◌, append_assoc, append-nil}
use native.Mathlib.Numerals.{add-one}
use native.Mathlib.Omega.{arith}
use lib.ListN.{length, get_or, set, length-append}
use lib.Seq.{get_or-set_same, get_or-set_other}
use Rattle.model.specs.Types.{Core, Move}
use Rattle.model.specs.Phases.{Turn, Pass, Phase, ascend, and_then, unmoved}
use Rattle.model.specs.Reading.{core_state_meant}
use Rattle.model.specs.declared.CoreState as Program
use Rattle.model.specs.declared.CoreState.TheVariants
use Rattle.model.proofs.LoopLaws.{ascend-snoc}
use Rattle.turns.specs.Turns.{core_of, Turned, Besides}
use Rattle.phases.specs.Cores.{firsts, pass_of, core_at, Ran}

---- the first values of a function

pub firsts-length {ℓ} : {A : Type ℓ} (g : ℕ → A) (n : ℕ) → length (firsts g n) ≡ n
unfolding firsts
firsts-length g zero = refl
firsts-length g (suc n) = length-append (firsts g n) _ ∙ rw (firsts-length g n) (add-one n)

pub firsts_same {ℓ} : {A : Type ℓ} (g h : ℕ → A) (n : ℕ) → ((j : ℕ) → j < n → g j ≡ h j) → firsts g n ≡ firsts h n
unfolding firsts
firsts_same g h zero e = refl
firsts_same g h (suc n) e = λ k. firsts_same g h n (λ j l. e j (omega arith)) k ++ (e n (omega arith) k ∷ [])

---- after i turns

pub loop-start : (f : Phase) (g : ℕ → Core) (q : List ℕ) (m : List Move) → Ran f 0 g q m g q m
unfolding pass_of and_then ascend firsts
loop-start f g q m = record { done = λ k. record { cores = []; queue = q; moves = sym (append-nil m) k }; rest = λ j l. refl }

module _ (f : Phase) (g₀ : ℕ → Core) (q₀ : List ℕ) (m₀ : List Move) (i : ℕ) (g : ℕ → Core) (q : List ℕ) (m : List Move) (s : Ran f i g₀ q₀ m₀ g q m) where
  pub loop-turn : (g' : ℕ → Core) (q' : List ℕ) (m' : List Move) → ((j : ℕ) → (j ≡ i → ⊥) → g' j ≡ g j) → Turned (f i (g i) q) (g' i) q' m m' → Ran f (i + 1) g₀ q₀ m₀ g' q' m'
  unfolding pass_of and_then firsts
  loop-turn g' q' m' keep t =
      rw add-one (record {
        done = whole;
        rest = λ j l. keep j (λ e. omega arith) ∙ s.rest j (omega arith);
      })
    where
      a : Pass
      a = ascend f 0 (firsts g₀ i) q₀

      turn : f i (g i) q ≡ f i (g₀ i) a.queue
      turn = λ k. f i (s.rest i (omega arith) k) (s.done k).queue

      cores : firsts g' i ++ (g' i ∷ []) ≡ a.cores ++ ((f i (g₀ i) a.queue).core ∷ [])
      cores = λ k. (firsts_same g' g i (λ j l. keep j (λ e. omega arith)) ∙ ap (λ (p : Pass). p.cores) s.done) k ++ ((t.core ∙ ap (λ (u : Turn). u.core) turn) k ∷ [])

      queue : q' ≡ (f i (g₀ i) a.queue).queue
      queue = t.queue ∙ ap (λ (u : Turn). u.queue) turn

      moves : m' ≡ m₀ ++ (a.moves ++ (f i (g₀ i) a.queue).moves)
      moves = t.moves ∙ (λ k. (s.done k).moves ++ (turn k).moves) ∙ append_assoc m₀ _ _

      whole : pass_of (suc i) g' q' m' ≡ and_then (pass_of (suc i) g₀ q₀ m₀) f
      whole =
          (λ k. record { cores = cores k; queue = queue k; moves = moves k }) ∙
          sym (ap (λ (p : Pass). record { cores = p.cores; queue = p.queue; moves = m₀ ++ p.moves }) (ascend-snoc f i (firsts g₀ i) (g₀ i) q₀ (sym (firsts-length g₀ i))))

pub loop-end : {f : Phase} {g₀ : ℕ → Core} {q₀ : List ℕ} {m₀ : List Move} {i : ℕ} {g : ℕ → Core} {q : List ℕ} {m : List Move} → Ran f i g₀ q₀ m₀ g q m → (n : ℕ) → i ≤ n → n ≤ i → Ran f n g₀ q₀ m₀ g q m
loop-end {i = i} s n l h =
    let e : n ≡ i = omega arith in
    rw e s

---- the same for core states and marks in arrays

module _
    (f : Phase) (g₀ : ℕ → Core) (q₀ : List ℕ) (m₀ : List Move) (i : ℕ) (cs : List Program.CoreState) (ex bl yi pr : List Bool) (q : List ℕ) (m : List Move)
    (s : Ran f i g₀ q₀ m₀ (core_at cs ex bl yi pr) q m) (h : i < length cs)
  where
    pub core-turn :
        (v : Program.CoreState) (ex' bl' yi' pr' : List Bool) (q' : List ℕ) (m' : List Move) → Besides i ex ex' → Besides i bl bl' → Besides i yi yi' → Besides i pr pr'
        → Turned (f i (core_of (get_or cs i TheVariants.Idle) (get_or ex i false) (get_or bl i false) (get_or yi i false) (get_or pr i false)) q) (core_of v (get_or ex' i false) (get_or bl' i false) (get_or yi' i false) (get_or pr' i false)) q' m m'
        → Ran f (i + 1) g₀ q₀ m₀ (core_at (set cs i v) ex' bl' yi' pr') q' m'
    unfolding core_at
    core-turn v ex' bl' yi' pr' q' m' be bb by bp t =
        loop-turn f g₀ q₀ m₀ i (core_at cs ex bl yi pr) q m s (core_at (set cs i v) ex' bl' yi' pr') q' m'
        (λ j n k. core_of (get_or-set_other cs i j v TheVariants.Idle n k) (be j n k) (bb j n k) (by j n k) (bp j n k))
        (record { core = (λ k. core_of (get_or-set_same cs i v TheVariants.Idle h k) (get_or ex' i false) (get_or bl' i false) (get_or yi' i false) (get_or pr' i false)) ∙ t.core; queue = t.queue; moves = t.moves })

    -- a turn that changes nothing
    pub core-unmoved :
        f i (core_of (get_or cs i TheVariants.Idle) (get_or ex i false) (get_or bl i false) (get_or yi i false) (get_or pr i false)) q
        ≡ unmoved (core_of (get_or cs i TheVariants.Idle) (get_or ex i false) (get_or bl i false) (get_or yi i false) (get_or pr i false)) q
        → Ran f (i + 1) g₀ q₀ m₀ (core_at cs ex bl yi pr) q m
    unfolding core_at
    core-unmoved e =
        loop-turn f g₀ q₀ m₀ i (core_at cs ex bl yi pr) q m s (core_at cs ex bl yi pr) q m (λ j n. refl) (rw e (record { core = refl; queue = refl; moves = sym (append-nil m) }))

-- the cores that have not had their turn
pub rest-core :
    {f : Phase} {q₀ : List ℕ} {m₀ : List Move} {i : ℕ} {q : List ℕ} {m : List Move} (cs₀ cs : List Program.CoreState) (ex bl yi pr : List Bool)
    → Ran f i (core_at cs₀ ex bl yi pr) q₀ m₀ (core_at cs ex bl yi pr) q m → (j : ℕ) → i ≤ j → core_state_meant (get_or cs j TheVariants.Idle) ≡ core_state_meant (get_or cs₀ j TheVariants.Idle)
unfolding core_at
rest-core cs₀ cs ex bl yi pr s j l = ap (λ (c : Core). c.state) (s.rest j l)
