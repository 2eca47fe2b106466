-- A core state by its three words, and eight of them.
use Prim.Native.Nat.{ℕ, zero, suc}
use mathlib.Core.Path.{◌≡◌, refl, sym, ap, ◌∙◌}
use mathlib.Core.List.{List, [], ◌∷◌}
use Rattle.model.specs.declared.CoreState as Program
use Rattle.model.specs.declared.CoreState.TheVariants as CoreStateCases
use Rattle.state.specs.declared.CoreWords.{CoreWords}
use Rattle.state.specs.declared.Eight.{Eight}
use Rattle.state.specs.State.{state_from, state_in, states_of, words_of, packed}

pub switching-from : (k t n : ℕ) → k ≡ 1 → CoreStateCases.Switching (record { 0 = t }) n ≡ state_from k t n
switching-from k t n e = sym (ap (λ (j : ℕ). state_from j t n) e)

pub running-from : (k t n : ℕ) → (k ≡ 0 → ⊥) → (k ≡ 1 → ⊥) → CoreStateCases.Running (record { 0 = t }) n ≡ state_from k t n
running-from zero t n a b = absurd (a refl)
running-from (suc zero) t n a b = absurd (b refl)
running-from (suc (suc k)) t n a b = refl

-- the words of a state stand for it
pub words-state : (s : Program.CoreState) → state_in (words_of s) ≡ s
words-state CoreStateCases.Idle = refl
words-state (CoreStateCases.Switching t n) = refl
words-state (CoreStateCases.Running t n) = refl

-- and so do words that are equal to them
pub words-in : (w : CoreWords) (s : Program.CoreState) → w ≡ words_of s → state_in w ≡ s
words-in w s e = ap state_in e ∙ words-state s

-- another first core
pub first-packed : (e : Eight) (w : CoreWords) (s : Program.CoreState) → w ≡ words_of s → e ≡ packed (states_of e)
    → (let r : Eight = record { c0 = w; c1 = e.c1; c2 = e.c2; c3 = e.c3; c4 = e.c4; c5 = e.c5; c6 = e.c6; c7 = e.c7 } in r ≡ packed (states_of r))
first-packed e w s f h = λ i. record {
  c0 = (f ∙ ap words_of (sym (words-in w s f))) i;
  c1 = ap (λ (x : Eight). x.c1) h i;
  c2 = ap (λ (x : Eight). x.c2) h i;
  c3 = ap (λ (x : Eight). x.c3) h i;
  c4 = ap (λ (x : Eight). x.c4) h i;
  c5 = ap (λ (x : Eight). x.c5) h i;
  c6 = ap (λ (x : Eight). x.c6) h i;
  c7 = ap (λ (x : Eight). x.c7) h i;
}

pub all-eight : {A : Type 0} (x0 x1 x2 x3 x4 x5 x6 x7 y0 y1 y2 y3 y4 y5 y6 y7 : A) → x0 ≡ y0 → x1 ≡ y1 → x2 ≡ y2 → x3 ≡ y3 → x4 ≡ y4 → x5 ≡ y5 → x6 ≡ y6 → x7 ≡ y7
    → ◌≡◌ {A = List A} (x0 ∷ x1 ∷ x2 ∷ x3 ∷ x4 ∷ x5 ∷ x6 ∷ x7 ∷ []) (y0 ∷ y1 ∷ y2 ∷ y3 ∷ y4 ∷ y5 ∷ y6 ∷ y7 ∷ [])
all-eight x0 x1 x2 x3 x4 x5 x6 x7 y0 y1 y2 y3 y4 y5 y6 y7 e0 e1 e2 e3 e4 e5 e6 e7 = rw (e0, e1, e2, e3, e4, e5, e6, e7)
