-- One core in words: whether it keeps its thread, and one tick further.
use Prim.Native.Nat.{ℕ, zero, suc, ◌+◌, ◌<◌, ◌≤◌}
use mathlib.Core.Path.{◌≡◌, refl, ap}
use mathlib.Core.Bool.{Bool, true, false, not, ◌&&◌, ◌||◌}
use native.Mathlib.Numerals.{add-one}
use native.Mathlib.Omega.{arith}
use lib.Dec.{leb, ltb}
use borrow.Author.Tests.{lt-ltb, le-ltb, le-leb, lt-leb, leb-true, leb-false}
use Rattle.model.specs.Types.{CoreState, Running}
use Rattle.model.specs.Phases.{sliced}
use Rattle.model.specs.Reading.{core_state_meant}
use Rattle.model.proofs.PhaseLaws.{not-both}
use Rattle.turns.specs.Turns.{Short}
use Rattle.state.specs.declared.CoreWords.{CoreWords}
use Rattle.state.specs.State.{state_from, words_of}
use Rattle.quiet.specs.Quiet.{calm_in, sliced_below}

pub running : (k t u : ℕ) → 2 ≤ k → core_state_meant (state_from k t u) ≡ Running t u
running zero t u h = absurd (omega arith)
running (suc zero) t u h = absurd (omega arith)
running (suc (suc k)) t u h = refl

module _ (n i k t u : ℕ) (pe : Bool) (q : ℕ) (e b y p : Bool) where
  abbrev keeps : CoreState → Bool
  keeps x = leb n i || calm_in pe q e b y p x

  abbrev pub test : Bool
  test = keeps (core_state_meant (state_from k t u))

  pub unused : n ≤ i → true ≡ test
  unused h = rw (le-leb n i h)

  module _ (l : i < n) where
    pub not-held : k < 2 → false ≡ test
    not-held h = rw (lt-leb n i l) (go k h)
      where
        go : (k : ℕ) → k < 2 → false ≡ calm_in pe q e b y p (core_state_meant (state_from k t u))
        go zero h = refl
        go (suc zero) h = refl
        go (suc (suc k)) h = absurd (omega arith)

    -- a core that runs a thread
    pub held : 2 ≤ k → (r : Bool) → r ≡ (not (e || (b || y)) && not (pe && (leb q (suc u) && p))) → r ≡ test
    held h r z = rw (lt-leb n i l, running k t u h) z

-- without its progressed mark a core has its slice for longer
pub unspent : (b : Bool) → true ≡ not (b && false)
unspent true = refl
unspent false = refl

-- the slice after this tick
pub short-of : (u q : ℕ) → ltb (u + 1) q ≡ not (leb q (suc u) && true)
short-of u q = rw (add-one u) (go (leb q (suc u)) refl)
  where
    go : (b : Bool) → leb q (suc u) ≡ b → ltb (suc u) q ≡ not (b && true)
    go true h = le-ltb (suc u) q (leb-true q (suc u) h)
    go false h = lt-ltb (suc u) q (leb-false q (suc u) h)

---- one tick further

pub kept : (n i : ℕ) (x : CoreState) → n ≤ i → x ≡ sliced_below n i x
kept n i x h = rw (le-leb n i h)

pub further : (n i k t u : ℕ) → i < n → 2 ≤ k → core_state_meant (state_from k t (u + 1)) ≡ sliced_below n i (core_state_meant (state_from k t u))
unfolding sliced
further n i k t u l h = rw (lt-leb n i l, running k t u h, running k t (u + 1) h, add-one u)

-- a core that keeps its thread runs one
pub calm-held : (k t u : ℕ) (pe : Bool) (q : ℕ) (e b y p : Bool) → calm_in pe q e b y p (core_state_meant (state_from k t u)) ≡ true → Short (core_state_meant (state_from k t u)) → (2 ≤ k) × (u < 4294967295)
calm-held zero t u pe q e b y p h s = absurd (not-both false h refl)
calm-held (suc zero) t u pe q e b y p h s = absurd (not-both false h refl)
calm-held (suc (suc k)) t u pe q e b y p h s = (omega arith, s)

-- words that no other state has stay so with another slice
pub words-further : (k t u v : ℕ) → 2 ≤ k → ◌≡◌ {A = CoreWords} (record { kind = k; tid = t; count = u }) (words_of (state_from k t u))
    → ◌≡◌ {A = CoreWords} (record { kind = k; tid = t; count = v }) (words_of (state_from k t v))
words-further zero t u v l h = absurd (omega arith)
words-further (suc zero) t u v l h = absurd (omega arith)
words-further (suc (suc k)) t u v l h = λ i. record { kind = ap (λ (w : CoreWords). w.kind) h i; tid = t; count = v }
