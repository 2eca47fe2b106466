-- The cores as the program has them, states and marks in arrays of eight, and a phase over the first n of them.
use Rattle.std.specs.Prelude.{ℕ, zero, suc, ◌≤◌, ◌≡◌, Bool, false, List, [], ◌∷◌, ◌++◌, get_or}
use Rattle.model.specs.Types.{Core, Move}
use Rattle.model.specs.Phases.{Pass, Phase, and_then}
use Rattle.model.specs.declared.CoreState as Program
use Rattle.model.specs.declared.CoreState.TheVariants
use Rattle.turns.specs.Turns.{core_of}
use Rattle.turns.specs.declared.Marks.{Marks}

-- the first n values of a function, in order
unfoldable pub firsts {ℓ} : {A : Type ℓ} → (ℕ → A) → ℕ → List A
firsts g zero = []
firsts g (suc n) = firsts g n ++ (g n ∷ [])

-- core i, from the arrays
unfoldable pub core_at : List Program.CoreState → (exits blocks yields progressed : List Bool) → ℕ → Core
core_at cs ex bl yi pr i = core_of (get_or cs i TheVariants.Idle) (get_or ex i false) (get_or bl i false) (get_or yi i false) (get_or pr i false)

abbrev pub board : List Program.CoreState → Marks → ℕ → Core
board cs m = core_at cs m.exits m.blocks m.yields m.progressed

-- all that a phase sees and changes: n cores, the queue, the moves so far
unfoldable pub pass_of : ℕ → (ℕ → Core) → List ℕ → List Move → Pass
pass_of n g q m = record { cores = firsts g n; queue = q; moves = m }

-- a phase over the first n cores: what they, the queue and the moves become; the cores behind them, with their marks, stay as they are
pub record Ran (f : Phase) (n : ℕ) (g : ℕ → Core) (q : List ℕ) (m : List Move) (g' : ℕ → Core) (q' : List ℕ) (m' : List Move) : Type 0 where
  pub done : pass_of n g' q' m' ≡ and_then (pass_of n g q m) f
  pub rest : (j : ℕ) → n ≤ j → g' j ≡ g j
