-- A phase over a board of one core: that core's turn.
-- Assumes nothing.
use Prim.Native.Nat.{ℕ}
use mathlib.Core.Bool.{Bool, false}
use mathlib.Core.List.{List, ◌∷◌}
use native.Mathlib.Omega.{arith}
use lib.ListN.{get_or}
use Rattle.model.specs.Types.{Move}
use Rattle.model.specs.Phases.{Phase}
use Rattle.model.specs.declared.CoreState as Program
use Rattle.turns.specs.Turns.{core_of, Turned, Besides}
use Rattle.phases.specs.Cores.{core_at, Ran}
use Rattle.phases.proofs.Loops.{loop-start, core-turn}

pub one-turn :
    (f : Phase) (s : Program.CoreState) (ex bl yi pr : List Bool) (q : List ℕ) (m : List Move) (r : Program.CoreState) (ex' bl' yi' pr' : List Bool) (q' : List ℕ) (m' : List Move)
    → Besides 0 ex ex' → Besides 0 bl bl' → Besides 0 yi yi' → Besides 0 pr pr'
    → Turned (f 0 (core_of s (get_or ex 0 false) (get_or bl 0 false) (get_or yi 0 false) (get_or pr 0 false)) q) (core_of r (get_or ex' 0 false) (get_or bl' 0 false) (get_or yi' 0 false) (get_or pr' 0 false)) q' m m'
    → (cs : List Program.CoreState) → Ran f 1 (core_at (s ∷ cs) ex bl yi pr) q m (core_at (r ∷ cs) ex' bl' yi' pr') q' m'
one-turn f s ex bl yi pr q m r ex' bl' yi' pr' q' m' be bb by bp t cs =
    core-turn f (core_at (s ∷ cs) ex bl yi pr) q m 0 (s ∷ cs) ex bl yi pr q m (loop-start _ _ _ _) (omega arith) r ex' bl' yi' pr' q' m' be bb by bp t
