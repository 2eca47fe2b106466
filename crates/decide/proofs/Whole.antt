-- The six phases one after the other.
-- Assumes nothing.
use Prim.Native.Nat.{ℕ}
use mathlib.Core.Path.{◌≡◌}
use mathlib.Core.List.{List, []}
use Rattle.model.specs.Types.{Core, Move}
use Rattle.model.specs.Phases.{Rules, Pass, and_then, phase1, phase2, phase3, phase4, phase5, phase6, phases1_to4, decide}
use Rattle.phases.specs.Cores.{firsts, pass_of}

pub all-six :
    (k : Rules) (n : ℕ) (g : ℕ → Core) (q : List ℕ) (m : List Move) (p1 p2 p3 p4 p5 p6 : Pass) → m ≡ []
    → p1 ≡ and_then (pass_of n g q m) phase1 → p2 ≡ and_then p1 phase2 → p3 ≡ and_then p2 phase3 → p4 ≡ and_then p3 (phase4 k) → p5 ≡ and_then p4 (phase5 k) → p6 ≡ phase6 k.policy k p5
    → p6 ≡ decide k (firsts g n) q
unfolding decide phases1_to4 and_then pass_of
all-six k n g q m p1 p2 p3 p4 p5 p6 em e1 e2 e3 e4 e5 e6 = rw (e6, e5, e4, e3, e2, e1, em)
