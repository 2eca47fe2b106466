-- Deciding a tick end on a board of one core: what `decide_core` leaves of it is what the phases leave of the board.
use Prim.Native.Nat.{ℕ, ◌≤◌}
use mathlib.Core.Path.{◌≡◌, ap, subst}
use mathlib.Core.Bool.{true, false, not, ◌&&◌}
use mathlib.Core.List.{List, ◌∷◌}
use native.Mathlib.Omega.{arith}
use borrow.Author.Tests.{eqb-true}
use lib.Dec.{eqb}
use lib.ListN.{drop}
use Rattle.model.specs.declared.CoreState as Program
use Rattle.model.specs.Types.{Policy, Priority, Move}
use Rattle.model.specs.Phases.{Rules, decide}
use Rattle.model.proofs.PhaseLaws.{and_l, and_r}
use Rattle.turns.specs.declared.Marks.{Marks}
use Rattle.phases.specs.Cores.{board, pass_of}
use Rattle.state.specs.declared.CoreWords.{CoreWords}
use Rattle.state.specs.declared.Eight.{Eight}
use Rattle.state.specs.State.{firsts, state_in, states_of}
use Rattle.quiet.specs.Quiet.{is_priority}

-- what `is_single` tests
module _ (n : ℕ) (p : Policy) (e : (eqb n 1 && not (is_priority p)) ≡ true) where
  pub single-core : n ≡ 1
  single-core = eqb-true n 1 (and_l (eqb n 1) (not (is_priority p)) e)

  pub single-policy : p ≡ Priority → ⊥
  single-policy h =
      let k : false ≡ true = subst (λ (x : Policy). not (is_priority x) ≡ true) h (and_r (eqb n 1) (not (is_priority p)) e) in
      let z : ◌≡◌ {A = ℕ} 0 1 = cc in
      omega arith

-- another first core: what was decided of it beside any others was decided of it beside these
module _ (e : Eight) (w : CoreWords) (x : Program.CoreState) (h : state_in w ≡ x) (mo mk : Marks) (n : ℕ) (one : n ≡ 1) where
  abbrev others : List Program.CoreState
  others = drop 1 (states_of e)

  abbrev left : Eight
  left = record { c0 = w; c1 = e.c1; c2 = e.c2; c3 = e.c3; c4 = e.c4; c5 = e.c5; c6 = e.c6; c7 = e.c7 }

  left-states : states_of left ≡ x ∷ others
  left-states = ap (λ (y : Program.CoreState). y ∷ others) h

  pub one-decided : (k : Rules) (q q' : List ℕ) (ms : List Move) → ((cs : List Program.CoreState) → pass_of 1 (board (x ∷ cs) mk) q' ms ≡ decide k (firsts (board (state_in e.c0 ∷ cs) mo) 1) q)
      → pass_of n (board (states_of left) mk) q' ms ≡ decide k (firsts (board (states_of e) mo) n) q
  one-decided k q q' ms d = rw (one, left-states) (d others)

  pub one-rest : ((cs : List Program.CoreState) (j : ℕ) → 1 ≤ j → board (x ∷ cs) mk j ≡ board (state_in e.c0 ∷ cs) mo j) → (j : ℕ) → n ≤ j → board (states_of left) mk j ≡ board (states_of e) mo j
  one-rest u j l = rw left-states (u others j (omega (arith, one, l)))
