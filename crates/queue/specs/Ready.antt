-- The ready queue is the front of a lent slice, `take len queue`; a thread in it is named by its place.
use Rattle.std.specs.Prelude.{ℕ, zero, suc, ◌<◌, ◌≡◌, cond, List, [], ◌∷◌, ◌++◌, length, get_or, take, unwrap_or, IfSome}
use Rattle.std.specs.Prelude as Std
use Rattle.std.proofs.Math.Option.{Option, none, some}
use Rattle.std.proofs.Math.ListN.{get_elem?}
use mathlib.Core.List.{head?}
use Rattle.model.specs.Phases.{without}
use Rattle.model.specs.Calls.{elem}
use Rattle.queue.specs.declared.ready.ReadyQueue.{ReadyQueue}

-- the threads that wait, front first
abbrev pub waiting : ReadyQueue → List ℕ
waiting q = take q.len q.words.now

-- priority numbers stand in a slice, by thread number
abbrev pub prio_of : (prios : List ℕ) → ℕ → ℕ
prio_of ps t = get_or ps t 0

-- a list without its entry at k
abbrev pub remove_at : ℕ → List ℕ → List ℕ
remove_at k [] = []
remove_at zero (x ∷ l) = l
remove_at (suc k) (x ∷ l) = x ∷ remove_at k l

-- the entry at `at` is the one to be taken, and stands nowhere before; a place behind the last: nobody is
pub record Picked (who : Option ℕ) (q : List ℕ) (at : ℕ) : Type 0 where
  pub next : who ≡ get_elem? q at
  pub first : at < length q → (s : List ℕ) → without (get_or q at 0) (q ++ s) ≡ remove_at at q ++ s

-- the same as the program answers it: None where nobody is to be taken
pub record Chosen (who : Option ℕ) (q : List ℕ) (at : Std.Option ℕ) : Type 0 where
  pub picked : Picked who q (unwrap_or at (length q))
  pub within : IfSome at (λ k. k < length q)

-- the thread at the front
abbrev pub front : List ℕ → Option ℕ
front q = head? q

-- a thread that is asked for by its number, if it waits
abbrev pub named : ℕ → List ℕ → Option ℕ
named t q = cond (elem t q) (some t) none
