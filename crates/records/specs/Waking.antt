-- Waking the threads that wait for one that exits.
use Rattle.std.specs.Prelude.{ℕ, ◌+◌, ◌≡◌, cond, List, [], ◌∷◌, ◌++◌, length, take, drop}
use Rattle.model.specs.Types.{ThreadState, Ready, ThreadRecord}
use Rattle.model.specs.Accounting.{set_state}
use Rattle.model.specs.Calls.{blocked_on}

-- 01: "`exit` .. wakes its waiters in thread order to the back of the queue."
-- One record's part of it: what it becomes, and what it adds to the queue.
abbrev pub woken_state : (on : ℕ) → ThreadState → ThreadState
woken_state on s = cond (blocked_on on s) Ready s

unfoldable pub woken_by : (on : ℕ) → ThreadRecord → ThreadRecord
woken_by on t = set_state (woken_state on t.state) t

unfoldable pub waiter_at : (on i : ℕ) → ThreadRecord → List ℕ
waiter_at on i t = cond (blocked_on on t.state) (i ∷ []) []

-- words added behind the first len of a slice; what stands behind them is as it was
pub record Pushed (words : List ℕ) (len : ℕ) (before : List ℕ) (len' : ℕ) (after : List ℕ) : Type 0 where
  pub count : len' ≡ len + length words
  pub front : take len' after ≡ take len before ++ words
  pub rest : drop len' after ≡ drop len' before
