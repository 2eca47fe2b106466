-- What the moves make of the records.
use Prim.Native.Nat.{ℕ}
use mathlib.Core.Path.{◌≡◌, refl, ap, ◌∙◌}
use mathlib.Core.List.{List, [], ◌∷◌}
use Rattle.model.specs.Types.{Move, starts, leaves, takes, Accounts}
use Rattle.model.specs.Phases.{update}
use Rattle.model.specs.Accounting.{logged, apply_move, apply_moves}
use Rattle.record_moves.specs.Moves.{move_tid, moved_thread, moved_threads}

moved-one : (cap_e now : ℕ) (m : Move) (b : Accounts) → (apply_move cap_e now m b).threads ≡ update (move_tid m) (moved_thread now m) b.threads
unfolding apply_move move_tid moved_thread logged
moved-one e now (starts t) b = refl
moved-one e now (leaves t i r) b = refl
moved-one e now (takes t i) b = refl

-- the records after the definition's `apply_moves` are those that the moves make
pub moved-threads : (cap_e now : ℕ) (ms : List Move) (b : Accounts) → (apply_moves cap_e now ms b).threads ≡ moved_threads now ms b.threads
unfolding apply_moves moved_threads
moved-threads e now [] b = refl
moved-threads e now (m ∷ ms) b = moved-threads e now ms (apply_move e now m b) ∙ ap (moved_threads now ms) (moved-one e now m b)
