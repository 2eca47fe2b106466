-- Moves as words, and what they do to thread records.
use Rattle.std.specs.Prelude.{ℕ, ◌+◌, ◌<◌, ◌^◌, List, [], ◌∷◌}
pub use Rattle.queue.specs.Words.{move_of, decode}
unfoldable pub use Rattle.queue.specs.Words.{moves_in}
use Rattle.model.specs.Types.{Move, starts, leaves, takes, ThreadRecord}
use Rattle.model.specs.Phases.{update}
use Rattle.model.specs.Accounting.{started, record_leave, record_dispatch}

unfoldable pub move_tid : Move → ℕ
move_tid (starts t) = t
move_tid (leaves t i r) = t
move_tid (takes t i) = t

-- what the definition's `apply_move` does to the record of the move's thread
unfoldable pub moved_thread : (now : ℕ) → Move → ThreadRecord → ThreadRecord
moved_thread now (starts t) h = started now h
moved_thread now (leaves t i r) h = record_leave now i r h
moved_thread now (takes t i) h = record_dispatch now i h

-- what the definition's `apply_moves` does to the records (proofs/Moving)
unfoldable pub moved_threads : (now : ℕ) → List Move → List ThreadRecord → List ThreadRecord
moved_threads now [] ts = ts
moved_threads now (m ∷ ms) ts = moved_threads now ms (update (move_tid m) (moved_thread now m) ts)

-- the counters that a move may add to have room for k more
pub record MoveRoom (k : ℕ) (t : ThreadRecord) : Type 0 where
  pub dispatches : t.counts.dispatches + k < 2 ^ 64
  pub preemptions : t.counts.preemptions + k < 2 ^ 64
