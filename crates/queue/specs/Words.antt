-- Moves as words in the front of a lent slice, and what a function that writes there leaves as it was.
use Rattle.std.specs.Prelude.{ℕ, zero, suc, ◌+◌, ◌/◌, ◌%◌, ◌≤◌, ◌<◌, ◌≡◌, List, map, length, take, drop}
pub use Rattle.text.specs.Buffers.{StillLent}
use Rattle.model.specs.Types.{Exit, Block, Yield, Quantum, Preempt, Forced, Move, starts, leaves, takes}
use Rattle.model.specs.Reading.{reason_meant}
use Rattle.queue.specs.declared.moves.Move as Program
use Rattle.queue.specs.declared.moves.Move.TheVariants as MoveCases
use Rattle.queue.specs.declared.moves.Moves.{Moves}

-- a word's three parts: what happens, on which core, to which thread
abbrev pub move_of : (code core tid : ℕ) → Move
move_of zero c t = leaves t c Exit
move_of (suc zero) c t = leaves t c Block
move_of (suc (suc zero)) c t = leaves t c Yield
move_of (suc (suc (suc zero))) c t = leaves t c Quantum
move_of (suc (suc (suc (suc zero)))) c t = leaves t c Preempt
move_of (suc (suc (suc (suc (suc zero))))) c t = leaves t c Forced
move_of (suc (suc (suc (suc (suc (suc zero)))))) c t = takes t c
move_of (suc (suc (suc (suc (suc (suc (suc n))))))) c t = starts t

-- a word is (thread * 8 + core) * 8 + code
abbrev pub decode : ℕ → Move
decode w = move_of (w % 8) (w / 8 % 8) (w / 8 / 8 % 4294967296)

-- the moves in the front of a slice
unfoldable pub moves_in : List ℕ → (count : ℕ) → List Move
moves_in out count = map decode (take count out)

-- the moves that a decision has made so far
abbrev pub made : Moves → List Move
made m = moves_in m.words.now m.count

-- a move on one of the eight cores
abbrev pub OnBoard : Move → Type 0
OnBoard (leaves t c r) = c < 8
OnBoard (takes t c) = c < 8
OnBoard (starts t) = Unit {0}

-- a move that was read
abbrev pub move_meant : Program.Move → Move
move_meant (MoveCases.Leaves t c r) = leaves t.0 c.0 (reason_meant r)
move_meant (MoveCases.Takes t c) = takes t.0 c.0
move_meant (MoveCases.Starts t) = starts t.0

---- what lies behind a count in lent memory

abbrev pub Behind : ℕ → (old new : List ℕ) → Type 0
Behind k old new = drop k new ≡ drop k old

-- at most `room` words were appended, and those behind them are as they were
pub record Appended (room count count' : ℕ) (old new : List ℕ) : Type 0 where
  pub more : count ≤ count'
  pub fits : count' ≤ count + room
  pub behind : Behind count' old new

-- a queue that is no longer than it was; the words behind its old length are as they were
pub record NoLonger (len len' : ℕ) (old new : List ℕ) : Type 0 where
  pub fits : len' ≤ len
  pub behind : Behind len old new
