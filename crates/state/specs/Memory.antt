-- The lent memory as one value: what the five slices hold, which a host lends "always in this order".
--     memory           of five lists.        held             of the program's struct of five slices
--     Unchanged m m'   nothing was written
use Rattle.std.specs.Prelude.{ℕ, ◌≡◌, List}
use Rattle.model.specs.declared.ThreadInfo.{ThreadInfo}
use Rattle.text.specs.Buffers.{StillLent}
use Rattle.state.specs.declared.memory.LentMemory.{LentMemory}
use Rattle.state.specs.declared.memory.LentWords.{LentWords}

pub record Memory : Type 0 where
  -- "The thread records are a lent slice of records, in thread order."
  pub threads : List ThreadInfo
  -- the queue, front first
  pub queue : List ℕ
  -- the priorities, in thread order
  pub prios : List ℕ
  -- the log's events and the timelines' segments, in words
  pub log : List ℕ
  pub lanes : List ℕ

abbrev pub memory : List ThreadInfo → (queue prios log lanes : List ℕ) → Memory
memory ts qs ps ls ws = record { threads = ts; queue = qs; prios = ps; log = ls; lanes = ws }

-- what the program's struct of the five slices holds
abbrev pub held : LentMemory → Memory
held m = memory m.threads.now m.queue.now m.prios.now m.log.now m.lanes.now

-- still the same five loans
pub record SameLoans (old new : LentMemory) : Type 0 where
  pub threads : StillLent old.threads new.threads
  pub queue : StillLent old.queue new.queue
  pub prios : StillLent old.prios new.prios
  pub log : StillLent old.log new.log
  pub lanes : StillLent old.lanes new.lanes

-- the records, and what the program's struct of the four slices of words holds
abbrev pub held_words : List ThreadInfo → LentWords → Memory
held_words ts w = memory ts w.queue.now w.prios.now w.log.now w.lanes.now

-- still the same loans, and the same priorities
pub record SameWords (old new : LentWords) : Type 0 where
  pub queue : StillLent old.queue new.queue
  pub prios : new.prios.now ≡ old.prios.now
  pub log : StillLent old.log new.log
  pub lanes : StillLent old.lanes new.lanes

abbrev pub Unchanged : Memory → Memory → Type 0
Unchanged m m' = (m'.threads ≡ m.threads) × (m'.queue ≡ m.queue) × (m'.prios ≡ m.prios) × (m'.log ≡ m.log) × (m'.lanes ≡ m.lanes)
