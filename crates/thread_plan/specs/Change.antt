-- A state with some of its fields changed.
use Rattle.std.specs.Prelude.{ℕ, Bool, List}
use Rattle.rings.specs.declared.RingPos.{RingPos}
use Rattle.state.specs.declared.Sched.{Sched}

-- how many threads there are, how many of them wait, and the log's position
abbrev pub with_counts : (threads queued : ℕ) → RingPos → Sched → Sched
with_counts n q p s = record s { threads = n; queued = q; log = p }

abbrev pub with_log : RingPos → Sched → Sched
with_log p s = with_counts s.threads s.queued p s

-- the block marks and the yield marks
abbrev pub with_marks : (blocks yields : List Bool) → Sched → Sched
with_marks b y s = record s { marks = record s.marks { blocks = b; yields = y } }
