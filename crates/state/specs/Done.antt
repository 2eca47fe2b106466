-- What every call promises: the state that the struct and the lent memory stand for, and the answer, are the definition's `step`; what a call asks
-- holds again; a refused call changes nothing; memory behind the counts stays as it was.
-- Open is, and nothing else: the words of the lanes that moves are written to (`move_room`); of a ring, which is known by its entries, where each stands, which words say it, and the slots that hold none; the queue's words between a shrunk
-- queue's new length and its old one.
use Rattle.std.specs.Prelude.{ℕ, ◌*◌, ◌≤◌, max, ◌≡◌, drop, get_or}
use Rattle.model.specs.Calls.{Call, Answer, refused, step}
use Rattle.state.specs.declared.Sched.{Sched}
use Rattle.state.specs.Memory.{Memory}
use Rattle.state.specs.State.{meant, Valid, lane_start, no_ticks, no_pos}

-- what no call touches: memory behind the counts and the capacities, and of cores that do not exist the counters and the places of their rings
pub record Frame (s s' : Sched) (m m' : Memory) : Type 0 where
  pub threads : drop s'.threads m'.threads ≡ drop s'.threads m.threads
  pub queue : drop (max s.queued s'.queued) m'.queue ≡ drop (max s.queued s'.queued) m.queue
  pub prios : drop s'.threads m'.prios ≡ drop s'.threads m.prios
  pub log : drop (2 * s.capacities.events) m'.log ≡ drop (2 * s.capacities.events) m.log
  pub lanes : drop (lane_start s.capacities.segments s.cores) m'.lanes ≡ drop (lane_start s.capacities.segments s.cores) m.lanes
  pub ticks : (i : ℕ) → s.cores ≤ i → get_or s'.ticks i no_ticks ≡ get_or s.ticks i no_ticks
  pub places : (i : ℕ) → s.cores ≤ i → get_or s'.lanes i no_pos ≡ get_or s.lanes i no_pos

pub record Same (s s' : Sched) (m m' : Memory) : Type 0 where
  pub sched : s' ≡ s
  pub threads : m'.threads ≡ m.threads
  pub queue : m'.queue ≡ m.queue
  pub prios : m'.prios ≡ m.prios
  pub log : m'.log ≡ m.log
  pub lanes : m'.lanes ≡ m.lanes

pub record Done (call : Call) (a : Answer) (s s' : Sched) (m m' : Memory) : Type 0 where
  pub state : meant s' m' ≡ (step (meant s m) call).state
  pub answer : a ≡ (step (meant s m) call).answer
  pub valid : Valid s' m'
  pub same : (n : ℕ) → a ≡ refused n → Same s s' m m'
  pub frame : Frame s s' m m'
