-- A call that is done once one thread record has been changed. The half of a call that works without the records says this of what it leaves; the
-- half that holds the lent slice then only makes the change.
use Rattle.std.specs.Prelude.{ℕ, ◌<◌, List, length, get_or}
use Rattle.model.specs.declared.ThreadInfo.{ThreadInfo}
use Rattle.model.specs.Phases.{update}
use Rattle.model.specs.Calls.{Call, Answer}
use Rattle.model.specs.Reading.{thread_meant}
use Rattle.records.specs.declared.change.Change.{Change}
use Rattle.records.specs.Changes.{change_meant, Fits}
use Rattle.threads.specs.Slice.{blank, threads_in, Front}
use Rattle.state.specs.declared.Sched.{Sched}
use Rattle.state.specs.Memory.{memory}
use Rattle.state.specs.Done.{Done}

pub record Pending (c : Call) (a : Answer) (s s' : Sched) (place : ℕ) (change : Change) (ts : List ThreadInfo) (qs qs' ps ps' ls ls' ws ws' : List ℕ) : Type 0 where
  pub there : place < length ts
  pub fits : Fits change (thread_meant (get_or ts place blank))
  pub done : (ts' : List ThreadInfo) → ((n : ℕ) → place < n → Front n (update place (change_meant change) (threads_in ts n)) ts ts') → Done c a s s' (memory ts qs ps ls ws) (memory ts' qs' ps' ls' ws')
