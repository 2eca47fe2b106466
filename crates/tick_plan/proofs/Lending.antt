-- What a call leaves, read off the struct of the slices of words that it lent on.
use Rattle.std.specs.Prelude.{ℕ}
use mathlib.Core.Path.{◌≡◌}
use mathlib.Core.List.{List}
use Rattle.model.specs.Calls.{Call, Answer}
use Rattle.model.specs.declared.ThreadInfo.{ThreadInfo}
use Rattle.switches.specs.declared.SwitchList.{SwitchList}
use Rattle.state.specs.declared.Sched.{Sched}
use Rattle.state.specs.declared.memory.LentWords.{LentWords}
use Rattle.state.specs.Memory.{Memory, memory, held_words}
use Rattle.tick_plan.specs.DoneWith.{DoneWith}

pub done-at : (call : Call) (a : Answer) (l : SwitchList) (s s' : Sched) (m : Memory) (ts : List ThreadInfo) (w : LentWords) (qs ps ls ws : List ℕ)
    → qs ≡ w.queue.now → ps ≡ w.prios.now → ls ≡ w.log.now → ws ≡ w.lanes.now
    → DoneWith call a l s s' m (held_words ts w) → DoneWith call a l s s' m (memory ts qs ps ls ws)
done-at call a l s s' m ts w qs ps ls ws q p o v d = rw (q, p, o, v) d
