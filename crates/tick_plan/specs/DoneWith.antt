-- What a call with a switch list promises: what every call does, and the list beside its answer entry by entry.
use Rattle.model.specs.Calls.{Call, Answer}
use Rattle.switches.specs.declared.SwitchList.{SwitchList}
use Rattle.switches.specs.Entries.{ListFor}
use Rattle.state.specs.declared.Sched.{Sched}
use Rattle.state.specs.Memory.{Memory}
use Rattle.state.specs.Done.{Done}

-- The answer a is the definition's, and so the list l is determined: its count is the length of the definition's list, 0 on a refusal and on an answer without a list, and behind it stand blank entries.
pub record DoneWith (call : Call) (a : Answer) (l : SwitchList) (s s' : Sched) (m m' : Memory) : Type 0 where
  pub done : Done call a s s' m m'
  pub list : ListFor a l
