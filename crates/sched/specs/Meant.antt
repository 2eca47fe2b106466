-- Which call of the definition a call stands for, and which answer an outcome with its switch list.
use Rattle.std.specs.Prelude.{Result, Ok, Err}
use Rattle.settings.specs.declared.Refusal.{Refusal}
use Rattle.settings.specs.Reading.{refusal_number}
use Rattle.model.specs.Calls as Calls
use Rattle.model.specs.Reading.{option_tid_meant, join_meant, switches_meant}
use Rattle.switches.specs.declared.SwitchList.{SwitchList}
use Rattle.sched.specs.declared.Call.{Call}
use Rattle.sched.specs.declared.Call.TheVariants as CallCases
use Rattle.sched.specs.declared.Outcome.{Outcome}
use Rattle.sched.specs.declared.Outcome.TheVariants as OutcomeCases

abbrev pub call_meant : Call → Calls.Call
call_meant (CallCases.Spawn p e) = Calls.spawn (option_tid_meant p) e
call_meant (CallCases.Exit c) = Calls.exit c.0
call_meant (CallCases.Join c t) = Calls.join c.0 t.0
call_meant (CallCases.Retired c) = Calls.retired c.0
call_meant (CallCases.YieldNow c) = Calls.yield c.0
call_meant (CallCases.SetPriority t n) = Calls.priority t.0 n
call_meant (CallCases.SetTiming q w) = Calls.timing q w
call_meant (CallCases.ForceSwitch c n) = Calls.force c.0 (option_tid_meant n)
call_meant CallCases.EndTick = Calls.tick
call_meant (CallCases.Close c) = Calls.close c.0

-- the switch list counts where the outcome says so
abbrev pub outcome_meant : Result Outcome Refusal → SwitchList → Calls.Answer
outcome_meant (Err r) l = Calls.refused (refusal_number r)
outcome_meant (Ok OutcomeCases.Taken) l = Calls.ok
outcome_meant (Ok (OutcomeCases.Spawned t)) l = Calls.spawned t.0
outcome_meant (Ok (OutcomeCases.Joined o)) l = Calls.joined (join_meant o)
outcome_meant (Ok OutcomeCases.Switched) l = Calls.switched (switches_meant l.entries l.count)
