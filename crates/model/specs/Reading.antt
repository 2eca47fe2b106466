-- Which part of the definition a value of the program's types stands for. Contracts read the program's values through these.
use Rattle.std.specs.Prelude.{ℕ, List, map, take, Some, None, Result, Ok, Err}
use Rattle.std.specs.Prelude as Std
use Rattle.std.proofs.Math.Option.{Option, none, some}
use Rattle.settings.specs.Reading.{policy_meant, refusal_number}
use Rattle.settings.specs.declared.Refusal.{Refusal}
use Rattle.model.specs.declared.Tid.{Tid}
use Rattle.model.specs.declared.CoreId.{CoreId}
use Rattle.model.specs.declared.Tick.{Tick}
use Rattle.model.specs.declared.CoreState as CoreStates
use Rattle.model.specs.declared.CoreState.TheVariants as CoreStateCases
use Rattle.model.specs.declared.CoreTicks as Counters
use Rattle.model.specs.declared.Lane as Lanes
use Rattle.model.specs.declared.Lane.TheVariants as LaneCases
use Rattle.model.specs.declared.Segment as Segments
use Rattle.model.specs.declared.LeaveReason as LeaveReasons
use Rattle.model.specs.declared.LeaveReason.TheVariants as ReasonCases
use Rattle.model.specs.declared.ThreadState as ThreadStates
use Rattle.model.specs.declared.ThreadState.TheVariants as ThreadStateCases
use Rattle.model.specs.declared.LastLeave as LastLeaves
use Rattle.model.specs.declared.ThreadStats.{ThreadStats}
use Rattle.model.specs.declared.ThreadInfo.{ThreadInfo}
use Rattle.model.specs.declared.SchedEventKind.{SchedEventKind}
use Rattle.model.specs.declared.SchedEventKind.TheVariants as EventCases
use Rattle.model.specs.declared.SchedEvent.{SchedEvent}
use Rattle.model.specs.declared.SwitchOut.{SwitchOut}
use Rattle.model.specs.declared.Switch as Switches
use Rattle.model.specs.declared.JoinOutcome as JoinOutcomes
use Rattle.model.specs.declared.JoinOutcome.TheVariants as JoinCases
use Rattle.model.specs.Types.{CoreState, Idle, Switching, Running, LeaveReason, Exit, Block, Yield, Quantum, Preempt, Forced, ThreadState, Ready, Exited, OnCore, Blocked, LastLeave, Last, Times, Counts, ThreadRecord, CoreTicks, Lane, IdleLane, SwitchLane, RunLane, Segment}
use Rattle.model.specs.Types.{EventKind, Spawned, Dispatched, Departed, Woken, Reprioritised, Event, Out, SwitchEntry}
use Rattle.model.specs.Calls.{JoinOutcome, Wait, Done, Invalid, Answer, refused, ok, spawned, joined, switched}

---- optional values

abbrev pub option_tid_meant : Std.Option Tid → Option ℕ
option_tid_meant None = none
option_tid_meant (Some t) = some t.0

abbrev pub option_core_meant : Std.Option CoreId → Option ℕ
option_core_meant None = none
option_core_meant (Some i) = some i.0

abbrev pub option_tick_meant : Std.Option Tick → Option ℕ
option_tick_meant None = none
option_tick_meant (Some n) = some n.0

---- cores

abbrev pub core_state_meant : CoreStates.CoreState → CoreState
core_state_meant CoreStateCases.Idle = Idle
core_state_meant (CoreStateCases.Switching t l) = Switching t.0 l
core_state_meant (CoreStateCases.Running t slice) = Running t.0 slice

abbrev pub core_ticks_meant : Counters.CoreTicks → CoreTicks
core_ticks_meant counters = record { busy = counters.busy; switching = counters.switching; idle = counters.idle }

abbrev pub lane_meant : Lanes.Lane → Lane
lane_meant LaneCases.Idle = IdleLane
lane_meant (LaneCases.Switch t) = SwitchLane t.0
lane_meant (LaneCases.Run t) = RunLane t.0

abbrev pub segment_meant : Segments.Segment → Segment
segment_meant g = record { lane = lane_meant g.lane; start = g.start.0; end = g.end.0 }

---- threads

abbrev pub reason_meant : LeaveReasons.LeaveReason → LeaveReason
reason_meant ReasonCases.Exit = Exit
reason_meant ReasonCases.Block = Block
reason_meant ReasonCases.Yield = Yield
reason_meant ReasonCases.Quantum = Quantum
reason_meant ReasonCases.Preempt = Preempt
reason_meant ReasonCases.Forced = Forced

abbrev pub thread_state_meant : ThreadStates.ThreadState → ThreadState
thread_state_meant ThreadStateCases.Ready = Ready
thread_state_meant (ThreadStateCases.Running i) = OnCore i.0
thread_state_meant (ThreadStateCases.Blocked t) = Blocked t.0
thread_state_meant ThreadStateCases.Exited = Exited

abbrev pub last_leave_meant : LastLeaves.LastLeave → LastLeave
last_leave_meant leave = record { tick = leave.tick.0; core = leave.core.0; reason = reason_meant leave.reason }

abbrev pub option_leave_meant : Std.Option LastLeaves.LastLeave → Option LastLeave
option_leave_meant None = none
option_leave_meant (Some leave) = some (last_leave_meant leave)

abbrev pub times_meant : ThreadStats → Times
times_meant stats = record { arrival = stats.arrival.0; first_run = option_tick_meant stats.first_run; finish = option_tick_meant stats.finish }

abbrev pub counts_meant : ThreadStats → Counts
counts_meant stats =
    record { run = stats.run_ticks; ready = stats.ready_ticks; blocked = stats.blocked_ticks; dispatches = stats.dispatches; preemptions = stats.preemptions; yields = stats.yields }

abbrev pub thread_meant : ThreadInfo → ThreadRecord
thread_meant thread =
    record {
      tid = thread.tid.0;
      parent = option_tid_meant thread.parent;
      entry = thread.entry_pc;
      priority = thread.priority;
      state = thread_state_meant thread.state;
      last = record { core = option_core_meant thread.last_core; dispatch = option_tick_meant thread.last_dispatch; leave = option_leave_meant thread.last_leave };
      times = times_meant thread.stats;
      counts = counts_meant thread.stats;
    }

---- the log

abbrev pub event_kind_meant : SchedEventKind → EventKind
event_kind_meant (EventCases.Spawn parent) = Spawned (option_tid_meant parent)
event_kind_meant (EventCases.Dispatch i) = Dispatched i.0
event_kind_meant (EventCases.Leave i r) = Departed i.0 (reason_meant r)
event_kind_meant EventCases.Wake = Woken
event_kind_meant (EventCases.Priority n) = Reprioritised n

abbrev pub event_meant : SchedEvent → Event
event_meant event = record { tick = event.tick.0; tid = event.tid.0; kind = event_kind_meant event.kind }

---- switch lists

abbrev pub option_out_meant : Std.Option SwitchOut → Option Out
option_out_meant None = none
option_out_meant (Some out) = some (record { tid = out.tid.0; reason = reason_meant out.reason })

abbrev pub switch_meant : Switches.Switch → SwitchEntry
switch_meant e = record { core = e.core.0; out = option_out_meant e.out; inn = option_tid_meant e.inn }

-- a switch list in the front of an array
abbrev pub switches_meant : List Switches.Switch → (count : ℕ) → List SwitchEntry
switches_meant entries count = map switch_meant (take count entries)

---- answers

abbrev pub join_meant : JoinOutcomes.JoinOutcome → JoinOutcome
join_meant JoinCases.Wait = Wait
join_meant JoinCases.Done = Done
join_meant JoinCases.Invalid = Invalid

abbrev pub call_answer_meant : Result Unit Refusal → Answer
call_answer_meant (Ok _) = ok
call_answer_meant (Err refusal) = refused (refusal_number refusal)

abbrev pub spawn_answer_meant : Result Tid Refusal → Answer
spawn_answer_meant (Ok t) = spawned t.0
spawn_answer_meant (Err refusal) = refused (refusal_number refusal)

abbrev pub join_answer_meant : Result JoinOutcomes.JoinOutcome Refusal → Answer
join_answer_meant (Ok o) = joined (join_meant o)
join_answer_meant (Err refusal) = refused (refusal_number refusal)

-- an answer with a switch list: the list counts where the call is taken
abbrev pub switch_answer_meant : Result Unit Refusal → List Switches.Switch → (count : ℕ) → Answer
switch_answer_meant (Ok _) entries count = switched (switches_meant entries count)
switch_answer_meant (Err refusal) entries count = refused (refusal_number refusal)

---- and back: the program's value for what it stands for (proofs/Back.antt)

abbrev pub tid_of : Option ℕ → Std.Option Tid
tid_of none = None
tid_of (some t) = Some (record { 0 = t })

abbrev pub reason_of : LeaveReason → LeaveReasons.LeaveReason
reason_of Exit = ReasonCases.Exit
reason_of Block = ReasonCases.Block
reason_of Yield = ReasonCases.Yield
reason_of Quantum = ReasonCases.Quantum
reason_of Preempt = ReasonCases.Preempt
reason_of Forced = ReasonCases.Forced

abbrev pub out_of : Option Out → Std.Option SwitchOut
out_of none = None
out_of (some o) = Some (record { tid = record { 0 = o.tid }; reason = reason_of o.reason })

abbrev pub switch_of : SwitchEntry → Switches.Switch
switch_of e = record { core = record { 0 = e.core }; out = out_of e.out; inn = tid_of e.inn }
