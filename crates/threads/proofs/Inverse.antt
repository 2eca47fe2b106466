-- The reading of a thread's record loses nothing: a record is known from what the definition reads of it.
use Rattle.model.specs.declared.Tick.{Tick}
use Rattle.model.specs.declared.CoreId.{CoreId}
use Rattle.std.specs.Prelude.{Some, None}
use Rattle.std.specs.Prelude as Std
use Prim.Native.Nat.{ℕ}
use mathlib.Core.Path.{◌≡◌, refl, sym, ap, ◌∙◌}
use mathlib.Core.Option.{Option, none, some}
use Rattle.model.specs.declared.LastLeave as Leaves
use Rattle.model.specs.declared.ThreadState as ThreadStates
use Rattle.model.specs.declared.ThreadState.TheVariants as thread_states
use Rattle.model.specs.declared.LastLeave as Leaves
use Rattle.model.specs.declared.ThreadInfo.{ThreadInfo}
use Rattle.model.specs.Types.{ThreadState, Ready, Exited, OnCore, Blocked, LastLeave, ThreadRecord}
use Rattle.model.specs.Reading.{option_core_meant, option_tick_meant, option_leave_meant, thread_state_meant, thread_meant, tid_of, reason_of}
use Rattle.model.proofs.Back.{tid-back, reason-back, tid-there, reason-there}

abbrev core_of : Option ℕ → Std.Option CoreId
core_of none = None
core_of (some n) = Some (record { 0 = n })

abbrev tick_of : Option ℕ → Std.Option Tick
tick_of none = None
tick_of (some n) = Some (record { 0 = n })

abbrev state_of : ThreadState → ThreadStates.ThreadState
state_of Ready = thread_states.Ready
state_of (OnCore i) = thread_states.Running (record { 0 = i })
state_of (Blocked t) = thread_states.Blocked (record { 0 = t })
state_of Exited = thread_states.Exited

abbrev leave_of : Option LastLeave → Std.Option Leaves.LastLeave
leave_of none = None
leave_of (some l) = Some (record { tick = record { 0 = l.tick }; core = record { 0 = l.core }; reason = reason_of l.reason })

-- the program's value for a record of the definition
unfoldable pub thread_of : ThreadRecord → ThreadInfo
thread_of t =
    record {
      tid = record { 0 = t.tid };
      parent = tid_of t.parent;
      entry_pc = t.entry;
      priority = t.priority;
      state = state_of t.state;
      last_core = core_of t.last.core;
      last_dispatch = tick_of t.last.dispatch;
      last_leave = leave_of t.last.leave;
      stats = record {
        arrival = record { 0 = t.times.arrival };
        first_run = tick_of t.times.first_run;
        finish = tick_of t.times.finish;
        run_ticks = t.counts.run;
        ready_ticks = t.counts.ready;
        blocked_ticks = t.counts.blocked;
        dispatches = t.counts.dispatches;
        preemptions = t.counts.preemptions;
        yields = t.counts.yields;
      };
    }

core-back : (c : Std.Option CoreId) → core_of (option_core_meant c) ≡ c
core-back None = refl
core-back (Some c) = refl

tick-back : (n : Std.Option Tick) → tick_of (option_tick_meant n) ≡ n
tick-back None = refl
tick-back (Some n) = refl

state-back : (s : ThreadStates.ThreadState) → state_of (thread_state_meant s) ≡ s
state-back thread_states.Ready = refl
state-back (thread_states.Running c) = refl
state-back (thread_states.Blocked t) = refl
state-back thread_states.Exited = refl

leave-back : (l : Std.Option Leaves.LastLeave) → leave_of (option_leave_meant l) ≡ l
leave-back None = refl
leave-back (Some l) = rw (reason-back l.reason)

pub thread-back : (t : ThreadInfo) → thread_of (thread_meant t) ≡ t
unfolding thread_of
thread-back t = rw (tid-back t.parent, state-back t.state, core-back t.last_core, tick-back t.last_dispatch, leave-back t.last_leave, tick-back t.stats.first_run, tick-back t.stats.finish)

-- a value that reads as x is x's
pub is-thread_of : (t : ThreadInfo) (x : ThreadRecord) → thread_meant t ≡ x → t ≡ thread_of x
is-thread_of t x e = sym (thread-back t) ∙ ap thread_of e

core-there : (x : Option ℕ) → option_core_meant (core_of x) ≡ x
core-there none = refl
core-there (some n) = refl

tick-there : (x : Option ℕ) → option_tick_meant (tick_of x) ≡ x
tick-there none = refl
tick-there (some n) = refl

state-there : (x : ThreadState) → thread_state_meant (state_of x) ≡ x
state-there Ready = refl
state-there (OnCore i) = refl
state-there (Blocked t) = refl
state-there Exited = refl

leave-there : (x : Option LastLeave) → option_leave_meant (leave_of x) ≡ x
leave-there none = refl
leave-there (some l) = rw (reason-there l.reason)

pub thread-there : (x : ThreadRecord) → thread_meant (thread_of x) ≡ x
unfolding thread_of
thread-there x = rw (tid-there x.parent, state-there x.state, core-there x.last.core, tick-there x.last.dispatch, leave-there x.last.leave, tick-there x.times.first_run, tick-there x.times.finish)
