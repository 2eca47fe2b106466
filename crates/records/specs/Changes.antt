-- What each change makes of a thread's record, by the definition of the accounts.
use Rattle.std.specs.Prelude.{ℕ, ◌+◌, ◌<◌, ◌^◌}
use Rattle.std.proofs.Math.Option.{none, some}
use Rattle.model.specs.Types.{ThreadRecord, Ready, Blocked, OnCore}
use Rattle.model.specs.Accounting.{add_counts, set_state, set_priority, set_last, finished, started, record_leave, record_dispatch, born}
use Rattle.model.specs.Reading.{reason_meant, option_tid_meant}
use Rattle.records.specs.declared.change.Change.{Change}
use Rattle.records.specs.declared.change.Change.TheVariants as changes

unfoldable pub change_meant : Change → ThreadRecord → ThreadRecord
change_meant (changes.Exit now) t = finished now.0 t
change_meant (changes.Block on) t = set_state (Blocked on.0) t
change_meant changes.Wake t = set_state Ready t
change_meant changes.Yield t = add_counts 0 0 0 0 0 1 t
change_meant (changes.Priority n) t = set_priority n t
change_meant (changes.Start now) t = started now.0 t
change_meant (changes.Leave now core reason) t = record_leave now.0 core.0 (reason_meant reason) t
change_meant (changes.Dispatch now core) t = record_dispatch now.0 core.0 t
change_meant (changes.Born tid parent entry priority now) t = born tid.0 (option_tid_meant parent) entry priority now.0
change_meant changes.Keep t = t

-- the counter that a change adds to has room for one more
abbrev pub Fits : Change → ThreadRecord → Type 0
Fits (changes.Exit now) t = now.0 + 1 < 2 ^ 64
Fits (changes.Block on) t = Unit {0}
Fits changes.Wake t = Unit {0}
Fits changes.Yield t = t.counts.yields + 1 < 2 ^ 64
Fits (changes.Priority n) t = Unit {0}
Fits (changes.Start now) t = Unit {0}
Fits (changes.Leave now core reason) t = t.counts.preemptions + 1 < 2 ^ 64
Fits (changes.Dispatch now core) t = t.counts.dispatches + 1 < 2 ^ 64
Fits (changes.Born tid parent entry priority now) t = Unit {0}
Fits changes.Keep t = Unit {0}

-- 01: "`new` starts thread 0 running on core 0, priority 10."
abbrev pub first_thread : (entry : ℕ) → ThreadRecord
first_thread entry = started 0 (add_counts 0 0 0 1 0 0 (set_last (record { core = some 0; dispatch = some 0; leave = none }) (set_state (OnCore 0) (born 0 none entry 10 0))))
