-- Each list of the definition's calls is what some list of the program's calls stands for.
use mathlib.Core.Path.{◌≡◌, refl}
use mathlib.Core.Option.{Option, none, some}
use mathlib.Core.List.{List, [], ◌∷◌, map}
use Prim.Native.Nat.{ℕ}
use Rattle.std.specs.Prelude as Std
use Rattle.model.specs.declared.Tid.{Tid}
use Rattle.model.specs.Calls as Calls
use Rattle.model.specs.Calls.{spawn, exit, join, retired, yield, priority, timing, force, tick, close}
use Rattle.sched.specs.declared.Call.{Call}
use Rattle.sched.specs.declared.Call.TheVariants as CallCases
use Rattle.sched.specs.Meant.{call_meant}

tid_for : Option ℕ → Std.Option Tid
tid_for none = Std.None
tid_for (some t) = Std.Some (record { 0 = t })

pub call_for : Calls.Call → Call
call_for (spawn p e) = CallCases.Spawn (tid_for p) e
call_for (exit i) = CallCases.Exit (record { 0 = i })
call_for (join i t) = CallCases.Join (record { 0 = i }) (record { 0 = t })
call_for (retired i) = CallCases.Retired (record { 0 = i })
call_for (yield i) = CallCases.YieldNow (record { 0 = i })
call_for (priority t n) = CallCases.SetPriority (record { 0 = t }) n
call_for (timing q w) = CallCases.SetTiming q w
call_for (force i n) = CallCases.ForceSwitch (record { 0 = i }) (tid_for n)
call_for tick = CallCases.EndTick
call_for (close i) = CallCases.Close (record { 0 = i })

every-call : (c : Calls.Call) → call_meant (call_for c) ≡ c
unfolding call_for tid_for
every-call (spawn none e) = refl
every-call (spawn (some p) e) = refl
every-call (exit i) = refl
every-call (join i t) = refl
every-call (retired i) = refl
every-call (yield i) = refl
every-call (priority t n) = refl
every-call (timing q w) = refl
every-call (force i none) = refl
every-call (force i (some t)) = refl
every-call tick = refl
every-call (close i) = refl

pub every-list : (cs : List Calls.Call) → map call_meant (map call_for cs) ≡ cs
every-list [] = refl
every-list (c ∷ cs) = λ j. every-call c j ∷ every-list cs j
