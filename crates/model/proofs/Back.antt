-- Reading loses nothing: a thread number, a reason and an entry of a switch list are known from what they stand for, and each of these stands for something.
-- Assumes nothing.
use Rattle.std.specs.Prelude.{Some, None}
use Rattle.std.specs.Prelude as Std
use Prim.Native.Nat.{ℕ}
use mathlib.Core.Path.{◌≡◌, refl}
use mathlib.Core.Option.{Option, none, some}
use Rattle.model.specs.Types.{LeaveReason, Exit, Block, Yield, Quantum, Preempt, Forced, Out, SwitchEntry}
use Rattle.model.specs.Reading.{reason_meant, option_tid_meant, option_out_meant, switch_meant, tid_of, reason_of, out_of, switch_of}
use Rattle.model.specs.declared.LeaveReason as LeaveReasons
use Rattle.model.specs.declared.LeaveReason.TheVariants as ReasonCases
use Rattle.model.specs.declared.Switch.{Switch}
use Rattle.model.specs.declared.SwitchOut.{SwitchOut}
use Rattle.model.specs.declared.Tid.{Tid}

---- the program's value is known

pub tid-back : (t : Std.Option Tid) → tid_of (option_tid_meant t) ≡ t
tid-back None = refl
tid-back (Some t) = refl

pub reason-back : (r : LeaveReasons.LeaveReason) → reason_of (reason_meant r) ≡ r
reason-back ReasonCases.Exit = refl
reason-back ReasonCases.Block = refl
reason-back ReasonCases.Yield = refl
reason-back ReasonCases.Quantum = refl
reason-back ReasonCases.Preempt = refl
reason-back ReasonCases.Forced = refl

out-back : (o : Std.Option SwitchOut) → out_of (option_out_meant o) ≡ o
out-back None = refl
out-back (Some o) = λ i. Some (record { tid = o.tid; reason = reason-back o.reason i })

pub switch-back : (s : Switch) → switch_of (switch_meant s) ≡ s
switch-back s = λ i. record { core = s.core; out = out-back s.out i; inn = tid-back s.inn i }

---- the definition's is stood for

pub tid-there : (t : Option ℕ) → option_tid_meant (tid_of t) ≡ t
tid-there none = refl
tid-there (some t) = refl

pub reason-there : (r : LeaveReason) → reason_meant (reason_of r) ≡ r
reason-there Exit = refl
reason-there Block = refl
reason-there Yield = refl
reason-there Quantum = refl
reason-there Preempt = refl
reason-there Forced = refl

out-there : (o : Option Out) → option_out_meant (out_of o) ≡ o
out-there none = refl
out-there (some o) = λ i. some (record { tid = o.tid; reason = reason-there o.reason i })

pub switch-there : (e : SwitchEntry) → switch_meant (switch_of e) ≡ e
switch-there e = λ i. record { core = e.core; out = out-there e.out i; inn = tid-there e.inn i }
