use native.Mathlib.Omega.{arith}
use Prim.Native.Nat.{ℕ}
use mathlib.Core.Path.{sym, ap, ◌∙◌}
use lib.ListN.{take}
use Rattle.std.specs.Prelude as Std
use Rattle.std.specs.Prelude.{unwrap_or}
use Rattle.model.specs.declared.Tid.{Tid}
use Rattle.model.specs.Reading.{option_tid_meant}
use Rattle.thread_plan.specs.Reads.{child_priority}
use Rattle.thread_plan.proofs.Spawning.{child-at}
use Rattle.thread_plan.proofs.spawn.child_priority.Goals as goal

pub returns-in-Some : goal.returns-in-Some
returns-in-Some c =
    c.unwrap_or.ensures ∙ ap (λ (o : Std.Option ℕ). unwrap_or o 10) c.copied.ensures ∙ c.get.ensures.lookup.4 (omega arith) 10 ∙ child-at (take c.args.threads c.args.prios.now) c.in-Some.tid.0
    ∙ sym (ap (λ (o : Std.Option Tid). child_priority (option_tid_meant o) (take c.args.threads c.args.prios.now)) c.in-Some.is)
