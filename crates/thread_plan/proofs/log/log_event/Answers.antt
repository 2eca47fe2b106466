use native.Mathlib.Omega.{arith}
use Prim.Native.Nat.{ℕ}
use mathlib.Core.Path.{sym, subst}
use mathlib.Core.List.{List}
use Rattle.rings.specs.Ring.{RingOK}
use Rattle.thread_plan.proofs.Logging.{lent-log, logged-part}
use Rattle.thread_plan.proofs.log.log_event.Goals as goal

pub push_event-requires : goal.push_event-requires
push_event-requires c =
    (subst (λ (b : List ℕ). RingOK b c.args.pos) (sym (lent-log c.args.events c.args.log.now)) c.requires.2, c.requires.3)

pub returns : goal.returns
returns c =
    logged-part c.args.events _ c.args.log.now c.push_event.new.ring c.args.pos c.push_event.result c.requires.1 (omega arith) c.push_event.ensures.ok c.push_event.ensures.events
