use native.Mathlib.Omega.{arith}
use mathlib.Core.Path.{◌≡◌, refl, ◌∙◌}
use lib.ListN.{length}
use Rattle.rings.specs.Events.{events_in}
use Rattle.rings.proofs.EntryLaws.{behind-none, behind-both}
use Rattle.accounts.proofs.Logging.{woken_none, woken-next}
use Rattle.accounts.proofs.log.log_wakes.Goals as goal

pub loop-waiter-init : goal.loop-waiter-init
loop-waiter-init c = (refl, c.requires.0, woken_none _ _ _, behind-none _ _)

pub loop-waiter-preserved : goal.loop-waiter-preserved
loop-waiter-preserved c =
    let z : length c.log_wake-p.new.ring ≡ length c.loop-waiter.ring = c.log_wake-p.auto.ring in (
      z ∙ c.loop-waiter.invariant.0,
      c.log_wake-p.ensures.ok,
      woken-next (length c.args.ring.now) (length c.loop-waiter.ring) c.args.tick.0 _ c.loop-waiter.waiter-index (events_in c.args.ring.now c.args.pos) (events_in c.loop-waiter.ring c.loop-waiter.p) _ (omega arith) c.loop-waiter.invariant.0 c.loop-waiter.invariant.2 c.log_wake-p.ensures.events,
      behind-both c.loop-waiter.invariant.3 c.log_wake-p.ensures.behind,
    )
