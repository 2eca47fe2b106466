use native.Mathlib.Omega.{arith}
use mathlib.Core.Path.{◌≡◌, refl, ◌∙◌}
use lib.ListN.{length}
use Rattle.queue.specs.Words.{move_meant}
use Rattle.rings.specs.Events.{events_in}
use Rattle.rings.proofs.EntryLaws.{behind-none, behind-both}
use Rattle.accounts.proofs.Logging.{moved_none, moved-next}
use Rattle.accounts.proofs.log.log_moves.Goals as goal

pub loop-k-init : goal.loop-k-init
loop-k-init c = (refl, c.requires.0, moved_none _ _ _ _, behind-none _ _)

pub loop-k-preserved : goal.loop-k-preserved
loop-k-preserved c =
    let z : length c.log_move-p.new.ring ≡ length c.loop-k.ring = c.log_move-p.auto.ring in (
      z ∙ c.loop-k.invariant.0,
      c.log_move-p.ensures.ok,
      moved-next (length c.args.ring.now) (length c.loop-k.ring) c.args.tick.0 c.args.moves.now c.loop-k.k (move_meant c.move_at-m.result) (events_in c.args.ring.now c.args.pos) (events_in c.loop-k.ring c.loop-k.p) _ (omega arith) c.loop-k.invariant.0 c.move_at-m.ensures c.loop-k.invariant.2 c.log_move-p.ensures.events,
      behind-both c.loop-k.invariant.3 c.log_move-p.ensures.behind,
    )
