use native.Mathlib.Omega.{arith}
use Prim.Native.Nat.{◌+◌, ◌*◌, ◌≤◌}
use mathlib.Core.Path.{refl, sym, ◌∙◌}
use lib.ListN.{length, length-set}
use Rattle.std.proofs.lemmas.Bool.{not-false}
use Rattle.accounts.proofs.Timelines.{lanes_next, lanes-same, next_start, lane_inside, same-pos}
use Rattle.accounts.proofs.lanes.charge_lanes.Goals as goal
use Rattle.accounts.proofs.lanes.charge_lanes.Goals.{then-ne, else-ne}

pub loop-i-preserved : goal.loop-i-preserved
loop-i-preserved c =
    let f : c.loop-i.start + 2 * c.args.capacity ≤ length c.args.lanes.now = omega (arith, c.requires.2, lane_inside c.args.capacity c.loop-i.i c.args.n c.loop-i-test.true) in
    let done = c.loop-i.invariant.2 in
    elim c.if-ne.branch [
      | then-ne w ↦ rw w.charged-is (simp length-set c.loop-i.invariant.0, omega (arith, next_start c.args.capacity c.loop-i.i), lanes_next _ _ _ _ _ _ _ _ _ _ done c.loop-i.invariant.1 refl f _ c.charge_part-q.result (omega arith) c.charge_part-q.ensures.charged c.charge_part-q.ensures.outside c.charge_part-q.auto.lanes)
      | else-ne w ↦ rw w.charged-is (c.loop-i.invariant.0, omega (arith, next_start c.args.capacity c.loop-i.i), lanes-same _ _ _ _ _ _ _ _ _ _ done c.loop-i.invariant.1 refl f _ c.charge_part-q.result (omega arith) c.charge_part-q.ensures.charged c.charge_part-q.ensures.outside c.charge_part-q.auto.lanes (same-pos _ c.charge_part-q.result (not-false _ (sym c.ne.ensures ∙ w.if-ne.false))))
    ]
