use native.Mathlib.Omega.{arith}
use mathlib.Core.Path.{sym}
use Rattle.force_plan.proofs.Leavers.{none-all, some-there, exit-leaves, block-leaves, stays}
use Rattle.force_plan.proofs.any_leaving.Goals as goal
use Rattle.state.specs.State.{board_of}
use Rattle.force_plan.proofs.any_leaving.Goals.{then-exits-i-via-then-exits-i, then-exits-i-via-else-exits-i+then-blocks-i}

pub returns-then-exits-i : goal.returns-then-exits-i
returns-then-exits-i c =
    let leaves = some-there (board_of c.args.s) c.args.s.cores c.loop-i.i c.loop-i-test.true in
    elim c.then-exits-i.branch [
      | then-exits-i-via-then-exits-i w ↦ sym (leaves (exit-leaves c.args.s c.loop-i.i w.if-exits-i.true))
      | then-exits-i-via-else-exits-i+then-blocks-i w ↦ sym (leaves (block-leaves c.args.s c.loop-i.i w.if-exits-i.false w.if-blocks-i.true))
    ]

pub returns : goal.returns
returns c =
    sym (none-all (board_of c.args.s) c.args.s.cores (λ j k. let h = c.loop-i.invariant j (omega arith) in stays c.args.s j h.0 h.1))
