use Prim.Native.Nat.{◌-◌}
use Rattle.state.specs.Memory.{held}
use Rattle.report_io.specs.Blocks.{last_turn}
use Rattle.report.specs.Running.{Runnable}
use Rattle.report.proofs.run.Given as goal

abbrev pub invariant-loop-u : goal.invariant-loop-u
invariant-loop-u l = Runnable l.r l.u (held l.m) l.blocks

abbrev pub decreases-loop-u : goal.decreases-loop-u
decreases-loop-u l = last_turn - l.u.place.turn
