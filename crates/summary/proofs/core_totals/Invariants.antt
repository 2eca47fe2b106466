use Prim.Native.Nat.{◌≤◌, ◌*◌}
use mathlib.Core.Path.{◌≡◌}
use Rattle.summary.specs.Cores.{busy_in, all_in}
use Rattle.summary.proofs.core_totals.Given as goal

abbrev pub invariant-loop-counters : goal.invariant-loop-counters
invariant-loop-counters l = (l.busy ≡ busy_in l.fn.ticks l.counters-index) × (l.all ≡ all_in l.fn.ticks l.counters-index) × (l.busy ≤ l.all) × (l.all ≤ 4_000_000_000 * l.counters-index)
