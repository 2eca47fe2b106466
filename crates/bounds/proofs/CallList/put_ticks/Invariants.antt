use lib.ListN.{length}
use Prim.Native.Nat.{◌≤◌}
use Rattle.text.specs.Buffers.{StillLent}
use Rattle.bounds.proofs.CallList.put_ticks.Given as goal

abbrev pub invariant-loop : goal.invariant-loop
invariant-loop l = (l.fn.self.count ≤ length l.fn.self.calls.now → l.self.count ≤ length l.self.calls.now) × StillLent l.fn.self.calls l.self.calls
