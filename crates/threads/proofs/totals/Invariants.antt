use Rattle.std.proofs.Common.{◌≡◌}
use Rattle.record_reads.specs.Totals.{totals_of}
use Rattle.threads.specs.Slice.{threads_in}
use Rattle.threads.proofs.totals.Given as goal

-- the sums over the threads before this one
abbrev pub invariant-loop-t : goal.invariant-loop-t
invariant-loop-t l = l.sums ≡ totals_of (threads_in l.threads l.t-index)
