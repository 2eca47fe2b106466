-- The first i calls were made, and left what stands there.
use Rattle.std.proofs.Common.{take, ◌≤◌}
use Rattle.state.specs.Memory.{held, SameLoans}
use Rattle.replay.specs.Encoding.{calls_of}
use Rattle.replay.specs.Replay.{AppliedAll}
use Rattle.replay.proofs.apply_words.Given as goal

abbrev pub invariant-loop-i : goal.invariant-loop-i
invariant-loop-i l = record {
  within : l.i ≤ l.n;
  made : AppliedAll (take l.i (calls_of l.words)) l.fn.first l.last (held l.fn.m) (held l.m);
  lent : SameLoans l.fn.m l.m;
}
