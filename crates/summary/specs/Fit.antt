-- All the sums convert to binary64 exactly.
use Rattle.std.specs.Prelude.{◌<◌, ◌^◌}
use Rattle.summary.specs.declared.Sums as Program

pub record Fit (r : Program.Sums) : Type 0 where
  pub threads : r.threads < 2 ^ 53
  pub context_switches : r.context_switches < 2 ^ 53
  pub preemptions : r.preemptions < 2 ^ 53
  pub now : r.now.0 < 2 ^ 53
  pub responded : r.responded < 2 ^ 53
  pub finished : r.finished < 2 ^ 53
  pub core_ticks : r.core_ticks < 2 ^ 53
  pub waiting : r.waiting < 2 ^ 53
  pub response : r.response < 2 ^ 53
  pub turnaround : r.turnaround < 2 ^ 53
  pub busy : r.busy < 2 ^ 53
