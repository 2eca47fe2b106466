-- How long the texts are (crates/script/proofs/Lengths.antt) that hold a refusal's number or the sums.
use native.Mathlib.Omega.{arith}
use Prim.Native.Nat.{◌<◌}
use Rattle.settings.specs.declared.Refusal.{Refusal}
use Rattle.settings.specs.declared.Refusal.TheVariants as Refusals
use Rattle.settings.specs.Reading.{refusal_number}
use Rattle.script.specs.Invariants.{Modest}
use Rattle.summary.specs.declared.Sums as Program
use Rattle.summary.specs.Reading.{sums_meant}
use Rattle.summary.specs.Fit.{Fit}

pub refusal-small : (r : Refusal) → refusal_number r < 100
refusal-small Refusals.SettingRange = omega arith
refusal-small Refusals.CoreCount = omega arith
refusal-small Refusals.Capacity = omega arith
refusal-small Refusals.NoCore = omega arith
refusal-small Refusals.NoThread = omega arith
refusal-small Refusals.BadLine = omega arith
refusal-small Refusals.BadPolicy = omega arith
refusal-small Refusals.BadNumber = omega arith
refusal-small Refusals.Closed = omega arith
refusal-small Refusals.Leaving = omega arith
refusal-small Refusals.NotRunning = omega arith
refusal-small Refusals.StillSwitching = omega arith
refusal-small Refusals.NotReady = omega arith
refusal-small Refusals.NobodyWaits = omega arith
refusal-small Refusals.ThreadsFull = omega arith
refusal-small Refusals.ClockLimit = omega arith
refusal-small Refusals.CounterLimit = omega arith

pub sums-modest : (s : Program.Sums) → Fit s → Modest s.now.0 (sums_meant s)
sums-modest s f = record {
  threads = omega (arith, f.threads);
  finished = omega (arith, f.finished);
  now = omega (arith, f.now);
  context_switches = omega (arith, f.context_switches);
  preemptions = omega (arith, f.preemptions);
  waiting = omega (arith, f.waiting);
  response = omega (arith, f.response);
  turnaround = omega (arith, f.turnaround);
  busy = omega (arith, f.busy);
  core_ticks = omega (arith, f.core_ticks);
}
