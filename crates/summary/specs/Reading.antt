-- Which part of the definition a value of the program's types stands for, and what the sums over the records are.
use Rattle.std.specs.Prelude.{ℕ, ◌≡◌, List}
use Rattle.std.specs.Float.{binary64}
use Rattle.std.specs.Float.Ieee.{to_bits}
use Rattle.model.specs.declared.ThreadInfo.{ThreadInfo}
use Rattle.model.specs.Types.{State}
use Rattle.model.specs.Accounting.{Sums, sums}
use Rattle.model.specs.Questions.{Figures}
use Rattle.record_reads.specs.declared.totals.Totals.{Totals}
use Rattle.record_reads.specs.Totals.{totals_of}
use Rattle.threads.specs.Slice.{threads_in}
use Rattle.state.specs.declared.Sched.{Sched}
use Rattle.state.specs.Memory.{memory}
use Rattle.state.specs.State.{Valid}
use Rattle.summary.specs.declared.Sums as Program
use Rattle.summary.specs.declared.SchedSummary.{SchedSummary}
use Rattle.summary.specs.declared.FigureBits.{FigureBits}

abbrev pub sums_meant : Program.Sums → Sums
sums_meant r =
    record {
      threads = r.threads;
      finished = r.finished;
      responded = r.responded;
      context_switches = r.context_switches;
      preemptions = r.preemptions;
      waiting = r.waiting;
      response = r.response;
      turnaround = r.turnaround;
      busy = r.busy;
      core_ticks = r.core_ticks;
    }

-- the definition's sums, with the time of the summary
abbrev pub SumsAre : Program.Sums → State → Type 0
SumsAre r d = (sums_meant r ≡ sums d.accounts) × (r.now.0 ≡ d.now)

abbrev pub figures_meant : SchedSummary → Figures
figures_meant r = record { waiting = r.avg_waiting; response = r.avg_response; turnaround = r.avg_turnaround; utilization = r.utilization }

-- the figures' bit patterns as IEEE 754 lays them out
abbrev pub figure_bits : Figures → FigureBits
figure_bits f =
    record {
      waiting = to_bits binary64 f.waiting;
      response = to_bits binary64 f.response;
      turnaround = to_bits binary64 f.turnaround;
      utilization = to_bits binary64 f.utilization;
    }

-- a state as every call leaves it, and the sums over its thread records as `threads::totals` makes them
pub record Summed (s : Sched) (n : Totals) (ts : List ThreadInfo) (qs ps ls ws : List ℕ) : Type 0 where
  pub valid : Valid s (memory ts qs ps ls ws)
  pub totals : n ≡ totals_of (threads_in ts s.threads)
