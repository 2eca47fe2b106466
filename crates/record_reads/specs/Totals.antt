-- The sums over all thread records, for the summary and for the questions.
use Rattle.std.specs.Prelude.{ℕ, ◌+◌, ◌<◌, ◌^◌, Bool, true, false, List, length}
use Rattle.model.specs.Types.{ThreadRecord}
use Rattle.model.specs.Accounting.{total, one, since}
use Rattle.model.specs.Questions.{is_live, is_runnable}
use Rattle.record_reads.specs.declared.totals.Totals.{Totals}

abbrev pub flag : Bool → ℕ
flag true = 1
flag false = 0

-- the parts of the definition's `sums` that are of threads, and how many threads are live and runnable
unfoldable pub totals_of : List ThreadRecord → Totals
totals_of ts =
    record {
      threads = length ts;
      finished = total (λ t. one t.times.finish) ts;
      responded = total (λ t. one t.times.first_run) ts;
      preemptions = total (λ t. t.counts.preemptions) ts;
      waiting = total (λ t. t.counts.ready) ts;
      response = total (λ t. since t.times.arrival t.times.first_run) ts;
      turnaround = total (λ t. since t.times.arrival t.times.finish) ts;
      live = total (λ t. flag (is_live t.state)) ts;
      runnable = total (λ t. flag (is_runnable t.state)) ts;
    }

-- one thread more
unfoldable pub add_totals : Totals → ThreadRecord → Totals
add_totals n t =
    record {
      threads = n.threads + 1;
      finished = n.finished + one t.times.finish;
      responded = n.responded + one t.times.first_run;
      preemptions = n.preemptions + t.counts.preemptions;
      waiting = n.waiting + t.counts.ready;
      response = n.response + since t.times.arrival t.times.first_run;
      turnaround = n.turnaround + since t.times.arrival t.times.finish;
      live = n.live + flag (is_live t.state);
      runnable = n.runnable + flag (is_runnable t.state);
    }

pub record TotalsFit (n : Totals) : Type 0 where
  pub threads : n.threads < 2 ^ 64
  pub finished : n.finished < 2 ^ 64
  pub responded : n.responded < 2 ^ 64
  pub preemptions : n.preemptions < 2 ^ 64
  pub waiting : n.waiting < 2 ^ 64
  pub response : n.response < 2 ^ 64
  pub turnaround : n.turnaround < 2 ^ 64
  pub live : n.live < 2 ^ 64
  pub runnable : n.runnable < 2 ^ 64
