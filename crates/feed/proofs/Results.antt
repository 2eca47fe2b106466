-- What the callees of `feed` and `finish` leave, put together.
use Rattle.std.specs.Prelude.{Result}
use Rattle.settings.specs.declared.Refusal.{Refusal}
use Prim.Native.Nat.{ℕ, ◌≤◌}
use mathlib.Core.Path.{◌≡◌, refl, sym, ◌∙◌, subst}
use mathlib.Core.List.{List}
use native.Mathlib.Omega.{arith}
use lib.ListN.{length}
use Rattle.std.specs.Borrow.{MutBor}
use Rattle.text.specs.Buffers.{StillLent}
use Rattle.model.specs.declared.ThreadInfo.{ThreadInfo}
use Rattle.model.specs.Accounting.{total}
use Rattle.record_reads.specs.Totals.{totals_of, TotalsFit}
use Rattle.threads.specs.Slice.{threads_in}
use Rattle.state.specs.declared.Sched.{Sched}
use Rattle.state.specs.declared.memory.LentMemory.{LentMemory}
use Rattle.state.specs.Memory.{Memory, held, SameLoans}
use Rattle.state.specs.State.{meant}
use Rattle.summary.proofs.Totaling.{totals-room}
use Rattle.script.specs.Report as Definition
use Rattle.feed_plan.specs.declared.Stage.{Stage}
use Rattle.feed_plan.specs.declared.Stage.TheVariants as StageCases
use Rattle.feed_plan.specs.declared.Report.{Report}
use Rattle.feed_plan.specs.declared.Line.{Line}
use Rattle.feed_plan.specs.declared.Next.{Next}
use Rattle.feed_plan.specs.declared.Fed.{Fed}
use Rattle.feed_plan.specs.Meant.{report_meant, Held, Roomy, ReportValid}
use Rattle.feed_plan.specs.Steps.{fed_of, records_in}
use Rattle.feed_plan.specs.Feeding.{LineRead, LineDone, Sayable, SaidAs, FeedDone}
use Rattle.feed_plan.proofs.Feeding.{sayable, feed-done}

---- the loans

still : {A : Type 0} (a : MutBor (List A)) → StillLent a a
still a = record { same = refl; long = refl }

still-then : {A : Type 0} {a b c : MutBor (List A)} → StillLent a b → StillLent b c → StillLent a c
still-then h k = record { same = k.same ∙ h.same; long = k.long ∙ h.long }

pub same-loans : (m : LentMemory) → SameLoans m m
same-loans m = record { threads = still m.threads; queue = still m.queue; prios = still m.prios; log = still m.log; lanes = still m.lanes }

pub loans-then : {m n o : LentMemory} → SameLoans m n → SameLoans n o → SameLoans m o
loans-then h k =
    record {
      threads = still-then h.threads k.threads;
      queue = still-then h.queue k.queue;
      prios = still-then h.prios k.prios;
      log = still-then h.log k.log;
      lanes = still-then h.lanes k.lanes;
    }

---- a line

-- the slices keep their lengths
pub record Long (m m' : Memory) : Type 0 where
  pub threads : length m'.threads ≡ length m.threads
  pub queue : length m'.queue ≡ length m.queue
  pub prios : length m'.prios ≡ length m.prios
  pub log : length m'.log ≡ length m.log
  pub lanes : length m'.lanes ≡ length m.lanes

pub roomy-kept : (m m' : Memory) → Long m m' → Roomy m → Roomy m'
roomy-kept m m' l k =
    record {
      threads = rw l.threads k.threads;
      queue = rw l.queue k.queue;
      prios = rw l.prios k.prios;
      log = rw l.log k.log;
      lanes = rw l.lanes k.lanes;
    }

-- and so do the same loans
pub roomy-lent : (old new : LentMemory) → SameLoans old new → Roomy (held old) → Roomy (held new)
roomy-lent old new l =
    roomy-kept (held old) (held new) (record {
      threads = l.threads.long;
      queue = l.queue.long;
      prios = l.prios.long;
      log = l.log.long;
      lanes = l.lanes.long;
    })

module _ (r : Report) (line : List ℕ) (m : Memory) (v : ReportValid r m) where
  module _ (x : Result Line Refusal) (k : LineRead r line x) where
    read-says : Definition.feed (report_meant r m) line ≡ fed_of (report_meant r m) x
    unfolding report_meant
    read-says = k.says (meant r.sched m)

    module _ (b : List ℕ) (m' : Memory) (y : Next) (c : LineDone r x m m' y) (room : 288 ≤ length b) where
      pub says-it : Sayable y b
      says-it = sayable r line m v x m' y read-says c b room

      pub fed : Roomy m' → (b' : List ℕ) (z : Fed) → SaidAs y b b' z → FeedDone r line b b' m m' z
      fed roomy b' z s = feed-done r line m v x m' y read-says c b b' z roomy s

---- the end of a script

module _ (ts : List ThreadInfo) where
  no-records : (0 ≤ length ts) × TotalsFit (totals_of (threads_in ts 0))
  unfolding threads_in totals_of total
  no-records = (
    omega arith,
    record {
      threads = omega arith;
      finished = omega arith;
      responded = omega arith;
      preemptions = omega arith;
      waiting = omega arith;
      response = omega arith;
      turnaround = omega arith;
      live = omega arith;
      runnable = omega arith;
    },
  )

pub records-fit : (g : Stage) (s : Sched) (m : Memory) → Held g s m → (records_in g s ≤ length m.threads) × TotalsFit (totals_of (threads_in m.threads (records_in g s)))
records-fit StageCases.Heads s m h = no-records m.threads
records-fit StageCases.Calls s m h = totals-room s m.threads m.queue m.prios m.log m.lanes h
records-fit StageCases.Ended s m h = totals-room s m.threads m.queue m.prios m.log m.lanes h
records-fit StageCases.Over s m h = no-records m.threads

pub totals-fit : (r : Report) (n : ℕ) (e : n ≡ records_in r.stage r.sched) (m : Memory) → ReportValid r m → (n ≤ length m.threads) × TotalsFit (totals_of (threads_in m.threads n))
totals-fit r n e m v = subst (λ (k : ℕ). (k ≤ length m.threads) × TotalsFit (totals_of (threads_in m.threads k))) (sym e) (records-fit r.stage r.sched m v.held)
