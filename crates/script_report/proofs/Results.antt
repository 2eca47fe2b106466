-- What the callees of `feed_next` and `finish_at` leave, put together.
use Prim.Native.Nat.{ℕ, ◌<◌, ◌≤◌}
use mathlib.Core.Path.{◌≡◌, ap, ◌∙◌}
use mathlib.Core.List.{List}
use native.Mathlib.Omega.{arith}
use lib.ListN.{length, drop, length-drop}
use Rattle.text.specs.Buffers.{Put}
use Rattle.record_reads.specs.declared.totals.Totals.{Totals}
use Rattle.record_reads.specs.Totals.{totals_of, TotalsFit}
use Rattle.threads.specs.Slice.{threads_in}
use Rattle.state.specs.Memory.{Memory, memory}
use Rattle.script.specs.Report.{finish}
use Rattle.model.specs.declared.ThreadInfo.{ThreadInfo}
use Rattle.feed_plan.specs.declared.Next.{Next}
use Rattle.feed_plan.specs.Meant.{report_meant, Few, Roomy, ReportValid}
use Rattle.feed_plan.specs.Steps.{records_in}
use Rattle.feed_plan.specs.Feeding.{LineDone, Sayable, EndFits, EndAsked}
use Rattle.feed.proofs.Results.{totals-fit}
use Rattle.report_plan.specs.declared.Progress.{Progress}
use Rattle.report_plan.specs.declared.Reached.{Reached}
use Rattle.report_plan.specs.Turning.{NextAsked, NextDone, FinishAsked}
use Rattle.report_plan.specs.Running.{ReachedAs, ProgressedAs, EndedAs}
use Rattle.report_plan.proofs.Turning.{turn-few, turn-sayable, turn-done}

module _ (p : Progress) (script b : List ℕ) (m : Memory) (a : NextAsked p script b m) where
  pub reachable : (p.from < length script) × Few p.report.stage p.report.lines
  reachable = (a.on, turn-few p script b m a)

  module _ (q : Reached) (k : ReachedAs p script q) where
    module _ (m' : Memory) (x : Next) (c : LineDone p.report q.line m m' x) where
      pub sayable : (p.at ≤ length b) × Sayable x (drop p.at b)
      sayable = (omega (arith, a.room), turn-sayable p script b m a q k x m' c)

      pub turned : Roomy m' → (b' : List ℕ) (y : Progress) → ProgressedAs p q x b b' y → NextDone p script b b' m m' y
      turned roomy b' y s = turn-done p script b m a q k x m' c roomy b' y s

---- the end of a script

module _ (p : Progress) (b : List ℕ) (ts : List ThreadInfo) (a : FinishAsked p b ts) (n : ℕ) (e : n ≡ records_in p.report.stage p.report.sched) where
  pub totalable : (n ≤ length ts) × TotalsFit (totals_of (threads_in ts n))
  totalable = totals-fit p.report n e (memory ts a.qs a.ps a.ls a.ws) a.valid

  module _ (x : Totals) (c : x ≡ totals_of (threads_in ts n)) where
    end-fits : (qs ps ls ws : List ℕ) → ReportValid p.report (memory ts qs ps ls ws) → EndFits p.report x (memory ts qs ps ls ws)
    end-fits qs ps ls ws v = record { valid = v; totals = c ∙ ap (λ (k : ℕ). totals_of (threads_in ts k)) e }

    pub end-asked : (p.at ≤ length b) × EndAsked p.report x (drop p.at b)
    end-asked = (
      a.within,
      record {
        memory = memory ts a.qs a.ps a.ls a.ws;
        fits = end-fits a.qs a.ps a.ls a.ws a.valid;
        room = λ z. omega (arith, a.room z, length-drop p.at b);
      },
    )

    pub finished : (b' : List ℕ) (m : ℕ) → EndedAs p x b b' m → (qs ps ls ws : List ℕ) → ReportValid p.report (memory ts qs ps ls ws) → Put b p.at (finish (report_meant p.report (memory ts qs ps ls ws))) b' m
    unfolding EndedAs
    finished b' m k qs ps ls ws w = k (memory ts qs ps ls ws) (end-fits qs ps ls ws w)
