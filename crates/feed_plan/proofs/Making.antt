-- What is put of a line and at the end of a script, arm by arm.
use Rattle.std.specs.Prelude.{Ok, Err}
use Prim.Native.Nat.{ℕ, suc, ◌+◌, ◌≤◌}
use mathlib.Core.Path.{◌≡◌, ap, ◌∙◌, subst}
use mathlib.Core.Logic.{◌⊎◌, inl, inr}
use mathlib.Core.List.{List, []}
use native.Mathlib.Omega.{arith}
use Rattle.settings.specs.declared.Refusal.{Refusal}
use Rattle.settings.specs.Reading.{refusal_number}
use Rattle.model.specs.declared.Tid.{Tid}
use Rattle.model.specs.declared.JoinOutcome.{JoinOutcome}
use Rattle.model.specs.Reading.{join_meant, switches_meant}
use Rattle.record_reads.specs.declared.totals.Totals.{Totals}
use Rattle.record_reads.specs.Totals.{totals_of}
use Rattle.threads.specs.Slice.{threads_in}
use Rattle.state.specs.Memory.{Memory}
use Rattle.state.specs.State.{meant}
use Rattle.summary.specs.Reading.{Summed}
use Rattle.sched.specs.declared.Outcome.TheVariants as OutcomeCases
use Rattle.script.specs.Report.{answer_text, refused_text, joined_text, switch_texts, summary, finishing, finish}
use Rattle.feed_plan.specs.declared.Stage.{Stage}
use Rattle.feed_plan.specs.declared.Stage.TheVariants as StageCases
use Rattle.feed_plan.specs.declared.Report.{Report}
use Rattle.feed_plan.specs.declared.Next.{Next}
use Rattle.feed_plan.specs.Meant.{report_meant, Few, Held}
use Rattle.feed_plan.specs.Steps.{records_in, next_text}
use Rattle.feed_plan.specs.Feeding.{EndFits, EndAsked}
use Rattle.feed_plan.proofs.Feeding.{lines-few}

---- what is printed

module _ (x : Next) where
  pub text-refused : (k : Refusal) → x.outcome ≡ Err k → refused_text x.line (refusal_number k) ≡ next_text x
  unfolding next_text answer_text
  text-refused k e = rw e

  pub text-joined : (j : JoinOutcome) → x.outcome ≡ Ok (OutcomeCases.Joined j) → joined_text x.line (join_meant j) ≡ next_text x
  unfolding next_text answer_text
  text-joined j e = rw e

  pub text-switched : x.outcome ≡ Ok OutcomeCases.Switched → switch_texts x.report.sched.now.0 (switches_meant x.switches.entries x.switches.count) ≡ next_text x
  unfolding next_text answer_text
  text-switched e = rw e

  pub text-taken : x.outcome ≡ Ok OutcomeCases.Taken → [] ≡ next_text x
  unfolding next_text answer_text
  text-taken e = rw e

  pub text-spawned : (t : Tid) → x.outcome ≡ Ok (OutcomeCases.Spawned t) → [] ≡ next_text x
  unfolding next_text answer_text
  text-spawned t e = rw e

---- the end of a script

module _ (r : Report) where
  few-at : (n : ℕ) (g : Stage) → g ≡ StageCases.Heads → Few g n → n ≤ 1_000_000_000_000
  few-at n g e h = subst (λ (x : Stage). Few x n) e h

  pub end-few : (n : Totals) (b : List ℕ) → EndAsked r n b → r.stage ≡ StageCases.Heads → r.lines ≤ 1_000_000_000_000
  end-few n b a e = few-at r.lines r.stage e (lines-few r [] a.memory a.fits.valid)

  module _ (n : Totals) (m : Memory) (f : EndFits r n m) where
    calls-summed : r.stage ≡ StageCases.Calls → Summed r.sched n m.threads m.queue m.prios m.log m.lanes
    calls-summed e = record { valid = subst (λ (x : Stage). Held x r.sched m) e f.valid.held; totals = f.totals ∙ ap (λ (x : Stage). totals_of (threads_in m.threads (records_in x r.sched))) e }

    ended-summed : r.stage ≡ StageCases.Ended → Summed r.sched n m.threads m.queue m.prios m.log m.lanes
    ended-summed e = record { valid = subst (λ (x : Stage). Held x r.sched m) e f.valid.held; totals = f.totals ∙ ap (λ (x : Stage). totals_of (threads_in m.threads (records_in x r.sched))) e }

    pub end-summed : (r.stage ≡ StageCases.Calls) ⊎ (r.stage ≡ StageCases.Ended) → Summed r.sched n m.threads m.queue m.prios m.log m.lanes
    end-summed (inl e) = calls-summed e
    end-summed (inr e) = ended-summed e

  module _ (m : Memory) where
    one_more : (n : ℕ) → n + 1 ≡ suc n
    one_more n = omega arith

    pub end-heads : r.stage ≡ StageCases.Heads → refused_text (r.lines + 1) 6 ≡ finish (report_meant r m)
    unfolding finish finishing report_meant
    end-heads e = rw e (ap (λ (i : ℕ). refused_text i 6) (one_more r.lines))

    pub end-summary : (r.stage ≡ StageCases.Calls) ⊎ (r.stage ≡ StageCases.Ended) → summary (meant r.sched m) ≡ finish (report_meant r m)
    unfolding finish finishing report_meant
    end-summary (inl e) = rw e
    end-summary (inr e) = rw e

    pub end-over : r.stage ≡ StageCases.Over → [] ≡ finish (report_meant r m)
    unfolding finish finishing report_meant
    end-over e = rw e
