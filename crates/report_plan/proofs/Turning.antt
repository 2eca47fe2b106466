-- The parts of a turn put together.
use Prim.Native.Nat.{ℕ, ◌+◌, ◌≤◌}
use mathlib.Core.Path.{◌≡◌, refl, sym, ap, ◌∙◌, subst}
use mathlib.Core.List.{List}
use native.Mathlib.Omega.{arith}
use lib.ListN.{length, drop, length-drop, replicate, length-replicate}
use lib.Seq.{paste}
use Rattle.text.specs.Buffers.{Put}
use Rattle.state.specs.Memory.{Memory}
use Rattle.state.specs.State.{meant}
use Rattle.script.specs.Report as Definition
use Rattle.feed_plan.specs.declared.Report.{Report}
use Rattle.feed_plan.specs.declared.Next.{Next}
use Rattle.feed_plan.specs.declared.Fed.{Fed}
use Rattle.feed_plan.specs.Meant.{report_meant, Few, Roomy, ReportValid}
use Rattle.feed_plan.specs.Steps.{fed_of, next_text}
use Rattle.feed_plan.specs.Feeding.{LineAsked, LineDone, Sayable, FeedDone}
use Rattle.feed_plan.proofs.Feeding.{lines-few, line-asked, sayable, feed-done}
use Rattle.report_plan.specs.declared.Progress.{Progress}
use Rattle.report_plan.specs.declared.Reached.{Reached}
use Rattle.report_plan.specs.Running.{piece, ReachedAs, ProgressedAs}
use Rattle.report_plan.specs.Turning.{NextAsked, NextDone}

module _ (p : Progress) (script b : List ℕ) (m : Memory) (a : NextAsked p script b m) where
  pub turn-few : Few p.report.stage p.report.lines
  turn-few = lines-few p.report script m a.valid

  module _ (q : Reached) (k : ReachedAs p script q) where
    pub turn-asked : LineAsked p.report q.line m
    turn-asked = line-asked p.report (piece p q script) m a.valid q.line k.reads.fits

    turn-says : Definition.feed (report_meant p.report m) (piece p q script) ≡ fed_of (report_meant p.report m) q.line
    unfolding report_meant
    turn-says = k.reads.says (meant p.report.sched m)

    module _ (x : Next) (m' : Memory) (c : LineDone p.report q.line m m' x) where
      pub turn-sayable : Sayable x (drop p.at b)
      turn-sayable = sayable p.report (piece p q script) m a.valid q.line m' x turn-says c (drop p.at b) (omega (arith, a.room, length-drop p.at b))

      turn-short : length (next_text x) ≤ 288
      turn-short =
          subst (λ (k : ℕ). length (next_text x) ≤ k) (length-replicate {A = ℕ} 288 0)
          (sayable p.report (piece p q script) m a.valid q.line m' x turn-says c (replicate 288 0) (subst (λ (k : ℕ). 288 ≤ k) (sym (length-replicate {A = ℕ} 288 0)) (omega arith))).long

      pub turn-done : Roomy m' → (b' : List ℕ) (y : Progress) → ProgressedAs p q x b b' y → NextDone p script b b' m m' y
      turn-done roomy b' y s =
          let f : Fed = record { report = x.report; written = 0 + length (next_text x) } in
          let d : FeedDone p.report (piece p q script) b (paste b 0 (next_text x) (length (next_text x))) m m' f =
          feed-done p.report (piece p q script) m a.valid q.line m' x turn-says c b (paste b 0 (next_text x) (length (next_text x))) f roomy (record { report = refl; text = record { bytes = refl; end = refl } }) in
          record {
            piece = piece p q script;
            lines = rw s.from k.lines;
            ahead = rw s.from k.on;
            within = rw s.from k.within;
            report = ap (λ (r : Report). report_meant r m') s.report ∙ d.report;
            text = subst (λ (t : List ℕ). Put b p.at t b' y.at) (c.text ∙ sym (ap (λ (g : Definition.Fed). g.out) turn-says)) s.text;
            short = omega (arith, s.text.end, turn-short);
            valid = subst (λ (r : Report). ReportValid r m') (sym s.report) d.valid;
          }
