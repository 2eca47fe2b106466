use Rattle.std.proofs.Common.{arith}
use Prim.Native.Nat.{ℕ}
use mathlib.Core.Path.{ap₂}
use Rattle.model.specs.Accounting.{Sums}
use Rattle.text.proofs.Puts.{wrote_same}
use Rattle.summary.specs.Reading.{sums_meant}
use Rattle.script.specs.Report.{summary_text, summary}
use Rattle.script.proofs.Lengths.{summary_text-length}
use Rattle.output.proofs.Rooms.{sums-modest}
use Rattle.output.proofs.sums.put_summary_of.Goals as goal

pub put_summary-requires : goal.put_summary-requires
put_summary-requires c =
    let fit = c.sums_from.ensures.1 in
    (fit, omega (arith, summary_text-length c.sums_from.result.now.0 (sums_meant c.sums_from.result) (sums-modest c.sums_from.result fit)))

pub returns : goal.returns
unfolding summary
returns c = record {
  text = λ ts qs ps ls ws k. wrote_same (ap₂ (λ (t : ℕ) (m : Sums). summary_text t m) (c.sums_from.ensures.0 ts qs ps ls ws k).1 (c.sums_from.ensures.0 ts qs ps ls ws k).0) c.put_summary.ensures.text;
  short = c.put_summary.ensures.short;
}
