use Rattle.std.proofs.Common.{ℕ, arith, length-append}
use Rattle.text.specs.Lines.{written, commas}
use Rattle.text.proofs.Puts.{wrote_then}
use Rattle.summary.specs.Reading.{sums_meant}
use Rattle.script.specs.Report.{summary_text}
use Rattle.script.proofs.Lengths.{summary_text-length}
use Rattle.output.proofs.Rooms.{sums-modest}
use Rattle.output.proofs.sums.put_summary.Goals as goal

pub put_average-requires : goal.put_average-requires
unfolding summary_text written commas
put_average-requires c = let room = simp length-append at c.requires.1 in (c.requires.0.waiting, omega (arith, room, length-append {A = ℕ}))

pub put_average-requires-2 : goal.put_average-requires-2
unfolding summary_text written commas
put_average-requires-2 c = let room = simp length-append at c.requires.1 in (c.requires.0.response, omega (arith, room, length-append {A = ℕ}))

pub put_average-requires-3 : goal.put_average-requires-3
unfolding summary_text written commas
put_average-requires-3 c = let room = simp length-append at c.requires.1 in (c.requires.0.turnaround, omega (arith, room, length-append {A = ℕ}))

pub put_number_line-requires-6 : goal.put_number_line-requires-6
unfolding summary_text written commas
put_number_line-requires-6 c = let room = simp length-append at c.requires.1 in omega (arith, room, length-append {A = ℕ})

pub put_number_line-requires-7 : goal.put_number_line-requires-7
unfolding summary_text written commas
put_number_line-requires-7 c = let room = simp length-append at c.requires.1 in omega (arith, room, length-append {A = ℕ})

pub returns : goal.returns
unfolding summary_text written commas
returns c =
    let cores = wrote_then c.put_number_line-6.ensures c.put_number_line-7.ensures in
    let means = wrote_then c.put_average.ensures (wrote_then c.put_average-2.ensures (wrote_then c.put_average-3.ensures cores)) in
    let moves = wrote_then c.put_number_line-4.ensures (wrote_then c.put_number_line-5.ensures means) in
    let whole = wrote_then c.put_number_line.ensures (wrote_then c.put_number_line-2.ensures (wrote_then c.put_number_line-3.ensures moves)) in
    record {
      text = whole;
      short = omega (arith, whole.put.end, summary_text-length c.args.sums.now.0 (sums_meant c.args.sums) (sums-modest c.args.sums c.requires.0));
    }
