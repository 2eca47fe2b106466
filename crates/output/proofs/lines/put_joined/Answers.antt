use Rattle.std.proofs.Common.{◌∙◌, arith}
use Rattle.text.specs.Lines.{written, commas}
use Rattle.text.proofs.Puts.{wrote_same, wrote_then}
use Rattle.model.specs.Reading.{join_meant}
use Rattle.script.specs.Report.{joined_text}
use Rattle.script.proofs.Lengths.{joined_length}
use Rattle.output.proofs.lines.put_joined.Goals as goal

pub returns : goal.returns
unfolding joined_text written commas
returns c =
    let word = wrote_same (c.as_bytes.ensures.value ∙ c.join_label.ensures) c.put-3.ensures in
    let whole = wrote_then c.put.ensures (wrote_then (wrote_then c.put_number.ensures (wrote_then c.put-2.ensures word)) c.put-4.ensures) in
    record {
      text = whole;
      short = λ h. omega (arith, whole.put.end, joined_length c.args.line (join_meant c.args.outcome) h);
    }
