use Rattle.std.proofs.Common.{arith}
use Rattle.text.specs.Lines.{written, commas}
use Rattle.text.proofs.Puts.{wrote_then}
use Rattle.settings.specs.Reading.{refusal_number}
use Rattle.script.specs.Report.{refused_text}
use Rattle.script.proofs.Lengths.{refused-length}
use Rattle.output.proofs.Rooms.{refusal-small}
use Rattle.output.proofs.lines.put_refused.Goals as goal

pub returns : goal.returns
unfolding refused_text written commas
returns c =
    let number = rw c.number-number.ensures at c.put_number-2.ensures in
    let whole = wrote_then c.put.ensures (wrote_then (wrote_then c.put_number.ensures (wrote_then c.put-2.ensures number)) c.put-3.ensures) in
    record {
      text = whole;
      short = λ h. omega (arith, whole.put.end, refused-length c.args.line (refusal_number c.args.refusal) h (refusal-small c.args.refusal));
    }
