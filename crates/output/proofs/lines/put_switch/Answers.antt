use Rattle.std.proofs.Common.{ℕ, ap, arith, length, length-append}
use Rattle.text.specs.Lines.{written, commas}
use Rattle.text.proofs.Puts.{wrote_same, wrote_then}
use Rattle.script.specs.Report.{maybe, switch_text}
use Rattle.output.proofs.lines.put_switch.Goals as goal

pub put_maybe-requires-2 : goal.put_maybe-requires-2
unfolding switch_text written commas
put_maybe-requires-2 c = omega (arith, c.requires, length-append {A = ℕ}, ap (λ o. length (maybe o)) c.out_tid.ensures)

pub put-requires-6 : goal.put-requires-6
unfolding switch_text written commas
put-requires-6 c = omega (arith, c.requires, length-append {A = ℕ}, ap (λ o. length (maybe o)) c.out_tid.ensures)

pub returns : goal.returns
unfolding switch_text written commas
returns c =
    let out = wrote_same (ap maybe c.out_tid.ensures) c.put_maybe.ensures in
    let last = wrote_then c.put_out_reason.ensures (wrote_then c.put-5.ensures c.put_maybe-2.ensures) in
    let core = wrote_then c.put_number-2.ensures (wrote_then c.put-3.ensures (wrote_then out (wrote_then c.put-4.ensures last))) in
    wrote_then c.put.ensures (wrote_then (wrote_then c.put_number.ensures (wrote_then c.put-2.ensures core)) c.put-6.ensures)
