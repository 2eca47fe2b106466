use Rattle.std.proofs.Common.{◌∙◌, sym, ap, ◌≡◌, ◌+◌, length, arith, drop, []}
use Rattle.std.proofs.lemmas.List.{take_rest}
use lib.ListN.{drop_of_length-le}
use Rattle.text.specs.Lines.{value, trim}
use Rattle.text.proofs.lines.value.Goals as goal

pub returns-in-Some : goal.returns-in-Some
unfolding value
returns-in-Some c = c.trimmed.ensures ∙ ap trim (take_rest c.args.line.now (c.in-Some.p + 1) ∙ sym c.in-Some.ensures.place.2)

pub returns-in-None : goal.returns-in-None
unfolding value
returns-in-None c =
    let behind : drop (length c.args.line.now) c.args.line.now ≡ [] = drop_of_length-le c.args.line.now {i = length c.args.line.now} (omega arith) in
    let past : drop (length c.args.line.now + 1) c.args.line.now ≡ [] = drop_of_length-le c.args.line.now {i = length c.args.line.now + 1} (omega arith) in
    take_rest c.args.line.now (length c.args.line.now) ∙ behind ∙ sym (ap trim (c.in-None.ensures.place.2 ∙ past))
