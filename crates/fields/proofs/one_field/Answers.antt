use Rattle.std.proofs.Common.{sym, arith}
use Rattle.text.specs.Lines.{good}
use Rattle.fields.proofs.Commas.{one_only, one_more}
use Rattle.fields.proofs.one_field.Goals as goal

pub returns-in-Some : goal.returns-in-Some
returns-in-Some c = sym (one_more c.args.v.now _ c.in-Some.ensures.place.2 good c.in-Some.ensures.found)

pub returns-in-None : goal.returns-in-None
returns-in-None c = sym (one_only c.args.v.now _ c.in-None.ensures.place.2 good (omega arith))
