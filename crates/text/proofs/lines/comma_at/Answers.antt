use Rattle.std.proofs.Common.{length, unwrap_or, arith}
use Rattle.text.proofs.Found.{search-place, comma-found}
use Rattle.text.proofs.lines.comma_at.Goals as goal

pub returns-clause-place : goal.returns-clause-place
returns-clause-place c =
    let p = unwrap_or c.find.result (length c.args.v.now) in
    let e = search-place 44 c.args.v.now c.args.from p c.find.ensures.place in
    (omega (arith, e), c.find.ensures.bound, comma-found c.args.v.now c.args.from p c.requires e)
