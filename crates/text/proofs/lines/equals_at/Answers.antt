use Rattle.std.proofs.Common.{length, unwrap_or}
use Rattle.text.proofs.Found.{search-place, key-found, value_found}
use Rattle.text.proofs.lines.equals_at.Goals as goal

pub returns-clause-place : goal.returns-clause-place
returns-clause-place c =
    let p = unwrap_or c.find.result (length c.args.line.now) in
    let e = search-place 61 c.args.line.now 0 p c.find.ensures.place in
    (c.find.ensures.bound, key-found c.args.line.now p e, value_found c.args.line.now p e)
