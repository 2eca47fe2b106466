use Rattle.std.proofs.Common.{length, arith}
use Rattle.text.proofs.Found.{search-place, piece-ended, piece-open}
use Rattle.text.proofs.lines.piece_end.Goals as goal

pub returns-in-Some : goal.returns-in-Some
returns-in-Some c =
    let e = search-place 10 c.args.text.now c.args.from c.in-Some.p c.in-Some.ensures.place in
    (omega (arith, e), omega (arith, c.in-Some.ensures.found), piece-ended c.args.text.now c.args.from c.in-Some.p (omega arith) e c.in-Some.ensures.found)

pub returns-in-None : goal.returns-in-None
returns-in-None c =
    let e = search-place 10 c.args.text.now c.args.from (length c.args.text.now) c.in-None.ensures.place in
    (c.requires, omega arith, piece-open c.args.text.now c.args.from (length c.args.text.now) c.requires e (omega arith))
