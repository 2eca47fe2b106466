use Rattle.std.proofs.Common.{◌≡◌, Some, None, sym, arith}
use Rattle.fields.proofs.Commas.{two_none, two_more, two_just}
use Rattle.fields.proofs.two_fields.Goals as goal

pub returns-in_err-comma : goal.returns-in_err-comma
returns-in_err-comma c =
    let none : c.comma_at.result ≡ None = grind arith in
    let place = rw none at c.comma_at.ensures.place in
    let wrong = two_none c.args.v.now _ place.2 (omega arith) in
    grind arith

pub returns-in-Some : goal.returns-in-Some
returns-in-Some c =
    let some : c.comma_at.result ≡ Some c.in_ok-comma.comma = grind arith in
    let place = rw some at c.comma_at.ensures.place in
    sym (two_more c.args.v.now _ place.2 _ c.in-Some.ensures.place.2 (rw some at c.comma_at.ensures.found) c.in-Some.ensures.found)

pub returns-in-None : goal.returns-in-None
returns-in-None c =
    let some : c.comma_at.result ≡ Some c.in_ok-comma.comma = grind arith in
    let place = rw some at c.comma_at.ensures.place in
    sym (two_just c.args.v.now _ place.2 _ c.in-None.ensures.place.2 (rw some at c.comma_at.ensures.found) (omega arith))
