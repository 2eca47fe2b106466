use Rattle.std.proofs.Common.{◌≡◌, Some, None, arith}
use Rattle.commands.proofs.Saying.{no_key, keyed}
use Rattle.commands.proofs.calls.read_call.Goals as goal

pub returns-in_err-end : goal.returns-in_err-end
returns-in_err-end c =
    let none : c.equals_at.result ≡ None = grind arith in
    let place = rw none at c.equals_at.ensures.place in
    let wrong = no_key c.args.line.now _ place.1 (omega arith) in
    grind arith

pub returns : goal.returns
returns c =
    let some : c.equals_at.result ≡ Some c.in_ok-end.end = grind arith in
    let place = rw some at c.equals_at.ensures.place in
    keyed c.args.line.now _ place.1 (rw some at c.equals_at.ensures.found) place.2 _ _ _ c.call_of.ensures c.call_key.ensures c.trimmed.ensures
