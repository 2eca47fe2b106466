use Rattle.std.proofs.Common.{rules, ◌-◌, eqb, take, drop, arith}
use borrow.Author.Tests.{tests}
use Rattle.std.proofs.lemmas.Iterator.{YieldsList-from_slice}
use Rattle.std.proofs.lemmas.Iterator.Search.{position_from_yields_List}
use Rattle.text.proofs.Found.{index_from}
use Rattle.text.proofs.scan.find.Goals as goal

pub returns-in_err-place-clause-place : goal.returns-in_err-place-clause-place
returns-in_err-place-clause-place c =
    let found = position_from_yields_List (λ x. eqb x c.args.b) _ _ c.position.result c.position.ensures.ran (YieldsList-from_slice (take (c.args.to - c.args.from) (drop c.args.from c.args.text.now)) cc) (λ x b q k. search (rules, tests)) in
    let e = rw c.in_err-place.was at (index_from c.args.b c.args.from c.args.to c.args.text.now c.position.result c.requires.order c.requires.within found) in
    rw c.from_residual.ensures (omega (arith, e))

pub returns-clause-place : goal.returns-clause-place
returns-clause-place c =
    let found = position_from_yields_List (λ x. eqb x c.args.b) _ _ c.position.result c.position.ensures.ran (YieldsList-from_slice (take (c.args.to - c.args.from) (drop c.args.from c.args.text.now)) cc) (λ x b q k. search (rules, tests)) in
    rw c.in_ok-place.was at (index_from c.args.b c.args.from c.args.to c.args.text.now c.position.result c.requires.order c.requires.within found)
