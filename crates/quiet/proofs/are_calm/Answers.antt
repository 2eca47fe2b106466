use mathlib.Core.Path.{◌≡◌}
use mathlib.Core.Bool.{true}
use borrow.Author.Tests.{not-true}
use Rattle.quiet.proofs.Cores.{test_at, calm-not, calm_pass, calm-one, calm-last, seven}
use Rattle.quiet.proofs.are_calm.Goals as goal

pub returns-then-not-is_calm : goal.returns-then-not-is_calm
returns-then-not-is_calm c = calm-not c.args.s c.args.rr c.args.q 0 _ c.is_calm.ensures (not-true _ c.if-not-is_calm.true-raw)

pub returns-then-n-eq1 : goal.returns-then-n-eq1
returns-then-n-eq1 c =
    calm-one c.args.s c.args.rr c.args.q c.if-n-eq1.true (calm_pass c.args.s c.args.rr c.args.q 0 _ c.is_calm.ensures c.if-not-is_calm.false-raw)

pub returns-then-not-is_calm-2 : goal.returns-then-not-is_calm-2
returns-then-not-is_calm-2 c = calm-not c.args.s c.args.rr c.args.q 1 _ c.is_calm-2.ensures (not-true _ c.if-not-is_calm-2.true-raw)

pub returns-then-not-is_calm-3 : goal.returns-then-not-is_calm-3
returns-then-not-is_calm-3 c = calm-not c.args.s c.args.rr c.args.q 2 _ c.is_calm-3.ensures (not-true _ c.if-not-is_calm-3.true-raw)

pub returns-then-not-is_calm-4 : goal.returns-then-not-is_calm-4
returns-then-not-is_calm-4 c = calm-not c.args.s c.args.rr c.args.q 3 _ c.is_calm-4.ensures (not-true _ c.if-not-is_calm-4.true-raw)

pub returns-then-not-is_calm-5 : goal.returns-then-not-is_calm-5
returns-then-not-is_calm-5 c = calm-not c.args.s c.args.rr c.args.q 4 _ c.is_calm-5.ensures (not-true _ c.if-not-is_calm-5.true-raw)

pub returns-then-not-is_calm-6 : goal.returns-then-not-is_calm-6
returns-then-not-is_calm-6 c = calm-not c.args.s c.args.rr c.args.q 5 _ c.is_calm-6.ensures (not-true _ c.if-not-is_calm-6.true-raw)

pub returns-then-not-is_calm-7 : goal.returns-then-not-is_calm-7
returns-then-not-is_calm-7 c = calm-not c.args.s c.args.rr c.args.q 6 _ c.is_calm-7.ensures (not-true _ c.if-not-is_calm-7.true-raw)

pub returns : goal.returns
returns c =
    let pass = calm_pass c.args.s c.args.rr c.args.q in
    calm-last c.args.s c.args.rr c.args.q c.requires (seven (λ j. test_at c.args.s c.args.rr c.args.q j ≡ true) (pass 0 _ c.is_calm.ensures c.if-not-is_calm.false-raw) (pass 1 _ c.is_calm-2.ensures c.if-not-is_calm-2.false-raw) (pass 2 _ c.is_calm-3.ensures c.if-not-is_calm-3.false-raw) (pass 3 _ c.is_calm-4.ensures c.if-not-is_calm-4.false-raw) (pass 4 _ c.is_calm-5.ensures c.if-not-is_calm-5.false-raw) (pass 5 _ c.is_calm-6.ensures c.if-not-is_calm-6.false-raw) (pass 6 _ c.is_calm-7.ensures c.if-not-is_calm-7.false-raw)) _ c.is_calm-8.ensures
