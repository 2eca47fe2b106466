use native.Mathlib.Omega.{arith}
use Rattle.queue.proofs.Scan.{down_start, down_take, down_keep, down_some, down_none, down_any}
use Rattle.queue.proofs.pick.most_urgent.Goals as goal

pub loop-i-init : goal.loop-i-init
loop-i-init c = down_start _ _ _

pub loop-i-preserved-then-p-low : goal.loop-i-preserved-then-p-low
loop-i-preserved-then-p-low c = down_take _ _ _ c.loop-i.i c.loop-i.best c.loop-i.low _ c.loop-i-test.true c.loop-i.auto.i c.priority_of-p.ensures c.if-p-low.true c.loop-i.invariant

pub loop-i-preserved : goal.loop-i-preserved
loop-i-preserved c = down_keep _ _ _ c.loop-i.i _ _ _ c.loop-i-test.true c.loop-i.auto.i c.priority_of-p.ensures c.if-p-low.false c.loop-i.invariant

pub returns-then-best-waiting : goal.returns-then-best-waiting
returns-then-best-waiting c =
    let r = down_some _ _ _ c.loop-i.i _ _ c.loop-i-test.false c.loop-i.invariant c.if-best-waiting.true in
    record { under = r; any = λ e. down_any _ _ _ (λ t. omega (arith, c.type_inv.prios t)) _ r }

pub returns-else-best-waiting : goal.returns-else-best-waiting
returns-else-best-waiting c =
    let r = down_none _ _ _ c.loop-i.i _ _ c.loop-i-test.false c.loop-i.invariant c.if-best-waiting.false in
    record { under = r; any = λ e. down_any _ _ _ (λ t. omega (arith, c.type_inv.prios t)) _ r }
