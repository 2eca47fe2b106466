use mathlib.Core.Path.{◌≡◌}
use native.Mathlib.Omega.{arith}
use Rattle.feed.proofs.Results.{same-loans, loans-then}
use Rattle.script_report.proofs.Looping.{made_none, next-asked, made-next, finish-asked, lines-done}
use Rattle.script_report.proofs.feed_lines.Goals as goal

pub loop-init : goal.loop-init
loop-init c = (same-loans _, made_none _ _ _ _ _ c.requires)

pub feed_next-p-requires : goal.feed_next-p-requires
feed_next-p-requires c = next-asked _ _ _ _ _ c.requires _ _ _ _ c.loop.invariant.1 (omega arith) c.loop-test.true

pub loop-preserved : goal.loop-preserved
loop-preserved c =
    let d = c.feed_next-p.ensures in
    (loans-then c.loop.invariant.0 d.lent, made-next _ _ _ _ _ c.requires _ _ _ _ c.loop.invariant.1 (omega arith) c.loop-test.true _ _ _ d.done)

-- the loop has ended at n
pub finish_at-requires : goal.finish_at-requires
finish_at-requires c =
    let e : c.loop.counter ≡ c.args.n = omega arith in
    finish-asked _ _ _ _ _ c.requires _ _ _ (rw e at c.loop.invariant.1) (omega arith)

pub returns-clause-done : goal.returns-clause-done
returns-clause-done c =
    let e : c.loop.counter ≡ c.args.n = omega arith in
    lines-done _ _ _ _ _ c.requires _ _ _ (rw e at c.loop.invariant.1) (omega arith) _ _ (c.finish_at.ensures _ _ _ _ c.loop.invariant.1.valid)
