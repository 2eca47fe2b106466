use native.Mathlib.Omega.{arith}
use Rattle.state.specs.Memory.{held}
use Rattle.feed.proofs.Results.{roomy-lent}
use Rattle.report.proofs.Keeping.{finished}
use Rattle.report.proofs.Taking.{asked, printable, goes_on, count_fits}
use Rattle.report.proofs.run.Goals as goal

pub advance-next-requires : goal.advance-next-requires
advance-next-requires c =
    let l = c.loop-u in
    asked l.r l.u (held l.m) l.blocks c.loop-u-test.true l.invariant

pub pass-u-requires : goal.pass-u-requires
pass-u-requires c =
    let l = c.loop-u in
    let n = c.advance-next in
    printable l.r l.u (held l.m) l.blocks c.loop-u-test.true l.invariant n.result (held n.new.m) n.ensures.done (roomy-lent l.m n.new.m n.ensures.lent l.invariant.valid.memory)

pub loop-u-preserved : goal.loop-u-preserved
loop-u-preserved c =
    let l = c.loop-u in
    let n = c.advance-next in
    let p = c.pass-u in
    goes_on l.r l.u (held l.m) l.blocks c.loop-u-test.true l.invariant n.result (held n.new.m) n.ensures.done (roomy-lent l.m n.new.m n.ensures.lent l.invariant.valid.memory)
    p.result p.new.blocks c.marked_report-r.result p.ensures p.auto.blocks c.marked_report-r.ensures

pub write_end-requires : goal.write_end-requires
write_end-requires c =
    let l = c.loop-u in
    let f = c.finish-n in
    let p = f.ensures _ _ _ _ l.invariant.valid in
    (l.invariant.awaits.roomy, count_fits l.r (held l.m) l.blocks f.result f.new.out l.invariant.valid p, omega (arith, l.invariant.room, f.auto.out))

pub returns : goal.returns
returns c =
    let l = c.loop-u in
    let f = c.finish-n in
    let p = f.ensures _ _ _ _ l.invariant.valid in
    finished l.r l.u (held l.m) l.blocks l.invariant f.result f.new.out p (count_fits l.r (held l.m) l.blocks f.result f.new.out l.invariant.valid p)
