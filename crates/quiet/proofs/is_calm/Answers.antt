use Prim.Native.Nat.{suc}
use mathlib.Core.Bool.{false}
use lib.Dec.{leb}
use lib.ListN.{get_or}
use borrow.Author.Tests.{not-true, not-false}
use Rattle.quiet.proofs.Words.{unused, not-held, held, unspent, short-of}
use Rattle.quiet.proofs.is_calm.Goals as goal

pub returns-then-n-i : goal.returns-then-n-i
returns-then-n-i c = unused c.args.n c.args.i c.args.w.kind c.args.w.tid c.args.w.count c.args.preemptive c.args.quantum (get_or c.args.marks.exits c.args.i false) (get_or c.args.marks.blocks c.args.i false) (get_or c.args.marks.yields c.args.i false) (get_or c.args.marks.progressed c.args.i false) c.if-n-i.true

pub returns-then-w-lt2 : goal.returns-then-w-lt2
returns-then-w-lt2 c = not-held c.args.n c.args.i c.args.w.kind c.args.w.tid c.args.w.count c.args.preemptive c.args.quantum (get_or c.args.marks.exits c.args.i false) (get_or c.args.marks.blocks c.args.i false) (get_or c.args.marks.yields c.args.i false) (get_or c.args.marks.progressed c.args.i false) c.if-n-i.false c.if-w-lt2.true

pub returns-then-marks-i : goal.returns-then-marks-i
returns-then-marks-i c = held c.args.n c.args.i c.args.w.kind c.args.w.tid c.args.w.count c.args.preemptive c.args.quantum (get_or c.args.marks.exits c.args.i false) (get_or c.args.marks.blocks c.args.i false) (get_or c.args.marks.yields c.args.i false) (get_or c.args.marks.progressed c.args.i false) c.if-n-i.false c.if-w-lt2.false _ (rw c.if-marks-i.true)

pub returns-then-marks-i-2 : goal.returns-then-marks-i-2
returns-then-marks-i-2 c = held c.args.n c.args.i c.args.w.kind c.args.w.tid c.args.w.count c.args.preemptive c.args.quantum (get_or c.args.marks.exits c.args.i false) (get_or c.args.marks.blocks c.args.i false) (get_or c.args.marks.yields c.args.i false) (get_or c.args.marks.progressed c.args.i false) c.if-n-i.false c.if-w-lt2.false _ (rw (c.if-marks-i.false, c.if-marks-i-2.true))

pub returns-then-marks-i-3 : goal.returns-then-marks-i-3
returns-then-marks-i-3 c = held c.args.n c.args.i c.args.w.kind c.args.w.tid c.args.w.count c.args.preemptive c.args.quantum (get_or c.args.marks.exits c.args.i false) (get_or c.args.marks.blocks c.args.i false) (get_or c.args.marks.yields c.args.i false) (get_or c.args.marks.progressed c.args.i false) c.if-n-i.false c.if-w-lt2.false _ (rw (c.if-marks-i.false, c.if-marks-i-2.false, c.if-marks-i-3.true))

pub returns-then-not-preemptive : goal.returns-then-not-preemptive
returns-then-not-preemptive c = held c.args.n c.args.i c.args.w.kind c.args.w.tid c.args.w.count c.args.preemptive c.args.quantum (get_or c.args.marks.exits c.args.i false) (get_or c.args.marks.blocks c.args.i false) (get_or c.args.marks.yields c.args.i false) (get_or c.args.marks.progressed c.args.i false) c.if-n-i.false c.if-w-lt2.false _ (rw (c.if-marks-i.false, c.if-marks-i-2.false, c.if-marks-i-3.false, not-true c.args.preemptive c.if-not-preemptive.true-raw))

pub returns-then-not-marks-i : goal.returns-then-not-marks-i
returns-then-not-marks-i c = held c.args.n c.args.i c.args.w.kind c.args.w.tid c.args.w.count c.args.preemptive c.args.quantum (get_or c.args.marks.exits c.args.i false) (get_or c.args.marks.blocks c.args.i false) (get_or c.args.marks.yields c.args.i false) (get_or c.args.marks.progressed c.args.i false) c.if-n-i.false c.if-w-lt2.false _ (rw (c.if-marks-i.false, c.if-marks-i-2.false, c.if-marks-i-3.false, not-false c.args.preemptive c.if-not-preemptive.false-raw, not-true (get_or c.args.marks.progressed c.args.i false) c.if-not-marks-i.true-raw) (unspent (leb c.args.quantum (suc c.args.w.count))))

pub returns : goal.returns
returns c = held c.args.n c.args.i c.args.w.kind c.args.w.tid c.args.w.count c.args.preemptive c.args.quantum (get_or c.args.marks.exits c.args.i false) (get_or c.args.marks.blocks c.args.i false) (get_or c.args.marks.yields c.args.i false) (get_or c.args.marks.progressed c.args.i false) c.if-n-i.false c.if-w-lt2.false _ (rw (c.if-marks-i.false, c.if-marks-i-2.false, c.if-marks-i-3.false, not-false c.args.preemptive c.if-not-preemptive.false-raw, not-false (get_or c.args.marks.progressed c.args.i false) c.if-not-marks-i.false-raw) (short-of c.args.w.count c.args.quantum))
