use native.Mathlib.Omega.{arith}
use Prim.Native.Nat.{◌+◌}
use mathlib.Core.Path.{sym, subst}
use Rattle.script.proofs.Lengths.{refused-length}
use Rattle.feed_plan.specs.Steps.{Prints}
use Rattle.text.proofs.Puts.{wrote_none, wrote_same}
use Rattle.feed_plan.proofs.Making.{end-few, end-summed, end-heads, end-summary, end-over}
use Rattle.feed_plan.proofs.saying.put_finish.Goals as goal

pub overflow_add-r : goal.overflow_add-r
overflow_add-r c = omega (arith, end-few _ _ _ c.requires.1 c.in-Heads.is)

pub put_refused-requires : goal.put_refused-requires
put_refused-requires c =
    omega (arith, c.requires.1.room (subst Prints (sym c.in-Heads.is) tt), refused-length (c.args.r.lines + 1) 6 (omega (arith, end-few _ _ _ c.requires.1 c.in-Heads.is)) (omega arith))

pub returns-in-Heads : goal.returns-in-Heads
returns-in-Heads c = λ m f. wrote_same (end-heads _ m c.in-Heads.is) c.put_refused.ensures.text

pub returns-in-Calls : goal.returns-in-Calls
returns-in-Calls c = λ m f. wrote_same (end-summary _ m c.in-Calls.is) (c.put_summary_of.ensures.text m.threads m.queue m.prios m.log m.lanes (end-summed _ _ m f c.in-Calls.is))

pub returns-in-Over : goal.returns-in-Over
returns-in-Over c = λ m f. wrote_same (end-over _ m c.in-Over.is) (wrote_none _ (omega arith))
