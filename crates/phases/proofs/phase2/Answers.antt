use borrow.Author.Rules.{rules}
use native.Mathlib.Omega.{arith}
use mathlib.Core.Path.{sym, ◌∙◌}
use mathlib.Core.Bool.{false}
use lib.ListN.{get_or, length-set}
use borrow.Author.Tests.{not-true}
use Rattle.queue.proofs.Frames.{still-lent, still-lent-both, appended-none, appended-both, appended-room}
use Rattle.turns.proofs.Steps.{besides-same, phase2-pass}
use Rattle.phases.proofs.Loops.{loop-start, loop-end, core-turn, core-unmoved}
use Rattle.phases.proofs.phase2.Goals as goal

pub loop-i-init : goal.loop-i-init
loop-i-init c = (search rules, search rules, still-lent _, appended-none _ _ _, λ ex bl yi pr q. loop-start _ _ _ _)

pub loop-i-preserved-then-not-is_switching : goal.loop-i-preserved-then-not-is_switching
loop-i-preserved-then-not-is_switching c = (
  omega (arith, c.if-n-i.false),
  c.loop-i.invariant.1,
  c.loop-i.invariant.2,
  appended-room _ c.loop-i.invariant.3 (omega arith),
  λ ex bl yi pr q. core-unmoved _ _ _ _ _ _ _ _ _ _ _ _ (c.loop-i.invariant.4 ex bl yi pr q) (omega (arith, c.loop-i-test.true, c.loop-i.invariant.1)) (phase2-pass _ _ _ _ _ _ _ (sym c.is_switching.ensures ∙ not-true _ c.if-not-is_switching.true-raw)),
)

pub loop-i-preserved : goal.loop-i-preserved
loop-i-preserved c = (
  omega (arith, c.if-n-i.false),
  simp length-set c.loop-i.invariant.1,
  still-lent-both c.loop-i.invariant.2 c.phase2_on.ensures.lent,
  appended-both _ c.loop-i.invariant.3 c.phase2_on.ensures.out (omega arith),
  λ ex bl yi pr q. core-turn _ _ _ _ _ _ _ _ _ _ _ _ (c.loop-i.invariant.4 ex bl yi pr q) (omega (arith, c.loop-i-test.true, c.loop-i.invariant.1)) _ _ _ _ _ _ _ (besides-same ex c.loop-i.i) (besides-same bl c.loop-i.i) (besides-same yi c.loop-i.i) (besides-same pr c.loop-i.i) (c.phase2_on.ensures.turn c.loop-i.i (get_or ex c.loop-i.i false) (get_or bl c.loop-i.i false) (get_or yi c.loop-i.i false) (get_or pr c.loop-i.i false) q),
)

pub returns-after-loop-i : goal.returns-after-loop-i
returns-after-loop-i c = record {
  ran = λ ex bl yi pr q. loop-end (c.loop-i.invariant.4 ex bl yi pr q) c.args.n c.loop-i.invariant.0 (omega (arith, c.loop-i-test.false, c.requires.0));
  lent = c.loop-i.invariant.2;
  out = appended-room _ c.loop-i.invariant.3 (omega (arith, c.loop-i.invariant.0));
}

pub returns-then-n-i : goal.returns-then-n-i
returns-then-n-i c = record {
  ran = λ ex bl yi pr q. loop-end (c.loop-i.invariant.4 ex bl yi pr q) c.args.n c.loop-i.invariant.0 c.if-n-i.true;
  lent = c.loop-i.invariant.2;
  out = appended-room _ c.loop-i.invariant.3 (omega (arith, c.loop-i.invariant.0));
}
