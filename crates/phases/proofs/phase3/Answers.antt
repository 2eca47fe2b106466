use borrow.Author.Rules.{rules}
use native.Mathlib.Omega.{arith}
use mathlib.Core.Path.{refl, sym, ◌∙◌}
use mathlib.Core.Bool.{false}
use lib.ListN.{get_or, length-set}
use borrow.Author.Tests.{not-true}
use Rattle.queue.proofs.Frames.{still-lent, still-lent-both, appended-none, appended-both, appended-room, no-longer-same, no-longer-both}
use Rattle.turns.proofs.Steps.{besides-same, phase3-pass}
use Rattle.phases.proofs.Loops.{loop-start, loop-end, core-turn, core-unmoved}
use Rattle.phases.proofs.phase3.Goals as goal

pub loop-i-init : goal.loop-i-init
loop-i-init c = (search rules, search rules, still-lent _, still-lent _, no-longer-same _ _, appended-none _ _ _, λ pr. loop-start _ _ _ _, refl)

pub loop-i-preserved-then-not-is_marked : goal.loop-i-preserved-then-not-is_marked
loop-i-preserved-then-not-is_marked c = (
  omega (arith, c.if-n-i.false),
  c.loop-i.invariant.1,
  c.loop-i.invariant.2,
  c.loop-i.invariant.3,
  c.loop-i.invariant.4,
  appended-room _ c.loop-i.invariant.5 (omega arith),
  λ pr. core-unmoved _ _ _ _ _ _ _ _ _ _ _ _ (c.loop-i.invariant.6 pr) (omega (arith, c.loop-i-test.true, c.loop-i.invariant.1)) (phase3-pass _ _ _ _ _ _ _ (sym c.is_marked.ensures ∙ not-true _ c.if-not-is_marked.true-raw)),
  c.loop-i.invariant.7,
)

pub loop-i-preserved : goal.loop-i-preserved
loop-i-preserved c = (
  omega (arith, c.if-n-i.false),
  simp length-set c.loop-i.invariant.1,
  still-lent-both c.loop-i.invariant.2 c.phase3_on.ensures.lent,
  still-lent-both c.loop-i.invariant.3 c.phase3_on.ensures.lent_moves,
  no-longer-both c.loop-i.invariant.4 c.phase3_on.ensures.queue,
  appended-both _ c.loop-i.invariant.5 c.phase3_on.ensures.out (omega arith),
  λ pr. core-turn _ _ _ _ _ _ _ _ _ _ _ _ (c.loop-i.invariant.6 pr) (omega (arith, c.loop-i-test.true, c.loop-i.invariant.1)) _ _ _ _ _ _ _ c.phase3_on.ensures.besides.0 c.phase3_on.ensures.besides.1 c.phase3_on.ensures.besides.2 (besides-same pr c.loop-i.i) (c.phase3_on.ensures.turn (get_or pr c.loop-i.i false)),
  c.phase3_on.ensures.progressed ∙ c.loop-i.invariant.7,
)

pub returns-after-loop-i : goal.returns-after-loop-i
returns-after-loop-i c = record {
  ran = λ pr. loop-end (c.loop-i.invariant.6 pr) c.args.n c.loop-i.invariant.0 (omega (arith, c.loop-i-test.false, c.requires.0));
  queue = c.loop-i.invariant.4;
  progressed = c.loop-i.invariant.7;
  lent = c.loop-i.invariant.2;
  lent_moves = c.loop-i.invariant.3;
  out = appended-room _ c.loop-i.invariant.5 (omega (arith, c.loop-i.invariant.0));
}

pub returns-then-n-i : goal.returns-then-n-i
returns-then-n-i c = record {
  ran = λ pr. loop-end (c.loop-i.invariant.6 pr) c.args.n c.loop-i.invariant.0 c.if-n-i.true;
  queue = c.loop-i.invariant.4;
  progressed = c.loop-i.invariant.7;
  lent = c.loop-i.invariant.2;
  lent_moves = c.loop-i.invariant.3;
  out = appended-room _ c.loop-i.invariant.5 (omega (arith, c.loop-i.invariant.0));
}
