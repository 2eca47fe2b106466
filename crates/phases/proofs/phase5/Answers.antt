use borrow.Author.Rules.{rules}
use native.Mathlib.Omega.{arith}
use mathlib.Core.Path.{refl, sym, ◌∙◌}
use mathlib.Core.Bool.{false}
use lib.ListN.{get_or, length-set}
use borrow.Author.Tests.{not-true}
use Rattle.queue.proofs.Frames.{still-lent, still-lent-both, appended-none, appended-both, appended-room, no-longer-same, no-longer-both}
use Rattle.turns.proofs.Steps.{besides-same, phase5-pass}
use Rattle.phases.proofs.Loops.{loop-start, loop-end, core-turn, core-unmoved}
use Rattle.phases.proofs.phase5.Goals as goal

pub loop-i-init : goal.loop-i-init
loop-i-init c = (search rules, search rules, still-lent _, still-lent _, no-longer-same _ _, appended-none _ _ _, λ ex bl. loop-start _ _ _ _, (refl, refl))

pub loop-i-preserved-then-not-has_turn : goal.loop-i-preserved-then-not-has_turn
loop-i-preserved-then-not-has_turn c = (
  omega (arith, c.if-n-i.false),
  c.loop-i.invariant.1,
  c.loop-i.invariant.2,
  c.loop-i.invariant.3,
  c.loop-i.invariant.4,
  appended-room _ c.loop-i.invariant.5 (omega arith),
  λ ex bl. core-unmoved _ _ _ _ _ _ _ _ _ _ _ _ (c.loop-i.invariant.6 ex bl) (omega (arith, c.loop-i-test.true, c.loop-i.invariant.1)) (phase5-pass _ _ _ _ _ _ _ _ (sym c.has_turn.ensures ∙ not-true _ c.if-not-has_turn.true-raw)),
  c.loop-i.invariant.7,
)

pub loop-i-preserved : goal.loop-i-preserved
loop-i-preserved c = (
  omega (arith, c.if-n-i.false),
  simp length-set c.loop-i.invariant.1,
  still-lent-both c.loop-i.invariant.2 c.phase5_on.ensures.lent,
  still-lent-both c.loop-i.invariant.3 c.phase5_on.ensures.lent_moves,
  no-longer-both c.loop-i.invariant.4 c.phase5_on.ensures.queue,
  appended-both _ c.loop-i.invariant.5 c.phase5_on.ensures.out (omega arith),
  λ ex bl. core-turn _ _ _ _ _ _ _ _ _ _ _ _ (c.loop-i.invariant.6 ex bl) (omega (arith, c.loop-i-test.true, c.loop-i.invariant.1)) _ _ _ _ _ _ _ (besides-same ex c.loop-i.i) (besides-same bl c.loop-i.i) c.phase5_on.ensures.besides.0 c.phase5_on.ensures.besides.1 (c.phase5_on.ensures.turn (get_or ex c.loop-i.i false) (get_or bl c.loop-i.i false)),
  (c.phase5_on.ensures.others.0 ∙ c.loop-i.invariant.7.0, c.phase5_on.ensures.others.1 ∙ c.loop-i.invariant.7.1),
)

pub returns-after-loop-i : goal.returns-after-loop-i
returns-after-loop-i c = record {
  ran = λ ex bl. loop-end (c.loop-i.invariant.6 ex bl) c.args.n c.loop-i.invariant.0 (omega (arith, c.loop-i-test.false, c.requires.0));
  queue = c.loop-i.invariant.4;
  others = c.loop-i.invariant.7;
  lent = c.loop-i.invariant.2;
  lent_moves = c.loop-i.invariant.3;
  out = appended-room _ c.loop-i.invariant.5 (omega (arith, c.loop-i.invariant.0));
}

pub returns-then-n-i : goal.returns-then-n-i
returns-then-n-i c = record {
  ran = λ ex bl. loop-end (c.loop-i.invariant.6 ex bl) c.args.n c.loop-i.invariant.0 c.if-n-i.true;
  queue = c.loop-i.invariant.4;
  others = c.loop-i.invariant.7;
  lent = c.loop-i.invariant.2;
  lent_moves = c.loop-i.invariant.3;
  out = appended-room _ c.loop-i.invariant.5 (omega (arith, c.loop-i.invariant.0));
}
