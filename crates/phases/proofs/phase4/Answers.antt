use borrow.Author.Rules.{rules}
use native.Mathlib.Omega.{arith}
use mathlib.Core.Path.{sym, ◌∙◌}
use mathlib.Core.Bool.{false}
use lib.ListN.{get_or, length-set}
use borrow.Author.Tests.{not-true}
use Rattle.queue.proofs.Frames.{still-lent, still-lent-both, appended-none, appended-both, appended-room, no-longer-same, no-longer-both}
use Rattle.turns.proofs.Steps.{besides-same, phase4-pass}
use Rattle.phases.proofs.Loops.{loop-start, loop-end, core-turn, core-unmoved}
use Rattle.phases.proofs.phase4.Goals as goal

pub loop-i-init : goal.loop-i-init
loop-i-init c = (search rules, search rules, still-lent _, still-lent _, no-longer-same _ _, appended-none _ _ _, λ u ex bl yi. loop-start _ _ _ _)

pub loop-i-preserved-then-not-is_idle : goal.loop-i-preserved-then-not-is_idle
loop-i-preserved-then-not-is_idle c = (
  omega (arith, c.if-n-i.false),
  c.loop-i.invariant.1,
  c.loop-i.invariant.2,
  c.loop-i.invariant.3,
  c.loop-i.invariant.4,
  appended-room _ c.loop-i.invariant.5 (omega arith),
  λ u ex bl yi. core-unmoved _ _ _ _ _ _ _ _ _ _ _ _ (c.loop-i.invariant.6 u ex bl yi) (omega (arith, c.loop-i-test.true, c.loop-i.invariant.1)) (phase4-pass _ _ _ _ _ _ _ _ (sym c.is_idle.ensures ∙ not-true _ c.if-not-is_idle.true-raw)),
)

pub loop-i-preserved : goal.loop-i-preserved
loop-i-preserved c = (
  omega (arith, c.if-n-i.false),
  simp length-set c.loop-i.invariant.1,
  still-lent-both c.loop-i.invariant.2 c.phase4_on.ensures.lent,
  still-lent-both c.loop-i.invariant.3 c.phase4_on.ensures.lent_moves,
  no-longer-both c.loop-i.invariant.4 c.phase4_on.ensures.queue,
  appended-both _ c.loop-i.invariant.5 c.phase4_on.ensures.out (omega arith),
  λ u ex bl yi. core-turn _ _ _ _ _ _ _ _ _ _ _ _ (c.loop-i.invariant.6 u ex bl yi) (omega (arith, c.loop-i-test.true, c.loop-i.invariant.1)) _ _ _ _ _ _ _ (besides-same ex c.loop-i.i) (besides-same bl c.loop-i.i) (besides-same yi c.loop-i.i) c.phase4_on.ensures.besides (c.phase4_on.ensures.turn u (get_or ex c.loop-i.i false) (get_or bl c.loop-i.i false) (get_or yi c.loop-i.i false)),
)

pub returns-after-loop-i : goal.returns-after-loop-i
returns-after-loop-i c = record {
  ran = λ u ex bl yi. loop-end (c.loop-i.invariant.6 u ex bl yi) c.args.n c.loop-i.invariant.0 (omega (arith, c.loop-i-test.false, c.requires.0));
  queue = c.loop-i.invariant.4;
  lent = c.loop-i.invariant.2;
  lent_moves = c.loop-i.invariant.3;
  out = appended-room _ c.loop-i.invariant.5 (omega (arith, c.loop-i.invariant.0));
}

pub returns-then-n-i : goal.returns-then-n-i
returns-then-n-i c = record {
  ran = λ u ex bl yi. loop-end (c.loop-i.invariant.6 u ex bl yi) c.args.n c.loop-i.invariant.0 c.if-n-i.true;
  queue = c.loop-i.invariant.4;
  lent = c.loop-i.invariant.2;
  lent_moves = c.loop-i.invariant.3;
  out = appended-room _ c.loop-i.invariant.5 (omega (arith, c.loop-i.invariant.0));
}
