use borrow.Author.Rules.{rules}
use native.Mathlib.Omega.{arith}
use mathlib.Core.Path.{sym, subst}
use mathlib.Core.Bool.{false}
use mathlib.Core.List.{[]}
use lib.ListN.{get_or, length-set}
use Rattle.turns.specs.Turns.{Short}
use Rattle.turns.proofs.Steps.{besides-same, phase1-turn}
use Rattle.phases.proofs.Loops.{loop-start, loop-end, core-turn, rest-core}
use Rattle.phases.proofs.phase1.Goals as goal

pub loop-i-init : goal.loop-i-init
loop-i-init c = (search rules, search rules, λ ex bl yi pr q m. loop-start _ _ _ _)

pub phase1_on-requires : goal.phase1_on-requires
phase1_on-requires c =
    subst Short (sym (rest-core c.args.cores c.loop-i.cs [] [] [] [] (c.loop-i.invariant.2 [] [] [] [] [] []) c.loop-i.i (omega arith))) (c.requires.by_index c.loop-i.i c.if-n-i.false)

pub loop-i-preserved : goal.loop-i-preserved
loop-i-preserved c = (
  omega (arith, c.if-n-i.false),
  simp length-set c.loop-i.invariant.1,
  λ ex bl yi pr q m. core-turn _ _ _ _ _ _ _ _ _ _ _ _ (c.loop-i.invariant.2 ex bl yi pr q m) (omega (arith, c.loop-i-test.true, c.loop-i.invariant.1)) _ _ _ _ _ _ _ (besides-same ex c.loop-i.i) (besides-same bl c.loop-i.i) (besides-same yi c.loop-i.i) (besides-same pr c.loop-i.i) (phase1-turn c.loop-i.i _ _ (get_or ex c.loop-i.i false) (get_or bl c.loop-i.i false) (get_or yi c.loop-i.i false) (get_or pr c.loop-i.i false) q m c.phase1_on.ensures),
)

pub returns-after-loop-i : goal.returns-after-loop-i
returns-after-loop-i c =
    λ ex bl yi pr q m. loop-end (c.loop-i.invariant.2 ex bl yi pr q m) c.args.n c.loop-i.invariant.0 (omega (arith, c.loop-i-test.false, c.requires.n_bound))

pub returns-then-n-i : goal.returns-then-n-i
returns-then-n-i c =
    λ ex bl yi pr q m. loop-end (c.loop-i.invariant.2 ex bl yi pr q m) c.args.n c.loop-i.invariant.0 c.if-n-i.true
