use native.Mathlib.Omega.{arith}
use Prim.Native.Nat.{◌*◌}
use mathlib.Core.Path.{refl, sym, ◌∙◌}
use Rattle.queue.specs.Words.{moves_in}
use Rattle.queue.specs.Ready.{waiting}
use Rattle.queue.proofs.Frames.{still-lent-both, appended-both, no-longer-both}
use Rattle.turns.specs.Turns.{rules_meant}
use Rattle.decide.proofs.Whole.{all-six}
use Rattle.decide.proofs.tick.decide_board.Goals as goal

pub returns : goal.returns
unfolding moves_in
returns c =
    let quantum = c.args.rules.now.quantum in
    let q = waiting c.args.queue.now in
    let m = moves_in c.args.moves.now.words.now 0 in
    let old = c.args.marks.now in
    let left = c.phase3-left.new.marks in
    let new = c.phase5-handed_over.new.marks in
    let same = c.phase5-handed_over.ensures.others in
    let e1 = c.phase1-sliced.ensures old.exits old.blocks old.yields old.progressed q m in
    let e2 = c.phase2-switched.ensures.ran old.exits old.blocks old.yields old.progressed q in
    let e3 = rw (sym same.0, sym same.1) at (c.phase3-left.ensures.ran old.progressed) in
    let e4 = rw c.phase3-left.ensures.progressed at (c.phase4-filled.ensures.ran quantum new.exits new.blocks left.yields) in
    let e5 = c.phase5-handed_over.ensures.ran new.exits new.blocks in
    record {
      decided = all-six (rules_meant c.args.rules.now) c.args.n _ q m _ _ _ _ _ _ refl e1.done e2.done e3.done e4.done e5.done (c.phase6.ensures.pass quantum _ _ _);
      settled = λ e. c.phase6.ensures.settled quantum _ _ _ e;
      rest = λ j n. c.phase6.ensures.rest _ _ _ j n ∙ e5.rest j n ∙ e4.rest j n ∙ e3.rest j n ∙ e2.rest j n ∙ e1.rest j n;
      queue = no-longer-both (no-longer-both (no-longer-both c.phase3-left.ensures.queue c.phase4-filled.ensures.queue) c.phase5-handed_over.ensures.queue) c.phase6.ensures.queue;
      out = appended-both (10 * c.args.n) (appended-both (7 * c.args.n) (appended-both (4 * c.args.n) (appended-both (2 * c.args.n) c.phase2-switched.ensures.out c.phase3-left.ensures.out (omega arith)) c.phase4-filled.ensures.out (omega arith)) c.phase5-handed_over.ensures.out (omega arith)) c.phase6.ensures.out (omega arith);
      lent = still-lent-both (still-lent-both (still-lent-both c.phase3-left.ensures.lent c.phase4-filled.ensures.lent) c.phase5-handed_over.ensures.lent) c.phase6.ensures.lent;
      lent_moves = still-lent-both (still-lent-both (still-lent-both (still-lent-both c.phase2-switched.ensures.lent c.phase3-left.ensures.lent_moves) c.phase4-filled.ensures.lent_moves) c.phase5-handed_over.ensures.lent_moves) c.phase6.ensures.lent_moves;
    }
