use native.Mathlib.Omega.{arith}
use mathlib.Core.Path.{refl, sym, ◌∙◌}
use mathlib.Core.Bool.{false}
use lib.ListN.{get_or}
use Rattle.settings.specs.Reading.{policy_meant}
use Rattle.model.proofs.PhaseLaws.{phase6-rests}
use Rattle.model.specs.Phases.{phase3, phase4}
use Rattle.queue.specs.Words.{moves_in, made}
use Rattle.queue.specs.Ready.{waiting}
use Rattle.queue.proofs.Frames.{still-lent-both, appended-both, no-longer-both}
use Rattle.turns.specs.Turns.{rules_meant}
use Rattle.turns.proofs.Steps.{besides-same, phase1-turn}
use Rattle.decide.proofs.Whole.{all-six}
use Rattle.decide_one.proofs.OneCore.{one-turn}
use Rattle.decide_one.proofs.decide_core.Goals as goal

pub returns : goal.returns
unfolding moves_in
returns c =
    let k = rules_meant c.args.rules.now in
    let q = waiting c.args.queue.now in
    let m = moves_in c.args.moves.now.words.now 0 in
    let old = c.args.marks.now in
    let left = c.phase3_on-left.new.marks in
    let new = c.phase5_on.new.marks in
    let same = c.phase5_on.ensures.others in
    let e1 = one-turn _ c.args.s old.exits old.blocks old.yields old.progressed q m c.phase1_on-sliced.result old.exits old.blocks old.yields old.progressed q m (besides-same old.exits 0) (besides-same old.blocks 0) (besides-same old.yields 0) (besides-same old.progressed 0) (phase1-turn 0 _ _ (get_or old.exits 0 false) (get_or old.blocks 0 false) (get_or old.yields 0 false) (get_or old.progressed 0 false) q m c.phase1_on-sliced.ensures) in
    let e2 = one-turn _ c.phase1_on-sliced.result old.exits old.blocks old.yields old.progressed q _ c.phase2_on-switched.result old.exits old.blocks old.yields old.progressed q _ (besides-same old.exits 0) (besides-same old.blocks 0) (besides-same old.yields 0) (besides-same old.progressed 0) (c.phase2_on-switched.ensures.turn 0 (get_or old.exits 0 false) (get_or old.blocks 0 false) (get_or old.yields 0 false) (get_or old.progressed 0 false) q) in
    let e3 = rw (sym same.0, sym same.1) at (one-turn phase3 c.phase2_on-switched.result old.exits old.blocks old.yields old.progressed q (made c.phase2_on-switched.new.moves) c.phase3_on-left.result left.exits left.blocks left.yields old.progressed (waiting c.phase3_on-left.new.queue) (made c.phase3_on-left.new.moves) c.phase3_on-left.ensures.besides.0 c.phase3_on-left.ensures.besides.1 c.phase3_on-left.ensures.besides.2 (besides-same old.progressed 0) (c.phase3_on-left.ensures.turn (get_or old.progressed 0 false))) in
    let e4 = rw c.phase3_on-left.ensures.progressed at (one-turn (phase4 k) c.phase3_on-left.result new.exits new.blocks left.yields left.progressed (waiting c.phase3_on-left.new.queue) (made c.phase3_on-left.new.moves) c.phase4_on-filled.result new.exits new.blocks left.yields c.phase4_on-filled.new.progressed (waiting c.phase4_on-filled.new.queue) (made c.phase4_on-filled.new.moves) (besides-same new.exits 0) (besides-same new.blocks 0) (besides-same left.yields 0) c.phase4_on-filled.ensures.besides (c.phase4_on-filled.ensures.turn c.args.rules.now.quantum (get_or new.exits 0 false) (get_or new.blocks 0 false) (get_or left.yields 0 false))) in
    let e5 = one-turn _ c.phase4_on-filled.result new.exits new.blocks left.yields c.phase4_on-filled.new.progressed _ _ c.phase5_on.result new.exits new.blocks new.yields new.progressed _ _ (besides-same new.exits 0) (besides-same new.blocks 0) c.phase5_on.ensures.besides.0 c.phase5_on.ensures.besides.1 (c.phase5_on.ensures.turn (get_or new.exits 0 false) (get_or new.blocks 0 false)) in
    record {
      decided = λ cs. all-six k 1 _ q m _ _ _ _ _ _ refl (e1 cs).done (e2 cs).done (e3 cs).done (e4 cs).done (e5 cs).done (sym (phase6-rests (policy_meant c.args.rules.now.policy) k _ c.requires.fact.0));
      rest = λ cs j n. (e5 cs).rest j n ∙ (e4 cs).rest j n ∙ (e3 cs).rest j n ∙ (e2 cs).rest j n ∙ (e1 cs).rest j n;
      queue = no-longer-both (no-longer-both c.phase3_on-left.ensures.queue c.phase4_on-filled.ensures.queue) c.phase5_on.ensures.queue;
      out = appended-both 10 (appended-both 4 (appended-both 2 c.phase2_on-switched.ensures.out c.phase3_on-left.ensures.out (omega arith)) c.phase4_on-filled.ensures.out (omega arith)) c.phase5_on.ensures.out (omega arith);
      lent = still-lent-both (still-lent-both c.phase3_on-left.ensures.lent c.phase4_on-filled.ensures.lent) c.phase5_on.ensures.lent;
      lent_moves = still-lent-both (still-lent-both (still-lent-both c.phase2_on-switched.ensures.lent c.phase3_on-left.ensures.lent_moves) c.phase4_on-filled.ensures.lent_moves) c.phase5_on.ensures.lent_moves;
    }
