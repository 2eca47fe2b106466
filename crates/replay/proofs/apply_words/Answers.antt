-- What the next call asks, and what it leaves after the calls before it.
use Rattle.std.proofs.Common.{arith, rules, ◌<◌, ◌+◌, ◌*◌, length}
use Rattle.replay.proofs.Lists.{all_valid, words-next}
use Rattle.replay.proofs.apply_words.Goals as goal

pub apply-last-requires : goal.apply-last-requires
apply-last-requires c = all_valid _ _ _ _ _ c.loop-i.invariant.made (c.requires.1 (omega arith))

pub loop-i-preserved : goal.loop-i-preserved
loop-i-preserved c =
    let reads : 3 * c.loop-i.i + 2 < length c.args.words.now = omega arith in
    record {
      within = omega arith;
      made = words-next _ _ _ _ _ _ c.args.words.now c.loop-i.i reads c.loop-i.invariant.made _ c.call_at.ensures c.apply-last.ensures.done;
      lent = search rules;
    }
