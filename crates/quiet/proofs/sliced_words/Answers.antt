use native.Mathlib.Omega.{arith}
use Rattle.quiet.proofs.Words.{kept, further, words-further}
use Rattle.quiet.proofs.sliced_words.Goals as goal

pub returns-then-n-i : goal.returns-then-n-i
returns-then-n-i c = record {
  state = kept _ _ _ c.if-n-i.true;
  words = λ h. h;
}

pub overflow_add-result : goal.overflow_add-result
overflow_add-result c = omega (arith, (c.requires c.if-n-i.false).1)

pub returns : goal.returns
returns c =
    let running = (c.requires c.if-n-i.false).0 in
    record {
      state = further c.args.n c.args.i c.args.w.kind c.args.w.tid c.args.w.count c.if-n-i.false running;
      words = words-further c.args.w.kind c.args.w.tid c.args.w.count _ running;
    }
