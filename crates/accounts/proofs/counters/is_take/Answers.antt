use borrow.Author.Rules.{rules}
use Prim.Native.Nat.{◌/◌, ◌%◌}
use Rattle.accounts.proofs.Counting.{is-dispatch, no-dispatch}
use Rattle.accounts.proofs.counters.is_take.Goals as goal

pub returns-then-word-eq6 : goal.returns-then-word-eq6
returns-then-word-eq6 c = record {
  take = is-dispatch (c.args.word % 8) (c.args.word / 8 % 8) (c.args.word / 8 / 8 % 4294967296) c.if-word-eq6.true;
  few = search rules;
}

pub returns : goal.returns
returns c = record {
  take = no-dispatch (c.args.word % 8) (c.args.word / 8 % 8) (c.args.word / 8 / 8 % 4294967296) c.if-word-eq6.false;
  few = search rules;
}
