use Rattle.feed_plan.proofs.Feeding.{lines-few}
use Rattle.feed.proofs.Results.{roomy-lent, says-it, fed}
use Rattle.feed.proofs.feed.Goals as goal

pub read_line-said-requires : goal.read_line-said-requires
read_line-said-requires c = lines-few c.args.r c.args.line.now _ c.requires.0

pub put_next-requires : goal.put_next-requires
put_next-requires c = says-it c.args.r _ _ c.requires.0 _ c.read_line-said.ensures _ _ _ c.advance-next.ensures.done c.requires.1

pub returns-clause-done : goal.returns-clause-done
returns-clause-done c =
    let a = c.advance-next.ensures in
    fed c.args.r _ _ c.requires.0 _ c.read_line-said.ensures _ _ _ a.done c.requires.1 (roomy-lent _ _ a.lent c.requires.0.memory) _ _ c.put_next.ensures
