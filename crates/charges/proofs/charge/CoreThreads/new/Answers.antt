use borrow.Author.Rules.{rules}
use Rattle.charges.proofs.Charging.{all-filled}
use Rattle.charges.proofs.charge.CoreThreads.new.Goals as goal

pub returns : goal.returns
returns c =
    all-filled c.args.cores c.loop-k.held c.loop-k.running c.loop-k.k (search rules) (search rules) (search rules) c.loop-k.invariant.2 c.loop-k.invariant.3 c.has_others.result c.has_others.ensures
