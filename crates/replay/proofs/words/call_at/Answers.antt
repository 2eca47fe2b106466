use borrow.Author.Rules.{rules}
use Rattle.replay.specs.Encoding.{call_at}
use Rattle.replay.proofs.words.call_at.Goals as goal

pub returns : goal.returns
unfolding call_at
returns c = search rules
