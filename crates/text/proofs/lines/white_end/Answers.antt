use Rattle.std.proofs.Common.{rules, sym}
use Rattle.std.proofs.iter.runs.Made.{chains}
use Rattle.text.proofs.Trimming.{end-last, end-none}
use Rattle.text.proofs.lines.white_end.Goals as goal

pub returns-in-Some : goal.returns-in-Some
returns-in-Some c = (search rules, end-last c.args.text.now c.in-Some.last (search rules) (λ k h g. search (rules, chains)) (search (rules, chains)))

pub returns-in-None : goal.returns-in-None
returns-in-None c = (search rules, sym (end-none c.args.text.now (λ k h. search (rules, chains))))
