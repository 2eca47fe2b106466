use Rattle.std.proofs.Common.{rules, ◌∙◌, leb}
use borrow.Author.Tests.{tests}
use Rattle.std.proofs.lemmas.Iterator.{YieldsList-from_slice}
use Rattle.std.proofs.lemmas.Iterator.Search.{all_from_yields_List}
use Rattle.text.proofs.Trimming.{list_all_is}
use Rattle.text.proofs.lines.is_ascii.Goals as goal

pub returns : goal.returns
returns c = all_from_yields_List (λ b. leb b 127) _ _ _ c.all.ensures.ran (YieldsList-from_slice c.args.l.now cc) (λ x b q k. search (rules, tests)) ∙ list_all_is (λ b. leb b 127) c.args.l.now
