use Rattle.std.proofs.Common.{ℕ, rules, ap, drop, ◌∙◌, not, arith}
use borrow.Author.Tests.{tests}
use Rattle.std.proofs.lemmas.Iterator.{YieldsList-from_slice}
use Rattle.std.proofs.lemmas.Iterator.Search.{position_from_yields_List}
use Rattle.std.proofs.lemmas.List.Sums.{prefix_len-le-length}
use Rattle.text.proofs.Found.{place_or_len}
use Rattle.text.proofs.Trimming.{dark, start_is}
use Rattle.text.proofs.lines.skip_white.Goals as goal

pub returns : goal.returns
returns c =
    let found = position_from_yields_List dark _ _ c.position.result c.position.ensures.ran (YieldsList-from_slice c.args.line.now cc) (λ x b q k. search (rules, tests)) in
    let e = c.unwrap_or.ensures ∙ place_or_len dark c.args.line.now c.position.result found in
    (omega (arith, prefix_len-le-length (λ x. not (dark x)) c.args.line.now), ap (λ (n : ℕ). drop n c.args.line.now) e ∙ start_is c.args.line.now)
