use borrow.Author.Rules.{rules}
use borrow.Author.Tests.{eq-eqb, ne_eqb}
use mathlib.Core.Path.{sym, ◌∙◌}
use Rattle.charges.proofs.Alone.{only-first-runs}
use Rattle.charges.proofs.charge.CoreThreads.runs.Goals as goal

pub returns-then-self-tid : goal.returns-then-self-tid
returns-then-self-tid c =
    λ o. sym (only-first-runs c.args.tid c.requires c.args.self.held c.args.self.running (search rules) (search rules) (sym o ∙ c.if-self.false) ∙ rw (eq-eqb _ _ c.if-self-tid.true))

pub returns-else-self-tid : goal.returns-else-self-tid
returns-else-self-tid c =
    λ o. sym (only-first-runs c.args.tid c.requires c.args.self.held c.args.self.running (search rules) (search rules) (sym o ∙ c.if-self.false) ∙ rw (ne_eqb _ _ c.if-self-tid.false))
