use borrow.Author.Rules.{rules}
use borrow.Author.Tests.{eq-eqb, ne_eqb}
use mathlib.Core.Path.{sym, ◌∙◌}
use Rattle.charges.proofs.Alone.{only-first, first_holds}
use Rattle.charges.proofs.charge.CoreThreads.holds.Goals as goal

pub returns-then-self-tid : goal.returns-then-self-tid
returns-then-self-tid c = λ o. eq-eqb _ _ c.if-self-tid.true ∙ sym (first_holds c.args.tid c.args.self.held (search rules) c.if-self-tid.true)

pub returns-else-self : goal.returns-else-self
returns-else-self c = λ o. c.if-self.false ∙ sym (only-first c.args.tid c.requires c.args.self.held (search rules) (sym o ∙ c.if-self.false) ∙ ne_eqb _ _ c.if-self-tid.false)
