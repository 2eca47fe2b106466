use Rattle.trace.proofs.Keeping.{first-valid}
use Rattle.trace.proofs.first.Goals as goal

pub returns-clause-valid : goal.returns-clause-valid
returns-clause-valid c = first-valid _ _ _ _ c.new_on-created.ensures.done c.requires.0 c.requires.1 c.requires.2 c.requires.3 c.requires.4
