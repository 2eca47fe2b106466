use Rattle.trace.proofs.Keeping.{kept-taken, kept-refused}
use Rattle.trace.proofs.start.Goals as goal

pub returns-in-Ok-clause-valid : goal.returns-in-Ok-clause-valid
returns-in-Ok-clause-valid c = kept-taken _ _ _ _ _ _ _ _ c.new_on-created.ensures.done c.in-Ok.is

pub returns-in-Err-clause-valid : goal.returns-in-Err-clause-valid
returns-in-Err-clause-valid c = kept-refused _ _ _ _ _ _ _ _ c.new_on-created.ensures.done _ c.requires _ c.in-Err.is
