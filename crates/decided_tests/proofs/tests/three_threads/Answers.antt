use Rattle.std.proofs.Common.{ap}
use Rattle.checks.specs.Check.{check_meant}
use Rattle.decided_tests.proofs.tests.three_threads.Goals as goal

pub apply-first-requires : goal.apply-first-requires
apply-first-requires c = (c.new_on-created.ensures.done.taken (ap check_meant c.in-Ok.is)).valid
