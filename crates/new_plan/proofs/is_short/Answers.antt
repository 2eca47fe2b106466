use native.Mathlib.Omega.{arith}
use Rattle.new_plan.proofs.Parts.{count-few, lanes-few}
use Rattle.new_plan.proofs.is_short.Goals as goal

pub overflow_mul-result-else-log-capacities : goal.overflow_mul-result-else-log-capacities
overflow_mul-result-else-log-capacities c = let f = count-few c.args.cores c.requires.0 in record { fits = omega (arith, lanes-few c.core_count.result c.args.capacities.segments (omega arith) c.requires.2) }

pub overflow_add-result : goal.overflow_add-result
overflow_add-result c = let f = count-few c.args.cores c.requires.0 in record { fits = omega (arith, lanes-few c.core_count.result c.args.capacities.segments (omega arith) c.requires.2) }
