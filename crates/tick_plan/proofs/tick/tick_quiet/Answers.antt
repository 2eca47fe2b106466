use Rattle.std.specs.Prelude.{Ok}
use native.Mathlib.Omega.{arith}
use mathlib.Core.Path.{refl}
use Rattle.tick_plan.proofs.Quiet.{quiet-pending}
use Rattle.tick_plan.proofs.tick.tick_quiet.Goals as goal

pub after_tick-requires : goal.after_tick-requires
after_tick-requires c = omega (arith, c.write_nothing-written.ensures.0)

pub returns : goal.returns
returns c = λ ts qs ps ls ws ws' v h C.
    quiet-pending c.args.s c.next_tick-tick.result c.args.charged c.plan_quiet-planned.result c.write_nothing-written.result c.after_tick.result c.after_tick.ensures c.next_tick-tick.ensures c.plan_quiet-planned.ensures.0 c.plan_quiet-planned.ensures.1 c.write_nothing-written.ensures.1 (Ok tt) ts qs ps ls ws ws' v h C refl
