-- The cores report one after the other.
use native.Mathlib.Omega.{arith}
use Rattle.ticking.proofs.Running.{reported-none, reported-next, reported-asks, reported-all}
use Rattle.ticking.proofs.retired_all.Goals as goal

pub loop-core-init : goal.loop-core-init
loop-core-init c = reported-none c.args.s

pub overflow_cast-core : goal.overflow_cast-core
overflow_cast-core c = record { fits = omega (arith, c.requires.1.sizes.cores) }

pub retired-answered-requires : goal.retired-answered-requires
retired-answered-requires c = reported-asks _ _ _ c.requires c.loop-core.invariant

pub loop-core-preserved : goal.loop-core-preserved
loop-core-preserved c = reported-next _ _ _ _ c.loop-core.core c.loop-core.invariant c.retired-answered.ensures

pub returns : goal.returns
returns c = reported-all _ _ _ (omega arith) c.loop-core.invariant
