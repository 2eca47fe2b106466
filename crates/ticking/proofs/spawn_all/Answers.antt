-- One spawn more, by thread 0.
use Rattle.std.proofs.Common.{arith}
use Rattle.ticking.proofs.Running.{spawns-none, spawns-next, spawns-all}
use Rattle.ticking.proofs.spawn_all.Goals as goal

pub loop-init : goal.loop-init
loop-init c = λ ws. spawns-none _ _

pub loop-preserved : goal.loop-preserved
loop-preserved c = λ ws. spawns-next _ c.loop.last _ _ _ _ c.loop.counter _ (c.loop.invariant ws) (c.spawn-a.ensures ws)

pub spawn-a-requires : goal.spawn-a-requires
spawn-a-requires c =
    let (ws, v) = c.requires (omega arith) in
    (ws, ((c.loop.invariant ws).ran v).valid)

pub returns : goal.returns
returns c = λ ws. spawns-all _ _ _ _ c.loop.counter _ (omega arith) (c.loop.invariant ws)
