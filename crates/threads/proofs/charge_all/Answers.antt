-- Of the part, the first i records are charged: one record more with each turn.
use Rattle.std.proofs.Common.{arith, length-take, ◌<◌, ◌≡◌}
use Rattle.charges.specs.Charging.{cores_meant, Chargeable}
use Rattle.model.specs.Accounting.{charge_threads}
use Rattle.threads.proofs.Slices.{front-charged-none, front-charged-next, front-part, kept-ahead}
use Rattle.threads.proofs.charge_all.Goals as goal

pub loop-i-init : goal.loop-i-init
loop-i-init c = front-charged-none (cores_meant c.args.cores) _

pub charge-requires : goal.charge-requires
charge-requires c =
    let l : c.loop-i.i < c.args.n = omega (arith, length-take c.args.n c.args.threads.now) in
    kept-ahead (Chargeable c.loop-i.i) c.args.n c.loop-i.i _ c.args.threads.now c.loop-i.t-items _ l (omega arith) c.loop-i.invariant (c.requires.1 c.loop-i.i l)

pub loop-i-preserved : goal.loop-i-preserved
loop-i-preserved c =
    front-charged-next (cores_meant c.args.cores) c.loop-i.i _ c.loop-i.t-items _ c.charge.new.t (omega arith) c.loop-i.auto.t-items (c.charge.ensures c.args.cores c.new-on.ensures) c.loop-i.invariant

pub returns : goal.returns
returns c =
    let e : c.loop-i.i ≡ c.args.n = omega (arith, length-take c.args.n c.args.threads.now) in
    front-part (charge_threads (cores_meant c.args.cores) 0) c.args.n c.loop-i.i c.args.threads.now c.loop-i.t-items e (omega (arith, length-take c.args.n c.args.threads.now)) c.loop-i.invariant
