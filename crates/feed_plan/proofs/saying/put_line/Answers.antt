use Rattle.std.specs.Prelude.{Ok}
use mathlib.Core.Path.{◌≡◌}
use native.Mathlib.Omega.{arith}
use Rattle.text.proofs.Puts.{wrote_none, wrote_same}
use Rattle.sched.specs.declared.Outcome.TheVariants as OutcomeCases
use Rattle.feed_plan.proofs.Making.{text-refused, text-joined, text-switched, text-taken, text-spawned}
use Rattle.feed_plan.proofs.saying.put_line.Goals as goal

pub put_refused-requires : goal.put_refused-requires
put_refused-requires c = rw (text-refused c.args.next _ c.in-Err.is) c.requires.1

pub put_joined-requires : goal.put_joined-requires
put_joined-requires c =
    let is : c.args.next.outcome ≡ Ok (OutcomeCases.Joined c.in-Ok-Joined.joined) = grind arith in
    rw (text-joined c.args.next _ is) c.requires.1

pub put_switches-requires : goal.put_switches-requires
put_switches-requires c =
    let is : c.args.next.outcome ≡ Ok OutcomeCases.Switched = grind arith in
    (c.requires.0, rw (text-switched c.args.next is) c.requires.1)

pub returns-in-Err : goal.returns-in-Err
returns-in-Err c = wrote_same (text-refused c.args.next _ c.in-Err.is) c.put_refused.ensures.text

pub returns-in-Ok-Joined : goal.returns-in-Ok-Joined
returns-in-Ok-Joined c =
    let is : c.args.next.outcome ≡ Ok (OutcomeCases.Joined c.in-Ok-Joined.joined) = grind arith in
    wrote_same (text-joined c.args.next _ is) c.put_joined.ensures.text

pub returns-in-Ok-Switched : goal.returns-in-Ok-Switched
returns-in-Ok-Switched c =
    let is : c.args.next.outcome ≡ Ok OutcomeCases.Switched = grind arith in
    wrote_same (text-switched c.args.next is) c.put_switches.ensures

pub returns-in-Ok-Taken : goal.returns-in-Ok-Taken
returns-in-Ok-Taken c =
    let is : c.args.next.outcome ≡ Ok OutcomeCases.Taken = grind arith in
    wrote_same (text-taken c.args.next is) (wrote_none _ (omega arith))

pub returns-in-Ok-Spawned : goal.returns-in-Ok-Spawned
returns-in-Ok-Spawned c =
    let is : c.args.next.outcome ≡ Ok (OutcomeCases.Spawned c.in-Ok-Spawned.field-0-0) = grind arith in
    wrote_same (text-spawned c.args.next _ is) (wrote_none _ (omega arith))
