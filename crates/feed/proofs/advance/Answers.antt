use Rattle.std.specs.Prelude.{Ok}
use mathlib.Core.Path.{◌≡◌}
use native.Mathlib.Omega.{arith}
use Rattle.feed_plan.specs.declared.Line.TheVariants as LineCases
use Rattle.feed_plan.proofs.Feeding.{headed-left}
use Rattle.feed.proofs.Ends.{refused-left, quiet-left, started, applied}
use Rattle.feed.proofs.advance.Goals as goal

pub returns-in-Err-clause-done : goal.returns-in-Err-clause-done
returns-in-Err-clause-done c = refused-left c.args.r _ _ _ _ c.in-Err.is c.refused.ensures c.requires

pub returns-in-Ok-Nothing-clause-done : goal.returns-in-Ok-Nothing-clause-done
returns-in-Ok-Nothing-clause-done c =
    let is : c.args.line ≡ Ok LineCases.Nothing = grind arith in
    quiet-left c.args.r _ _ _ is c.quiet.ensures c.requires

pub returns-in-Ok-Head-clause-done : goal.returns-in-Ok-Head-clause-done
returns-in-Ok-Head-clause-done c =
    let is : c.args.line ≡ Ok (LineCases.Head c.in-Ok-Head.head) = grind arith in
    headed-left c.args.r _ _ _ _ is c.headed.ensures c.requires

pub returns-in-Ok-Start-clause-done : goal.returns-in-Ok-Start-clause-done
returns-in-Ok-Start-clause-done c =
    let is : c.args.line ≡ Ok (LineCases.Start c.in-Ok-Start.config c.in-Ok-Start.cores) = grind arith in
    started c.args.r _ _ _ _ _ _ _ _ is c.capacities.ensures c.of_created.ensures c.requires c.new_on.ensures.done

pub returns-in-Ok-Call-clause-done : goal.returns-in-Ok-Call-clause-done
returns-in-Ok-Call-clause-done c =
    let is : c.args.line ≡ Ok (LineCases.Call c.in-Ok-Call.call) = grind arith in
    applied c.args.r _ _ _ _ _ _ is c.of_applied.ensures c.requires c.apply.ensures.done
