use native.Mathlib.Omega.{arith}
use mathlib.Core.Path.{refl}
use Rattle.state.specs.State.{meant_at}
use Rattle.summary.proofs.Totaling.{core-small, cores-few, totals-small, tick-small, switches-small, sums-are, cores-small}
use Rattle.summary.proofs.sums_from.Goals as goal

pub core_totals-cores-requires : goal.core_totals-cores-requires
core_totals-cores-requires c = (cores-few _ _ _ _ _ _ _ c.requires.5, core-small _ _ _ _ _ _ _ c.requires.5)

pub returns : goal.returns
unfolding meant_at
returns c =
    let z = totals-small _ _ _ _ _ _ _ c.requires.5 in
    let few = cores-few _ _ _ _ _ _ _ c.requires.5 in
    let u = cores-small _ _ _ _ _ _ _ c.requires.5 c.args.s.cores (omega arith) in (
      λ ts qs ps ls ws g. (sums-are _ _ _ _ _ _ _ g _ _ c.core_totals-cores.ensures.0 c.core_totals-cores.ensures.1, refl),
      record {
        threads = z.threads;
        context_switches = switches-small _ _ _ _ _ _ _ c.requires.5;
        preemptions = z.preemptions;
        now = tick-small _ _ _ _ _ _ _ c.requires.5;
        responded = z.responded;
        finished = z.finished;
        core_ticks = omega (arith, u.0, u.1, c.core_totals-cores.ensures.1, few);
        waiting = z.waiting;
        response = z.response;
        turnaround = z.turnaround;
        busy = omega (arith, u.0, u.1, c.core_totals-cores.ensures.0, few);
      },
    )
