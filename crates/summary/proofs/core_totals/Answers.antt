use native.Mathlib.Omega.{arith}
use borrow.Author.Rules.{rules}
use Prim.Native.Nat.{◌<◌, ◌≤◌}
use mathlib.Core.Path.{◌≡◌, sym, ap, ◌∙◌}
use native.Mathlib.Numerals.{add-one}
use lib.ListN.{get_or, length-take}
use lib.Seq.{get_or-take}
use Rattle.state.specs.State.{no_ticks}
use Rattle.summary.specs.Cores.{all_ticks, busy_in, all_in}
use Rattle.summary.proofs.Totaling.{busy-none, all_none, busy-next, all-next}
use Rattle.summary.proofs.core_totals.Goals as goal
use Rattle.summary.proofs.core_totals.Goals.{After-totals_of-more}

pub loop-counters-init : goal.loop-counters-init
loop-counters-init c = (sym (busy-none _), sym (all_none _), omega arith, omega arith)

-- one core's counters, and that they are few
more : (c : After-totals_of-more) → (c.totals_of-more.result.busy ≡ (get_or c.args.ticks c.loop-counters.counters-index no_ticks).busy) × (c.totals_of-more.result.all ≡ all_ticks (get_or c.args.ticks c.loop-counters.counters-index no_ticks)) × (c.totals_of-more.result.all ≤ 4_000_000_000)
more c =
    let i : c.loop-counters.counters-index < c.args.n = omega (arith, length-take c.args.n c.args.ticks) in
    let e = rw (get_or-take c.args.n c.args.ticks c.loop-counters.counters-index no_ticks i) at c.totals_of-more.ensures in
    (e.0, e.1, omega (arith, e.1, c.requires.1 c.loop-counters.counters-index i))

pub overflow_add-busy : goal.overflow_add-busy
overflow_add-busy c = let m = more (goal.at.overflow_add-busy c).After-totals_of-more in omega (arith, c.requires.0, length-take c.args.n c.args.ticks)

pub overflow_add-all : goal.overflow_add-all
overflow_add-all c = let m = more (goal.at.overflow_add-all c).After-totals_of-more in omega (arith, c.requires.0, length-take c.args.n c.args.ticks)

pub loop-counters-preserved : goal.loop-counters-preserved
loop-counters-preserved c =
    let m = more (goal.at.loop-counters-preserved c).After-totals_of-more in
    let up = add-one c.loop-counters.counters-index in (
      omega (arith, m, busy-next c.args.ticks c.loop-counters.counters-index, ap (busy_in c.args.ticks) up),
      omega (arith, m, all-next c.args.ticks c.loop-counters.counters-index, ap (all_in c.args.ticks) up),
      omega (arith, m),
      omega (arith, m),
    )

pub returns : goal.returns
returns c =
    let e : c.loop-counters.counters-index ≡ c.args.n = search rules in
    (c.loop-counters.invariant.0 ∙ ap (busy_in c.args.ticks) e, c.loop-counters.invariant.1 ∙ ap (all_in c.args.ticks) e)
