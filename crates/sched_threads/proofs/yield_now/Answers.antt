-- The record that the decision names is changed as it says, and the call is done.
use mathlib.Core.Path.{◌≡◌}
use lib.ListN.{get_or}
use Rattle.threads.specs.Slice.{blank}
use Rattle.thread_plan.specs.Reads.{own_tid, known_place}
use Rattle.thread_plan.proofs.Owning.{place-there}
use Rattle.sched_threads.proofs.yield_now.Goals as goal

pub record_at-t-requires : goal.record_at-t-requires
record_at-t-requires c =
    let p = c.requires in
    rw c.own_place.ensures (place-there c.args.s c.args.threads.now p.0 p.1 p.2 p.3 p.4 (own_tid c.args.s c.args.core.0))

pub returns : goal.returns
returns c =
    λ qs ps ls ws v.
    let t-read : c.record_at-t.result ≡ get_or c.args.threads.now (known_place c.args.s (own_tid c.args.s c.args.core.0)) blank = rw c.own_place.ensures at c.record_at-t.ensures in
    rw c.answered.ensures ((c.yield_decided-d.ensures c.args.threads.now qs ps ls ws v t-read).done _ c.update.ensures)
