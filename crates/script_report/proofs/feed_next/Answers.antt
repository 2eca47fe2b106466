use Rattle.feed.proofs.Results.{roomy-lent}
use Rattle.script_report.proofs.Results.{reachable, sayable, turned}
use Rattle.script_report.proofs.feed_next.Goals as goal

pub reach-q-requires : goal.reach-q-requires
reach-q-requires c = reachable _ _ _ _ c.requires

pub put_progress-requires : goal.put_progress-requires
put_progress-requires c = sayable _ _ _ _ c.requires c.reach-q.result c.reach-q.ensures _ _ c.advance-next.ensures.done

pub returns-clause-done : goal.returns-clause-done
returns-clause-done c =
    let d = c.advance-next.ensures in
    turned _ _ _ _ c.requires c.reach-q.result c.reach-q.ensures _ _ d.done (roomy-lent _ _ d.lent c.requires.valid.memory) _ _ c.put_progress.ensures
