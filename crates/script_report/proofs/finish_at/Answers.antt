use Rattle.script_report.proofs.Results.{totalable, end-asked, finished}
use Rattle.script_report.proofs.finish_at.Goals as goal

pub totals-sums-requires : goal.totals-sums-requires
totals-sums-requires c = totalable _ _ _ c.requires _ c.record_count.ensures

pub put_finish-requires : goal.put_finish-requires
put_finish-requires c = end-asked _ _ _ c.requires _ c.record_count.ensures _ c.totals-sums.ensures

pub returns : goal.returns
returns c = finished _ _ _ c.requires _ c.record_count.ensures _ c.totals-sums.ensures _ _ c.put_finish.ensures
