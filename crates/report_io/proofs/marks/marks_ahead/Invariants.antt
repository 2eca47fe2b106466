-- The invariant: the lines so far.
use Rattle.report_io.proofs.Marking.{Taken}
use Rattle.report_io.proofs.marks.marks_ahead.Given as goal

abbrev pub invariant-loop-count : goal.invariant-loop-count
invariant-loop-count l = Taken l.text l.cores l.initial.marks l.marks l.count
