use Rattle.trace_text.specs.Streams.{Grown}
use Rattle.trace_records.proofs.history.put_timelines.Given as goal

abbrev pub invariant-loop-i : goal.invariant-loop-i
invariant-loop-i l = Grown l.initial.out l.out
