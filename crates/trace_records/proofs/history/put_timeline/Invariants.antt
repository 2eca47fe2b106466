use Rattle.trace_text.specs.Streams.{Grown}
use Rattle.trace_records.proofs.history.put_timeline.Given as goal

abbrev pub invariant-loop-k : goal.invariant-loop-k
invariant-loop-k l = Grown l.initial.out l.out
