use Rattle.trace_text.specs.Streams.{Grown}
use Rattle.trace_state.proofs.cores.put_queue.Given as goal

abbrev pub invariant-loop-tid : goal.invariant-loop-tid
invariant-loop-tid l = Grown l.initial.out l.out
