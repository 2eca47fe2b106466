use Rattle.trace_text.specs.Streams.{Grown}
use Rattle.trace_state.proofs.cores.put_cores.Given as goal

abbrev pub invariant-loop-i : goal.invariant-loop-i
invariant-loop-i l = Grown l.initial.out l.out
