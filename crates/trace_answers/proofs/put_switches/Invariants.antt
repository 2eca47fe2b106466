use Rattle.trace_text.specs.Streams.{Grown}
use Rattle.trace_answers.proofs.put_switches.Given as goal

abbrev pub invariant-loop-e : goal.invariant-loop-e
invariant-loop-e l = Grown l.initial.out l.out
