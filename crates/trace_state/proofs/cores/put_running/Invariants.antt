use Rattle.state.specs.Asked.{Answers, nothing}
use Rattle.trace_text.specs.Texts.{texts_below}
use Rattle.trace_text.specs.Streams.{Written, Grown}
use Rattle.trace_state.specs.Asked.{core_text}
use Rattle.trace_state.proofs.cores.put_running.Given as goal

abbrev pub invariant-loop-i : goal.invariant-loop-i
invariant-loop-i l = Grown l.initial.out l.out × Answers l.s nothing (λ d. Written l.initial.out (texts_below (core_text d) l.i) l.out)
