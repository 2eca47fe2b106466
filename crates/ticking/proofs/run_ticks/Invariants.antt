-- The turns so far left what stands there.
use Rattle.state.specs.Memory.{memory}
use Rattle.ticking.specs.Turns.{TurnsDone}
use Rattle.ticking.proofs.run_ticks.Given as goal

abbrev pub invariant-loop : goal.invariant-loop
invariant-loop l = TurnsDone l.counter l.fn.first l.last (memory l.fn.threads l.fn.queue l.prios l.fn.log l.fn.lanes) (memory l.threads l.queue l.prios l.log l.lanes)
