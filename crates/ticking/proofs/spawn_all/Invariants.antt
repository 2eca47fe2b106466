-- The spawns so far left what stands there.
use Rattle.std.proofs.Common.{List, ℕ}
use Rattle.state.specs.Memory.{memory}
use Rattle.ticking.specs.Turns.{SpawnsDone}
use Rattle.ticking.proofs.spawn_all.Given as goal

abbrev pub invariant-loop : goal.invariant-loop
invariant-loop l = (ws : List ℕ) → SpawnsDone l.counter l.fn.first l.last (memory l.fn.threads l.fn.queue l.fn.prios l.fn.log ws) (memory l.threads l.queue l.prios l.log ws)
