-- Phase 6 as the program makes it: who loses its core, and to whom.
use Rattle.std.specs.Prelude.{ℕ, ◌<◌, ◌≡◌, List, ◌++◌, length, get_or}
use Rattle.std.specs.Prelude as Std
use Rattle.std.specs.Prelude.{Some, None}
use Rattle.std.proofs.Math.Option.{Option, none, some}
use Rattle.model.specs.Phases.{Victim, Preemption, without}
use Rattle.queue.specs.Ready.{remove_at}
use Rattle.preempt.specs.declared.Victim as Found
use Rattle.preempt.specs.declared.Preemption as Next

-- what the program found stands for
abbrev pub victim_meant : Std.Option Found.Victim → Option Victim
victim_meant None = none
victim_meant (Some v) = some (record { tid = v.tid.0; core = v.core.0 })

-- the same over the queue in which it names a place
abbrev pub preemption_meant : Std.Option Next.Preemption → List ℕ → Option Preemption
preemption_meant None q = none
preemption_meant (Some p) q = some (record { victim = record { tid = p.victim.tid.0; core = p.victim.core.0 }; best = get_or q p.at 0 })

abbrev pub Placed : Std.Option Next.Preemption → ℕ → List ℕ → Type 0
Placed None n q = Unit {0}
Placed (Some p) n q = (p.victim.core.0 < n) × (p.at < length q) × ((s : List ℕ) → without (get_or q p.at 0) (q ++ s) ≡ remove_at p.at q ++ s)
