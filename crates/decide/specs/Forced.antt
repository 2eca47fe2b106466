-- Who takes a forced core.
use Rattle.std.specs.Prelude.{ℕ, List}
use Rattle.std.proofs.Math.Option.{Option, none, some}
use Rattle.model.specs.Types.{Policy}
use Rattle.model.specs.Phases.{choose}
use Rattle.queue.specs.Ready.{named}

-- the thread that is named, if it waits; with no name the next one
abbrev pub asked : Policy → (prio : ℕ → ℕ) → Option ℕ → (queue : List ℕ) → Option ℕ
asked p pr none q = choose p pr none q
asked p pr (some t) q = named t q

-- 01: "15 named thread not ready. 16 nobody waits."
abbrev pub absent : Option ℕ → ℕ
absent none = 16
absent (some t) = 15
