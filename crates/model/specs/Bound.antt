-- In how many ticks a ready thread with p others ahead of it gets a core under round robin (demand 3). It stands here for 01's table of cases; the claim on it, and its
-- proof, are in crates/guarantees.
use Rattle.std.specs.Prelude.{ℕ, ◌+◌, ◌*◌, ◌/◌, max}

-- "(p / cores, rounded down, + 1) × (quantum + switch cost)"; "0 [cores] counts as 1"
abbrev pub bound : (p cores quantum cost : ℕ) → ℕ
bound p cores quantum cost = (p / max cores 1 + 1) * (quantum + cost)
