-- The four policies, and the limits of the settings.
use Rattle.std.specs.Prelude.{ℕ, Bool, true, false, ◌||◌, List, [], ◌∷◌, ltb}

pub data Policy : Type 0 where
  Off Fifo RoundRobin Priority : Policy

-- the Rust's `ALL`, in its order
abbrev pub all_policies : List Policy
all_policies = Off ∷ Fifo ∷ RoundRobin ∷ Priority ∷ []

unfoldable pub beyond : (low high n : ℕ) → Bool
beyond a b n = ltb n a || ltb b n

-- the Rust: "Whether threads share the cores at all."
abbrev pub is_enabled : Policy → Bool
is_enabled Off = false
is_enabled Fifo = true
is_enabled RoundRobin = true
is_enabled Priority = true

-- 01: a quantum ends a stay "under rr or priority"; the Rust: "Whether a running thread can lose its core without asking."
abbrev pub is_preemptive : Policy → Bool
is_preemptive Off = false
is_preemptive Fifo = false
is_preemptive RoundRobin = true
is_preemptive Priority = true
