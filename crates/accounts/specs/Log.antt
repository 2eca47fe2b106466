-- The log part of the definition's `apply_moves` and `wake`. 01: "Spawn, dispatch, leave, wake and priority change each write one event";
-- the newest of them are kept.
use Rattle.std.specs.Prelude.{ℕ, List, [], ◌∷◌, ◌++◌}
use Rattle.model.specs.Types.{EventKind, Dispatched, Departed, Woken, Event, Move, starts, leaves, takes}
use Rattle.model.specs.Accounting.{newest}

abbrev pub log_event : (cap_e now tid : ℕ) → EventKind → List Event → List Event
log_event e now t kind l = newest e (l ++ (record { tick = now; tid = t; kind = kind } ∷ []))

-- one move: a start, which is the first tick on a core, writes nothing
abbrev pub log_move : (cap_e now : ℕ) → Move → List Event → List Event
log_move e now (starts t) l = l
log_move e now (leaves t i r) l = log_event e now t (Departed i r) l
log_move e now (takes t i) l = log_event e now t (Dispatched i) l

unfoldable pub moved_log : (cap_e now : ℕ) → List Move → List Event → List Event
moved_log e now [] l = l
moved_log e now (m ∷ ms) l = moved_log e now ms (log_move e now m l)

abbrev pub log_wake : (cap_e now tid : ℕ) → List Event → List Event
log_wake e now t l = log_event e now t Woken l

unfoldable pub woken_log : (cap_e now : ℕ) → (tids : List ℕ) → List Event → List Event
woken_log e now [] l = l
woken_log e now (t ∷ ts) l = woken_log e now ts (log_wake e now t l)
