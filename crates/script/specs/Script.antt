-- Scripts: the lines up to `cores=`, and the nine call lines.
use Rattle.std.specs.Prelude.{ℕ, zero, suc, Bool, true, false, cond, List, [], ◌∷◌, ltb}
use Rattle.std.proofs.Math.Option.{Option, none, some}
use Rattle.model.specs.Calls.{Call, spawn, exit, join, retired, yield, priority, force, tick, close}
use Rattle.text.specs.Bytes.{ascii}
use Rattle.text.specs.Lines.{Read, bad, good, map_read, both, value, key_in, fields, needed, perhaps, one, two}
use Rattle.settings.specs.Settings.{Settings, Head, HeadKey, PolicyKey, QuantumKey, CostKey, CoresKey, head_keys, setting}

---- up to `cores=`

pub data Heading : Type 0 where
  more : Head → Heading
  done : Settings → (cores : ℕ) → Heading

-- 2 over 8 cores
unfoldable pub up_to8 : Read ℕ → Read ℕ
up_to8 (bad k) = bad k
up_to8 (good n) = cond (ltb 8 n) (bad 2) (good n)

unfoldable pub cores_of : List ℕ → Read ℕ
cores_of v = up_to8 (one (fields v) needed)

unfoldable pub heading : Head → Option HeadKey → List ℕ → Read Heading
heading h none v = bad 6
heading h (some PolicyKey) v = map_read more (setting h (some PolicyKey) v)
heading h (some QuantumKey) v = map_read more (setting h (some QuantumKey) v)
heading h (some CostKey) v = map_read more (setting h (some CostKey) v)
heading h (some CoresKey) v = map_read (done h.settings) (cores_of v)

unfoldable pub head_line : Head → List ℕ → Read Heading
head_line h l = heading h (key_in head_keys l) (value l)

---- calls

pub data CallKey : Type 0 where
  SpawnKey ExitKey JoinKey RetiredKey YieldKey PrioKey ForceKey TickKey CloseKey : CallKey

abbrev pub call_keys : List (List ℕ × CallKey)
call_keys =
    (ascii "spawn", SpawnKey) ∷ (ascii "exit", ExitKey) ∷ (ascii "join", JoinKey) ∷ (ascii "retired", RetiredKey) ∷ (ascii "yield", YieldKey) ∷
    (ascii "prio", PrioKey) ∷ (ascii "force", ForceKey) ∷ (ascii "tick", TickKey) ∷ (ascii "close", CloseKey) ∷ []

-- 01: "text after `tick=`, is 6"
unfoldable pub bare_tick : List ℕ → Read Call
bare_tick [] = good tick
bare_tick (x ∷ l) = bad 6

-- 01: "`spawn=P`, `exit=C`, `join=C,T`, `retired=C`, `yield=C`, `prio=T,N`, `force=C,T`, `tick=`, `close=C`
-- (C core, T and P thread, N number; P and force's T may be empty)"; entry 0
unfoldable pub call_of : CallKey → List ℕ → Read Call
call_of SpawnKey v = one (fields v) (λ p. map_read (λ t. spawn t 0) (perhaps p))
call_of ExitKey v = one (fields v) (λ c. map_read exit (needed c))
call_of JoinKey v = two (fields v) (λ c t. both join (needed c) (needed t))
call_of RetiredKey v = one (fields v) (λ c. map_read retired (needed c))
call_of YieldKey v = one (fields v) (λ c. map_read yield (needed c))
call_of PrioKey v = two (fields v) (λ t n. both priority (needed t) (needed n))
call_of ForceKey v = two (fields v) (λ c t. both force (needed c) (perhaps t))
call_of TickKey v = bare_tick v
call_of CloseKey v = one (fields v) (λ c. map_read close (needed c))

unfoldable pub calling : Option CallKey → List ℕ → Read Call
calling none v = bad 6
calling (some k) v = call_of k v

unfoldable pub call_line : List ℕ → Read Call
call_line l = calling (key_in call_keys l) (value l)
