-- What the reader makes of lines `key=digits`: each call written with decimal numbers reads back as that call.
use Prim.Native.Nat.{ℕ, zero, suc, ◌≤◌}
use mathlib.Core.Path.{◌≡◌, refl, sym, ap, ◌∙◌}
use mathlib.Core.Bool.{Bool, true, false}
use mathlib.Core.Option.{Option, none, some}
use mathlib.Core.List.{List, [], ◌∷◌, ◌++◌}
use native.Mathlib.Omega.{arith}
use borrow.Author.Tests.{le-ltb, lt-ltb}
use Rattle.model.specs.Calls.{Call, spawn, exit, join, retired, yield, priority, force, tick, close}
use Rattle.text.specs.Bytes.{ascii, all, lookup, decimal}
use Rattle.text.specs.Lines.{Read, bad, good, map_read, both, value, key_in, fields, needed, perhaps, one, two}
use Rattle.settings.specs.Settings.{Settings, Head, head_keys, CoresKey}
use Rattle.script.specs.Script.{Heading, more, done, up_to8, cores_of, heading, head_line, CallKey, SpawnKey, ExitKey, JoinKey, RetiredKey, YieldKey, PrioKey, ForceKey, TickKey, CloseKey, call_keys, bare_tick, call_of, calling, call_line}
use Rattle.text.proofs.Decimal.{all_append}
use Rattle.text.proofs.Pieces.{visible, isnt, key-line, value_line, fields-last, fields-comma, decimal-visible, decimal-comma, needed-decimal, perhaps-decimal}

abbrev pub u32 : ℕ
u32 = 4_294_967_295

-- a line of a key without `=` and a value of visible bytes: the key's call of that value
pub call_line_lem : (k v : List ℕ) → all (isnt 61) k ≡ true → all visible v ≡ true → call_line (k ++ (61 ∷ v)) ≡ calling (lookup k call_keys) v
unfolding call_line
call_line_lem k v h g = rw (key-line call_keys k v h, value_line k v h g)

-- two numbers, and a number before nothing
abbrev pub pair : (a b : ℕ) → List ℕ
pair a b = decimal a ++ (44 ∷ decimal b)

pair-visible : (a : ℕ) (v : List ℕ) → all visible v ≡ true → all visible (decimal a ++ (44 ∷ v)) ≡ true
pair-visible a v h = all_append visible (decimal a) (44 ∷ v) (decimal-visible a) h

pair-fields : (a b : ℕ) → fields (pair a b) ≡ decimal a ∷ decimal b ∷ []
pair-fields a b = fields-comma (decimal a) (decimal b) (decimal-comma a) ∙ ap (◌∷◌ (decimal a)) (fields-last (decimal b) (decimal-comma b))

half-fields : (a : ℕ) → fields (decimal a ++ (44 ∷ [])) ≡ decimal a ∷ [] ∷ []
half-fields a = fields-comma (decimal a) [] (decimal-comma a) ∙ ap (◌∷◌ (decimal a)) (fields-last [] refl)

---- the nine

module _ (a : ℕ) (ha : a ≤ u32) where
  pub reads-spawn : call_line (ascii "spawn" ++ (61 ∷ decimal a)) ≡ good (spawn (some a) 0)
  unfolding calling call_of one map_read
  reads-spawn = call_line_lem (ascii "spawn") (decimal a) refl (decimal-visible a) ∙ rw (fields-last (decimal a) (decimal-comma a), perhaps-decimal a ha)

  pub reads_exit : call_line (ascii "exit" ++ (61 ∷ decimal a)) ≡ good (exit a)
  unfolding calling call_of one map_read
  reads_exit = call_line_lem (ascii "exit") (decimal a) refl (decimal-visible a) ∙ rw (fields-last (decimal a) (decimal-comma a), needed-decimal a ha)

  pub reads-retired : call_line (ascii "retired" ++ (61 ∷ decimal a)) ≡ good (retired a)
  unfolding calling call_of one map_read
  reads-retired = call_line_lem (ascii "retired") (decimal a) refl (decimal-visible a) ∙ rw (fields-last (decimal a) (decimal-comma a), needed-decimal a ha)

  pub reads-yield : call_line (ascii "yield" ++ (61 ∷ decimal a)) ≡ good (yield a)
  unfolding calling call_of one map_read
  reads-yield = call_line_lem (ascii "yield") (decimal a) refl (decimal-visible a) ∙ rw (fields-last (decimal a) (decimal-comma a), needed-decimal a ha)

  pub reads-close : call_line (ascii "close" ++ (61 ∷ decimal a)) ≡ good (close a)
  unfolding calling call_of one map_read
  reads-close = call_line_lem (ascii "close") (decimal a) refl (decimal-visible a) ∙ rw (fields-last (decimal a) (decimal-comma a), needed-decimal a ha)

  pub reads-force-any : call_line (ascii "force" ++ (61 ∷ (decimal a ++ (44 ∷ [])))) ≡ good (force a none)
  unfolding calling call_of two both perhaps
  reads-force-any = call_line_lem (ascii "force") (decimal a ++ (44 ∷ [])) refl (pair-visible a [] refl) ∙ rw (half-fields a, needed-decimal a ha)

  module _ (b : ℕ) (hb : b ≤ u32) where
    pub reads-join : call_line (ascii "join" ++ (61 ∷ pair a b)) ≡ good (join a b)
    unfolding calling call_of two both
    reads-join = call_line_lem (ascii "join") (pair a b) refl (pair-visible a (decimal b) (decimal-visible b)) ∙ rw (pair-fields a b, needed-decimal a ha, needed-decimal b hb)

    pub reads-prio : call_line (ascii "prio" ++ (61 ∷ pair a b)) ≡ good (priority a b)
    unfolding calling call_of two both
    reads-prio = call_line_lem (ascii "prio") (pair a b) refl (pair-visible a (decimal b) (decimal-visible b)) ∙ rw (pair-fields a b, needed-decimal a ha, needed-decimal b hb)

    pub reads-force : call_line (ascii "force" ++ (61 ∷ pair a b)) ≡ good (force a (some b))
    unfolding calling call_of two both
    reads-force = call_line_lem (ascii "force") (pair a b) refl (pair-visible a (decimal b) (decimal-visible b)) ∙ rw (pair-fields a b, needed-decimal a ha, perhaps-decimal b hb)

pub reads-spawn-none : call_line (ascii "spawn" ++ (61 ∷ [])) ≡ good (spawn none 0)
unfolding calling call_of one map_read perhaps
reads-spawn-none = call_line_lem (ascii "spawn") [] refl refl ∙ rw (fields-last [] refl)

pub reads-tick : call_line (ascii "tick" ++ (61 ∷ [])) ≡ good tick
unfolding calling call_of bare_tick
reads-tick = call_line_lem (ascii "tick") [] refl refl

-- and `cores=`
pub reads-cores : (h : Head) (n : ℕ) → n ≤ 8 → head_line h (ascii "cores" ++ (61 ∷ decimal n)) ≡ good (done h.settings n)
unfolding head_line heading cores_of up_to8 one map_read
reads-cores h n k =
    rw (key-line head_keys (ascii "cores") (decimal n) refl, value_line (ascii "cores") (decimal n) refl (decimal-visible n)) (rw (fields-last (decimal n) (decimal-comma n), needed-decimal n (omega arith), le-ltb 8 n k))
