-- The cores of a switch list in order of first touch, and the place of each.
-- Assumes nothing.
use Prim.Native.Nat.{ℕ, suc, ◌+◌, ◌≤◌, ◌<◌, min}
use mathlib.Core.Path.{◌≡◌, refl, ap}
use mathlib.Core.Bool.{Bool, true, false, cond}
use mathlib.Core.Logic.{◌≢◌}
use mathlib.Core.Option.{none}
use mathlib.Core.List.{List, [], ◌∷◌, map}
use native.Mathlib.Omega.{arith}
use borrow.Author.Tests.{ne_eqb, eq-eqb}
use lib.Dec.{eqb}
use lib.ListN.{length}
use Rattle.model.specs.Types.{SwitchEntry}
use Rattle.model.specs.Accounting.{touched}

abbrev pub cores : List SwitchEntry → List ℕ
cores es = map (λ (e : SwitchEntry). e.core) es

unfoldable pub added : ℕ → List ℕ → List ℕ
added i [] = i ∷ []
added i (c ∷ cs) = cond (eqb c i) (c ∷ cs) (c ∷ added i cs)

pub touch-cores : (i : ℕ) (f : SwitchEntry → SwitchEntry) → ((e : SwitchEntry) → (f e).core ≡ e.core) → (es : List SwitchEntry) → cores (touched i f es) ≡ added i (cores es)
unfolding touched added
touch-cores i f k [] = ap (λ (c : ℕ). c ∷ []) (k (record { core = i; out = none; inn = none }))
touch-cores i f k (e ∷ es) = go (eqb e.core i) (touch-cores i f k es)
  where
    go : (b : Bool) → cores (touched i f es) ≡ added i (cores es) → cores (cond b (f e ∷ es) (e ∷ touched i f es)) ≡ cond b (e.core ∷ cores es) (e.core ∷ added i (cores es))
    go true r = ap (λ (c : ℕ). c ∷ cores es) (k e)
    go false r = ap (λ (l : List ℕ). e.core ∷ l) r

---- the place of a core

-- the first place of core i; behind the last where it has none
unfoldable pub slot : ℕ → List ℕ → ℕ
slot i [] = 0
slot i (c ∷ cs) = cond (eqb c i) 0 (suc (slot i cs))

-- the same in a list that starts at place n; 8 where it has none
unfoldable pub placed : ℕ → List ℕ → ℕ → ℕ
placed i [] n = 8
placed i (c ∷ cs) n = cond (eqb c i) n (placed i cs (suc n))

pub slot_placed : (i : ℕ) (cs : List ℕ) (n : ℕ) → n + length cs ≤ 8 → min (placed i cs n) (n + length cs) ≡ n + slot i cs
unfolding slot placed
slot_placed i [] n h = omega arith
slot_placed i (c ∷ cs) n h = go (eqb c i) (slot_placed i cs (suc n) (omega arith))
  where
    go : (b : Bool) → min (placed i cs (suc n)) (suc n + length cs) ≡ suc n + slot i cs → min (cond b n (placed i cs (suc n))) (n + suc (length cs)) ≡ n + cond b 0 (suc (slot i cs))
    go true k = omega arith
    go false k = omega arith

pub slot-within : (i : ℕ) (cs : List ℕ) → slot i cs < length (added i cs)
unfolding slot added
slot-within i [] = omega arith
slot-within i (c ∷ cs) = go (eqb c i) (slot-within i cs)
  where
    go : (b : Bool) → slot i cs < length (added i cs) → cond b 0 (suc (slot i cs)) < length (cond b (c ∷ cs) (c ∷ added i cs))
    go true k = omega arith
    go false k = omega arith

pub placed-here : (i : ℕ) (cs : List ℕ) (n : ℕ) → placed i (added i cs) n ≡ n + slot i cs
unfolding slot placed added
placed-here i [] n = rw (eq-eqb i i refl) (omega arith)
placed-here i (c ∷ cs) n = go (eqb c i) refl (placed-here i cs (suc n))
  where
    go : (b : Bool) → eqb c i ≡ b → placed i (added i cs) (suc n) ≡ suc n + slot i cs → placed i (cond b (c ∷ cs) (c ∷ added i cs)) n ≡ n + cond b 0 (suc (slot i cs))
    go true e k = rw e (omega arith)
    go false e k = rw e (omega arith)

pub placed-other : (i j : ℕ) → i ≢ j → (cs : List ℕ) (n : ℕ) → placed j (added i cs) n ≡ placed j cs n
unfolding placed added
placed-other i j d [] n = rw (ne_eqb i j d)
placed-other i j d (c ∷ cs) n = go (eqb c i) (placed-other i j d cs (suc n))
  where
    go : (b : Bool) → placed j (added i cs) (suc n) ≡ placed j cs (suc n) → placed j (cond b (c ∷ cs) (c ∷ added i cs)) n ≡ cond (eqb c j) n (placed j cs (suc n))
    go true k = refl
    go false k = ap (cond (eqb c j) n) k
