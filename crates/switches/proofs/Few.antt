-- A switch list has at most one entry for each core, so eight cores need no more than eight.
-- Assumes nothing.
use Prim.Native.Nat.{ℕ, zero, suc, ◌/◌, ◌%◌, ◌≤◌, ◌<◌}
use mathlib.Core.Path.{◌≡◌, refl, sym, subst}
use mathlib.Core.Bool.{Bool, true, false, cond}
use mathlib.Core.Logic.{◌≢◌}
use mathlib.Core.List.{List, [], ◌∷◌, map}
use native.Mathlib.Omega.{arith}
use borrow.Author.Tests.{eqb-false, ne_eqb}
use lib.Dec.{eqb}
use lib.ListN.{length, length-map, take}
use Rattle.model.specs.Invariants.{All, Once}
use Rattle.model.specs.Types.{Move, starts, leaves, takes, SwitchEntry}
use Rattle.model.specs.Phases.{without}
use Rattle.model.specs.Accounting.{touched, switch_list}
use Rattle.model.specs.Calls.{elem}
use Rattle.model.proofs.PhaseLaws.{or-false, or-false-l, or-false-r, not-both}
use Rattle.model.proofs.ThreadStates.{map-all, without-out, without-once, without_all}
use Rattle.queue.specs.Words.{move_of, decode, moves_in}
use Rattle.switches.proofs.Cores.{cores, added, touch-cores}

---- moves on cores below n

abbrev pub CoreBelow : ℕ → Move → Type 0
CoreBelow n (starts t) = Unit {0}
CoreBelow n (leaves t c r) = c < n
CoreBelow n (takes t c) = c < n

CoresBelow : ℕ → List Move → Type 0
CoresBelow n [] = Unit {0}
CoresBelow n (m ∷ ms) = CoreBelow n m × CoresBelow n ms

-- a word's core is below eight, whatever the word
move_of-below : (code c t : ℕ) → c < 8 → CoreBelow 8 (move_of code c t)
move_of-below zero c t l = l
move_of-below (suc zero) c t l = l
move_of-below (suc (suc zero)) c t l = l
move_of-below (suc (suc (suc zero))) c t l = l
move_of-below (suc (suc (suc (suc zero)))) c t l = l
move_of-below (suc (suc (suc (suc (suc zero))))) c t l = l
move_of-below (suc (suc (suc (suc (suc (suc zero)))))) c t l = l
move_of-below (suc (suc (suc (suc (suc (suc (suc n))))))) c t l = tt

pub word_below : (w : ℕ) → CoreBelow 8 (decode w)
word_below w = move_of-below (w % 8) (w / 8 % 8) (w / 8 / 8 % 4294967296) (omega arith)

words-below : (l : List ℕ) → CoresBelow 8 (map decode l)
unfolding CoresBelow
words-below [] = tt
words-below (w ∷ l) = (word_below w, words-below l)

---- one entry for each core touched

added-elem : (h i : ℕ) (cs : List ℕ) → elem h cs ≡ false → eqb i h ≡ false → elem h (added i cs) ≡ false
unfolding elem added
added-elem h i [] a e = or-false (eqb i h) false e refl
added-elem h i (c ∷ cs) a e = go (eqb c i) (added-elem h i cs (or-false-r (eqb c h) (elem h cs) a) e)
  where
    go : (b : Bool) → elem h (added i cs) ≡ false → elem h (cond b (c ∷ cs) (c ∷ added i cs)) ≡ false
    go true r = a
    go false r = or-false (eqb c h) (elem h (added i cs)) (or-false-l (eqb c h) (elem h cs) a) r

added-once : (i : ℕ) (cs : List ℕ) → Once cs → Once (added i cs)
unfolding added elem
added-once i [] o = (refl, tt)
added-once i (c ∷ cs) o = go (eqb c i) refl (added-once i cs o.1)
  where
    turn : eqb c i ≡ false → eqb i c ≡ false
    turn e = ne_eqb i c (λ z. eqb-false c i e (sym z))

    go : (b : Bool) → eqb c i ≡ b → Once (added i cs) → Once (cond b (c ∷ cs) (c ∷ added i cs))
    go true e r = o
    go false e r = (added-elem c i cs o.0 (turn e), r)

added-all : (P : ℕ → Type 0) (i : ℕ) (cs : List ℕ) → All P cs → P i → All P (added i cs)
unfolding added
added-all P i [] a h = (h, tt)
added-all P i (c ∷ cs) a h = go (eqb c i) (added-all P i cs a.1 h)
  where
    go : (b : Bool) → All P (added i cs) → All P (cond b (c ∷ cs) (c ∷ added i cs))
    go true r = a
    go false r = (a.0, r)

record Distinct (n : ℕ) (cs : List ℕ) : Type 0 where
  once : Once cs
  below : All (λ (c : ℕ). c < n) cs

touch-distinct : (n i : ℕ) (f : SwitchEntry → SwitchEntry) → ((e : SwitchEntry) → (f e).core ≡ e.core) → i < n → (es : List SwitchEntry) → Distinct n (cores es) → Distinct n (cores (touched i f es))
touch-distinct n i f k l es d = subst (Distinct n) (sym (touch-cores i f k es)) (record { once = added-once i (cores es) d.once; below = added-all _ i (cores es) d.below l })

switch_list-distinct : (n : ℕ) (ms : List Move) (es : List SwitchEntry) → CoresBelow n ms → Distinct n (cores es) → Distinct n (cores (switch_list es ms))
unfolding switch_list CoresBelow
switch_list-distinct n [] es m d = d
switch_list-distinct n (starts t ∷ ms) es m d = switch_list-distinct n ms es m.1 d
switch_list-distinct n (leaves t i r ∷ ms) es m d = switch_list-distinct n ms _ m.1 (touch-distinct n i _ (λ e. refl) m.0 es d)
switch_list-distinct n (takes t i ∷ ms) es m d = switch_list-distinct n ms _ m.1 (touch-distinct n i _ (λ e. refl) m.0 es d)

length_without : (t : ℕ) (q : List ℕ) → length q ≤ suc (length (without t q))
unfolding without
length_without t [] = omega arith
length_without t (h ∷ q) = go (eqb h t) (length_without t q)
  where
    go : (b : Bool) → length q ≤ suc (length (without t q)) → suc (length q) ≤ suc (length (cond b q (h ∷ without t q)))
    go true k = omega arith
    go false k = omega arith

pigeons : (n : ℕ) (q : List ℕ) → Once q → All (λ (h : ℕ). h < n) q → length q ≤ n
pigeons zero [] o a = omega arith
pigeons zero (h ∷ q) o a = absurd (let l = a.0 in omega arith)
pigeons (suc n) q o a =
    let k = pigeons n (without n q) (without-once n q o)
    (map-all _ _ (without n q) (λ x e l. smaller x l (λ z. not-both _ e (subst (λ (y : ℕ). elem y (without n q) ≡ false) (sym z) (without-out n q o)))) (without_all _ n q a)) in
    omega (arith, length_without n q)
  where
    smaller : (x : ℕ) → x < suc n → (x ≡ n → ⊥) → x < n
    smaller x l d = let f : x ≢ n = d in omega arith

pub few : (out : List ℕ) (n : ℕ) → length (switch_list [] (moves_in out n)) ≤ 8
unfolding moves_in
few out n =
    let ms = map decode (take n out) in
    let d = switch_list-distinct 8 ms [] (words-below (take n out)) (record { once = tt; below = tt }) in
    omega (arith, pigeons 8 (cores (switch_list [] ms)) d.once d.below, length-map (switch_list [] ms) (λ (e : SwitchEntry). e.core))
