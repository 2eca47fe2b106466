-- The switch list of moves in range: at most one entry for each core, and each prints in few bytes.
use Prim.Native.Nat.{ℕ, zero, suc, ◌+◌, ◌*◌, ◌≤◌, ◌<◌}
use mathlib.Core.Path.{◌≡◌, refl, sym, ap, ◌∙◌, subst}
use mathlib.Core.Bool.{Bool, true, false, cond, ◌||◌}
use mathlib.Core.Option.{Option, none, some}
use mathlib.Core.Logic.{◌≢◌}
use mathlib.Core.List.{List, [], ◌∷◌, ◌++◌, map}
use native.Mathlib.Omega.{arith}
use borrow.Author.Tests.{eqb-true, eqb-false, ne_eqb, eq-eqb}
use lib.Dec.{eqb}
use lib.ListN.{length, length-map}
use Rattle.model.specs.Invariants.{All, Once}
use Rattle.model.specs.Types.{CoreState, Idle, Switching, Running, LeaveReason, Forced, Move, starts, leaves, takes, Out, SwitchEntry}
use Rattle.model.specs.Phases.{without, dispatch_moves}
use Rattle.model.specs.Accounting.{touched, switch_list}
use Rattle.model.specs.Calls.{elem, out_of}
use Rattle.model.proofs.PhaseLaws.{or-false, or-false-l, or-false-r, not-both}
use Rattle.model.proofs.ThreadStates.{map-all, without-out, without-once, without_all}
use Rattle.script.specs.Report.{out_tid}
use Rattle.script.proofs.Range.{MoveIn, MovesIn}
use Rattle.script.proofs.Lengths.{Below, Short, AllShort}

---- each entry is short

touch-short : (i : ℕ) (f : SwitchEntry → SwitchEntry) → i < 10 → ((e : SwitchEntry) → Short e → Short (f e)) → (es : List SwitchEntry) → AllShort es → AllShort (touched i f es)
unfolding touched out_tid
touch-short i f l k [] a = (k (record { core = i; out = none; inn = none }) (record { core = l; out = tt; inn = tt }), tt)
touch-short i f l k (e ∷ es) a = go (eqb e.core i) (touch-short i f l k es a.1)
  where
    go : (b : Bool) → AllShort (touched i f es) → AllShort (cond b (f e ∷ es) (e ∷ touched i f es))
    go true r = (k e a.0, a.1)
    go false r = (a.0, r)

pub switch_list-short : (n N : ℕ) → n ≤ 10 → N ≤ 1000 → (ms : List Move) (es : List SwitchEntry) → MovesIn n N ms → AllShort es → AllShort (switch_list es ms)
unfolding switch_list out_tid
switch_list-short n N hn hN [] es m a = a
switch_list-short n N hn hN (starts t ∷ ms) es m a = switch_list-short n N hn hN ms es m.1 a
switch_list-short n N hn hN (leaves t i r ∷ ms) es m a =
    let ht = m.0.0 in
    let hi = m.0.1 in
    switch_list-short n N hn hN ms _ m.1 (touch-short i _ (omega arith) (λ e s. record { core = s.core; out = omega arith; inn = s.inn }) es a)
switch_list-short n N hn hN (takes t i ∷ ms) es m a =
    let ht = m.0.0 in
    let hi = m.0.1 in
    switch_list-short n N hn hN ms _ m.1 (touch-short i _ (omega arith) (λ e s. record { core = s.core; out = s.out; inn = omega arith }) es a)

---- and there is one for each core touched

abbrev cores : List SwitchEntry → List ℕ
cores es = map (λ (e : SwitchEntry). e.core) es

added : ℕ → List ℕ → List ℕ
added i [] = i ∷ []
added i (c ∷ cs) = cond (eqb c i) (c ∷ cs) (c ∷ added i cs)

touch-cores : (i : ℕ) (f : SwitchEntry → SwitchEntry) → ((e : SwitchEntry) → (f e).core ≡ e.core) → (es : List SwitchEntry) → cores (touched i f es) ≡ added i (cores es)
unfolding touched added
touch-cores i f k [] = ap (λ (c : ℕ). c ∷ []) (k (record { core = i; out = none; inn = none }))
touch-cores i f k (e ∷ es) = go (eqb e.core i) (touch-cores i f k es)
  where
    go : (b : Bool) → cores (touched i f es) ≡ added i (cores es) → cores (cond b (f e ∷ es) (e ∷ touched i f es)) ≡ cond b (e.core ∷ cores es) (e.core ∷ added i (cores es))
    go true r = ap (λ (c : ℕ). c ∷ cores es) (k e)
    go false r = ap (λ (l : List ℕ). e.core ∷ l) r

added-elem : (h i : ℕ) (cs : List ℕ) → elem h cs ≡ false → eqb i h ≡ false → elem h (added i cs) ≡ false
unfolding elem added
added-elem h i [] a e = or-false (eqb i h) false e refl
added-elem h i (c ∷ cs) a e = go (eqb c i) (added-elem h i cs (or-false-r (eqb c h) (elem h cs) a) e)
  where
    go : (b : Bool) → elem h (added i cs) ≡ false → elem h (cond b (c ∷ cs) (c ∷ added i cs)) ≡ false
    go true r = a
    go false r = or-false (eqb c h) (elem h (added i cs)) (or-false-l (eqb c h) (elem h cs) a) r

added-once : (i : ℕ) (cs : List ℕ) → Once cs → Once (added i cs)
unfolding added elem
added-once i [] o = (refl, tt)
added-once i (c ∷ cs) o = go (eqb c i) refl (added-once i cs o.1)
  where
    turn : eqb c i ≡ false → eqb i c ≡ false
    turn e = ne_eqb i c (λ z. eqb-false c i e (sym z))

    go : (b : Bool) → eqb c i ≡ b → Once (added i cs) → Once (cond b (c ∷ cs) (c ∷ added i cs))
    go true e r = o
    go false e r = (added-elem c i cs o.0 (turn e), r)

added-all : (P : ℕ → Type 0) (i : ℕ) (cs : List ℕ) → All P cs → P i → All P (added i cs)
unfolding added
added-all P i [] a h = (h, tt)
added-all P i (c ∷ cs) a h = go (eqb c i) (added-all P i cs a.1 h)
  where
    go : (b : Bool) → All P (added i cs) → All P (cond b (c ∷ cs) (c ∷ added i cs))
    go true r = a
    go false r = (a.0, r)

pub record Distinct (n : ℕ) (cs : List ℕ) : Type 0 where
  pub once : Once cs
  pub below : All (λ (c : ℕ). c < n) cs

touch-distinct : (n i : ℕ) (f : SwitchEntry → SwitchEntry) → ((e : SwitchEntry) → (f e).core ≡ e.core) → i < n → (es : List SwitchEntry) → Distinct n (cores es) → Distinct n (cores (touched i f es))
touch-distinct n i f k l es d = subst (Distinct n) (sym (touch-cores i f k es)) (record { once = added-once i (cores es) d.once; below = added-all _ i (cores es) d.below l })

switch_list-distinct : (n N : ℕ) (ms : List Move) (es : List SwitchEntry) → MovesIn n N ms → Distinct n (cores es) → Distinct n (cores (switch_list es ms))
unfolding switch_list
switch_list-distinct n N [] es m d = d
switch_list-distinct n N (starts t ∷ ms) es m d = switch_list-distinct n N ms es m.1 d
switch_list-distinct n N (leaves t i r ∷ ms) es m d = switch_list-distinct n N ms _ m.1 (touch-distinct n i _ (λ e. refl) m.0.1 es d)
switch_list-distinct n N (takes t i ∷ ms) es m d = switch_list-distinct n N ms _ m.1 (touch-distinct n i _ (λ e. refl) m.0.1 es d)

length_without : (t : ℕ) (q : List ℕ) → length q ≤ suc (length (without t q))
unfolding without
length_without t [] = omega arith
length_without t (h ∷ q) = go (eqb h t) (length_without t q)
  where
    go : (b : Bool) → length q ≤ suc (length (without t q)) → suc (length q) ≤ suc (length (cond b q (h ∷ without t q)))
    go true k = omega arith
    go false k = omega arith

pigeons : (n : ℕ) (q : List ℕ) → Once q → All (λ (h : ℕ). h < n) q → length q ≤ n
pigeons zero [] o a = omega arith
pigeons zero (h ∷ q) o a = absurd (let l = a.0 in omega arith)
pigeons (suc n) q o a =
    let k = pigeons n (without n q) (without-once n q o)
    (map-all _ _ (without n q) (λ x e l. smaller x l (λ z. not-both _ e (subst (λ (y : ℕ). elem y (without n q) ≡ false) (sym z) (without-out n q o)))) (without_all _ n q a)) in
    omega (arith, length_without n q)
  where
    smaller : (x : ℕ) → x < suc n → (x ≡ n → ⊥) → x < n
    smaller x l d = let f : x ≢ n = d in omega arith

pub switch_list-count : (n N : ℕ) (ms : List Move) → MovesIn n N ms → length (switch_list [] ms) ≤ n
switch_list-count n N ms m =
    let d = switch_list-distinct n N ms [] m (record { once = tt; below = tt }) in
    omega (arith, pigeons n (cores (switch_list [] ms)) d.once d.below, length-map (switch_list [] ms) (λ (e : SwitchEntry). e.core))

-- a forced switch touches one core
pub forced-count : (i t w : ℕ) (s : CoreState) → length (switch_list [] (out_of i s ++ dispatch_moves w t i)) ≤ 1
unfolding switch_list touched out_of dispatch_moves
forced-count i t zero Idle = omega arith
forced-count i t zero (Switching u l) = omega arith
forced-count i t zero (Running u l) = rw (eq-eqb i i refl) (omega arith)
forced-count i t (suc w) Idle = omega arith
forced-count i t (suc w) (Switching u l) = omega arith
forced-count i t (suc w) (Running u l) = rw (eq-eqb i i refl) (omega arith)
