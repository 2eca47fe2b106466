-- A property of every core through a phase: what holds of one core's turn holds of the whole pass.
use Prim.Native.Nat.{ℕ, zero, suc}
use mathlib.Core.Path.{◌≡◌, refl, ap}
use mathlib.Core.Bool.{Bool, true, false, not, ◌||◌, ◌&&◌}
use mathlib.Core.List.{List, [], ◌∷◌}
use native.Mathlib.Omega.{arith}
use lib.ListN.{length}
use Rattle.model.specs.Invariants.{All}
use Rattle.model.specs.Types.{Policy, Off, Fifo, RoundRobin, Priority, Core}
use Rattle.model.specs.Phases.{Rules, Turn, Pass, Phase, ascend, update, phase6}

-- core n exists and has the property
abbrev pub At : (Core → Type 0) → ℕ → List Core → Type 0
At P n [] = ⊥
At P zero (c ∷ cs) = P c
At P (suc n) (c ∷ cs) = At P n cs

---- booleans

pub or-false-l : (a b : Bool) → a || b ≡ false → a ≡ false
or-false-l true b e = e
or-false-l false b e = refl

pub or-false-r : (a b : Bool) → a || b ≡ false → b ≡ false
or-false-r true b e = absurd (false-true e)
  where
    false-true : true ≡ false → ⊥
    false-true p = let z : ◌≡◌ {A = ℕ} 0 1 = cc in omega arith
or-false-r false b e = e

pub or-false : (a b : Bool) → a ≡ false → b ≡ false → a || b ≡ false
or-false true b p q = p
or-false false b p q = q

pub or_true_r : (a b : Bool) → b ≡ true → a || b ≡ true
or_true_r true b e = refl
or_true_r false b e = e

pub or-true-l : (a b : Bool) → a ≡ true → a || b ≡ true
or-true-l true b e = refl
or-true-l false b e = absurd (ft e)
  where
    ft : false ≡ true → ⊥
    ft p = let z : ◌≡◌ {A = ℕ} 0 1 = cc in omega arith

pub not-both : (b : Bool) → b ≡ true → b ≡ false → ⊥
not-both b p q = let z : ◌≡◌ {A = ℕ} 0 1 = cc in omega arith

pub and_l : (a b : Bool) → a && b ≡ true → a ≡ true
and_l true b e = refl
and_l false b e = e

pub and_r : (a b : Bool) → a && b ≡ true → b ≡ true
and_r true b e = e
and_r false b e = absurd (not-both false e refl)

pub and-false : (a b : Bool) → a && b ≡ false → b ≡ true → a ≡ false
and-false true b e h = absurd (not-both b h e)
and-false false b e h = refl

pub implied : (a b : Bool) → not a || b ≡ true → a ≡ true → b ≡ true
implied true b e h = e
implied false b e h = absurd (not-both false h refl)

pub other : (a b : Bool) → a || b ≡ true → a ≡ false → b ≡ true
other true b e h = absurd (not-both true refl h)
other false b e h = e

---- one core changed

pub all-update : {P : Core → Type 0} (f : Core → Core) → ((c : Core) → P c → P (f c)) → (n : ℕ) (cs : List Core) → All P cs → All P (update n f cs)
unfolding update
all-update f h n [] a = tt
all-update f h zero (c ∷ cs) a = (h c a.0, a.1)
all-update f h (suc n) (c ∷ cs) a = (a.0, all-update f h n cs a.1)

pub length-update {ℓ} : {A : Type ℓ} (f : A → A) (n : ℕ) (cs : List A) → length (update n f cs) ≡ length cs
unfolding update
length-update f n [] = refl
length-update f zero (c ∷ cs) = refl
length-update f (suc n) (c ∷ cs) = ap suc (length-update f n cs)

---- a phase

pub ascend-length : (f : Phase) (i : ℕ) (cs : List Core) (q : List ℕ) → length (ascend f i cs q).cores ≡ length cs
unfolding ascend
ascend-length f i [] q = refl
ascend-length f i (c ∷ cs) q = ap suc (ascend-length f (suc i) cs (f i c q).queue)

pub ascend-all : (P Q : Core → Type 0) (f : Phase) → ((i : ℕ) (c : Core) (q : List ℕ) → P c → Q (f i c q).core) → (i : ℕ) (cs : List Core) (q : List ℕ) → All P cs → All Q (ascend f i cs q).cores
unfolding ascend
ascend-all P Q f h i [] q a = tt
ascend-all P Q f h i (c ∷ cs) q a = (h i c q a.0, ascend-all P Q f h (suc i) cs (f i c q).queue a.1)

-- phase 6 does something under priority only
pub phase6-rests : (o : Policy) (k : Rules) (p : Pass) → (o ≡ Priority → ⊥) → phase6 o k p ≡ p
unfolding phase6
phase6-rests Off k p n = refl
phase6-rests Fifo k p n = refl
phase6-rests RoundRobin k p n = refl
phase6-rests Priority k p n = absurd (n refl)
