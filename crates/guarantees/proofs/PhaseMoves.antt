-- One core through a phase, and what the phase's moves say of it: its thread does not leave, or the core takes one.
use Prim.Native.Nat.{ℕ, zero, suc, ◌+◌, ◌<◌}
use mathlib.Core.Path.{◌≡◌, refl, sym, ◌∙◌, subst}
use mathlib.Core.Bool.{Bool, true, false, ◌||◌}
use mathlib.Core.List.{List, [], ◌∷◌, ◌++◌}
use native.Mathlib.Omega.{arith}
use lib.Dec.{eqb}
use lib.ListN.{length}
use Rattle.model.specs.Types.{Core, Move, starts, leaves, takes}
use Rattle.model.specs.Phases.{Turn, Pass, Phase, ascend, and_then, update}
use Rattle.model.specs.Calls.{core_at}
use Rattle.model.proofs.PhaseLaws.{At, or-false-l, or-false-r, or-false, not-both}
use Rattle.guarantees.specs.Claims.{gets, takes_on, leaves_on}

---- moves

pub gets-append : (x : ℕ) (a b : List Move) → gets x (a ++ b) ≡ gets x a || gets x b
unfolding gets
gets-append x [] b = refl
gets-append x (starts t ∷ a) b = gets-append x a b
gets-append x (leaves t i r ∷ a) b = gets-append x a b
gets-append x (takes t i ∷ a) b = go (eqb t x) (gets-append x a b)
  where
    go : (e : Bool) → gets x (a ++ b) ≡ gets x a || gets x b → e || gets x (a ++ b) ≡ (e || gets x a) || gets x b
    go true h = refl
    go false h = h

pub takes_on-append : (x : ℕ) (a b : List Move) → takes_on x (a ++ b) ≡ takes_on x a || takes_on x b
unfolding takes_on
takes_on-append x [] b = refl
takes_on-append x (starts t ∷ a) b = takes_on-append x a b
takes_on-append x (leaves t i r ∷ a) b = takes_on-append x a b
takes_on-append x (takes t i ∷ a) b = go (eqb i x) (takes_on-append x a b)
  where
    go : (e : Bool) → takes_on x (a ++ b) ≡ takes_on x a || takes_on x b → e || takes_on x (a ++ b) ≡ (e || takes_on x a) || takes_on x b
    go true h = refl
    go false h = h

pub leaves_on-append : (x : ℕ) (a b : List Move) → leaves_on x (a ++ b) ≡ leaves_on x a || leaves_on x b
unfolding leaves_on
leaves_on-append x [] b = refl
leaves_on-append x (starts t ∷ a) b = leaves_on-append x a b
leaves_on-append x (takes t i ∷ a) b = leaves_on-append x a b
leaves_on-append x (leaves t i r ∷ a) b = go (eqb i x) (leaves_on-append x a b)
  where
    go : (e : Bool) → leaves_on x (a ++ b) ≡ leaves_on x a || leaves_on x b → e || leaves_on x (a ++ b) ≡ (e || leaves_on x a) || leaves_on x b
    go true h = refl
    go false h = h

---- one core changed

pub at-update : {P : Core → Type 0} (f : Core → Core) → ((c : Core) → P c → P (f c)) → (n m : ℕ) (cs : List Core) → At P m cs → At P m (update n f cs)
unfolding update
at-update f h n m [] a = a
at-update f h zero zero (c ∷ cs) a = h c a
at-update f h zero (suc m) (c ∷ cs) a = a
at-update f h (suc n) zero (c ∷ cs) a = a
at-update f h (suc n) (suc m) (c ∷ cs) a = at-update f h n m cs a

pub at-put : (P : Core → Type 0) (f : Core → Core) → ((c : Core) → P (f c)) → (n : ℕ) (cs : List Core) → n < length cs → At P n (update n f cs)
unfolding update
at-put P f h n [] l = omega arith
at-put P f h zero (c ∷ cs) l = h c
at-put P f h (suc n) (c ∷ cs) l = at-put P f h n cs (omega arith)

pub at-core : (P : Core → Type 0) (n : ℕ) (cs : List Core) → At P n cs → P (core_at cs n)
unfolding core_at
at-core P n [] a = absurd a
at-core P zero (c ∷ cs) a = a
at-core P (suc n) (c ∷ cs) a = at-core P n cs a

---- a phase

-- one core j in a phase, where its thread does not leave: N is what holds of the queue at every turn
pub ascend-at :
    (P Q : Core → Type 0) (N : List ℕ → Type 0) (f : Phase) (j : ℕ) → ((i : ℕ) (c : Core) (q : List ℕ) → N q → N (f i c q).queue)
    → ((c : Core) (q : List ℕ) → P c → N q → leaves_on j (f j c q).moves ≡ false → Q (f j c q).core)
    → (i n : ℕ) (cs : List Core) (q : List ℕ) → j ≡ i + n → At P n cs → N q → leaves_on j (ascend f i cs q).moves ≡ false → At Q n (ascend f i cs q).cores
unfolding ascend
ascend-at P Q N f j keep law i n [] q e a w l = a
ascend-at P Q N f j keep law i zero (c ∷ cs) q e a w l = go i (omega arith) l
  where
    go : (i' : ℕ) → j ≡ i' → leaves_on j ((f i' c q).moves ++ (ascend f (suc i') cs (f i' c q).queue).moves) ≡ false → Q (f i' c q).core
    go i' e' l' = subst (λ (m : ℕ). leaves_on j ((f m c q).moves ++ (ascend f (suc m) cs (f m c q).queue).moves) ≡ false → Q (f m c q).core) e' (λ l''. law c q a w (or-false-l _ _ (sym (leaves_on-append j (f j c q).moves _) ∙ l''))) l'
ascend-at P Q N f j keep law i (suc n) (c ∷ cs) q e a w l =
    ascend-at P Q N f j keep law (suc i) n cs (f i c q).queue (omega arith) a (keep i c q w) (or-false-r (leaves_on j (f i c q).moves) _ (sym (leaves_on-append j (f i c q).moves _) ∙ l))

-- the same, in a phase that follows others
pub and_then-at :
    (P Q : Core → Type 0) (N : List ℕ → Type 0) (f : Phase) (j : ℕ) → ((i : ℕ) (c : Core) (q : List ℕ) → N q → N (f i c q).queue)
    → ((c : Core) (q : List ℕ) → P c → N q → leaves_on j (f j c q).moves ≡ false → Q (f j c q).core)
    → (p : Pass) → At P j p.cores → N p.queue → leaves_on j (and_then p f).moves ≡ false → At Q j (and_then p f).cores
unfolding and_then
and_then-at P Q N f j keep law p a w l =
    ascend-at P Q N f j keep law 0 j p.cores p.queue (omega arith) a w (or-false-r (leaves_on j p.moves) _ (sym (leaves_on-append j p.moves _) ∙ l))

pub and_then-before : (j : ℕ) (p : Pass) (f : Phase) → leaves_on j (and_then p f).moves ≡ false → leaves_on j p.moves ≡ false
unfolding and_then
and_then-before j p f l = or-false-l (leaves_on j p.moves) _ (sym (leaves_on-append j p.moves _) ∙ l)

-- the queue through a phase
pub ascend-queue : (N : List ℕ → Type 0) (f : Phase) → ((i : ℕ) (c : Core) (q : List ℕ) → N q → N (f i c q).queue) → (i : ℕ) (cs : List Core) (q : List ℕ) → N q → N (ascend f i cs q).queue
unfolding ascend
ascend-queue N f keep i [] q w = w
ascend-queue N f keep i (c ∷ cs) q w = ascend-queue N f keep (suc i) cs (f i c q).queue (keep i c q w)

-- who a phase puts on core j stands fresh there
module _ (f : Phase) (own : (i j : ℕ) (c : Core) (q : List ℕ) → (i ≡ j → ⊥) → takes_on j (f i c q).moves ≡ false) where
  pub ascend-below : (j i : ℕ) (cs : List Core) (q : List ℕ) → j < i → takes_on j (ascend f i cs q).moves ≡ false
  unfolding ascend takes_on
  ascend-below j i [] q h = refl
  ascend-below j i (c ∷ cs) q h =
      takes_on-append j (f i c q).moves _ ∙ or-false _ _ (own i j c q (λ e. omega arith)) (ascend-below j (suc i) cs (f i c q).queue (omega arith))

  pub ascend-takes :
      (Q : Core → Type 0) (law : (i : ℕ) (c : Core) (q : List ℕ) → takes_on i (f i c q).moves ≡ true → Q (f i c q).core) (i n : ℕ) (cs : List Core) (q : List ℕ)
      → takes_on (i + n) (ascend f i cs q).moves ≡ true → At Q n (ascend f i cs q).cores
  unfolding ascend takes_on
  ascend-takes Q law i n [] q h = absurd (not-both _ h refl)
  ascend-takes Q law i zero (c ∷ cs) q h = law i c q (go (takes_on i (f i c q).moves) (ascend-below i (suc i) cs (f i c q).queue (omega arith)) (sym (takes_on-append i (f i c q).moves _) ∙ subst (λ (m : ℕ). takes_on m ((f i c q).moves ++ (ascend f (suc i) cs (f i c q).queue).moves) ≡ true) (omega arith) h))
    where
      go : (a : Bool) {b : Bool} → b ≡ false → a || b ≡ true → a ≡ true
      go true e k = refl
      go false e k = absurd (not-both _ k e)
  ascend-takes Q law i (suc n) (c ∷ cs) q h =
      ascend-takes Q law (suc i) n cs (f i c q).queue (subst (λ (m : ℕ). takes_on m (ascend f (suc i) cs (f i c q).queue).moves ≡ true) (omega arith) (go (takes_on (i + suc n) (f i c q).moves) (own i (i + suc n) c q (λ e. omega arith)) (sym (takes_on-append (i + suc n) (f i c q).moves _) ∙ h)))
    where
      go : (a : Bool) {b : Bool} → a ≡ false → a || b ≡ true → b ≡ true
      go true e k = absurd (not-both _ refl e)
      go false e k = k

-- a property of core n that every turn keeps
pub ascend-keeps : (P Q : Core → Type 0) (f : Phase) → ((i : ℕ) (c : Core) (q : List ℕ) → P c → Q (f i c q).core) → (i n : ℕ) (cs : List Core) (q : List ℕ) → At P n cs → At Q n (ascend f i cs q).cores
unfolding ascend
ascend-keeps P Q f h i n [] q a = a
ascend-keeps P Q f h i zero (c ∷ cs) q a = h i c q a
ascend-keeps P Q f h i (suc n) (c ∷ cs) q a = ascend-keeps P Q f h (suc i) n cs (f i c q).queue a

-- a phase that puts nobody on a core
pub ascend-takes-none : (f : Phase) (j : ℕ) → ((i : ℕ) (c : Core) (q : List ℕ) → takes_on j (f i c q).moves ≡ false) → (i : ℕ) (cs : List Core) (q : List ℕ) → takes_on j (ascend f i cs q).moves ≡ false
unfolding ascend takes_on
ascend-takes-none f j h i [] q = refl
ascend-takes-none f j h i (c ∷ cs) q = takes_on-append j (f i c q).moves _ ∙ or-false _ _ (h i c q) (ascend-takes-none f j h (suc i) cs (f i c q).queue)

pub and_then-takes-none : (j : ℕ) (p : Pass) (f : Phase) → ((i : ℕ) (c : Core) (q : List ℕ) → takes_on j (f i c q).moves ≡ false) → takes_on j p.moves ≡ false → takes_on j (and_then p f).moves ≡ false
unfolding and_then
and_then-takes-none j p f h e = takes_on-append j p.moves _ ∙ or-false _ _ e (ascend-takes-none f j h 0 p.cores p.queue)

pub and_then-takes :
    (f : Phase) (Q : Core → Type 0) → ((i j : ℕ) (c : Core) (q : List ℕ) → (i ≡ j → ⊥) → takes_on j (f i c q).moves ≡ false)
    → ((i : ℕ) (c : Core) (q : List ℕ) → takes_on i (f i c q).moves ≡ true → Q (f i c q).core) → ((i : ℕ) (c : Core) (q : List ℕ) → Q c → Q (f i c q).core)
    → (j : ℕ) (p : Pass) → (takes_on j p.moves ≡ true → At Q j p.cores) → takes_on j (and_then p f).moves ≡ true → At Q j (and_then p f).cores
unfolding and_then
and_then-takes f Q own law keeps j p before e = go (takes_on j p.moves) refl (sym (takes_on-append j p.moves _) ∙ e)
  where
    go : (b : Bool) → takes_on j p.moves ≡ b → b || takes_on j (ascend f 0 p.cores p.queue).moves ≡ true → At Q j (ascend f 0 p.cores p.queue).cores
    go true h t = ascend-keeps Q Q f keeps 0 j p.cores p.queue (before h)
    go false h t = ascend-takes f own Q law 0 j p.cores p.queue (subst (λ (m : ℕ). takes_on m (ascend f 0 p.cores p.queue).moves ≡ true) (omega arith) t)
