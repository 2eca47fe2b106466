-- A loop that counts, `let mut i = 0; while i < n { ..; i += 1; }`, where `Symbolic` asks a `LoopVc`.
--     counts       the loop, from what each number of turns leaves.        next         the end of a turn
--     not_done, all_done       what the test says, in a turn and after the last one.        count_small, next_fits       the count, and the next one, are numbers of n's width
use mathlib.Core.Path.{◌≡◌, subst}
use Prim.Native.Nat.{ℕ, zero, suc, ◌+◌, ◌-◌, ◌<◌, ◌≤◌, ◌^◌, zero-le}
use native.Mathlib.Omega.{arith}
use mathlib.Core.Bool.{not}
use mathlib.Core.List.{List, [], ◌∷◌}
use lib.ListN.{set}
use lib.Dec.{T as Holds, ltb, ltb→lt, nltb→le}
use seplogic.Ra.Ura.{Ura}
use mir.Syntax.{Ty, Width}
use mir.Val.{Val, bits, Fits}
use base.Logic.{SProp, ent, id⊢}
use prog.Wp.{Heap, Calls, Out}
use Rattle.walkkit.proofs.Symbolic.{Content, empty, holds, away, Store, Forgets, Again, turn_k, LoopVc}

-- ---- what the locals hold where a turn begins
-- of what they hold where the loop is reached: the first k stay, and the others, which are the loop's own and temporaries, are forgotten
abbrev pub keep-first : ℕ → Store → Store
keep-first k [] = []
keep-first zero (s ∷ σ) = empty ∷ keep-first zero σ
keep-first (suc k) (s ∷ σ) = s ∷ keep-first k σ

-- the locals that a turn changes, each by its number
abbrev pub update : Store → List (ℕ × Val) → Store
update σ [] = σ
update σ (c ∷ cs) = update (set σ c.0 (holds c.1)) cs

-- σ, with the locals forgotten that are empty in ρ; where that is ρ itself, `refl` says so
abbrev cleared : Content → Content
cleared empty = empty
cleared (holds v) = empty
cleared away = away

abbrev cleared-as : Content → Content → Content
cleared-as s empty = cleared s
cleared-as s (holds v) = s
cleared-as s away = s

abbrev pub masked : Store → Store → Store
masked [] ρ = []
masked (s ∷ σ) [] = s ∷ σ
masked (s ∷ σ) (r ∷ ρ) = cleared-as s r ∷ masked σ ρ

tail-is : {s r : Content} {σ ρ : Store} → s ∷ σ ≡ r ∷ ρ → σ ≡ ρ
tail-is e = cc

head-is : {s r : Content} {σ ρ : Store} → s ∷ σ ≡ r ∷ ρ → s ≡ r
head-is e = cc

value-is : {u v : Val} → holds u ≡ holds v → u ≡ v
value-is e = cc

differ : ◌≡◌ {A = ℕ} 0 1 → ⊥
differ e = omega (arith, e)

pub forgets : (σ ρ : Store) → masked σ ρ ≡ ρ → Forgets σ ρ
forgets [] [] e = tt
forgets [] (r ∷ ρ) e = absurd (differ cc)
forgets (s ∷ σ) [] e = absurd (differ cc)
forgets (empty ∷ σ) (empty ∷ ρ) e = forgets σ ρ (tail-is e)
forgets (holds u ∷ σ) (empty ∷ ρ) e = forgets σ ρ (tail-is e)
forgets (away ∷ σ) (empty ∷ ρ) e = absurd (differ cc)
forgets (empty ∷ σ) (holds v ∷ ρ) e = absurd (differ cc)
forgets (holds u ∷ σ) (holds v ∷ ρ) e = (value-is (head-is e), forgets σ ρ (tail-is e))
forgets (away ∷ σ) (holds v ∷ ρ) e = absurd (differ cc)
forgets (empty ∷ σ) (away ∷ ρ) e = absurd (differ cc)
forgets (holds u ∷ σ) (away ∷ ρ) e = absurd (differ cc)
forgets (away ∷ σ) (away ∷ ρ) e = forgets σ ρ (tail-is e)

-- ---- the index: how many turns are made, and what they leave
pub record Counted (n : ℕ) (X : ℕ → Type 0) : Type 0 where
  pub count : ℕ
  pub within : count ≤ n
  pub state : X count

abbrev pub turns-left : {n : ℕ} {X : ℕ → Type 0} → Counted n X → ℕ
turns-left {n} j = n - j.count

nearer : (i n : ℕ) → i < n → n - (i + 1) < n - i
nearer i n less = omega arith

pub at_most : (i n : ℕ) → i < n → i + 1 ≤ n
at_most i n less = omega arith

abbrev pub begun : {n : ℕ} {X : ℕ → Type 0} → X zero → Counted n X
begun x = record { count = zero; within = zero-le; state = x }

abbrev pub one_more : {n : ℕ} {X : ℕ → Type 0} (j : Counted n X) → j.count < n → X (j.count + 1) → Counted n X
one_more {n} j less y = record { count = j.count + 1; within = at_most j.count n less; state = y }

pub not_done : {n : ℕ} {X : ℕ → Type 0} (j : Counted n X) → Holds (ltb j.count n) → j.count < n
not_done {n} j t = ltb→lt j.count n t

same : (i n : ℕ) → i ≤ n → n ≤ i → i ≡ n
same i n l k = omega arith

pub all_done : {n : ℕ} {X : ℕ → Type 0} (j : Counted n X) → Holds (not (ltb j.count n)) → j.count ≡ n
all_done {n} j t = same j.count n j.within (nltb→le j.count n t)

pub count_small : {i n m : ℕ} → i < n → n < m → i < m
count_small less small = omega arith

pub next_fits : (w : Width) {i n : ℕ} → i < n → n < 2 ^ bits w → Fits w (i + 1)
next_fits w {i} {n} less small = record { fits = go (2 ^ bits w) small }
  where
    go : (m : ℕ) → n < m → i + 1 < m
    go m small = omega arith

module _ {M : Type 1} (𝓤 : Ura M) (H : Heap 𝓤) {C : Calls 𝓤 H} {τs : List Ty} {blk : ℕ → ℕ} where
  -- k is how many locals are declared before the loop, the result and the parameters among them. X i is what i turns leave: from it are the values of the locals that a turn changes, and what is held.
  -- The two equations, both by `refl`, say that this is what there is where the loop is reached; in `next`, where a turn ends
  pub counts : {go : Store → SProp 𝓤 → (Out → Store → SProp 𝓤 → Type 2) → Type 2} {σ : Store} {F : SProp 𝓤} {K : Out → Store → SProp 𝓤 → Type 2}
      (k n : ℕ) (X : ℕ → Type 0) (locals : (j : Counted n X) → List (ℕ × Val)) (frame : Counted n X → SProp 𝓤) (x : X zero)
      → masked σ (update (keep-first k σ) (locals (begun x))) ≡ update (keep-first k σ) (locals (begun x)) → F ≡ frame (begun x)
      → ((j : Counted n X) → go (update (keep-first k σ) (locals j)) (frame j) (turn_k 𝓤 H C τs blk (Counted n X) turns-left (λ i. update (keep-first k σ) (locals i)) frame K j))
      → LoopVc 𝓤 H C τs blk go σ F K
  counts {go} {σ} {F} {K} k n X locals frame x e h turn =
      record {
        I = Counted n X;
        measure = turns-left;
        store = λ j. update (keep-first k σ) (locals j);
        frame = frame;
        start = begun x;
        first_store = forgets σ _ e;
        first_frame = subst (λ (P : SProp 𝓤). ent 𝓤 F P) h (id⊢ 𝓤 F);
        turn = turn;
      }

  -- the end of a turn
  pub next : {n : ℕ} {X : ℕ → Type 0} {store : Counted n X → Store} {frame : Counted n X → SProp 𝓤} {j : Counted n X} {σ : Store} {F : SProp 𝓤}
      (less : j.count < n) (y : X (j.count + 1)) → masked σ (store (one_more j less y)) ≡ store (one_more j less y) → F ≡ frame (one_more j less y) → Again 𝓤 H C τs blk (Counted n X) turns-left store frame j σ F
  next {n} {X} {store} {frame} {j} {σ} {F} less y e h = record { index = one_more j less y; falls = nearer j.count n less; same_store = forgets σ (store (one_more j less y)) e; same-frame = subst (λ (P : SProp 𝓤). ent 𝓤 F P) h (id⊢ 𝓤 F) }
