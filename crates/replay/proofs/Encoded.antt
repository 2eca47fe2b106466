-- Laws of the lists of encoded calls.
use Prim.Native.Nat.{ℕ, zero, suc, ◌+◌, ◌*◌, ◌/◌, ◌<◌, ◌≤◌, min}
use native.Mathlib.Omega.{arith}
use mathlib.Core.Path.{◌≡◌, refl, sym, ap, ◌∙◌}
use mathlib.Core.Option.{Option, none, some}
use mathlib.Core.List.{List, [], ◌∷◌, ◌++◌}
use lib.ListN.{length, take, get_or}
use borrow.Author.Tests.{ne_eqb}
use Rattle.std.proofs.lemmas.List.{take_min}
use Rattle.model.specs.Calls.{Call, spawn, exit, join, retired, yield, priority, timing, force, tick, close}
use Rattle.replay.specs.Encoding.{call_of, call_at, calls_of, words_of}
use Rattle.replay.specs.Replay.{due}

third : (k a b : ℕ) (ws : List ℕ) (i j : ℕ) → i ≡ suc (suc (suc j)) → get_or (k ∷ (a ∷ (b ∷ ws))) i 0 ≡ get_or ws j 0
third k a b ws i j e = ap (λ (m : ℕ). get_or (k ∷ (a ∷ (b ∷ ws))) m 0) e

at_next : (k a b : ℕ) (ws : List ℕ) (i : ℕ) → call_at (k ∷ (a ∷ (b ∷ ws))) (suc i) ≡ call_at ws i
unfolding call_at
at_next k a b ws i =
    let e₀ : get_or (k ∷ (a ∷ (b ∷ ws))) (3 * suc i) 0 ≡ get_or ws (3 * i) 0 = third k a b ws (3 * suc i) (3 * i) (omega arith) in
    let e₁ : get_or (k ∷ (a ∷ (b ∷ ws))) (3 * suc i + 1) 0 ≡ get_or ws (3 * i + 1) 0 = third k a b ws (3 * suc i + 1) (3 * i + 1) (omega arith) in
    let e₂ : get_or (k ∷ (a ∷ (b ∷ ws))) (3 * suc i + 2) 0 ≡ get_or ws (3 * i + 2) 0 = third k a b ws (3 * suc i + 2) (3 * i + 2) (omega arith) in
    λ j. call_of (e₀ j) (e₁ j) (e₂ j)

pub take_next : (ws : List ℕ) (i : ℕ) → 3 * i + 2 < length ws → take (suc i) (calls_of ws) ≡ take i (calls_of ws) ++ (call_at ws i ∷ [])
unfolding calls_of call_at
take_next [] i h = absurd (omega arith)
take_next (k ∷ []) i h = absurd (omega arith)
take_next (k ∷ (a ∷ [])) i h = absurd (omega arith)
take_next (k ∷ (a ∷ (b ∷ ws))) zero h = refl
take_next (k ∷ (a ∷ (b ∷ ws))) (suc i) h =
    let l : 3 * i + 2 < length ws = omega arith in
    ap (λ (cs : List Call). call_of k a b ∷ cs) (take_next ws i l) ∙ ap (λ (c : Call). call_of k a b ∷ (take i (calls_of ws) ++ (c ∷ []))) (sym (at_next k a b ws i))

pub long-calls : (ws : List ℕ) → length (calls_of ws) ≡ length ws / 3
unfolding calls_of
long-calls [] = omega arith
long-calls (k ∷ []) = omega arith
long-calls (k ∷ (a ∷ [])) = omega arith
long-calls (k ∷ (a ∷ (b ∷ ws))) = let e : length (calls_of ws) ≡ length ws / 3 = long-calls ws in omega arith

-- as many calls are taken as there are
pub take-due : (ws : List ℕ) (u : ℕ) → take (due none (length ws / 3) u) (calls_of ws) ≡ take u (calls_of ws)
take-due ws u = ap (λ (m : ℕ). take (min u m) (calls_of ws)) (sym (long-calls ws)) ∙ take_min u (calls_of ws)

pub due-fits : (r : Option ℕ) (w u : ℕ) → 3 * due r (w / 3) u ≤ w
due-fits (some m) w u = omega arith
due-fits none w u = omega arith

-- a kind that is not named
pub call-other : (k a b : ℕ) → (k ≡ 1 → ⊥) → (k ≡ 2 → ⊥) → (k ≡ 3 → ⊥) → (k ≡ 4 → ⊥) → (k ≡ 5 → ⊥) → (k ≡ 6 → ⊥) → (k ≡ 7 → ⊥) → (k ≡ 8 → ⊥) → (k ≡ 10 → ⊥) → (k ≡ 11 → ⊥) → (k ≡ 12 → ⊥) → tick ≡ call_of k a b
unfolding call_of
call-other k a b h₁ h₂ h₃ h₄ h₅ h₆ h₇ h₈ h₁₀ h₁₁ h₁₂ = rw (ne_eqb k 1 h₁, ne_eqb k 2 h₂, ne_eqb k 3 h₃, ne_eqb k 4 h₄, ne_eqb k 5 h₅, ne_eqb k 6 h₆, ne_eqb k 7 h₇, ne_eqb k 8 h₈, ne_eqb k 10 h₁₀, ne_eqb k 11 h₁₁, ne_eqb k 12 h₁₂)

-- each list of calls is some list of words
pub every-list : (cs : List Call) → calls_of (words_of cs) ≡ cs
unfolding calls_of call_of words_of
every-list [] = refl
every-list (spawn (some p) e ∷ cs) = ap (λ (l : List Call). spawn (some p) e ∷ l) (every-list cs)
every-list (exit i ∷ cs) = ap (λ (l : List Call). exit i ∷ l) (every-list cs)
every-list (join i t ∷ cs) = ap (λ (l : List Call). join i t ∷ l) (every-list cs)
every-list (retired i ∷ cs) = ap (λ (l : List Call). retired i ∷ l) (every-list cs)
every-list (yield i ∷ cs) = ap (λ (l : List Call). yield i ∷ l) (every-list cs)
every-list (priority t n ∷ cs) = ap (λ (l : List Call). priority t n ∷ l) (every-list cs)
every-list (timing q w ∷ cs) = ap (λ (l : List Call). timing q w ∷ l) (every-list cs)
every-list (force i (some t) ∷ cs) = ap (λ (l : List Call). force i (some t) ∷ l) (every-list cs)
every-list (tick ∷ cs) = ap (λ (l : List Call). tick ∷ l) (every-list cs)
every-list (close i ∷ cs) = ap (λ (l : List Call). close i ∷ l) (every-list cs)
every-list (spawn none e ∷ cs) = ap (λ (l : List Call). spawn none e ∷ l) (every-list cs)
every-list (force i none ∷ cs) = ap (λ (l : List Call). force i none ∷ l) (every-list cs)
