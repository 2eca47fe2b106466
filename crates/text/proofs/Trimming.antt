-- White space trimmed, and pieces told to be lines, at the places that loops stand at.
use mathlib.Core.Path.{◌≡◌, refl, sym, ap, ◌∙◌}
use mathlib.Core.Bool.{Bool, true, false, cond, not, ◌&&◌}
use mathlib.Core.Option.{Option, none, some}
use mathlib.Core.List.{List, [], ◌∷◌, ◌++◌}
use Prim.Native.Nat.{ℕ, zero, suc, ◌+◌, ◌-◌, ◌≤◌, ◌<◌}
use native.Mathlib.Numerals.{add-one}
use native.Mathlib.Omega.{arith}
use borrow.Author.Tests.{le-leb, lt-leb, eqb-true, ne_eqb}
use lib.Dec.{eqb, leb}
use lib.ListN.{length, get_or, take, drop, drop_of_length-le}
use lib.Seq.{drop-cons, take-suc, take-length}
use Rattle.std.specs.List.{list_all, position_or_len, ends_with}
use Rattle.text.specs.Bytes.{all}
use Rattle.text.specs.Lines.{white, trim_start, keep, trim_end, before, unended, line_of}
use Rattle.text.specs.Searches.{line_if}

---- a test of all bytes, as the library counts them

pub list_all_is : (p : ℕ → Bool) (l : List ℕ) → list_all p l ≡ all p l
list_all_is p [] = refl
list_all_is p (x ∷ l) = ap (λ (t : Bool). p x && t) (list_all_is p l)

---- white space

-- the first byte that is none, as the library counts it
abbrev pub dark : ℕ → Bool
dark b = not (white b)

pub start_is : (l : List ℕ) → drop (position_or_len dark l) l ≡ trim_start l
start_is [] = refl
start_is (x ∷ l) = go (white x) (start_is l)
  where
    go : (t : Bool) → drop (position_or_len dark l) l ≡ trim_start l → drop (cond (not (not t)) (1 + position_or_len dark l) 0) (x ∷ l) ≡ cond t (trim_start l) (x ∷ l)
    go true r = let n : 1 + position_or_len dark l ≡ suc (position_or_len dark l) = omega arith in rw n r
    go false r = refl

snoc-white : (s : List ℕ) (x : ℕ) → white x ≡ true → trim_end (s ++ (x ∷ [])) ≡ trim_end s
snoc-white [] x e = rw e
snoc-white (y ∷ s) x e = ap (keep y) (snoc-white s x e)

keep-on : (y : ℕ) (s : List ℕ) (x : ℕ) → keep y (s ++ (x ∷ [])) ≡ y ∷ (s ++ (x ∷ []))
keep-on y [] x = refl
keep-on y (z ∷ s) x = refl

snoc-dark : (s : List ℕ) (x : ℕ) → white x ≡ false → trim_end (s ++ (x ∷ [])) ≡ s ++ (x ∷ [])
snoc-dark [] x e = rw e
snoc-dark (y ∷ s) x e = ap (keep y) (snoc-dark s x e) ∙ keep-on y s x

-- where the bytes from n on are white, they go
end-behind : (l : List ℕ) (n : ℕ) → ((k : ℕ) → n ≤ k → k < length l → white (get_or l k 0) ≡ true) → trim_end l ≡ trim_end (take n l)
end-behind [] zero w = refl
end-behind [] (suc n) w = refl
end-behind (x ∷ l) zero w = rw (end-behind l zero (λ k h q. w (suc k) (omega arith) (omega arith))) (rw (w 0 (omega arith) (omega arith)))
end-behind (x ∷ l) (suc n) w = ap (keep x) (end-behind l n (λ k h q. w (suc k) (omega arith) (omega arith)))

-- and the byte before n stays
end-kept : (l : List ℕ) (m : ℕ) → m < length l → white (get_or l m 0) ≡ false → trim_end (take (suc m) l) ≡ take (suc m) l
end-kept l m h w = rw (take-suc l m 0 h) (snoc-dark (take m l) (get_or l m 0) w)

pub end-last : (l : List ℕ) (m : ℕ) → m < length l → ((k : ℕ) → m < k → k < length l → white (get_or l k 0) ≡ true) → white (get_or l m 0) ≡ false → take (m + 1) l ≡ trim_end l
end-last l m h w d = rw add-one (sym (end-behind l (suc m) (λ k q r. w k (omega arith) r) ∙ end-kept l m h d))

pub end-none : (l : List ℕ) → ((k : ℕ) → k < length l → white (get_or l k 0) ≡ true) → trim_end l ≡ []
end-none l w = end-behind l zero (λ k q r. w k r)

---- a piece as a line

abbrev pub is_ascii : ℕ → Bool
is_ascii b = leb b 127

before-cond : (t : Bool) (y : ℕ) (s : List ℕ) → before y (cond t (some s) none) ≡ cond t (some (y ∷ s)) none
unfolding before
before-cond true y s = refl
before-cond false y s = refl

unended-snoc : (s : List ℕ) (x : ℕ) → unended (s ++ (x ∷ [])) ≡ cond (eqb x 10) (some s) none
unfolding unended
unended-snoc [] x = refl
unended-snoc (y ∷ []) x = before-cond (eqb x 10) y []
unended-snoc (y ∷ (z ∷ s)) x = ap (before y) (unended-snoc (z ∷ s) x) ∙ before-cond (eqb x 10) y (z ∷ s)

line-cond : (t : Bool) (l : List ℕ) → cond t (some (take (length l - 1) l)) none ≡ line_if t l
unfolding line_if
line-cond true l = refl
line-cond false l = refl

-- the last byte of an empty piece counts as 0
unended-last : (l : List ℕ) → unended l ≡ line_if (eqb (get_or l (length l - 1) 0) 10) l
unended-last [] = unfold unended in line-cond false []
unended-last (x ∷ t) =
    let l = x ∷ t in
    let one : length l ≡ suc (length l - 1) = omega arith in
    let split : l ≡ take (length l - 1) l ++ (get_or l (length l - 1) 0 ∷ []) = sym (take-length l) ∙ ap (λ (n : ℕ). take n l) one ∙ take-suc l (length l - 1) 0 (omega arith) in
    ap unended split ∙ unended-snoc (take (length l - 1) l) (get_or l (length l - 1) 0) ∙ line-cond (eqb (get_or l (length l - 1) 0) 10) l

differ : ◌≡◌ {A = Bool} false true → ⊥
differ e = cc

last-is : (l : List ℕ) → ends_with eqb l (10 ∷ []) ≡ eqb (get_or l (length l - 1) 0) 10
last-is [] = refl
last-is (x ∷ t) =
    let n : suc (length t) - 1 ≡ length t = omega arith in
    let h : length t < length (x ∷ t) = omega arith in
    let past : drop (suc (length t)) (x ∷ t) ≡ [] = drop_of_length-le (x ∷ t) {i = suc (length t)} (omega arith) in
    rw n (rw (drop-cons (x ∷ t) (length t) 0 h, past) (same-byte (get_or (x ∷ t) (length t) 0)))
  where
    same-byte : (b : ℕ) → eqb 10 b && true ≡ eqb b 10
    same-byte b = go (eqb b 10) refl
      where
        go : (t : Bool) → eqb b 10 ≡ t → eqb 10 b && true ≡ t
        go true e = rw (eqb-true b 10 e)
        go false e = rw (ne_eqb 10 b (λ (k : 10 ≡ b). differ (sym (rw (sym k) at e))))

-- a piece is a line where it is short, ASCII and ended
pub line-long : (l : List ℕ) (r : Bool) → 256 < length l → r ≡ false → line_of l ≡ line_if r l
unfolding line_of line_if
line-long l r h k = rw (lt-leb (length l) 256 h, k)

pub line-wide : (l : List ℕ) (r : Bool) → length l ≤ 256 → all is_ascii l ≡ false → r ≡ false → line_of l ≡ line_if r l
unfolding line_of line_if
line-wide l r h e k = rw (le-leb (length l) 256 h, e, k)

pub line-last : (l : List ℕ) (r : Bool) → length l ≤ 256 → all is_ascii l ≡ true → r ≡ ends_with eqb l (10 ∷ []) → line_of l ≡ line_if r l
unfolding line_of
line-last l r h e k = rw (le-leb (length l) 256 h, e) (unended-last l ∙ ap (λ (t : Bool). line_if t l) (sym (k ∙ last-is l)))

-- a line is not empty
pub line-some : (l : List ℕ) (r : Bool) → r ≡ true → line_of l ≡ line_if r l → 0 < length l
unfolding line_of unended line_if
line-some [] r q e = let f : ◌≡◌ {A = Option (List ℕ)} none (line_if true []) = rw q at e in let z : ◌≡◌ {A = ℕ} 0 1 = cc in absurd (omega arith)
line-some (x ∷ l) r q e = omega arith
