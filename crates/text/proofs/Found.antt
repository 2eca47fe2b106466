-- What `text::scan::find` promises, at the places that the definition of a line speaks of: the byte 10 that ends a piece, the first `=`, the next comma.
use Prim.Native.Nat.{ℕ, suc, ◌+◌, ◌-◌, ◌≤◌, ◌<◌}
use mathlib.Core.Path.{◌≡◌, refl, sym, ap, ◌∙◌}
use mathlib.Core.Bool.{Bool, true, false, cond, not}
use mathlib.Core.Option.{none, some}
use Rattle.std.specs.Prelude.{Option, Some, None, unwrap_or}
use Rattle.std.specs.List.{position, position_or_len}
use Rattle.std.proofs.lemmas.List.{drop-take, length-take-le}
use Rattle.std.proofs.lemmas.List.Sums.{prefix_len-le-length}
use Rattle.std.proofs.lemmas.List.Recursion.{is_position_or_len}
use mathlib.Core.List.{List, [], ◌∷◌}
use native.Mathlib.Omega.{arith}
use borrow.Author.Tests.{eqb-true, eq-eqb, lt-ltb, le-ltb, ltb-true, ltb-false, not-true}
use lib.Dec.{eqb, ltb}
use lib.ListN.{length, get_or, take, drop, length-drop, drop_of_length-le}
use lib.Seq.{take_all, take-length, drop-drop}
use Rattle.text.specs.Scan.{index_of, index_after, slice}
use Rattle.text.specs.Bytes.{all, lookup}
use Rattle.text.specs.Lines.{cut, before_eq, after_eq, fields, named, key_in}
use Rattle.text.specs.Searches.{key_up_to, field_up_to}
use Rattle.text.proofs.Decimal.{and_both, and-fst, and-snd}
use Rattle.text.proofs.Pieces.{isnt, cut-nil, cut-open, fields-last}
use Rattle.text.proofs.Places.{key-at, value-at, field_at, piece-at, no_key}

---- the first b of a list

-- as the library counts it
index_is : (b : ℕ) (l : List ℕ) → index_of b l ≡ position_or_len (λ x. eqb x b) l
unfolding index_of index_after
index_is b l = is_position_or_len (index_of b) (λ x. eqb x b) refl (λ x t. go (eqb x b) (index_of b t)) l
  where
    go : (t : Bool) (n : ℕ) → index_after t n ≡ cond t 0 (1 + n)
    go true n = refl
    go false n = omega arith

pub place_or_len : (p : ℕ → Bool) (l : List ℕ) (r : Option ℕ) → r ≡ position p l → unwrap_or r (length l) ≡ position_or_len p l
place_or_len p l r e = rw e (go (ltb (position_or_len p l) (length l)) refl)
  where
    go : (t : Bool) → ltb (position_or_len p l) (length l) ≡ t → unwrap_or (cond t (Some (position_or_len p l)) None) (length l) ≡ position_or_len p l
    go true k = refl
    go false k = let h : length l ≤ position_or_len p l = ltb-false _ _ k in omega (arith, prefix_len-le-length (λ x. not (p x)) l)

-- what `position` finds in a part of a text
pub index_from : (b from to : ℕ) (l : List ℕ) (r : Option ℕ) → from ≤ to → to ≤ length l → r ≡ position (λ x. eqb x b) (take (to - from) (drop from l)) → from + unwrap_or r (to - from) ≡ from + index_of b (slice from to l)
unfolding slice
index_from b from to l r h k e =
    let whole : from + (to - from) ≡ to = omega arith in
    let part : take (to - from) (drop from l) ≡ drop from (take to l) = sym (drop-take from (to - from) l) ∙ ap (λ (n : ℕ). drop from (take n l)) whole in
    let n : length (drop from (take to l)) ≡ to - from = rw (length-drop, length-take-le to l k) in
    ap (λ (n : ℕ). from + n) (ap (unwrap_or r) (sym n) ∙ place_or_len (λ x. eqb x b) (drop from (take to l)) r (e ∙ ap (position (λ x. eqb x b)) part) ∙ sym (index_is b (drop from (take to l))))

found_passed : (b : ℕ) (l : List ℕ) → all (isnt b) (take (index_of b l) l) ≡ true
unfolding index_of index_after
found_passed b [] = refl
found_passed b (x ∷ l) = go (eqb x b) refl (found_passed b l)
  where
    go : (t : Bool) → eqb x b ≡ t → all (isnt b) (take (index_of b l) l) ≡ true → all (isnt b) (take (index_after t (index_of b l)) (x ∷ l)) ≡ true
    go true e r = refl
    go false e r = and_both (isnt b x) (all (isnt b) (take (index_of b l) l)) (rw e) r

found_here : (b : ℕ) (l : List ℕ) → index_of b l < length l → get_or l (index_of b l) 0 ≡ b
unfolding index_of index_after
found_here b [] h = absurd (omega arith)
found_here b (x ∷ l) h = go (eqb x b) refl h (λ k. found_here b l k)
  where
    go : (t : Bool) → eqb x b ≡ t → index_after t (index_of b l) < suc (length l) → (index_of b l < length l → get_or l (index_of b l) 0 ≡ b) → get_or (x ∷ l) (index_after t (index_of b l)) 0 ≡ b
    go true e k r = eqb-true x b e
    go false e k r = r (omega arith)

-- none of them at all
found_none : (b : ℕ) (l : List ℕ) → length l ≤ index_of b l → all (isnt b) l ≡ true
found_none b l h = ap (all (isnt b)) (sym (take_all (index_of b l) l h)) ∙ found_passed b l

---- a search to the end, from a place on

pub search-place : (b : ℕ) (l : List ℕ) (from r : ℕ) → r ≡ from + index_of b (slice from (length l) l) → r ≡ from + index_of b (drop from l)
unfolding slice
search-place b l from r e = e ∙ ap (λ (t : List ℕ). from + index_of b (drop from t)) (take-length l)

module _ (l : List ℕ) (from r : ℕ) (h : from ≤ length l) where
  -- the list from `from` on, and from behind the place on
  rest_at : (k : ℕ) → r ≡ from + k → drop (k + 1) (drop from l) ≡ drop (r + 1) l
  rest_at k e = let n : from + (k + 1) ≡ r + 1 = omega arith in drop-drop (k + 1) from l ∙ ap (λ (n : ℕ). drop n l) n

  short : (k : ℕ) → r ≡ from + k → r < length l → k < length (drop from l)
  short k e q = rw length-drop (omega arith)

  whole : (k : ℕ) → r ≡ from + k → length l ≤ r → length (drop from l) ≤ k
  whole k e q = rw length-drop (omega arith)

  -- byte 10 stands at r
  pub piece-ended : r ≡ from + index_of 10 (drop from l) → r < length l → cut (drop from l) ≡ take (r + 1 - from) (drop from l) ∷ cut (drop (r + 1) l)
  piece-ended e q =
      let k : ℕ = index_of 10 (drop from l) in
      let s : k < length (drop from l) = short k e q in
      let n : k + 1 ≡ r + 1 - from = omega arith in
      piece-at (drop from l) k s (found_passed 10 (drop from l)) (eq-eqb _ 10 (found_here 10 (drop from l) s)) ∙
      ap (λ (n : ℕ). take n (drop from l) ∷ cut (drop (k + 1) (drop from l))) n ∙
      ap (λ (t : List ℕ). take (r + 1 - from) (drop from l) ∷ cut t) (rest_at k e)

  -- a comma stands at r, or none does
  comma-case : (t : Bool) → ltb r (length l) ≡ t → r ≡ from + index_of 44 (drop from l) → fields (drop from l) ≡ cond t (take (r - from) (drop from l) ∷ fields (drop (r + 1) l)) (drop from l ∷ [])
  comma-case true q e =
      let k : ℕ = index_of 44 (drop from l) in
      let s : k < length (drop from l) = short k e (ltb-true r (length l) q) in
      let n : k ≡ r - from = omega arith in
      field_at (drop from l) k s (found_passed 44 (drop from l)) (found_here 44 (drop from l) s) ∙
      ap (λ (n : ℕ). take n (drop from l) ∷ fields (drop (k + 1) (drop from l))) n ∙
      ap (λ (t : List ℕ). take (r - from) (drop from l) ∷ fields t) (rest_at k e)
  comma-case false q e = fields-last (drop from l) (found_none 44 (drop from l) (whole (index_of 44 (drop from l)) e (ltb-false r (length l) q)))

  pub comma-found : r ≡ from + index_of 44 (drop from l) → fields (drop from l) ≡ field_up_to from r l
  unfolding field_up_to
  comma-found e = comma-case (ltb r (length l)) refl e

-- without byte 10 all that is left is one piece
cut-whole : (d : List ℕ) → 0 < length d → all (isnt 10) d ≡ true → cut d ≡ d ∷ []
cut-whole [] h a = absurd (omega arith)
cut-whole (x ∷ d) h a = cut-open x d a

pub piece-open : (l : List ℕ) (from r : ℕ) → from < length l → r ≡ from + index_of 10 (drop from l) → length l ≤ r → cut (drop from l) ≡ take (length l - from) (drop from l) ∷ cut (drop (length l) l)
piece-open l from r h e q =
    let n : 0 < length (drop from l) = rw length-drop (omega arith) in
    let m : length (drop from l) ≤ index_of 10 (drop from l) = whole l from r (omega arith) (index_of 10 (drop from l)) e q in
    let all_of : take (length l - from) (drop from l) ≡ drop from l = take_all (length l - from) (drop from l) (rw length-drop (omega arith)) in
    let behind : drop (length l) l ≡ [] = drop_of_length-le l {i = length l} (omega arith) in
    cut-whole (drop from l) n (found_none 10 (drop from l) m) ∙ sym (rw (all_of, behind, cut-nil))

---- the first `=`

no_value : (l : List ℕ) → all (isnt 61) l ≡ true → after_eq l ≡ []
no_value [] a = refl
no_value (x ∷ l) a = rw (not-true (eqb x 61) (and-fst (isnt 61 x) (all (isnt 61) l) a)) (no_value l (and-snd (isnt 61 x) (all (isnt 61) l) a))

key-case : (l : List ℕ) (r : ℕ) (t : Bool) → ltb r (length l) ≡ t → r ≡ index_of 61 l → before_eq l ≡ cond t (some (take r l)) none
key-case l r true q e =
    let s : index_of 61 l < length l = rw e at (ltb-true r (length l) q) in
    rw e (key-at l (index_of 61 l) s (found_passed 61 l) (found_here 61 l s))
key-case l r false q e = no_key l (found_none 61 l (rw e at (ltb-false r (length l) q)))

pub key-found : (l : List ℕ) (r : ℕ) → r ≡ 0 + index_of 61 (drop 0 l) → before_eq l ≡ key_up_to r l
unfolding key_up_to
key-found l r e = key-case l r (ltb r (length l)) refl (omega arith)

value-case : (l : List ℕ) (r : ℕ) (t : Bool) → ltb r (length l) ≡ t → r ≡ index_of 61 l → after_eq l ≡ drop (r + 1) l
value-case l r true q e =
    let s : index_of 61 l < length l = rw e at (ltb-true r (length l) q) in
    rw e (value-at l (index_of 61 l) s (found_passed 61 l) (found_here 61 l s))
value-case l r false q e =
    let m : length l ≤ r = ltb-false r (length l) q in
    no_value l (found_none 61 l (rw e at m)) ∙ sym (drop_of_length-le l {i = r + 1} (omega arith))

pub value_found : (l : List ℕ) (r : ℕ) → r ≡ 0 + index_of 61 (drop 0 l) → after_eq l ≡ drop (r + 1) l
value_found l r e = value-case l r (ltb r (length l)) refl (omega arith)

---- the key, by the place of the first `=`

module _ {A : Type 0} (t : List (List ℕ × A)) (l : List ℕ) (p : ℕ) (e : before_eq l ≡ key_up_to p l) where
  pub key-missing : length l ≤ p → key_in t l ≡ none
  unfolding key_in named key_up_to
  key-missing h = rw (e, le-ltb p (length l) h)

  pub key-there : p < length l → key_in t l ≡ lookup (take p l) t
  unfolding key_in named key_up_to
  key-there h = rw (e, lt-ltb p (length l) h)

---- the fields, by the place of the next comma

module _ (l : List ℕ) (from p : ℕ) (e : fields (drop from l) ≡ field_up_to from p l) where
  pub field-only : length l ≤ p → fields (drop from l) ≡ drop from l ∷ []
  unfolding field_up_to
  field-only h = e ∙ rw (le-ltb p (length l) h)

  pub field_next : p < length l → fields (drop from l) ≡ take (p - from) (drop from l) ∷ fields (drop (p + 1) l)
  unfolding field_up_to
  field_next h = e ∙ rw (lt-ltb p (length l) h)
