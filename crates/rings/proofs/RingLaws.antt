-- The law of a ring, over lists of any element: one entry more is the newest of what was there and the entry. And what the other accesses read and leave.
use mathlib.Core.Path.{◌≡◌, refl, sym, ap, ◌∙◌}
use mathlib.Core.Bool.{Bool, true, false}
use mathlib.Core.Option.{some}
use mathlib.Core.List.{List, [], ◌∷◌, ◌++◌, append_assoc, map, map-append}
use Prim.Native.Nat.{ℕ, zero, suc, ◌+◌, ◌-◌, ◌≤◌, ◌<◌}
use native.Mathlib.Numerals.{add-one}
use native.Mathlib.Omega.{arith}
use borrow.Author.Tests.{ltb-true, ltb-false, lt-ltb, le-ltb, leb-true, leb-false, le-leb, lt-leb}
use lib.Dec.{leb, ltb}
use lib.ListN.{length, take, drop, set, get_or, get_elem?, length-append, length-take, length-drop, length-set, length-map, drop_of_length-le, get_or-append}
use lib.Seq.{take-nil, take-append-le, drop-append-le, take_all, take-suc, take-suc-set, drop-cons, drop-set-lt, drop-drop, get_or-drop, get_or-take, get_or-append-add}
use Rattle.model.specs.Accounting.{newest}
use Rattle.rings.specs.Ring.{by_age, view, unused, next_slot, slot_before}

---- lists

module _ {A : Type 0} where
  pub newest-short : (n : ℕ) (l : List A) → length l ≤ n → newest n l ≡ l
  unfolding newest
  newest-short n l h = let z : length l - n ≡ 0 = omega arith in rw z

  pub newest-none : (l : List A) → newest 0 l ≡ []
  unfolding newest
  newest-none l = drop_of_length-le l {i = length l - 0} (omega arith)

  pub element : (l : List A) (k : ℕ) (d : A) → k < length l → get_elem? l k ≡ some (get_or l k d)
  element [] k d h = absurd (omega arith)
  element (x ∷ l) zero d h = refl
  element (x ∷ l) (suc k) d h = element l k d (omega arith)

module _ {A B : Type 0} (f : A → B) where
  drop-map : (n : ℕ) (l : List A) → drop n (map f l) ≡ map f (drop n l)
  drop-map zero l = refl
  drop-map (suc n) [] = refl
  drop-map (suc n) (x ∷ l) = drop-map n l

  -- the newest entries, each read by f
  pub newest-read : (n : ℕ) (l l' : List A) (e : A) → l' ≡ newest n (l ++ (e ∷ [])) → map f l' ≡ newest n (map f l ++ (f e ∷ []))
  unfolding newest
  newest-read n l l' e q =
      let m = l ++ (e ∷ []) in
      rw q (sym (ap (newest n) (sym (map-append f l (e ∷ []))) ∙ ap (λ (k : ℕ). drop (k - n) (map f m)) (length-map m f) ∙ drop-map (length m - n) m))

  pub element-read : (l : List A) (k : ℕ) (x : A) → some x ≡ get_elem? l k → some (f x) ≡ get_elem? (map f l) k
  element-read [] k x q = let z : ◌≡◌ {A = ℕ} 0 1 = cc in absurd (omega arith)
  element-read (y ∷ l) zero x q = let z : x ≡ y = cc in ap (λ (v : A). some (f v)) z
  element-read (y ∷ l) (suc k) x q = element-read l k x q

module _ {A : Type 0} where
  take-tail : (i : ℕ) (l : List A) → take i (drop 1 l) ≡ drop 1 (take (suc i) l)
  take-tail i [] = take-nil i
  take-tail i (x ∷ l) = refl

---- slots by age, over any element

pub next-ahead : (n last : ℕ) → last + 1 < n → next_slot n last ≡ last + 1
next-ahead n last h = rw (lt-ltb (last + 1) n h)

pub next-wrapped : (n last : ℕ) → n ≤ last + 1 → next_slot n last ≡ 0
next-wrapped n last h = rw (le-ltb (last + 1) n h)

pub before-ahead : (n last d : ℕ) → d ≤ last → slot_before n last d ≡ last - d
before-ahead n last d h = rw (le-leb d last h)

pub before-wrapped : (n last d : ℕ) → last < d → slot_before n last d ≡ n - (d - last)
before-wrapped n last d h = rw (lt-leb d last h)

pub next-inside : (n last : ℕ) → last < n → next_slot n last < n
next-inside n last h = go (ltb (last + 1) n) refl
  where
    go : (t : Bool) → ltb (last + 1) n ≡ t → next_slot n last < n
    go true q = let a : last + 1 < n = ltb-true _ _ q in rw (next-ahead n last a) a
    go false q = let a : n ≤ last + 1 = ltb-false _ _ q in rw (next-wrapped n last a) (omega arith)

-- the slots by age without the newest entry's
unfoldable pub older : {A : Type 0} → (last : ℕ) → List A → List A
older last xs = drop (last + 1) xs ++ take last xs

module _ {A : Type 0} (xs : List A) (last : ℕ) (h : last < length xs) where
  pub age-length : length (by_age last xs) ≡ length xs
  age-length = simp (length-append, length-take, length-drop) (omega arith)

  -- a store in the next slot, which then holds the newest entry
  pub age-push : (e : A) → by_age (next_slot (length xs) last) (set xs (next_slot (length xs) last) e) ≡ drop 1 (by_age last xs) ++ (e ∷ [])
  age-push e = go (ltb (last + 1) (length xs)) refl
    where
      go : (t : Bool) → ltb (last + 1) (length xs) ≡ t → by_age (next_slot (length xs) last) (set xs (next_slot (length xs) last) e) ≡ drop 1 (by_age last xs) ++ (e ∷ [])
      go true q =
          let a : last + 1 < length xs = ltb-true _ _ q in
          let lt : last + 1 < suc (last + 1) = omega arith in
          rw (next-ahead (length xs) last a, add-one (last + 1), drop-set-lt (suc (last + 1)) xs (last + 1) e lt, take-suc-set xs (last + 1) e a, drop-cons xs (last + 1) e a)
          (sym (append_assoc (drop (suc (last + 1)) xs) (take (last + 1) xs) (e ∷ [])))
      go false q =
          let a : length xs ≤ last + 1 = ltb-false _ _ q in
          let i : 0 < length xs = omega arith in
          let none : drop (last + 1) xs ≡ [] = drop_of_length-le xs a in
          let all : take (last + 1) xs ≡ xs = take_all (last + 1) xs a in
          rw (next-wrapped (length xs) last a, none, all) (ap (λ (l : List A). l ++ take 1 (set xs 0 e)) (drop-set-lt 1 xs 0 e (omega arith)) ∙ ap (λ (l : List A). drop 1 xs ++ l) (take-suc-set xs 0 e i))

  pub age-set : (e : A) → by_age last (set xs last e) ≡ older last xs ++ (e ∷ [])
  unfolding older
  age-set e =
      let lt : last < suc last = omega arith in
      rw (add-one last, drop-set-lt (suc last) xs last e lt, take-suc-set xs last e h) (sym (append_assoc (drop (suc last) xs) (take last xs) (e ∷ [])))

  pub age-last : (d : A) → by_age last xs ≡ older last xs ++ (get_or xs last d ∷ [])
  unfolding older
  age-last d = rw (add-one last, take-suc xs last d h) (sym (append_assoc (drop (suc last) xs) (take last xs) (get_or xs last d ∷ [])))

  older-length : length (older last xs) + 1 ≡ length xs
  unfolding older
  older-length = simp (length-append, length-take, length-drop) (omega arith)

  -- the slot of the entry d before the newest
  pub age-at : (k d : ℕ) (z : A) → k + d + 1 ≡ length xs → get_or (by_age last xs) k z ≡ get_or xs (slot_before (length xs) last d) z
  age-at k d z s = go (leb d last) refl
    where
      go : (t : Bool) → leb d last ≡ t → get_or (by_age last xs) k z ≡ get_or xs (slot_before (length xs) last d) z
      go true q =
          let a : d ≤ last = leb-true _ _ q in
          let to : k ≡ length (drop (last + 1) xs) + (last - d) = simp length-drop (omega arith) in
          let lt : last - d < last + 1 = omega arith in
          rw (before-ahead (length xs) last d a) (ap (λ (i : ℕ). get_or (by_age last xs) i z) to ∙ get_or-append-add (drop (last + 1) xs) (take (last + 1) xs) (last - d) z ∙ get_or-take (last + 1) xs (last - d) z lt)
      go false q =
          let a : last < d = leb-false _ _ q in
          let lt : k < length (drop (last + 1) xs) = simp length-drop (omega arith) in
          let to : last + 1 + k ≡ length xs - (d - last) = omega arith in
          rw (before-wrapped (length xs) last d a) (get_or-append (drop (last + 1) xs) (take (last + 1) xs) z k lt ∙ get_or-drop (last + 1) xs k z ∙ ap (λ (i : ℕ). get_or xs i z) to)

---- what a ring holds, over any element

module _ {A : Type 0} (xs : List A) (last len : ℕ) (h : last < length xs) (l : len ≤ length xs) where
  pub view-length : length (view last len xs) ≡ len
  unfolding newest
  view-length = let n : length (by_age last xs) ≡ length xs = age-length xs last h in rw (length-drop (length (by_age last xs) - len) (by_age last xs)) (omega arith)

  pub view-at : (k : ℕ) (z : A) → k < len → get_elem? (view last len xs) k ≡ some (get_or xs (slot_before (length xs) last (len - 1 - k)) z)
  unfolding newest
  view-at k z a =
      let n : length (by_age last xs) ≡ length xs = age-length xs last h in
      let i : k < length (view last len xs) = rw view-length a in
      element (view last len xs) k z i ∙ ap some (get_or-drop (length (by_age last xs) - len) (by_age last xs) k z ∙ age-at xs last h (length (by_age last xs) - len + k) (len - 1 - k) z (omega arith))

  -- the newest len of a list that ends in the newest entry
  ends : (o : List A) (e : A) → length o + 1 ≡ length xs → 0 < len → newest len (o ++ (e ∷ [])) ≡ drop (length xs - len) o ++ (e ∷ [])
  unfolding newest
  ends o e n p =
      let to : length (o ++ (e ∷ [])) - len ≡ length xs - len = omega (arith, length-append o (e ∷ [])) in
      let le : length xs - len ≤ length o = omega arith in
      rw to (drop-append-le (length xs - len) o (e ∷ []) le)

  pub view-last : (d : A) → 0 < len → view last len xs ≡ drop (length xs - len) (older last xs) ++ (get_or xs last d ∷ [])
  view-last d p = ap (newest len) (age-last xs last h d) ∙ ends (older last xs) (get_or xs last d) (older-length xs last h) p

  -- the newest entry written anew
  pub view-set : (e : A) → 0 < len → view last len (set xs last e) ≡ drop (length xs - len) (older last xs) ++ (e ∷ [])
  view-set e p = ap (newest len) (age-set xs last h e) ∙ ends (older last xs) e (older-length xs last h) p

  pub unused-set : (e : A) → 0 < len → unused last len (set xs last e) ≡ unused last len xs
  unused-set e p =
      let o = older last xs in
      let n : length o + 1 ≡ length xs = older-length xs last h in
      let le : length xs - len ≤ length o = omega arith in
      rw (length-set xs last e) (ap (take (length xs - len)) (age-set xs last h e) ∙ take-append-le (length xs - len) o (e ∷ []) le ∙ sym (ap (take (length xs - len)) (age-last xs last h e) ∙ take-append-le (length xs - len) o (get_or xs last e ∷ []) le))

  -- one entry more, where there is room
  pub push-room : (e : A) → len < length xs → view (next_slot (length xs) last) (len + 1) (set xs (next_slot (length xs) last) e) ≡ newest (length xs) (view last len xs ++ (e ∷ []))
  unfolding newest
  push-room e p =
      let r = by_age last xs in
      let n : length r ≡ length xs = age-length xs last h in
      let m : length (drop 1 r ++ (e ∷ [])) ≡ length xs = rw (length-append (drop 1 r) (e ∷ []), length-drop 1 r) (omega arith) in
      let to : length (drop 1 r ++ (e ∷ [])) - (len + 1) ≡ length xs - len - 1 = omega arith in
      let le : length xs - len - 1 ≤ length (drop 1 r) = rw (length-drop 1 r) (omega arith) in
      let both : 1 + (length xs - len - 1) ≡ length r - len = omega arith in
      let v : length (view last len xs ++ (e ∷ [])) ≤ length xs = rw (length-append (view last len xs) (e ∷ []), view-length) (omega arith) in
      ap (newest (len + 1)) (age-push xs last h e) ∙ ap (λ (i : ℕ). drop i (drop 1 r ++ (e ∷ []))) to ∙ drop-append-le (length xs - len - 1) (drop 1 r) (e ∷ []) le ∙
      ap (λ (s : List A). s ++ (e ∷ [])) (drop-drop (length xs - len - 1) 1 r ∙ ap (λ (i : ℕ). drop i r) both) ∙ sym (newest-short (length xs) (view last len xs ++ (e ∷ [])) v)

  pub push-room-unused : (e : A) → len < length xs → unused (next_slot (length xs) last) (len + 1) (set xs (next_slot (length xs) last) e) ≡ drop 1 (unused last len xs)
  push-room-unused e p =
      let r = by_age last xs in
      let n : length r ≡ length xs = age-length xs last h in
      let i = length xs - (len + 1) in
      let le : i ≤ length (drop 1 r) = rw (length-drop 1 r) (omega arith) in
      let both : length xs - len ≡ suc i = omega arith in
      rw (length-set xs (next_slot (length xs) last) e) (ap (take i) (age-push xs last h e) ∙ take-append-le i (drop 1 r) (e ∷ []) le ∙ take-tail i r ∙ ap (λ (j : ℕ). drop 1 (take j r)) (sym both))

  -- one entry more in a full ring: the oldest goes
  pub push-full : (e : A) → length xs ≤ len → view (next_slot (length xs) last) len (set xs (next_slot (length xs) last) e) ≡ newest (length xs) (view last len xs ++ (e ∷ []))
  unfolding newest
  push-full e f =
      let r = by_age last xs in
      let n : length r ≡ length xs = age-length xs last h in
      let m : length (drop 1 r ++ (e ∷ [])) ≤ len = rw (length-append (drop 1 r) (e ∷ []), length-drop 1 r) (omega arith) in
      let whole : newest len r ≡ r = newest-short len r (omega arith) in
      let one : length (r ++ (e ∷ [])) - length xs ≡ 1 = omega (arith, length-append r (e ∷ [])) in
      ap (newest len) (age-push xs last h e) ∙ newest-short len (drop 1 r ++ (e ∷ [])) m ∙ sym (ap (λ (s : List A). newest (length xs) (s ++ (e ∷ []))) whole ∙ rw one (drop-append-le 1 r (e ∷ []) (omega arith)))

  pub push-full-unused : (e : A) → length xs ≤ len → unused (next_slot (length xs) last) len (set xs (next_slot (length xs) last) e) ≡ unused last len xs
  push-full-unused e f = let z : length xs - len ≡ 0 = omega arith in rw (length-set xs (next_slot (length xs) last) e, z)
