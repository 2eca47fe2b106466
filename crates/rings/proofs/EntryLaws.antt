-- Rings of entries of two words in lent memory: from a store of words to a store of an entry, and from there the law of the ring.
use mathlib.Core.Path.{◌≡◌, refl, sym, ap, ◌∙◌}
use mathlib.Core.Option.{some}
use mathlib.Core.List.{List, [], ◌∷◌, ◌++◌}
use Prim.Native.Nat.{ℕ, zero, suc, ◌+◌, ◌-◌, ◌*◌, ◌/◌, ◌≤◌, ◌<◌}
use native.Mathlib.Nat.{zero-add}
use native.Mathlib.Omega.{arith}
use lib.ListN.{length, drop, set, get_or, get_elem?, length-set}
use lib.Seq.{drop-drop, get_or-set_same, get_or-set_other}
use Rattle.model.specs.Accounting.{newest}
use Rattle.rings.specs.declared.RingPos.{RingPos}
use Rattle.rings.specs.declared.ring.Entry.{Entry}
use Rattle.rings.specs.Ring.{by_age, view, unused, slots, next_slot, slot_before, entry_at, capacity, entries_in, unused_in, RingOK, Behind}
use Rattle.rings.proofs.RingLaws.{newest-none, next-inside, older, view-length, view-at, view-last, view-set, unused-set, push-room, push-room-unused, push-full, push-full-unused}

---- slots of a memory

module _ {A : Type 0} where
  pub slots_length : (g : ℕ → A) (from n : ℕ) → length (slots g from n) ≡ n
  unfolding slots
  slots_length g from zero = refl
  slots_length g from (suc n) = ap suc (slots_length g (suc from) n)

  pub slots_at : (g : ℕ → A) (from n i : ℕ) (d : A) → i < n → get_or (slots g from n) i d ≡ g (from + i)
  unfolding slots
  slots_at g from zero i d l = absurd (omega arith)
  slots_at g from (suc n) zero d l = ap g (omega arith)
  slots_at g from (suc n) (suc i) d l = slots_at g (suc from) n i d (omega arith) ∙ ap g (omega arith)

  slots_same : (g g' : ℕ → A) (from n : ℕ) → ((j : ℕ) → from ≤ j → g' j ≡ g j) → slots g' from n ≡ slots g from n
  unfolding slots
  slots_same g g' from zero same = refl
  slots_same g g' from (suc n) same = rw (same from (omega arith)) (ap (λ (l : List A). g from ∷ l) (slots_same g g' (suc from) n (λ j l. same j (omega arith))))

  -- a memory in which slot i is written: m is its number from the first slot on
  pub slots_set : (g g' : ℕ → A) (from n i m : ℕ) (e : A) → i < n → m ≡ from + i → g' m ≡ e → ((j : ℕ) → (j ≡ m → ⊥) → g' j ≡ g j) → slots g' from n ≡ set (slots g from n) i e
  unfolding slots
  slots_set g g' from zero i m e l q at same = absurd (omega arith)
  slots_set g g' from (suc n) zero m e l q at same =
      let z : from ≡ m = omega arith in
      rw (ap g' z ∙ at) (ap (λ (l : List A). e ∷ l) (slots_same g g' (suc from) n (λ j l. same j (λ p. omega arith))))
  slots_set g g' from (suc n) (suc i) m e l q at same =
      rw (same from (λ p. omega arith)) (ap (λ (l : List A). g from ∷ l) (slots_set g g' (suc from) n i m e (omega arith) (omega arith) at same))

---- entries of two words

half_lt : (slot n : ℕ) → slot < n / 2 → slot * 2 + 1 < n
half_lt slot n l = omega arith

-- what a store of one entry is to the list of all
pub entry_set : (b : List ℕ) (slot : ℕ) (e : Entry) → slot < capacity b → slots (entry_at (set (set b (slot * 2) e.first) (slot * 2 + 1) e.second)) 0 (capacity b) ≡ set (slots (entry_at b) 0 (capacity b)) slot e
entry_set b slot e l =
    let c = set b (slot * 2) e.first in
    let in2 : slot * 2 + 1 < length c = simp length-set (half_lt slot (length b) l) in
    let in1 : slot * 2 < length b = omega (arith, half_lt slot (length b) l) in
    let first : get_or (set c (slot * 2 + 1) e.second) (slot * 2) 0 ≡ e.first = get_or-set_other c (slot * 2 + 1) (slot * 2) e.second 0 (λ p. omega arith) ∙ get_or-set_same b (slot * 2) e.first 0 in1 in
    let second : get_or (set c (slot * 2 + 1) e.second) (slot * 2 + 1) 0 ≡ e.second = get_or-set_same c (slot * 2 + 1) e.second 0 in2 in
    slots_set (entry_at b) (entry_at (set c (slot * 2 + 1) e.second)) 0 (capacity b) slot slot e l (omega arith) (rw (first, second))
    (λ j n. rw (
      get_or-set_other c (slot * 2 + 1) (j * 2) e.second 0 (λ p. n (omega arith)),
      get_or-set_other b (slot * 2) (j * 2) e.first 0 (λ p. n (omega arith)),
      get_or-set_other c (slot * 2 + 1) (j * 2 + 1) e.second 0 (λ p. n (omega arith)),
      get_or-set_other b (slot * 2) (j * 2 + 1) e.first 0 (λ p. n (omega arith)),
    ))

-- the first word alone
pub first-set : (b : List ℕ) (slot w : ℕ) → slot < capacity b → slots (entry_at (set b (slot * 2) w)) 0 (capacity b) ≡ set (slots (entry_at b) 0 (capacity b)) slot (record { first = w; second = get_or b (slot * 2 + 1) 0 })
first-set b slot w l =
    let in1 : slot * 2 < length b = omega (arith, half_lt slot (length b) l) in
    slots_set (entry_at b) (entry_at (set b (slot * 2) w)) 0 (capacity b) slot slot (record { first = w; second = get_or b (slot * 2 + 1) 0 }) l (omega arith)
    (rw (get_or-set_same b (slot * 2) w 0 in1, get_or-set_other b (slot * 2) (slot * 2 + 1) w 0 (λ p. omega arith)))
    (λ j n. rw (get_or-set_other b (slot * 2) (j * 2) w 0 (λ p. n (omega arith)), get_or-set_other b (slot * 2) (j * 2 + 1) w 0 (λ p. n (omega arith))))

---- the two ways an entry goes in

abbrev pub entry_slots : List ℕ → List Entry
entry_slots b = slots (entry_at b) 0 (capacity b)

pub count : (b : List ℕ) → length (entry_slots b) ≡ capacity b
count b = slots_length (entry_at b) 0 (capacity b)

stored : (b b' : List ℕ) (slot : ℕ) (e : Entry) → slot < capacity b → b' ≡ set (set b (slot * 2) e.first) (slot * 2 + 1) e.second → entry_slots b' ≡ set (entry_slots b) slot e
stored b b' slot e l q = rw q (simp length-set (entry_set b slot e l))

-- what push_entry ensures
abbrev pub Pushed : (b b' : List ℕ) (p p' : RingPos) → Entry → Type 0
Pushed b b' p p' e = RingOK b' p' × ((entries_in b' p' ≡ newest (capacity b) (entries_in b p ++ (e ∷ []))) × Behind b b' p p')

module _ (b b' : List ℕ) (p : RingPos) (e : Entry) (slot : ℕ) (ok : RingOK b p) (s : slot ≡ next_slot (capacity b) p.last) (q : b' ≡ set (set b (slot * 2) e.first) (slot * 2 + 1) e.second) where
  size : length b' ≡ length b
  size = ap length q ∙ simp length-set

  in-slots : p.last < length (entry_slots b)
  in-slots = omega (arith, ok.inside, count b)

  within-slots : p.len ≤ length (entry_slots b)
  within-slots = omega (arith, ok.within, count b)

  slot-inside : slot < capacity b
  slot-inside = rw s (next-inside (capacity b) p.last ok.inside)

  at : slot ≡ next_slot (length (entry_slots b)) p.last
  at = s ∙ ap (λ (n : ℕ). next_slot n p.last) (sym (count b))

  new : entry_slots b' ≡ set (entry_slots b) slot e
  new = stored b b' slot e slot-inside q

  -- from the slots to what is read of them: f is view or unused at a length
  seen : {B : Type 0} (f : ℕ → List Entry → B) → f slot (entry_slots b') ≡ f (next_slot (length (entry_slots b)) p.last) (set (entry_slots b) (next_slot (length (entry_slots b)) p.last) e)
  seen f = ap (f slot) new ∙ ap (λ (i : ℕ). f i (set (entry_slots b) i e)) at

  pub pushed_room : p.len < capacity b → Pushed b b' p (record { last = slot; len = p.len + 1 }) e
  unfolding entries_in unused_in
  pushed_room l =
      let xs = entry_slots b in
      let c : length xs ≡ capacity b = count b in
      let l' : p.len < length xs = omega arith in
      let one : p.len + 1 - p.len ≡ 1 = omega arith in (
        record { whole = rw size ok.whole; small = rw size ok.small; inside = rw size slot-inside; within = rw size (omega arith) },
        (
          seen (λ (i : ℕ) (ys : List Entry). view i (p.len + 1) ys) ∙ push-room xs p.last p.len in-slots within-slots e l' ∙ ap (λ (n : ℕ). newest n (view p.last p.len xs ++ (e ∷ []))) c,
          record { longer = omega arith; rest = seen (λ (i : ℕ) (ys : List Entry). unused i (p.len + 1) ys) ∙ push-room-unused xs p.last p.len in-slots within-slots e l' ∙ ap (λ (n : ℕ). drop n (unused p.last p.len xs)) (sym one) },
        ),
      )

  pub pushed-full : capacity b ≤ p.len → Pushed b b' p (record { last = slot; len = p.len }) e
  unfolding entries_in unused_in
  pushed-full f =
      let xs = entry_slots b in
      let c : length xs ≡ capacity b = count b in
      let f' : length xs ≤ p.len = omega arith in
      let none : p.len - p.len ≡ 0 = omega arith in (
        record { whole = rw size ok.whole; small = rw size ok.small; inside = rw size slot-inside; within = rw size ok.within },
        (
          seen (λ (i : ℕ) (ys : List Entry). view i p.len ys) ∙ push-full xs p.last p.len in-slots within-slots e f' ∙ ap (λ (n : ℕ). newest n (view p.last p.len xs ++ (e ∷ []))) c,
          record { longer = omega arith; rest = seen (λ (i : ℕ) (ys : List Entry). unused i p.len ys) ∙ push-full-unused xs p.last p.len in-slots within-slots e f' ∙ ap (λ (n : ℕ). drop n (unused p.last p.len xs)) (sym none) },
        ),
      )

---- reading, and writing the newest entry anew

module _ (b : List ℕ) (p : RingPos) (ok : RingOK b p) where
  last-in : p.last < length (entry_slots b)
  last-in = omega (arith, ok.inside, count b)

  len-in : p.len ≤ length (entry_slots b)
  len-in = omega (arith, ok.within, count b)

  pub entries-count : length (entries_in b p) ≡ p.len
  unfolding entries_in
  entries-count = view-length (entry_slots b) p.last p.len last-in len-in

  slot_read : (slot : ℕ) → slot < capacity b → get_or (entry_slots b) slot (entry_at b 0) ≡ entry_at b slot
  slot_read slot i = slots_at (entry_at b) 0 (capacity b) slot (entry_at b 0) i ∙ ap (entry_at b) (zero-add slot)

  pub entry_read : (k slot : ℕ) → k < p.len → slot ≡ slot_before (capacity b) p.last (p.len - 1 - k) → slot < capacity b → some (entry_at b slot) ≡ get_elem? (entries_in b p) k
  unfolding entries_in
  entry_read k slot l s i =
      let xs = entry_slots b in
      let at : slot_before (length xs) p.last (p.len - 1 - k) ≡ slot = ap (λ (m : ℕ). slot_before m p.last (p.len - 1 - k)) (count b) ∙ sym s in
      sym (view-at xs p.last p.len last-in len-in k (entry_at b 0) l ∙ ap some (ap (λ (m : ℕ). get_or xs m (entry_at b 0)) at ∙ slot_read slot i))

  -- the entries before the newest
  unfoldable pub older_in : List Entry
  older_in = drop (length (entry_slots b) - p.len) (older p.last (entry_slots b))

  pub entries-last : 0 < p.len → entries_in b p ≡ older_in ++ (entry_at b p.last ∷ [])
  unfolding entries_in older_in
  entries-last l = view-last (entry_slots b) p.last p.len last-in len-in (entry_at b 0) l ∙ ap (λ (e : Entry). older_in ++ (e ∷ [])) (slot_read p.last ok.inside)

  -- the newest entry with another first word
  pub record Rewritten (b' : List ℕ) (e : Entry) : Type 0 where
    pub valid : RingOK b' p
    pub entries : entries_in b' p ≡ older_in ++ (e ∷ [])
    pub behind : Behind b b' p p

  pub rewritten : (w : ℕ) → 0 < p.len → Rewritten (set b (p.last * 2) w) (record { first = w; second = get_or b (p.last * 2 + 1) 0 })
  unfolding entries_in unused_in older_in
  rewritten w l =
      let xs = entry_slots b in
      let e : Entry = record { first = w; second = get_or b (p.last * 2 + 1) 0 } in
      let new : entry_slots (set b (p.last * 2) w) ≡ set xs p.last e = simp length-set (first-set b p.last w ok.inside) in
      let z : p.len - p.len ≡ 0 = omega arith in
      record {
        valid = record { whole = simp length-set ok.whole; small = simp length-set ok.small; inside = simp length-set ok.inside; within = simp length-set ok.within };
        entries = ap (view p.last p.len) new ∙ view-set xs p.last p.len last-in len-in e l;
        behind = record { longer = omega arith; rest = ap (unused p.last p.len) new ∙ unused-set xs p.last p.len last-in len-in e l ∙ ap (λ (j : ℕ). drop j (unused p.last p.len xs)) (sym z) };
      }

---- for callers

pub entries_none : (b : List ℕ) (p : RingPos) → p.len ≡ 0 → entries_in b p ≡ []
unfolding entries_in newest
entries_none b p z = rw z (newest-none (by_age p.last (entry_slots b)))

-- a memory for n entries, with none in it
pub ring-empty : (b : List ℕ) (p : RingPos) (n : ℕ) → length b ≡ n * 2 → n < 65_536 → p.last < n → p.len ≡ 0 → RingOK b p
ring-empty b p n s k l z = record { whole = omega arith; small = omega arith; inside = omega arith; within = omega arith }

pub capacity-of : (b : List ℕ) (n : ℕ) → length b ≡ n * 2 → capacity b ≡ n
capacity-of b n s = omega arith

---- what lies behind, over several calls

pub behind-none : (b : List ℕ) (p : RingPos) → Behind b b p p
behind-none b p = let z : p.len - p.len ≡ 0 = omega arith in record { longer = omega arith; rest = rw z }

pub behind-both : {b b' b'' : List ℕ} {p p' p'' : RingPos} → Behind b b' p p' → Behind b' b'' p' p'' → Behind b b'' p p''
behind-both {b} {b'} {b''} {p} {p'} {p''} x y =
    let n : p'.len - p.len + (p''.len - p'.len) ≡ p''.len - p.len = omega (arith, x.longer, y.longer) in
    record { longer = omega (arith, x.longer, y.longer); rest = y.rest ∙ ap (drop (p''.len - p'.len)) x.rest ∙ drop-drop (p''.len - p'.len) (p'.len - p.len) (unused_in b p) ∙ ap (λ (i : ℕ). drop i (unused_in b p)) n }
