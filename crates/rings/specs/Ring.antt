-- A ring in lent words. 01: the port keeps the "newest 1 to 512 events (E)" and the "newest 1 to 4,096 segments per core (S)".
use Rattle.std.specs.Prelude.{ℕ, zero, suc, ◌+◌, ◌-◌, ◌*◌, ◌/◌, ◌%◌, ◌<◌, ◌≤◌, ◌≡◌, cond, List, [], ◌∷◌, ◌++◌, leb, ltb, length, take, drop, get_or}
use Rattle.model.specs.Accounting.{newest}
use Rattle.rings.specs.declared.RingPos.{RingPos}
use Rattle.rings.specs.declared.ring.Entry.{Entry}

---- over any element

module _ {A : Type 0} where
  -- the slots in the order in which they were filled, the newest entry's last
  abbrev pub by_age : (last : ℕ) → List A → List A
  by_age last xs = drop (last + 1) xs ++ take (last + 1) xs

  -- what a ring holds, oldest first
  abbrev pub view : (last len : ℕ) → List A → List A
  view last len xs = newest len (by_age last xs)

  -- the slots that hold no entry, the next to be filled first
  abbrev pub unused : (last len : ℕ) → List A → List A
  unused last len xs = take (length xs - len) (by_age last xs)

  -- n slots from one on, as a function reads them
  unfoldable pub slots : (ℕ → A) → (from n : ℕ) → List A
  slots g from zero = []
  slots g from (suc n) = g from ∷ slots g (suc from) n

-- of n slots, the one behind a slot, and the one d before it, round the ring
abbrev pub next_slot : (n last : ℕ) → ℕ
next_slot n last = cond (ltb (last + 1) n) (last + 1) 0

abbrev pub slot_before : (n last d : ℕ) → ℕ
slot_before n last d = cond (leb d last) (last - d) (n - (d - last))

---- in words, two to an entry

abbrev pub entry_at : List ℕ → (slot : ℕ) → Entry
entry_at b i = record { first = get_or b (i * 2) 0; second = get_or b (i * 2 + 1) 0 }

abbrev pub capacity : List ℕ → ℕ
capacity b = length b / 2

unfoldable pub entries_in : List ℕ → RingPos → List Entry
entries_in b p = view p.last p.len (slots (entry_at b) 0 (capacity b))

unfoldable pub unused_in : List ℕ → RingPos → List Entry
unused_in b p = unused p.last p.len (slots (entry_at b) 0 (capacity b))

-- a position that fits the memory: what each function asks, and leaves
pub record RingOK (b : List ℕ) (p : RingPos) : Type 0 where
  pub whole : length b % 2 ≡ 0
  pub small : capacity b < 65_536
  pub inside : p.last < capacity b
  pub within : p.len ≤ capacity b

-- the memory behind the entries is as it was, but for the slots that new entries took
pub record Behind (b b' : List ℕ) (p p' : RingPos) : Type 0 where
  pub longer : p.len ≤ p'.len
  pub rest : unused_in b' p' ≡ drop (p'.len - p.len) (unused_in b p)
