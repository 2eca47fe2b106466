-- The timelines in lent words: one part lent and back, and one core further.
-- Assumes nothing.
use Prim.Native.Nat.{ℕ, zero, suc, ◌+◌, ◌-◌, ◌*◌, ◌≤◌, ◌<◌}
use mathlib.Core.Path.{◌≡◌, refl, sym, ap, subst, ◌∙◌}
use mathlib.Core.List.{List, [], ◌∷◌, ◌++◌}
use native.Mathlib.Nat.{not-suc-le-zero, mul-le-mul_right, suc-mul}
use native.Mathlib.Numerals.{add-one}
use native.Mathlib.Omega.{arith}
use borrow.Author.Count.{below_more}
use borrow.Author.Tests.{eqb-true}
use borrow.Rule.Slice.PartMut.{post_of, put_mid, mid_len, take_put, drop_put}
use mathlib.Core.Bool.{true, ◌&&◌}
use lib.Dec.{eqb}
use lib.ListN.{length, take, drop, get_or, set, length-drop}
use lib.Seq.{length-take-le, take-nil, take-take, take_at, drop_at, drop-drop, get_or-set_same, get_or-set_other, set-get_or}
use Rattle.model.specs.Types.{Lane}
use Rattle.model.specs.Accounting.{lane_of}
use Rattle.model.specs.Reading.{core_state_meant}
use Rattle.model.specs.declared.CoreState as Program
use Rattle.model.specs.declared.CoreState.TheVariants as CoreStateCases
use Rattle.model.proofs.PhaseLaws.{and_l, and_r}
use Rattle.rings.specs.declared.RingPos.{RingPos}
use Rattle.rings.specs.Ring.{capacity, RingOK}
use Rattle.state.specs.State.{no_pos, move_room, lane_start, lane_words}
use Rattle.accounts.specs.Charging.{part, LaneCharged, Outside, LanesCharged}

---- parts of lists

module _ {A : Type 0} where
  within : (start a k : ℕ) (xs : List A) → a + k ≤ start → take k (drop a (take start xs)) ≡ take k (drop a xs)
  within start a k [] l = rw take-nil
  within start zero k (x ∷ xs) l = take-take k start (x ∷ xs) (omega arith)
  within zero (suc a) k (x ∷ xs) l = absurd (omega arith)
  within (suc start) (suc a) k (x ∷ xs) l = within start a k xs (omega arith)

  -- a part before `start` is the same in both
  pub part-before : (start a k : ℕ) (xs ys : List A) → take start xs ≡ take start ys → a + k ≤ start → take k (drop a xs) ≡ take k (drop a ys)
  part-before start a k xs ys e l = sym (within start a k xs l) ∙ ap (λ (zs : List A). take k (drop a zs)) e ∙ within start a k ys l

  pub take-before : (start k : ℕ) (xs ys : List A) → take start xs ≡ take start ys → k ≤ start → take k xs ≡ take k ys
  take-before start k xs ys e l = sym (take-take k start xs l) ∙ ap (take k) e ∙ take-take k start ys l

  -- the part that was lent, as it came back
  pub mid-put : (a e : ℕ) (xs ys : List A) → a ≤ e → e ≤ length xs → length ys ≡ e - a → take (e - a) (drop a (put_mid a (e - a) xs ys)) ≡ ys
  mid-put a e xs ys h g l =
      ap (take (e - a)) (drop_at (take a xs) (ys ++ post_of a (e - a) xs) a (length-take-le a xs (omega arith))) ∙ take_at ys (post_of a (e - a) xs) (e - a) l

---- one timeline

-- the part was lent as b and came back as b'
pub part-charged :
    {cap tick : ℕ} {lane : Lane} (start end : ℕ) (old b' : List ℕ) (p p' : RingPos) → start ≤ end → end ≤ length old → length b' ≡ length (part start end old)
    → LaneCharged cap tick lane (part start end old) b' p p' → LaneCharged cap tick lane (part start end old) (part start end (put_mid start (end - start) old b')) p p'
part-charged start end old b' p p' h g l x = rw (mid-put start end old b' h g (l ∙ mid_len start end old g)) x

pub part-outside : (start end : ℕ) (old b' : List ℕ) → start ≤ end → end ≤ length old → length b' ≡ length (part start end old) → Outside start end old (put_mid start (end - start) old b')
part-outside start end old b' h g l =
    record { before = take_put start (end - start) old b' (omega arith); after = drop_put start end old b' h g (l ∙ mid_len start end old g) }

-- the same, under other names
along :
    {cap cap' tick : ℕ} {lane : Lane} {b d b' d' : List ℕ} {p q p' q' : RingPos} → cap ≡ cap' → b ≡ d → b' ≡ d' → p ≡ q → p' ≡ q' → LaneCharged cap tick lane b b' p p' → LaneCharged cap' tick lane d d' q q'
along e eb eb' ep ep' h = rw (← e, ← eb, ← eb', ← ep, ← ep') h

---- where a timeline stands

pub next_start : (c i : ℕ) → lane_start c (i + 1) ≡ lane_start c i + 2 * c
next_start c i = rw (add-one, suc-mul i (2 * c)) (omega arith)

pub lane_inside : (c i n : ℕ) → i < n → lane_start c i + 2 * c ≤ lane_start c n
lane_inside c i n l =
    let m : suc i * (2 * c) ≤ n * (2 * c) = mul-le-mul_right (2 * c) l in
    omega (arith, m, suc-mul i (2 * c))

-- the words from `start` up to `end` are core i's
part-lane : (c i start end : ℕ) (ws : List ℕ) → start ≡ lane_start c i → end ≡ start + 2 * c → part start end ws ≡ lane_words c i ws
part-lane c i start end ws s e =
    let z : end - start ≡ 2 * c = omega arith in
    rw (z, s)

pub lane-capacity : (c i : ℕ) (ws : List ℕ) → lane_start c i + 2 * c ≤ length ws → capacity (lane_words c i ws) ≡ c
lane-capacity c i ws l =
    let k : length (lane_words c i ws) ≡ 2 * c = length-take-le (2 * c) (drop (lane_start c i) ws) (simp length-drop (omega arith)) in
    omega (arith, k)

---- one core further

pub lanes-none : (c tick : ℕ) (states : List Program.CoreState) (ws : List ℕ) (pos : List RingPos) → LanesCharged c 0 tick states ws ws pos pos
lanes-none c tick states ws pos = record { lanes = λ i l. absurd (not-suc-le-zero l); moves = refl; after = refl; size = refl; rest = λ i l. refl }

pub lanes_end :
    {c i tick : ℕ} {states : List Program.CoreState} {old new : List ℕ} {pos pos' : List RingPos} (n : ℕ) → LanesCharged c i tick states old new pos pos' → i ≤ n → n ≤ i
    → LanesCharged c n tick states old new pos pos'
lanes_end {c} {i} {tick} {states} {old} {new} {pos} {pos'} n h a b = subst (λ (m : ℕ). LanesCharged c m tick states old new pos pos') (omega arith) h

module _ (c i tick : ℕ) (states : List Program.CoreState) (old new : List ℕ) (pos pos' : List RingPos) (start end : ℕ) (done : LanesCharged c i tick states old new pos pos') (s : start ≡ lane_start c i) (e : end ≡ start + 2 * c) (fits : end ≤ length old) where
  -- core i's timeline is still as it was
  unmoved : part start end new ≡ lane_words c i old
  unmoved = part-lane c i start end new s e ∙ ap (take (2 * c)) done.after

  pub next-ok : RingOK (lane_words c i old) (get_or pos i no_pos) → RingOK (part start end new) (get_or pos' i no_pos)
  next-ok h = rw (unmoved, done.rest i (omega arith)) h

  module _ (new' : List ℕ) (r : RingPos) (room : i < length pos') (x : LaneCharged (capacity (part start end new)) tick (lane_of (core_state_meant (get_or states i CoreStateCases.Idle))) (part start end new) (part start end new') (get_or pos' i no_pos) r) (o : Outside start end new new') (size' : length new' ≡ length new) where
    abbrev Lane-at : ℕ → Type 0
    Lane-at j = LaneCharged c tick (lane_of (core_state_meant (get_or states j CoreStateCases.Idle))) (lane_words c j old) (lane_words c j new') (get_or pos j no_pos) (get_or (set pos' i r) j no_pos)

    here : Lane-at i
    here =
        along (ap capacity unmoved ∙ lane-capacity c i old (omega (arith, s, e, fits))) unmoved (part-lane c i start end new' s e) (done.rest i (omega arith)) (sym (get_or-set_same pos' i r no_pos room)) x

    earlier : (j : ℕ) → j < i → Lane-at j
    earlier j l =
        along refl refl (sym (part-before start (lane_start c j) (2 * c) new' new o.before (omega (arith, s, lane_inside c j i l)))) refl (sym (get_or-set_other pos' i j r no_pos (λ q. omega (arith, l, q)))) (done.lanes j l)

    behind : drop (lane_start c (i + 1)) new' ≡ drop (lane_start c (i + 1)) old
    behind =
        let z : lane_start c (i + 1) ≡ end = omega (arith, next_start c i, s, e) in
        let y : lane_start c i + 2 * c ≡ end = omega (arith, s, e) in
        rw z (o.after ∙ rw (← y, ← drop-drop (2 * c) (lane_start c i) new, ← drop-drop (2 * c) (lane_start c i) old) (ap (drop (2 * c)) done.after))

    pub lanes_next : LanesCharged c (i + 1) tick states old new' pos (set pos' i r)
    lanes_next =
        record {
          lanes = below_more Lane-at i earlier here;
          moves = take-before start move_room new' new o.before (omega (arith, s)) ∙ done.moves;
          after = behind;
          size = size' ∙ done.size;
          rest = λ j l. get_or-set_other pos' i j r no_pos (λ q. omega (arith, l, q)) ∙ done.rest j (omega (arith, l));
        }

    -- the same where the position is as it was, and nothing is stored
    pub lanes-same : r ≡ get_or pos' i no_pos → LanesCharged c (i + 1) tick states old new' pos pos'
    lanes-same q = subst (LanesCharged c (i + 1) tick states old new' pos) (ap (set pos' i) q ∙ set-get_or pos' i no_pos) lanes_next

---- positions

pub same-pos : (p q : RingPos) → eqb p.last q.last && eqb p.len q.len ≡ true → q ≡ p
same-pos p q e =
    let h : q.last ≡ p.last = sym (eqb-true _ _ (and_l (eqb p.last q.last) (eqb p.len q.len) e)) in
    let l : q.len ≡ p.len = sym (eqb-true _ _ (and_r (eqb p.last q.last) (eqb p.len q.len) e)) in
    λ i. record { last = h i; len = l i }
