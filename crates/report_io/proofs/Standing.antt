-- What stands in the script's block: brought to the front, refilled, and its first line.
use Rattle.std.specs.Prelude.{Result}
use Prim.Native.Nat.{ℕ, zero, suc, ◌+◌, ◌-◌, ◌≤◌, ◌<◌, min}
use mathlib.Core.Path.{◌≡◌, refl, sym, ap, subst, ◌∙◌}
use mathlib.Core.Logic.{◌⊎◌, inl, inr, ⊎_elim}
use mathlib.Core.Bool.{Bool, true, false, cond, not, ◌&&◌}
use mathlib.Core.List.{List, [], ◌∷◌, ◌++◌, append-nil}
use native.Mathlib.Omega.{arith}
use borrow.Author.Tests.{leb-true, leb-false, le-leb, lt-leb, ltb-false}
use borrow.Rule.Slice.PartMut.{mid_of, put_mid, mid_len, take_put, drop_put}
use lib.Dec.{leb, ltb, eqb}
use lib.ListN.{length, take, drop, length-append, length-take, length-drop, take-append-drop}
use lib.Seq.{paste, take_all, take-nil, take-take, take_at, take-append-le, drop-drop, drop-append-add, length-take-le}
use Rattle.model.proofs.PhaseLaws.{not-both}
use Rattle.text.specs.Lines.{onto, cut, line_of}
use Rattle.script.specs.Report as Definition
use Rattle.script.proofs.Streams.{too_long}
use Rattle.feed_plan.specs.declared.Report.{Report}
use Rattle.settings.specs.declared.Refusal.{Refusal}
use Rattle.feed_plan.specs.declared.Line.{Line}
use Rattle.feed_plan.specs.Feeding.{LineRead}
use Rattle.report_io.specs.declared.Marked.{Marked}
use Rattle.report_io.specs.declared.Place.{Place}
use Rattle.report_io.specs.declared.Upcoming.{Upcoming}
use Rattle.report_io.specs.Blocks.{Roomy, last_turn, ended, no_line, between, standing, brought_front, Refilled, asks, Filled, first_of, line_ahead, LineEnd, Standing, turn_ahead, NextLine}

---- parts of a list

pub drop-take : (a n : ℕ) (l : List ℕ) → a ≤ n → drop a (take n l) ≡ take (n - a) (drop a l)
drop-take zero n l h = ap (λ (k : ℕ). take k l) (same n)
  where
    same : (n : ℕ) → n ≡ n - 0
    same n = omega arith
drop-take (suc a) zero l h = absurd (omega arith)
drop-take (suc a) (suc n) [] h = sym (take-nil (suc n - suc a))
drop-take (suc a) (suc n) (x ∷ l) h = drop-take a n l (omega arith) ∙ ap (λ (k : ℕ). take k (drop a l)) (same n a)
  where
    same : (n a : ℕ) → n - a ≡ suc n - suc a
    same n a = omega arith

-- what lies behind the end does not matter
between-take : (at end n : ℕ) (b : List ℕ) → at ≤ end → end ≤ n → between at end (take n b) ≡ between at end b
between-take at end n b h k = ap (λ (l : List ℕ). take (end - at) l) (drop-take at n b (omega arith)) ∙ take-take (end - at) (n - at) (drop at b) (omega arith)

pub between-front : (at end n : ℕ) (b b' : List ℕ) → at ≤ end → end ≤ n → take n b' ≡ take n b → between at end b' ≡ between at end b
between-front at end n b b' h k e = sym (between-take at end n b' h k) ∙ ap (λ (l : List ℕ). between at end l) e ∙ between-take at end n b h k

pub between-length : (at end : ℕ) (b : List ℕ) → end ≤ length b → length (between at end b) ≡ end - at
between-length at end b h = length-take-le (end - at) (drop at b) (rw length-drop (omega arith))

---- the rest brought to the front

-- as `copy_within` brings it
pub copied-front : (at n : ℕ) (b b' : List ℕ) → b' ≡ paste b 0 (drop at b) (at + n - at) → b' ≡ brought_front at n b
unfolding brought_front
copied-front at n b b' e =
    let k : at + n - at ≡ n = omega arith in
    let z : 0 + n ≡ n = omega arith in
    e ∙ rw (k, z)

pub front_length : (at n : ℕ) (b : List ℕ) → at + n ≤ length b → length (brought_front at n b) ≡ length b
unfolding brought_front
front_length at n b h = simp (length-append, length-take, length-drop) (omega arith)

---- the block refilled

module _ (at end : ℕ) (b ys : List ℕ) (h : at ≤ end) (k : end ≤ 65_536) (long : 131_072 ≤ length b) where
  abbrev rest : ℕ
  rest = end - at

  abbrev brought : List ℕ
  brought = brought_front at rest b

  brought-long : length brought ≡ length b
  brought-long = front_length at rest b (omega arith)

  rest-length : length (take rest (drop at b)) ≡ rest
  rest-length = length-take-le rest (drop at b) (rw length-drop (omega arith))

  rest-first : take rest brought ≡ between at end b
  unfolding brought_front
  rest-first = take_at (take rest (drop at b)) (drop rest b) rest rest-length

  behind-same : drop 65_536 brought ≡ drop 65_536 b
  unfolding brought_front
  behind-same =
      let n : length (take rest (drop at b)) + (65_536 - rest) ≡ 65_536 = omega (arith, rest-length) in
      let m : rest + (65_536 - rest) ≡ 65_536 = omega arith in
      ap (λ (i : ℕ). drop i brought) (sym n) ∙ drop-append-add (take rest (drop at b)) (drop rest b) (65_536 - rest) ∙ drop-drop (65_536 - rest) rest b ∙ ap (λ (i : ℕ). drop i b) m

  refilled_by : (r : ℕ) → length ys ≡ 65_536 - rest → rest ≤ r → r ≤ 65_536 → Refilled at end b (put_mid rest (65_536 - rest) brought ys) r
  refilled_by r e m w = record {
    rest = take_put rest (65_536 - rest) brought ys (omega (arith, brought-long)) ∙ rest-first;
    behind = drop_put rest 65_536 brought ys (omega arith) (omega (arith, brought-long)) e ∙ behind-same;
    more = m;
    within = w;
  }

  module _ (moved : List ℕ) (f : moved ≡ brought) (n : ℕ) (g : length ys ≡ length (mid_of rest (65_536 - rest) moved)) (h' : n ≤ length ys) where
    lent : length ys ≡ 65_536 - rest
    lent = g ∙ mid_len rest 65_536 moved (omega (arith, ap length f, brought-long))

    pub refilled-end : rest + n ≤ 65_536
    refilled-end = omega (arith, lent)

    pub refilled : Refilled at end b (put_mid rest (65_536 - rest) moved ys) (rest + n)
    refilled = subst (λ (l : List ℕ). Refilled at end b (put_mid rest (65_536 - rest) l ys) (rest + n)) (sym f) (refilled_by (rest + n) lent (omega arith) refilled-end)

-- what was read stands behind the rest
pub stands-more : (at end : ℕ) (b b' : List ℕ) (r : ℕ) → Refilled at end b b' r → between 0 r b' ≡ between at end b ++ drop (end - at) (take r b')
stands-more at end b b' r f =
    let z : r - 0 ≡ r = omega arith in
    ap (λ (n : ℕ). take n b') z ∙
    sym (take-append-drop (end - at) (take r b')) ∙
    ap (λ (l : List ℕ). l ++ drop (end - at) (take r b')) (take-take (end - at) r b' f.more ∙ f.rest)

module _ (p : Place) where
  asks-not : p.all_read ≡ true → asks p ≡ false
  unfolding asks
  asks-not e = rw e

  asks-enough : 256 < p.end - p.at → asks p ≡ false
  unfolding asks
  asks-enough h = rw (lt-leb (p.end - p.at) 256 h) (and_no (not p.all_read))
    where
      and_no : (t : Bool) → t && false ≡ false
      and_no true = refl
      and_no false = refl

  asks-more : p.all_read ≡ false → p.end - p.at ≤ 256 → asks p ≡ true
  unfolding asks
  asks-more e h = rw (e, le-leb (p.end - p.at) 256 h)

module _ (p : Place) (b : List ℕ) (roomy : Roomy p) where
  -- nothing is asked for
  unasked : asks p ≡ false → (p.all_read ≡ false → 257 ≤ p.end - p.at) → Filled p b b p
  unasked e h = record {
    roomy = roomy;
    more = [];
    stands = sym (append-nil (standing p b));
    unasked = λ f. (refl, refl, refl);
    behind = refl;
    read = sym (ap (λ (t : Bool). cond t (ltb p.end 65_536) p.all_read) e);
    enough = h;
    pending = refl;
    written = refl;
    turn = refl;
  }

  pub filled-read : p.all_read ≡ true → Filled p b b p
  filled-read e = unasked (asks-not p e) (λ f. absurd (not-both p.all_read e f))

  pub filled-enough : 256 < p.end - p.at → Filled p b b p
  filled-enough h = unasked (asks-enough p h) (λ f. h)

  pub filled_more : p.all_read ≡ false → p.end - p.at ≤ 256 → (b' : List ℕ) (r : ℕ) → Refilled p.at p.end b b' r
      → Filled p b b' (record { at = 0; end = r; all_read = ltb r 65_536; pending = p.pending; all_written = p.all_written; turn = p.turn })
  filled_more e h b' r f = record {
    roomy = record { within = record { begins = omega arith; ends = f.within; pending = roomy.within.pending; turns = roomy.within.turns }; room = roomy.room };
    more = drop (p.end - p.at) (take r b');
    stands = stands-more p.at p.end b b' r f;
    unasked = λ g. absurd (not-both (asks p) (asks-more p e h) g);
    behind = f.behind;
    read = sym (ap (λ (t : Bool). cond t (ltb r 65_536) p.all_read) (asks-more p e h));
    enough = λ g. omega (arith, ltb-false r 65_536 g);
    pending = refl;
    written = refl;
    turn = refl;
  }

---- the first line

-- cut off at n bytes before or after it is looked for
first-take : (n : ℕ) (s : List ℕ) → first_of (cut (take n s)) ≡ take n (first_of (cut s))
unfolding first_of cut onto
first-take zero s = refl
first-take (suc n) [] = refl
first-take (suc n) (x ∷ s) = go (eqb x 10) (first-take n s)
  where
    first-onto : (ls : List (List ℕ)) → first_of (onto x ls) ≡ x ∷ first_of ls
    first-onto [] = refl
    first-onto (l ∷ ls) = refl

    go : (t : Bool) → first_of (cut (take n s)) ≡ take n (first_of (cut s)) → first_of (cond t ((x ∷ []) ∷ cut (take n s)) (onto x (cut (take n s)))) ≡ take (suc n) (first_of (cond t ((x ∷ []) ∷ cut s) (onto x (cut s))))
    go true e = ap (λ (l : List ℕ). x ∷ l) (sym (take-nil n))
    go false e = first-onto (cut (take n s)) ∙ ap (λ (l : List ℕ). x ∷ l) e ∙ sym (ap (λ (l : List ℕ). take (suc n) l) (first-onto (cut s)))

first-is : (s l : List ℕ) (ls : List (List ℕ)) → cut s ≡ l ∷ ls → first_of (cut s) ≡ l
unfolding first_of
first-is s l ls e = ap first_of e

module _ (at end : ℕ) (b : List ℕ) (h : at < end) where
  -- the bytes that are searched
  searched : drop at (take (min (at + 257) end) b) ≡ take 257 (between at end b)
  searched = drop-take at (min (at + 257) end) b (omega arith) ∙ ⊎_elim far near (cases (at + 257) end)
    where
      cases : (m n : ℕ) → (m ≤ n) ⊎ (n < m)
      cases m n = go (leb m n) refl
        where
          go : (t : Bool) → leb m n ≡ t → (m ≤ n) ⊎ (n < m)
          go true e = inl (leb-true m n e)
          go false e = inr (leb-false m n e)

      far : at + 257 ≤ end → take (min (at + 257) end - at) (drop at b) ≡ take 257 (between at end b)
      far k = let n : min (at + 257) end - at ≡ 257 = omega arith in ap (λ (i : ℕ). take i (drop at b)) n ∙ sym (take-take 257 (end - at) (drop at b) (omega arith))

      near : end < at + 257 → take (min (at + 257) end - at) (drop at b) ≡ take 257 (between at end b)
      near k =
          let n : min (at + 257) end - at ≡ end - at = omega arith in
          let m : length (between at end b) ≤ 257 = omega (arith, length-take (end - at) (drop at b)) in
          ap (λ (i : ℕ). take i (drop at b)) n ∙ sym (take_all 257 (between at end b) m)

  line-end : (r : ℕ) → at < r → r ≤ min (at + 257) end → (ls : List (List ℕ)) → cut (drop at (take (min (at + 257) end) b)) ≡ between at r (take (min (at + 257) end) b) ∷ ls → LineEnd at end b r
  unfolding line_ahead
  line-end r on w ls e = record {
    on = on;
    within = omega arith;
    line =
        sym (between-take at r (min (at + 257) end) b (omega arith) w) ∙
        sym (first-is (drop at (take (min (at + 257) end) b)) (between at r (take (min (at + 257) end) b)) ls e) ∙
        ap (λ (l : List ℕ). first_of (cut l)) searched ∙
        first-take 257 (between at end b);
  }

  pub line-ends : (most : ℕ) → most ≡ min (at + 257) end → (r : ℕ) → (at < r) × (r ≤ length (take most b)) × (cut (drop at (take most b)) ≡ between at r (take most b) ∷ cut (drop r (take most b))) → LineEnd at end b r
  line-ends most e r k =
      let f = subst (λ (m : ℕ). (at < r) × (r ≤ length (take m b)) × (cut (drop at (take m b)) ≡ between at r (take m b) ∷ cut (drop r (take m b)))) e k in
      line-end r f.0 (omega (arith, f.1, length-take (min (at + 257) end) b)) (cut (drop r (take (min (at + 257) end) b))) f.2

---- a line that is too long reads as too long, wherever it is cut off

line-like : (l : List ℕ) → line_of (take 257 l) ≡ line_of l
line-like l = go (leb (length l) 257) refl
  where
    go : (t : Bool) → leb (length l) 257 ≡ t → line_of (take 257 l) ≡ line_of l
    go true e = ap line_of (take_all 257 l (leb-true (length l) 257 e))
    go false e =
        let k : 257 < length l = leb-false (length l) 257 e in
        let n : length (take 257 l) ≡ 257 = length-take-le 257 l (omega arith) in
        too_long (take 257 l) (omega arith) ∙ sym (too_long l (omega arith))

feed-like : (d : Definition.Report) (l m : List ℕ) → line_of l ≡ line_of m → Definition.feed d l ≡ Definition.feed d m
unfolding Definition.feed Definition.line_at
feed-like d l m e = rw e

module _ (s later : List ℕ) where
  first-later : 257 ≤ length s → line_ahead (s ++ later) ≡ line_ahead s
  unfolding line_ahead
  first-later h = sym (first-take 257 (s ++ later)) ∙ ap (λ (l : List ℕ). first_of (cut l)) (take-append-le 257 s later h) ∙ first-take 257 s

  first-all : later ≡ [] → line_ahead (s ++ later) ≡ line_ahead s
  first-all e = ap line_ahead (ap (λ (l : List ℕ). s ++ l) e ∙ append-nil s)

  same_line : line_ahead (s ++ later) ≡ line_ahead s → line_of (line_ahead s) ≡ line_of (first_of (cut (s ++ later)))
  unfolding line_ahead
  same_line e = ap line_of (sym e) ∙ line-like (first_of (cut (s ++ later)))

  pub reads-like : (read : Bool) (r : Report) (l : Result Line Refusal) → (read ≡ false → 257 ≤ length s) → (read ≡ true → later ≡ []) → LineRead r (line_ahead s) l → LineRead r (first_of (cut (s ++ later))) l
  reads-like read r l more none k = record { says = λ t. sym (feed-like _ (line_ahead s) (first_of (cut (s ++ later))) (same_line (ahead read more none))) ∙ k.says t; fits = k.fits }
    where
      ahead : (t : Bool) → (t ≡ false → 257 ≤ length s) → (t ≡ true → later ≡ []) → line_ahead (s ++ later) ≡ line_ahead s
      ahead true m n = first-all (n refl)
      ahead false m n = first-later (m refl)

---- behind the line

pub behind-line : (at stop end : ℕ) (b : List ℕ) → at ≤ stop → stop ≤ end → end ≤ length b → between stop end b ≡ drop (length (between at stop b)) (between at end b)
behind-line at stop end b h k w =
    let n : end - at - (stop - at) ≡ end - stop = omega arith in
    let m : at + (stop - at) ≡ stop = omega arith in
    sym (
    ap (λ (i : ℕ). drop i (between at end b)) (between-length at stop b (omega arith)) ∙
    drop-take (stop - at) (end - at) (drop at b) (omega arith) ∙
    ap (λ (i : ℕ). take i (drop (stop - at) (drop at b))) n ∙
    ap (λ (l : List ℕ). take (end - stop) l) (drop-drop (stop - at) at b ∙ ap (λ (i : ℕ). drop i b) m))

pub none_between : (at end : ℕ) (b : List ℕ) → end ≤ at → between at end b ≡ []
none_between at end b h = let n : end - at ≡ 0 = omega arith in ap (λ (i : ℕ). take i (drop at b)) n

pub turn-some : (l : List ℕ) (t : ℕ) → 0 < length l → t ≡ turn_ahead l t
unfolding turn_ahead
turn-some [] t h = absurd (omega arith)
turn-some (x ∷ l) t h = refl

pub turn-none : (l : List ℕ) (t : ℕ) → l ≡ [] → last_turn ≡ turn_ahead l t
unfolding turn_ahead
turn-none l t e = sym (ap (λ (l : List ℕ). turn_ahead l t) e)

---- the next line of the script

module _ (r : Report) (p q : Place) (m : Marked) (b b' : List ℕ) (f : Filled p b b' q) where
  abbrev ahead : List ℕ
  ahead = standing p b ++ f.more

  is_read : q.end ≤ q.at → q.all_read ≡ true
  is_read h = go q.all_read refl
    where
      go : (t : Bool) → q.all_read ≡ t → q.all_read ≡ true
      go true e = e
      go false e = absurd (omega (arith, f.enough e, h))

  pub next-none : (u : Upcoming) → q.end ≤ q.at → Roomy u.place → u ≡ no_line q m → NextLine r p m b b' u
  next-none u h ok is =
      let e : u.place ≡ ended q = ap (λ (v : Upcoming). v.place) is in
      let turn : u.place.turn ≡ last_turn = ap (λ (s : Place). s.turn) e in
      record {
        awaits = record { roomy = ok; ahead = ahead; line = λ k. absurd (omega (arith, turn, k)) };
        marked = ap (λ (v : Upcoming). v.marked) is;
        more = f.more;
        ahead = refl;
        unasked = λ g. (f.unasked g).2;
        read = ap (λ (s : Place). s.all_read) e ∙ f.read ∙ ap (λ (n : ℕ). cond (asks p) (ltb n 65_536) p.all_read) (sym (ap (λ (s : Place). s.end) e));
        over = λ g. ap (λ (s : Place). s.all_read) e ∙ is_read h;
        behind = f.behind;
        pending = ap (λ (s : Place). s.pending) e ∙ f.pending;
        written = ap (λ (s : Place). s.all_written) e ∙ f.written;
        turn = turn ∙ turn-none ahead p.turn (sym f.stands ∙ none_between q.at q.end b' h);
      }

  module _ (long : 131_072 ≤ length b') (some : q.at < q.end) (stop : ℕ) (end : LineEnd q.at q.end b' stop) (l : Result Line Refusal) (reads : LineRead r (between q.at stop b') l) where
    abbrev next_place : Place
    next_place = record { at = stop; end = q.end; all_read = q.all_read; pending = q.pending; all_written = q.all_written; turn = q.turn }

    abbrev upcoming : Upcoming
    upcoming = record { line = l; place = next_place; marked = m }

    ahead-length : length ahead ≡ q.end - q.at
    ahead-length = ap length (sym f.stands) ∙ between-length q.at q.end b' (omega (arith, f.roomy.within.ends))

    line-is : between q.at stop b' ≡ line_ahead ahead
    line-is = end.line ∙ ap line_ahead f.stands

    standing-next : Standing r ahead b' upcoming
    standing-next = record {
      some = omega (arith, ahead-length);
      reads = λ later h. reads-like ahead later q.all_read r l (λ g. omega (arith, ahead-length, f.enough g)) h (subst (λ (t : List ℕ). LineRead r t l) line-is reads);
      stands =
          behind-line q.at stop q.end b' (omega (arith, end.on)) end.within (omega (arith, f.roomy.within.ends)) ∙
          ap (λ (t : List ℕ). drop (length t) (between q.at q.end b')) line-is ∙
          ap (λ (t : List ℕ). drop (length (line_ahead ahead)) t) f.stands;
    }

    pub next-some : NextLine r p m b b' upcoming
    next-some =
        let w = f.roomy.within in
        record {
          awaits = record { roomy = record { within = record { begins = end.within; ends = w.ends; pending = w.pending; turns = w.turns }; room = f.roomy.room }; ahead = ahead; line = λ h. standing-next };
          marked = refl;
          more = f.more;
          ahead = refl;
          unasked = λ g. (f.unasked g).2;
          read = f.read;
          over = λ g. absurd (omega (arith, ahead-length, ap length g));
          behind = f.behind;
          pending = f.pending;
          written = f.written;
          turn = f.turn ∙ turn-some ahead p.turn (omega (arith, ahead-length));
        }
