-- What is printed: a line's text behind what is pending, what stays pending, and the next line.
use Prim.Native.Nat.{ℕ, ◌+◌, ◌≤◌, ◌<◌}
use mathlib.Core.Path.{◌≡◌, refl, sym, ap, subst, ◌∙◌}
use mathlib.Core.Bool.{Bool, true, false, cond, ◌&&◌}
use mathlib.Core.List.{List, [], ◌∷◌, ◌++◌, append_assoc}
use native.Mathlib.Omega.{arith}
use borrow.Author.Tests.{le-leb, lt-leb}
use lib.Dec.{leb}
use lib.ListN.{length, take, drop, length-append, length-drop}
use lib.Seq.{paste, take-length, take-add, take_at, drop_at, length-take-le}
use Rattle.text.specs.Buffers.{Put}
use Rattle.feed_plan.specs.declared.Next.{Next}
use Rattle.feed_plan.specs.Steps.{next_text}
use Rattle.report_io.specs.declared.Ahead.{Ahead}
use Rattle.report_io.specs.declared.Marked.{Marked}
use Rattle.report_io.specs.declared.Place.{Place}
use Rattle.report_io.specs.declared.Upcoming.{Upcoming}
use Rattle.report_io.specs.Marks.{retired_lines, marks_after, no_marks, marked_by, marked_report, place_after, LinesAhead, MarkedWith}
use Rattle.report_io.specs.Blocks.{Roomy, ended, no_line, last_turn, standing, Standing, turn_ahead, NextLine, pending_text, printed_as, written_as, held_back, takes_lines, Passed}
use Rattle.report_io.proofs.Standing.{between-front}
use Rattle.model.proofs.PhaseLaws.{not-both}

---- a text put into the report's block

module _ (k : ℕ) (b b' t : List ℕ) (long : 65_536 + k ≤ length b) (e : b' ≡ paste b (65_536 + k) t (length t)) where
  abbrev front : List ℕ
  front = take 65_536 b

  abbrev pending : List ℕ
  pending = take k (drop 65_536 b)

  abbrev behind : List ℕ
  behind = drop (65_536 + k + length t) b

  front_length : length front ≡ 65_536
  front_length = length-take-le 65_536 b (omega arith)

  whole : b' ≡ front ++ ((pending ++ t) ++ behind)
  whole =
      e ∙
      ap (λ (l : List ℕ). (take (65_536 + k) b ++ l) ++ behind) (take-length t) ∙
      ap (λ (l : List ℕ). (l ++ t) ++ behind) (take-add 65_536 k b) ∙
      ap (λ (l : List ℕ). l ++ behind) (append_assoc front pending t) ∙
      append_assoc front (pending ++ t) behind

  pub put_front : take 65_536 b' ≡ front
  put_front = ap (λ (l : List ℕ). take 65_536 l) whole ∙ take_at front ((pending ++ t) ++ behind) 65_536 front_length

  pending-length : length (pending ++ t) ≡ k + length t
  pending-length = length-append pending t ∙ ap (λ (n : ℕ). n + length t) (length-take-le k (drop 65_536 b) (rw length-drop (omega arith)))

  pub put-pending : take (k + length t) (drop 65_536 b') ≡ pending ++ t
  put-pending =
      ap (λ (l : List ℕ). take (k + length t) (drop 65_536 l)) whole ∙
      ap (λ (l : List ℕ). take (k + length t) l) (drop_at front ((pending ++ t) ++ behind) 65_536 front_length) ∙
      take_at (pending ++ t) behind (k + length t) pending-length

---- what is written

module _ (most : ℕ) (p : Place) (w : Bool) where
  pub written-kept : p.pending ≤ most → p ≡ written_as most p w
  unfolding written_as
  written-kept h = rw (le-leb p.pending most h)

  pub written_out : most < p.pending → record { at = p.at; end = p.end; all_read = p.all_read; pending = 0; all_written = w; turn = p.turn } ≡ written_as most p w
  unfolding written_as
  written_out h = rw (lt-leb p.pending most h)

module _ (most : ℕ) (p : Place) (w : Bool) (b : List ℕ) where
  pub written-standing : standing (written_as most p w) b ≡ standing p b
  unfolding written_as
  written-standing = go (leb p.pending most)
    where
      go : (t : Bool) → standing (cond t p (record { at = p.at; end = p.end; all_read = p.all_read; pending = 0; all_written = w; turn = p.turn })) b ≡ standing p b
      go true = refl
      go false = refl

  pub written-turn : (written_as most p w).turn ≡ p.turn
  unfolding written_as
  written-turn = go (leb p.pending most)
    where
      go : (t : Bool) → (cond t p (record { at = p.at; end = p.end; all_read = p.all_read; pending = 0; all_written = w; turn = p.turn })).turn ≡ p.turn
      go true = refl
      go false = refl

written-text : (p : Place) (w : Bool) (b : List ℕ) → length (pending_text p b) ≡ p.pending → pending_text (written_as 65_248 p w) b ≡ held_back (pending_text p b)
unfolding written_as held_back
written-text p w b e = go (leb p.pending 65_248) refl
  where
    go : (t : Bool) → leb p.pending 65_248 ≡ t → pending_text (cond t p (record { at = p.at; end = p.end; all_read = p.all_read; pending = 0; all_written = w; turn = p.turn })) b ≡ cond (leb (length (pending_text p b)) 65_248) (pending_text p b) []
    go true f = rw (e, f)
    go false f = rw (e, f)

turn_on : (l : List ℕ) (t k : ℕ) → t < last_turn → t < turn_ahead l (t + 1 + k)
unfolding turn_ahead
turn_on [] t k h = h
turn_on (x ∷ l) t k h = omega arith

---- whether a line follows

pub no-left : (a b : Bool) → a ≡ false → a && b ≡ false
no-left a b e = rw e

pub no-right : (a r b : Bool) → r ≡ b → r ≡ false → a && b ≡ false
no-right true r b e f = sym e ∙ f
no-right false r b e f = refl

pub both_so : (a r b : Bool) → r ≡ b → a ≡ true → r ≡ true → a && b ≡ true
both_so a r b e f g = rw f (sym e ∙ g)

---- after a line

module _ (u : Upcoming) (x : Next) (b b1 : List ℕ) (after p : Place) (roomy : Roomy u.place) (less : u.place.turn < last_turn) (long : 131_072 ≤ length b)
    (after_is : after ≡ printed_as (length (next_text x)) u.place) (put : Put b (65_536 + u.place.pending) (next_text x) b1 (65_536 + after.pending)) (p-is : p ≡ written_as 65_248 after p.all_written) where
  abbrev k : ℕ
  k = u.place.pending

  abbrev t : List ℕ
  t = next_text x

  room : 65_536 + k ≤ length b
  room = omega (arith, roomy.room)

  text-after : pending_text after b1 ≡ pending_text u.place b ++ t
  text-after = ap (λ (q : Place). pending_text q b1) after_is ∙ put-pending k b b1 t room put.bytes

  length-after : length (pending_text after b1) ≡ after.pending
  length-after = ap length text-after ∙ pending-length k b b1 t room put.bytes ∙ sym (ap (λ (q : Place). q.pending) after_is)

  text-is : pending_text p b1 ≡ held_back (pending_text u.place b ++ t)
  text-is = ap (λ (q : Place). pending_text q b1) p-is ∙ written-text after p.all_written b1 length-after ∙ ap held_back text-after

  standing-is : standing p b1 ≡ standing u.place b
  standing-is =
      ap (λ (q : Place). standing q b1) p-is ∙
      written-standing 65_248 after p.all_written b1 ∙
      ap (λ (q : Place). standing q b1) after_is ∙
      between-front u.place.at u.place.end 65_536 b b1 roomy.within.begins roomy.within.ends (put_front k b b1 t room put.bytes)

  turn_is : p.turn ≡ u.place.turn + 1
  turn_is = ap (λ (q : Place). q.turn) p-is ∙ written-turn 65_248 after p.all_written b1 ∙ ap (λ (q : Place). q.turn) after_is

  pub passed-last : (m : Marked) → m ≡ marked_by x.report (no_marks x.report) → (v : Upcoming) → Roomy v.place → v ≡ no_line p m → p.all_written && takes_lines x.report.stage ≡ false → Passed u x b b1 v
  unfolding retired_lines marks_after
  passed-last m m-is v ok is f =
      let e : v.place ≡ ended p = ap (λ (w : Upcoming). w.place) is in
      let k-is : v.marked ≡ marked_by x.report (no_marks x.report) = ap (λ (w : Upcoming). w.marked) is ∙ m-is in
      let turn : v.place.turn ≡ last_turn = ap (λ (q : Place). q.turn) e in
      let done : v.place.all_written ≡ p.all_written = ap (λ (q : Place). q.all_written) e in
      record {
        lines = [];
        marked = record { each = tt; calls = λ h. absurd (omega arith); counted = ap (λ (w : Marked). w.lines) k-is; progressed = ap (λ (w : Marked). w.progressed) k-is };
        awaits = record { roomy = ok; ahead = standing u.place b ++ []; line = λ h. absurd (omega (arith, turn, h)) };
        more = [];
        ahead = refl;
        text = ap (λ (q : Place). pending_text q b1) e ∙ text-is;
        turn = turn ∙ sym (rw (done, f));
        over = λ g. absurd (not-both (p.all_written && takes_lines x.report.stage) (ap (λ (a : Bool). a && takes_lines x.report.stage) (sym done) ∙ g) f);
        on = subst (λ (n : ℕ). u.place.turn < n) (sym turn) less;
      }

  module _ (a : Ahead) (l : LinesAhead x.report p b1 a) (m : Marked) (m-is : m ≡ marked_by x.report a) (q : Place) (q-is : q ≡ place_after a.count p) where
    -- what the lines change of the report
    marked-with : (w : Marked) → w ≡ m → MarkedWith x.report l.lines w
    marked-with w e =
        let counted : w.lines ≡ x.report.lines + length l.lines = ap (λ (z : Marked). z.lines) (e ∙ m-is) ∙ ap (λ (n : ℕ). x.report.lines + n) l.count in
        record {
          each = l.each;
          calls = λ h. let t = l.takes h in (t.calls, t.unclosed, omega (arith, counted, t.lines, l.few));
          counted = counted;
          progressed = ap (λ (z : Marked). z.progressed) (e ∙ m-is) ∙ l.progressed;
        }

    place_is : q ≡ place_after (length l.lines) p
    place_is = q-is ∙ ap (λ (n : ℕ). place_after n p) l.count

    turn-after : q.turn ≡ u.place.turn + 1 + length l.lines
    turn-after = ap (λ (z : Place). z.turn) place_is ∙ ap (λ (n : ℕ). n + length l.lines) turn_is

    pub passed-next : (b' : List ℕ) (v : Upcoming) → NextLine (marked_report x.report m) q m b1 b' v → p.all_written && takes_lines x.report.stage ≡ true → Passed u x b b' v
    passed-next b' v n f =
        let done : v.place.all_written ≡ p.all_written = n.written ∙ ap (λ (z : Place). z.all_written) q-is in
        let turn : v.place.turn ≡ turn_ahead n.awaits.ahead (u.place.turn + 1 + length l.lines) = n.turn ∙ ap (turn_ahead n.awaits.ahead) turn-after in
        record {
          lines = l.lines;
          marked = marked-with v.marked n.marked;
          awaits = record { roomy = n.awaits.roomy; ahead = n.awaits.ahead; line = λ h. subst (λ (w : Marked). Standing (marked_report x.report w) n.awaits.ahead b' v) (sym n.marked) (n.awaits.line h) };
          more = n.more;
          ahead =
              ap (λ (t : List ℕ). retired_lines l.lines ++ t) (n.ahead ∙ ap (λ (z : Place). standing z b1 ++ n.more) place_is) ∙
              sym (append_assoc (retired_lines l.lines) (standing (place_after (length l.lines) p) b1) n.more) ∙
              ap (λ (t : List ℕ). t ++ n.more) (sym l.stands ∙ standing-is);
          text = ap (λ (i : ℕ). take i (drop 65_536 b')) (n.pending ∙ ap (λ (z : Place). z.pending) q-is) ∙ ap (λ (t : List ℕ). take p.pending t) n.behind ∙ text-is;
          turn = turn ∙ sym (rw (done, f));
          over = λ g. n.over;
          on = subst (λ (i : ℕ). u.place.turn < i) (sym turn) (turn_on n.awaits.ahead u.place.turn (length l.lines) less);
        }
