-- Lines `retired=` in front of a text, taken one after the other.
-- Assumes nothing.
use Prim.Native.Nat.{ℕ, ◌+◌, ◌-◌, ◌*◌, ◌≤◌, ◌<◌}
use mathlib.Core.Path.{◌≡◌, refl, sym, ap, subst, ◌∙◌}
use mathlib.Core.Bool.{Bool, true}
use mathlib.Core.List.{List, [], ◌∷◌, ◌++◌}
use native.Mathlib.Omega.{arith}
use lib.ListN.{length, take, drop, set, length-append, length-drop, take-append-drop}
use lib.Seq.{take-add, drop-drop}
use Rattle.feed_plan.specs.declared.Report.{Report}
use Rattle.report_io.specs.declared.Ahead.{Ahead}
use Rattle.report_io.specs.declared.Place.{Place}
use Rattle.report_io.specs.Marks.{retired_line, retired_lines, marks_after, Each, MarkedCore, MarksAhead, no_marks, TakesMarks, LinesAhead}
use Rattle.report_io.specs.Blocks.{Within, between}
use Rattle.report_io.proofs.Standing.{drop-take, between-length}

---- one line more

lines_more : (ls : List ℕ) (c : ℕ) → retired_lines (ls ++ (c ∷ [])) ≡ retired_lines ls ++ retired_line c
unfolding retired_lines
lines_more [] c = refl
lines_more (d ∷ ls) c = ap (λ (l : List ℕ). retired_line d ++ l) (lines_more ls c)

marks-more : (ls : List ℕ) (c : ℕ) (m : List Bool) → marks_after (ls ++ (c ∷ [])) m ≡ set (marks_after ls m) c true
unfolding marks_after
marks-more [] c m = refl
marks-more (d ∷ ls) c m = marks-more ls c (set m d true)

each_more : (n : ℕ) (ls : List ℕ) (c : ℕ) → c < n → c < 8 → Each n ls → Each n (ls ++ (c ∷ []))
each_more n [] c h k e = (h, (k, tt))
each_more n (d ∷ ls) c h k e = (e.0, (e.1.0, each_more n ls c h k e.1.1))

-- the lines so far, as the loop has them
abbrev pub Taken : (text : List ℕ) (cores : ℕ) (m marks : List Bool) (count : ℕ) → Type 0
Taken text cores m marks count = MarksAhead text cores m (record { progressed = marks; count = count })

pub none-taken : (text : List ℕ) (cores : ℕ) (m : List Bool) → Taken text cores m m 0
unfolding retired_lines marks_after
none-taken text cores m = record { lines = []; each = tt; within = omega arith; front = refl; count = refl; progressed = refl }

pub taken_more : (text : List ℕ) (cores : ℕ) (m marks : List Bool) (count : ℕ) → Taken text cores m marks count
    → (c : ℕ) → MarkedCore (drop (10 * count) text) c → c < cores → c < 8 → Taken text cores m (set marks c true) (count + 1)
taken_more text cores m marks count t c is h k =
    let at : ℕ = 10 * length t.lines in
    let n : length (t.lines ++ (c ∷ [])) ≡ length t.lines + 1 = length-append t.lines (c ∷ []) in
    let e : 10 * length (t.lines ++ (c ∷ [])) ≡ at + 10 = omega (arith, n) in
    let line : MarkedCore (drop at text) c = subst (λ (j : ℕ). MarkedCore (drop (10 * j) text) c) t.count is in
    let long : length (drop at text) ≡ length text - at = length-drop at text in
    record {
      lines = t.lines ++ (c ∷ []);
      each = each_more cores t.lines c h k t.each;
      within = omega (arith, e, long, (line k).0, t.within);
      front =
          ap (λ (j : ℕ). take j text) e ∙ take-add at 10 text ∙ ap (λ (l : List ℕ). l ++ take 10 (drop at text)) t.front ∙ ap (λ (l : List ℕ). retired_lines t.lines ++ l) (line k).1 ∙ sym (lines_more t.lines c);
      count = omega (arith, n, t.count);
      progressed = ap (λ (l : List Bool). set l c true) t.progressed ∙ sym (marks-more t.lines c m);
    }

---- in the script's block

module _ (r : Report) (p : Place) (b : List ℕ) (w : Within p) where
  pub none_ahead : (a : Ahead) → a ≡ no_marks r → LinesAhead r p b a
  unfolding retired_lines marks_after
  none_ahead a e =
      let n : p.at + 10 * 0 ≡ p.at = omega arith in
      record {
        lines = [];
        each = tt;
        takes = λ h. absurd (omega arith);
        few = omega arith;
        within = omega (arith, w.begins);
        stands = ap (λ (i : ℕ). between i p.end b) (sym n);
        count = ap (λ (x : Ahead). x.count) e;
        progressed = ap (λ (x : Ahead). x.progressed) e;
      }

  module _ (long : 131_072 ≤ length b) (t : TakesMarks r p) (a : Ahead) (m : MarksAhead (between p.at p.end b) r.sched.cores r.sched.marks.progressed a) where
    abbrev n : ℕ
    n = 10 * length m.lines

    size : length (between p.at p.end b) ≡ p.end - p.at
    size = between-length p.at p.end b (omega (arith, w.ends))

    fits : n ≤ p.end - p.at
    fits = subst (λ (k : ℕ). n ≤ k) size m.within

    rest : drop n (between p.at p.end b) ≡ between (p.at + n) p.end b
    rest =
        let e : p.end - p.at - n ≡ p.end - (p.at + n) = omega (arith, fits) in
        let f : p.at + n ≡ p.at + n = refl in
        drop-take n (p.end - p.at) (drop p.at b) fits ∙
        ap (λ (i : ℕ). take i (drop n (drop p.at b))) e ∙
        ap (λ (l : List ℕ). take (p.end - (p.at + n)) l) (drop-drop n p.at b)

    pub some-ahead : LinesAhead r p b a
    some-ahead = record {
      lines = m.lines;
      each = m.each;
      takes = λ h. t;
      few = omega (arith, fits, w.ends);
      within = omega (arith, fits, w.begins);
      stands = sym (take-append-drop n (between p.at p.end b)) ∙ ap (λ (l : List ℕ). l ++ drop n (between p.at p.end b)) m.front ∙ ap (λ (l : List ℕ). retired_lines m.lines ++ l) rest;
      count = m.count;
      progressed = m.progressed;
    }
