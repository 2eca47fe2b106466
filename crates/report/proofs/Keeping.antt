-- What the program keeps from line to line: report and text are the definition's for the lines taken.
use Rattle.std.specs.Prelude.{Result}
use Prim.Native.Nat.{ℕ, suc, ◌+◌, ◌-◌, ◌≤◌, ◌<◌}
use mathlib.Core.Path.{◌≡◌, refl, sym, ap, ap₂, ◌∙◌}
use mathlib.Core.Bool.{Bool, true, false, cond, ◌&&◌}
use mathlib.Core.List.{List, [], ◌∷◌, ◌++◌, append_assoc, append-nil}
use native.Mathlib.Omega.{arith}
use borrow.Author.Tests.{leb-false}
use lib.Dec.{leb}
use lib.ListN.{length, take, drop, length-append}
use lib.Seq.{take-length, take-paste, drop-paste, drop-drop}
use Rattle.text.specs.Lines.{cut}
use Rattle.text.specs.Buffers.{Put}
use Rattle.script.specs.Report as Definition
use Rattle.script.specs.Report.{heads, calls, ended, over, feed, feeds, finish, whole, start}
use Rattle.script.proofs.Streams.{feeds-report, feeds-out}
use Rattle.feed_plan.specs.declared.Stage.{Stage}
use Rattle.feed_plan.specs.declared.Stage.TheVariants as StageCases
use Rattle.feed_plan.specs.declared.Report.{Report}
use Rattle.settings.specs.declared.Refusal.{Refusal}
use Rattle.feed_plan.specs.declared.Line.{Line}
use Rattle.feed_plan.specs.declared.Next.{Next}
use Rattle.feed_plan.specs.Meant.{counting, report_meant, ReportValid}
use Rattle.feed_plan.specs.Steps.{fed_of, next_text}
use Rattle.feed_plan.specs.Feeding.{Starts, LineDone}
use Rattle.report_io.specs.declared.Upcoming.{Upcoming}
use Rattle.report_io.specs.Marks.{retired_lines, no_marks, marked_by, marked_report}
use Rattle.report_io.specs.Blocks.{last_turn, beginning, first_of, turn_ahead, NextLine, pending_text, held_back, takes_lines, Passed}
use Rattle.state.specs.Memory.{Memory}
use Rattle.report.specs.Running.{SoFar, Runnable, Finished}
use Rattle.report.proofs.Marking.{lines_cut, counting-twice, Behind, behind}
use Rattle.report.proofs.Pieces.{first_alone, takes, takes-meant, first_ended}

---- the count that is forgotten after the end

counting-feed : (n : ℕ) (g : Definition.Stage) (l : List ℕ) → counting (feed (counting (record { lines = n; stage = g })) l).report ≡ counting (feed (record { lines = n; stage = g }) l).report
unfolding feed Definition.fed
counting-feed n (heads h) l = refl
counting-feed n (calls s) l = refl
counting-feed n (ended s) l = refl
counting-feed n over l = refl

counting-out : (n : ℕ) (g : Definition.Stage) (l : List ℕ) → (feed (counting (record { lines = n; stage = g })) l).out ≡ (feed (record { lines = n; stage = g }) l).out
unfolding feed Definition.fed
counting-out n (heads h) l = refl
counting-out n (calls s) l = refl
counting-out n (ended s) l = refl
counting-out n over l = refl

counting-finish : (n : ℕ) (g : Definition.Stage) → finish (counting (record { lines = n; stage = g })) ≡ finish (record { lines = n; stage = g })
unfolding finish Definition.finishing
counting-finish n (heads h) = refl
counting-finish n (calls s) = refl
counting-finish n (ended s) = refl
counting-finish n over = refl

counting-feeds : (ls : List (List ℕ)) (d : Definition.Report) → counting (feeds (counting d) ls).report ≡ counting (feeds d ls).report
unfolding feeds
counting-feeds [] d = sym (counting-twice d)
counting-feeds (l ∷ ls) d =
    sym (counting-feeds ls (feed (counting d) l).report) ∙
    ap (λ (e : Definition.Report). counting (feeds e ls).report) (counting-feed d.lines d.stage l) ∙
    counting-feeds ls (feed d l).report

counting-outs : (ls : List (List ℕ)) (d : Definition.Report) → (feeds (counting d) ls).out ≡ (feeds d ls).out
unfolding feeds
counting-outs [] d = refl
counting-outs (l ∷ ls) d =
    ap₂ (λ (t t' : List ℕ). t ++ t') (counting-out d.lines d.stage l)
    (sym (counting-outs ls (feed (counting d) l).report) ∙ ap (λ (e : Definition.Report). (feeds e ls).out) (counting-feed d.lines d.stage l) ∙ counting-outs ls (feed d l).report)

---- one line more

fed-one : (d : Definition.Report) (l : List ℕ) → (feeds d (l ∷ [])).report ≡ (feed d l).report
unfolding feeds
fed-one d l = refl

out_one : (d : Definition.Report) (l : List ℕ) → (feeds d (l ∷ [])).out ≡ (feed d l).out
unfolding feeds
out_one d l = append-nil (feed d l).out

module _ (r : Report) (u : Upcoming) (m : Memory) (bs : List ℕ) (s : SoFar r u m bs) (less : u.place.turn < last_turn) (ahead : List ℕ) (some : 0 < length ahead) (c : Result Line Refusal)
    (says : feed (report_meant r m) (first_of (cut ahead)) ≡ fed_of (report_meant r m) c)
    (x : Next) (z : Memory) (done : LineDone r c m z x) (valid : ReportValid x.report z) where
  abbrev piece : List ℕ
  piece = first_of (cut ahead)

  abbrev d : Definition.Report
  d = (feeds start (cut s.script)).report

  abbrev taken : List ℕ
  taken = s.script ++ piece

  lines_are : cut taken ≡ cut s.script ++ (piece ∷ [])
  lines_are = s.ended less piece ∙ ap (λ (ls : List (List ℕ)). cut s.script ++ ls) (first_alone ahead some)

  fed-is : feed (counting d) piece ≡ fed_of (report_meant r m) c
  fed-is = ap (λ (y : Definition.Report). feed y piece) (sym s.report) ∙ says

  report-is : report_meant x.report z ≡ counting (feed (counting d) piece).report
  report-is = done.report ∙ ap (λ (f : Definition.Fed). counting f.report) (sym fed-is)

  report-next : report_meant x.report z ≡ counting (feeds start (cut taken)).report
  report-next =
      report-is ∙
      counting-feed d.lines d.stage piece ∙
      ap counting (sym (feeds-report start (cut s.script) (piece ∷ []) ∙ fed-one d piece)) ∙
      ap (λ (ls : List (List ℕ)). counting (feeds start ls).report) (sym lines_are)

  out-next : (feeds start (cut s.script)).out ++ next_text x ≡ (feeds start (cut taken)).out
  out-next =
      let e : next_text x ≡ (feed d piece).out = done.text ∙ ap (λ (f : Definition.Fed). f.out) (sym fed-is) ∙ counting-out d.lines d.stage piece in
      ap (λ (t : List ℕ). (feeds start (cut s.script)).out ++ t) (e ∙ sym (out_one d piece)) ∙
      sym (feeds-out start (cut s.script) (piece ∷ [])) ∙
      ap (λ (ls : List (List ℕ)). (feeds start ls).out) (sym lines_are)

  all-text : s.sent ++ (pending_text u.place bs ++ next_text x) ≡ (feeds start (cut taken)).out
  all-text = sym (append_assoc s.sent (pending_text u.place bs) (next_text x)) ∙ ap (λ (t : List ℕ). t ++ next_text x) s.text ∙ out-next

  -- where the report takes lines after this one, this one was ended
  takes-more : takes_lines x.report.stage ≡ true → takes (feed (counting d) piece).report.stage ≡ true
  unfolding report_meant
  takes-more h = ap (λ (y : Definition.Report). takes y.stage) (sym report-is) ∙ sym (takes-meant x.report.stage x.report.head _) ∙ h

  still-ended : takes_lines x.report.stage ≡ true → (l : List ℕ) → cut (taken ++ l) ≡ cut taken ++ cut l
  still-ended h l =
      ap cut (append_assoc s.script piece l) ∙
      s.ended less (piece ++ l) ∙
      ap (λ (ls : List (List ℕ)). cut s.script ++ ls) (first_ended (counting d) ahead (takes-more h) l) ∙
      sym (ap (λ (ls : List (List ℕ)). ls ++ cut l) lines_are ∙ append_assoc (cut s.script) (piece ∷ []) (cut l))

  follows : (v : Upcoming) (bs' : List ℕ) → Passed u x bs bs' v → v.place.turn < last_turn → takes_lines x.report.stage ≡ true
  follows v bs' p h = go v.place.all_written (takes_lines x.report.stage) p.turn
    where
      go : (a b : Bool) → v.place.turn ≡ cond (a && b) (turn_ahead p.awaits.ahead (u.place.turn + 1 + length p.lines)) last_turn → b ≡ true
      go true true e = refl
      go true false e = absurd (omega (arith, e, h))
      go false b e = absurd (omega (arith, e, h))

  -- the lines `retired=` that were taken with it
  module _ (v : Upcoming) (bs' : List ℕ) (p : Passed u x bs bs' v) where
    abbrev more-lines : List ℕ
    more-lines = retired_lines p.lines

    abbrev script' : List ℕ
    script' = taken ++ more-lines

    -- what stands behind the lines
    abbrev behind-all : Behind z x.report p.lines v.marked
    behind-all = behind z x.report valid p.lines v.marked p.marked

    takes-calls : (g : Stage) → g ≡ StageCases.Calls → takes_lines g ≡ true
    unfolding takes_lines
    takes-calls g e = ap takes_lines e

    pieces : cut script' ≡ cut taken ++ cut more-lines
    unfolding retired_lines cut
    pieces = go p.lines refl
      where
        go : (cs : List ℕ) → p.lines ≡ cs → cut (taken ++ retired_lines p.lines) ≡ cut taken ++ cut (retired_lines p.lines)
        go [] e =
            ap (λ (l : List ℕ). cut (taken ++ retired_lines l)) e ∙ ap cut (append-nil taken) ∙ sym (append-nil (cut taken)) ∙ sym (ap (λ (l : List ℕ). cut taken ++ cut (retired_lines l)) e)
        go (y ∷ cs) e = still-ended (takes-calls x.report.stage (p.marked.calls (let n : length p.lines ≡ suc (length cs) = ap length e in omega arith)).0) (retired_lines p.lines)

    report-marked : report_meant (marked_report x.report v.marked) z ≡ counting (feeds start (cut script')).report
    report-marked =
        behind-all.report ∙
        ap (λ (y : Definition.Report). counting (feeds y (cut more-lines)).report) report-next ∙
        counting-feeds (cut more-lines) (feeds start (cut taken)).report ∙
        ap counting (sym (feeds-report start (cut taken) (cut more-lines))) ∙
        ap (λ (ls : List (List ℕ)). counting (feeds start ls).report) (sym pieces)

    out-marked : (feeds start (cut taken)).out ≡ (feeds start (cut script')).out
    out-marked =
        sym (append-nil (feeds start (cut taken)).out) ∙
        ap (λ (t : List ℕ). (feeds start (cut taken)).out ++ t) (sym (sym (counting-outs (cut more-lines) (feeds start (cut taken)).report) ∙ ap (λ (y : Definition.Report). (feeds y (cut more-lines)).out) (sym report-next) ∙ behind-all.out)) ∙
        sym (feeds-out start (cut taken) (cut more-lines)) ∙
        ap (λ (ls : List (List ℕ)). (feeds start ls).out) (sym pieces)

    ended-marked : v.place.turn < last_turn → (l : List ℕ) → cut (script' ++ l) ≡ cut script' ++ cut l
    ended-marked h l =
        ap cut (append_assoc taken more-lines l) ∙
        still-ended (follows v bs' p h) (more-lines ++ l) ∙
        ap (λ (ls : List (List ℕ)). cut taken ++ ls) (lines_cut x.report.sched.cores p.lines l p.marked.each) ∙
        sym (ap (λ (ls : List (List ℕ)). ls ++ cut l) pieces ∙ append_assoc (cut taken) (cut more-lines) (cut l))

    pub kept : SoFar (marked_report x.report v.marked) v z bs'
    unfolding held_back
    kept = go (leb (length t) 65_248) refl p.text
      where
        t : List ℕ
        t = pending_text u.place bs ++ next_text x

        go : (b : Bool) → leb (length t) 65_248 ≡ b → pending_text v.place bs' ≡ cond b t [] → SoFar (marked_report x.report v.marked) v z bs'
        go true e f = record { script = script'; report = report-marked; sent = s.sent; text = ap (λ (y : List ℕ). s.sent ++ y) f ∙ all-text ∙ out-marked; much = s.much; ended = ended-marked }
        go false e f = record {
          script = script';
          report = report-marked;
          sent = s.sent ++ t;
          text = ap (λ (y : List ℕ). (s.sent ++ t) ++ y) f ∙ append-nil (s.sent ++ t) ∙ all-text ∙ out-marked;
          much = λ h. omega (arith, leb-false (length t) 65_248 e, length-append s.sent t);
          ended = ended-marked;
        }

    pub marked-valid : ReportValid (marked_report x.report v.marked) z
    marked-valid = behind-all.valid

---- before the first line, and at the end

pub none_yet_lem : (r : Report) (u : Upcoming) (m : Memory) (b bs : List ℕ) → Starts r → NextLine r beginning (marked_by r (no_marks r)) b bs u → SoFar r u m bs
unfolding feeds cut
none_yet_lem r u m b bs s n = record { script = []; report = s.report m; sent = []; text = ap (λ (i : ℕ). take i (drop 65_536 bs)) n.pending; much = λ h. absurd (omega arith); ended = λ h l. refl }

module _ (r : Report) (u : Upcoming) (m : Memory) (bs : List ℕ) (runs : Runnable r u m bs) (n : ℕ) (bs' : List ℕ) where
  abbrev t : List ℕ
  t = finish (report_meant r m)

  abbrev last : Definition.Report
  last = (feeds start (cut runs.so_far.script)).report

  module _ (put : Put bs 0 t bs' n) (short : n ≤ 400) where
    zero-plus : 0 + length t ≡ length t
    zero-plus = omega arith

    end-first : take n bs' ≡ t
    end-first =
        ap (λ (k : ℕ). take k bs') put.end ∙
        ap (λ (l : List ℕ). take (0 + length t) l) put.bytes ∙
        take-paste bs 0 t (length t) (omega arith) (omega arith) ∙
        take-length t

    rest-same : drop (length t) bs' ≡ drop (length t) bs
    rest-same =
        ap (λ (k : ℕ). drop k bs') (sym zero-plus) ∙
        ap (λ (l : List ℕ). drop (0 + length t) l) put.bytes ∙
        drop-paste bs 0 t (length t) (omega arith) (omega arith) ∙
        ap (λ (k : ℕ). drop k bs) zero-plus

    behind-same : drop 65_536 bs' ≡ drop 65_536 bs
    behind-same =
        let e : length t + (65_536 - length t) ≡ 65_536 = omega (arith, put.end) in
        sym (drop-drop (65_536 - length t) (length t) bs' ∙ ap (λ (k : ℕ). drop k bs') e) ∙
        ap (λ (l : List ℕ). drop (65_536 - length t) l) rest-same ∙
        drop-drop (65_536 - length t) (length t) bs ∙
        ap (λ (k : ℕ). drop k bs) e

    end_is : t ≡ finish last
    end_is = ap finish runs.so_far.report ∙ counting-finish last.lines last.stage

    pub finished : Finished bs' m
    unfolding whole Definition.report
    finished = record {
      report = r;
      valid = runs.valid;
      script = runs.so_far.script;
      made = runs.so_far.report;
      sent = runs.so_far.sent;
      much = runs.so_far.much;
      pending = u.place.pending;
      count = n;
      text =
          ap (λ (l : List ℕ). runs.so_far.sent ++ (take u.place.pending l ++ take n bs')) behind-same ∙
          ap (λ (l : List ℕ). runs.so_far.sent ++ (pending_text u.place bs ++ l)) (end-first ∙ end_is) ∙
          sym (append_assoc runs.so_far.sent (pending_text u.place bs) (finish last)) ∙
          ap (λ (l : List ℕ). l ++ finish last) runs.so_far.text;
    }
