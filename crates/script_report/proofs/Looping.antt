-- What the loop over the lines of a script holds on to, from the first line to the end, and what a whole script makes of it.
use Rattle.std.specs.Prelude.{Ok, Err}
use Rattle.settings.specs.declared.Refusal.TheVariants as RefusalCases
use Prim.Native.Nat.{ℕ, zero, suc, ◌+◌, ◌*◌, ◌<◌, ◌≤◌}
use mathlib.Core.Path.{◌≡◌, refl, sym, ap, ◌∙◌, subst}
use mathlib.Core.Bool.{Bool, true, false}
use mathlib.Core.List.{List, [], ◌++◌, append_assoc}
use native.Mathlib.Omega.{arith}
use borrow.Author.Tests.{ltb-true, ltb-false}
use lib.Dec.{ltb}
use lib.ListN.{length, take, drop, drop_of_length-le, length-append, length-drop}
use lib.Seq.{paste-zero, take-length}
use Rattle.text.specs.Lines.{cut}
use Rattle.text.specs.Buffers.{Put}
use Rattle.text.proofs.Pieces.{cut-nil}
use Rattle.text.proofs.Puts.{put_then, put_same}
use Rattle.state.specs.Memory.{Memory, Unchanged}
use Rattle.script.specs.Report as Definition
use Rattle.script.specs.Report.{feed, feeds, finish, whole}
use Rattle.script.proofs.Streams.{whole-step, whole-end}
use Rattle.feed_plan.specs.Meant.{report_meant, Roomy, ReportValid}
use Rattle.feed_plan.specs.Steps.{Prints}
use Rattle.feed_plan.proofs.Whole.{whole-counting}
use Rattle.report_plan.specs.declared.Progress.{Progress}
use Rattle.report_plan.specs.Running.{Begins}
use Rattle.report_plan.specs.Turning.{NextAsked, NextDone, FinishAsked}
use Rattle.report_plan.proofs.Parts.{end-room}
use Rattle.script_report.specs.Reporting.{LinesAsked, LinesDone, report_in, ReportDone}

-- what the definition prints for the next n lines, and at the end
abbrev due : (p : Progress) (n : ℕ) (script : List ℕ) (z : Memory) → List ℕ
due p n script z = whole (feeds (report_meant p.report z) (take n (cut (drop p.from script))))

-- before turn i: what was printed so far, and that it is what is due but for what the lines that are left will print
pub record Made (first : Progress) (n : ℕ) (script b : List ℕ) (m : Memory) (i : ℕ) (p : Progress) (c : List ℕ) (z : Memory) : Type 0 where
  pub left : ℕ
  pub turns : i + left ≡ n
  pub text : List ℕ
  pub put : Put b first.at text c p.at
  pub rest : text ++ due p left script z ≡ due first n script m
  pub lines : left ≤ length (cut (drop p.from script))
  pub room : length text ≤ 288 * i
  pub valid : ReportValid p.report z
  pub unmoved : i ≡ 0 → (p ≡ first) × (z ≡ m)

same_memory : (m z : Memory) → z ≡ m → Unchanged m z
same_memory m z e = (ap (λ (x : Memory). x.threads) e, ap (λ (x : Memory). x.queue) e, ap (λ (x : Memory). x.prios) e, ap (λ (x : Memory). x.log) e, ap (λ (x : Memory). x.lanes) e)

-- where a line is left
on-script : (script : List ℕ) (from : ℕ) → 0 < length (cut (drop from script)) → from < length script
on-script script from h = go (ltb from (length script)) refl
  where
    go : (t : Bool) → ltb from (length script) ≡ t → from < length script
    go true e = ltb-true from (length script) e
    go false e =
        let l : length (cut (drop from script)) ≡ 0 = ap (λ (x : List ℕ). length (cut x)) (drop_of_length-le script (ltb-false from (length script) e)) ∙ ap length cut-nil in
        absurd (omega arith)

module _ (first : Progress) (n : ℕ) (script b : List ℕ) (m : Memory) (a : LinesAsked first n script b m) where
  pub made_none : Made first n script b m 0 first b m
  made_none = record { left = n; turns = omega arith; text = []; put = record { bytes = paste-zero b first.at []; end = omega arith }; rest = refl; lines = a.lines; room = omega arith; valid = a.valid; unmoved = λ e. (refl, refl) }

  module _ (i : ℕ) (p : Progress) (c : List ℕ) (z : Memory) (k : Made first n script b m i p c z) (g : length c ≡ length b) where
    module _ (less : i < n) where
      pub next-asked : NextAsked p script c z
      next-asked =
          record {
            valid = k.valid;
            on = on-script script p.from (omega (arith, k.lines, k.turns));
            room = omega (arith, k.put.end, k.room, a.room (omega arith));
          }

      module _ (y : Progress) (c' : List ℕ) (z' : Memory) (d : NextDone p script c c' z z' y) where
        printed : List ℕ
        printed = (feed (report_meant p.report z) d.piece).out

        long : length printed ≤ 288
        unfolding printed
        long = omega (arith, d.text.end, d.short)

        step : (j : ℕ) → printed ++ due y j script z' ≡ due p (suc j) script z
        unfolding printed
        step j =
            let e : Definition.Report = (feed (report_meant p.report z) d.piece).report in
            let more : List (List ℕ) = take j (cut (drop y.from script)) in
            sym (ap (λ (ls : List (List ℕ)). whole (feeds (report_meant p.report z) (take (suc j) ls))) d.lines
            ∙ (whole-step (report_meant p.report z) d.piece more ∙ ap (λ (t : List ℕ). (feed (report_meant p.report z) d.piece).out ++ t) (sym (whole-counting e.lines e.stage more) ∙ sym (ap (λ (x : Definition.Report). whole (feeds x more)) d.report))))

        pub made-next : Made first n script b m (i + 1) y c' z'
        unfolding printed
        made-next = go k.left k.turns k.rest k.lines
          where
            go : (left : ℕ) → i + left ≡ n → k.text ++ due p left script z ≡ due first n script m → left ≤ length (cut (drop p.from script)) → Made first n script b m (i + 1) y c' z'
            go zero e r l = absurd (omega arith)
            go (suc j) e r l =
                let fits : first.at + length k.text + length printed ≤ length b = omega (arith, k.room, long, a.room (omega arith)) in
                let one : length (cut (drop p.from script)) ≡ suc (length (cut (drop y.from script))) = ap length d.lines in
                record {
                  left = j;
                  turns = omega arith;
                  text = k.text ++ printed;
                  put = put_then b first.at k.text c p.at k.put (omega arith) printed c' y.at d.text fits;
                  rest = append_assoc k.text printed (due y j script z') ∙ (ap (λ (t : List ℕ). k.text ++ t) (step j) ∙ r);
                  lines = omega arith;
                  room = omega (arith, length-append k.text printed, k.room, long);
                  valid = d.valid;
                  unmoved = λ q. absurd (omega arith);
                }

  module _ (p : Progress) (c : List ℕ) (z : Memory) (k : Made first n script b m n p c z) (g : length c ≡ length b) where
    end-within : p.at ≤ length c
    end-within = go n refl
      where
        go : (j : ℕ) → n ≡ j → p.at ≤ length c
        go zero e = omega (arith, k.put.end, k.room, a.within)
        go (suc j) e = omega (arith, k.put.end, k.room, a.room (omega arith))

    end_fits : Prints p.report.stage → p.at + 400 ≤ length c
    end_fits h = go n refl
      where
        go : (j : ℕ) → n ≡ j → p.at + 400 ≤ length c
        go zero e = omega (arith, k.put.end, k.room, a.end (subst (λ (q : Progress). Prints q.report.stage) (k.unmoved e).0 h))
        go (suc j) e = omega (arith, k.put.end, k.room, a.room (omega arith))

    pub finish-asked : FinishAsked p c z.threads
    finish-asked = record { qs = z.queue; ps = z.prios; ls = z.log; ws = z.lanes; valid = k.valid; within = end-within; room = end_fits }

    due-end : k.text ++ finish (report_meant p.report z) ≡ due first n script m
    due-end = go k.left k.turns k.rest
      where
        go : (left : ℕ) → n + left ≡ n → k.text ++ due p left script z ≡ due first n script m → k.text ++ finish (report_meant p.report z) ≡ due first n script m
        go zero e r = ap (λ (t : List ℕ). k.text ++ t) (sym (whole-end (report_meant p.report z))) ∙ r
        go (suc j) e r = absurd (omega arith)

    pub lines-done : (c' : List ℕ) (e : ℕ) → Put c p.at (finish (report_meant p.report z)) c' e → LinesDone first n script b c' m z e
    lines-done c' e d =
        let room = end-room p.report z (drop p.at c) k.valid.kept (λ h. omega (arith, end_fits h, length-drop p.at c)) in
        record {
          text = put_same b first.at (k.text ++ finish (report_meant p.report z)) (due first n script m) c' e due-end
              (put_then b first.at k.text c p.at k.put (omega (arith, k.put.end, end-within)) (finish (report_meant p.report z)) c' e d (omega (arith, k.put.end, room, length-drop p.at c, end-within)));
          unmoved = λ h. same_memory m z (k.unmoved h).1;
        }

---- a whole script

-- where the buffer is short nothing is written
module _ (script b : List ℕ) (m : Memory) where
  pub script-short : true ≡ ltb (length b) (288 * length (cut script) + 400) → ReportDone script b b m m (Err RefusalCases.Capacity)
  unfolding report_in
  script-short s = record { answer = rw (sym s); unmoved = λ h. same_memory m m refl }

module _ (script b : List ℕ) (m : Memory) (n : ℕ) (first : Progress) (s : false ≡ ltb (length b) (288 * length (cut script) + 400)) (en : n ≡ length (cut script)) (k : Begins first) where
  pub script-asked : Roomy m → LinesAsked first n script b m
  script-asked r =
      let h : 288 * length (cut script) + 400 ≤ length b = ltb-false (length b) (288 * length (cut script) + 400) (sym s) in
      let all : n ≤ length (cut (drop first.from script)) = rw k.from (omega arith) in
      record {
        valid = k.valid m r;
        lines = all;
        within = omega (arith, k.at);
        room = λ q. omega (arith, k.at);
        end = λ q. omega (arith, k.at);
      }

  pub script-done : (b' : List ℕ) (z : Memory) (e : ℕ) → LinesDone first n script b b' m z e → ReportDone script b b' m z (Ok e)
  unfolding report_in Definition.report
  script-done b' z e d =
      let t : List ℕ = Definition.report script in
      let lines : take n (cut (drop first.from script)) ≡ cut script = ap (λ (f : ℕ). take n (cut (drop f script))) k.from ∙ (ap (λ (j : ℕ). take j (cut script)) en ∙ take-length (cut script)) in
      let is : due first n script m ≡ t =
      ap (λ (x : Definition.Report). whole (feeds x (take n (cut (drop first.from script))))) (k.report m) ∙ ap (λ (ls : List (List ℕ)). whole (feeds Definition.start ls)) lines in
      let p : Put b 0 t b' e = subst (λ (x : ℕ). Put b x t b' e) k.at (put_same b first.at (due first n script m) t b' e is d.text) in
      let zero-more : 0 + length t ≡ length t = omega arith in
      let bytes : b' ≡ t ++ drop (length t) b = p.bytes ∙ rw (take-length t, zero-more) in
      let count : e ≡ length t = p.end ∙ zero-more in
      record {
        answer = rw (sym s, bytes, count);
        unmoved = λ h. absurd (omega (arith, ltb-false (length b) (288 * length (cut script) + 400) (sym s)));
      }
