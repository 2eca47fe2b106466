-- Lines `retired=` that were taken together with a line: what the definition makes of them, one after the other.
-- Assumes nothing.
use Prim.Native.Nat.{ℕ, suc, ◌+◌, ◌≤◌, ◌<◌}
use mathlib.Core.Path.{◌≡◌, refl, sym, ap, ap₂, subst, ◌∙◌}
use mathlib.Core.Bool.{Bool, true, false}
use mathlib.Core.Option.{none}
use mathlib.Core.List.{List, [], ◌∷◌, ◌++◌}
use native.Mathlib.Omega.{arith}
use borrow.Author.Tests.{lt-leb}
use lib.ListN.{length, set}
use Rattle.text.specs.Lines.{cut}
use Rattle.script.specs.Invariants.{Kept}
use Rattle.model.specs.Types.{State}
use Rattle.model.specs.Calls.{Answer, ok, check, retired}
use Rattle.rcfg.specs.declared.Head.{Head}
use Rattle.state.specs.declared.Sched.{Sched}
use Rattle.state.specs.Memory.{Memory}
use Rattle.state.specs.State.{meant, Valid}
use Rattle.state.specs.Done.{Done}
use Rattle.checks.specs.Check.{retired_refusal}
use Rattle.sched_marks.specs.Change.{with_progressed}
use Rattle.sched_marks.proofs.MarkCalls.{retired-taken}
use Rattle.script.specs.Report as Definition
use Rattle.script.specs.Report.{feed, feeds, said, answer_text}
use Rattle.script.proofs.Room.{feed-well}
use Rattle.feed_plan.specs.declared.Stage.{Stage}
use Rattle.feed_plan.specs.declared.Stage.TheVariants as StageCases
use Rattle.feed_plan.specs.declared.Report.{Report}
use Rattle.feed_plan.specs.Meant.{lines_in, counting, report_meant, ReportValid}
use Rattle.report_io.specs.declared.Marked.{Marked}
use Rattle.report_io.specs.Marks.{retired_line, retired_lines, marks_after, Each, marked_report, MarkedWith}
use Rattle.report_io.proofs.Frequent.{retired-cut, retired-feed}

---- the lines as pieces

pub lines_cut : (n : ℕ) (cs l : List ℕ) → Each n cs → cut (retired_lines cs ++ l) ≡ cut (retired_lines cs) ++ cut l
unfolding retired_lines cut
lines_cut n [] l e = refl
lines_cut n (c ∷ cs) l e =
    retired-cut c (retired_lines cs ++ l) e.1.0 ∙
    ap (λ (ls : List (List ℕ)). retired_line c ∷ ls) (lines_cut n cs l e.1.1) ∙
    sym (ap (λ (ls : List (List ℕ)). ls ++ cut l) (retired-cut c (retired_lines cs) e.1.0))

---- what the definition makes of them

feeds-kept : (ls : List (List ℕ)) (d : Definition.Report) → Kept d.lines d.stage → Kept (feeds d ls).report.lines (feeds d ls).report.stage
unfolding feeds
feeds-kept [] d k = k
feeds-kept (l ∷ ls) d k = feeds-kept ls (feed d l).report (feed-well d l k).kept

feeds-first : (d : Definition.Report) (l : List ℕ) (ls : List (List ℕ)) (f g : Definition.Fed) → feed d l ≡ f → feeds f.report ls ≡ g → feeds d (l ∷ ls) ≡ record { report = g.report; out = f.out ++ g.out }
unfolding feeds
feeds-first d l ls f g e k =
    ap (λ (f : Definition.Fed). record { report = (feeds f.report ls).report; out = f.out ++ (feeds f.report ls).out }) e ∙
    ap (λ (g : Definition.Fed). record { report = g.report; out = f.out ++ g.out }) k

unrefused : (s : Sched) (c : ℕ) → c < s.cores → s.closed ≡ false → retired_refusal s c ≡ none
unfolding retired_refusal check
unrefused s c h e = rw (lt-leb s.cores c h, e)

pub counting-twice : (d : Definition.Report) → counting d ≡ counting (counting d)
counting-twice d = ap (λ (n : ℕ). record { lines = n; stage = d.stage }) (go d.stage d.lines)
  where
    go : (g : Definition.Stage) (n : ℕ) → lines_in g n ≡ lines_in g (lines_in g n)
    go (Definition.heads h) n = refl
    go (Definition.calls s) n = refl
    go (Definition.ended s) n = refl
    go Definition.over n = refl

module _ (memory : Memory) where
  abbrev at-calls : ℕ → Sched → Definition.Report
  at-calls n s = record { lines = n; stage = Definition.calls (meant s memory) }

  -- one line
  one-done : (s : Sched) (c : ℕ) → Valid s memory → c < s.cores → s.closed ≡ false → Done (retired c) ok s (with_progressed (set s.marks.progressed c true) s) memory memory
  one-done s c v h e = retired-taken s memory.threads memory.queue memory.prios memory.log memory.lanes v c ok (set s.marks.progressed c true) refl refl (unrefused s c h e)

  one-feed : (n : ℕ) (s : Sched) (c : ℕ) → Valid s memory → c < s.cores → c < 8 → s.closed ≡ false → suc n ≤ 1_000_000_000_000
      → feed (at-calls n s) (retired_line c) ≡ record { report = at-calls (suc n) (with_progressed (set s.marks.progressed c true) s); out = [] }
  unfolding said answer_text
  one-feed n s c v h k e few =
      let d = one-done s c v h e in
      retired-feed n (meant s memory) c k few ∙
      ap₂ (λ (t : State) (a : Answer). Definition.at (suc n) (Definition.calls t) (answer_text (suc n) t.now a)) (sym d.state) (sym d.answer)

  -- all of them
  pub all-feeds : (cs : List ℕ) (n : ℕ) (s : Sched) → Valid s memory → Each s.cores cs → s.closed ≡ false → n + length cs ≤ 1_000_000_000_000
      → feeds (at-calls n s) (cut (retired_lines cs)) ≡ record { report = at-calls (n + length cs) (with_progressed (marks_after cs s.marks.progressed) s); out = [] }
  unfolding retired_lines marks_after feeds cut
  all-feeds [] n s v e h few = let k : n ≡ n + 0 = omega arith in ap (λ (i : ℕ). record { report = at-calls i s; out = [] }) k
  all-feeds (c ∷ cs) n s v e h few =
      let s' : Sched = with_progressed (set s.marks.progressed c true) s in
      let k : suc n + length cs ≡ n + suc (length cs) = omega arith in
      ap (λ (ms : List (List ℕ)). feeds (at-calls n s) ms) (retired-cut c (retired_lines cs) e.1.0) ∙
      feeds-first (at-calls n s) (retired_line c) (cut (retired_lines cs)) _ _ (one-feed n s c v e.0 e.1.0 h (omega arith)) (all-feeds cs (suc n) s' (one-done s c v e.0 h).valid e.1.1 h (omega arith)) ∙
      ap (λ (i : ℕ). record { report = at-calls i (with_progressed (marks_after cs (set s.marks.progressed c true)) s); out = [] }) k

  pub all_valid : (cs : List ℕ) (s : Sched) → Valid s memory → Each s.cores cs → s.closed ≡ false → Valid (with_progressed (marks_after cs s.marks.progressed) s) memory
  unfolding marks_after
  all_valid [] s v e h = v
  all_valid (c ∷ cs) s v e h = all_valid cs (with_progressed (set s.marks.progressed c true) s) (one-done s c v e.0 h).valid e.1.1 h

  -- what is known of the report behind them
  pub record Behind (r : Report) (cs : List ℕ) (m : Marked) : Type 0 where
    pub report : report_meant (marked_report r m) memory ≡ counting (feeds (report_meant r memory) (cut (retired_lines cs))).report
    pub out : (feeds (report_meant r memory) (cut (retired_lines cs))).out ≡ []
    pub valid : ReportValid (marked_report r m) memory

  none-behind : (r : Report) → ReportValid r memory → Behind r [] (record { lines = r.lines; progressed = r.sched.marks.progressed })
  unfolding retired_lines feeds cut report_meant
  none-behind r v = record { report = counting-twice _; out = refl; valid = v }

  calls-behind : (n : ℕ) (h : Head) (s : Sched) (cs : List ℕ) → ReportValid (record { lines = n; stage = StageCases.Calls; head = h; sched = s }) memory → Each s.cores cs → s.closed ≡ false → n + length cs ≤ 1_000_000_000_000
      → Behind (record { lines = n; stage = StageCases.Calls; head = h; sched = s }) cs (record { lines = n + length cs; progressed = marks_after cs s.marks.progressed })
  unfolding report_meant
  calls-behind n h s cs v e k few =
      let f = all-feeds cs n s v.held e k few in
      record {
        report = sym (ap (λ (x : Definition.Fed). counting x.report) f);
        out = ap (λ (x : Definition.Fed). x.out) f;
        valid = record {
          kept = subst (λ (d : Definition.Report). Kept d.lines d.stage) (ap (λ (x : Definition.Fed). x.report) f) (feeds-kept (cut (retired_lines cs)) (at-calls n s) v.kept);
          memory = v.memory;
          held = all_valid cs s v.held e k;
        };
      }

  module _ (r : Report) (v : ReportValid r memory) where
    stage-behind : (g : Stage) → r.stage ≡ g → g ≡ StageCases.Calls → (cs : List ℕ) → Each r.sched.cores cs → r.sched.closed ≡ false → r.lines + length cs ≤ 1_000_000_000_000 → Behind r cs (record { lines = r.lines + length cs; progressed = marks_after cs r.sched.marks.progressed })
    stage-behind g e c cs each k few =
        let same : Report → Type 0 = λ z. Behind z cs (record { lines = z.lines + length cs; progressed = marks_after cs z.sched.marks.progressed }) in
        let is : r ≡ record { lines = r.lines; stage = StageCases.Calls; head = r.head; sched = r.sched } = ap (λ (g : Stage). record { lines = r.lines; stage = g; head = r.head; sched = r.sched }) (e ∙ c) in
        subst same (sym is) (calls-behind r.lines r.head r.sched cs (subst (λ (z : Report). ReportValid z memory) is v) each k few)

    pub behind : (cs : List ℕ) (m : Marked) → MarkedWith r cs m → Behind r cs m
    unfolding marks_after
    behind [] m k =
        let n : m.lines ≡ r.lines = let c = k.counted in omega (arith, c) in
        subst (Behind r []) (sym (ap₂ (λ (i : ℕ) (p : List Bool). record { lines = i; progressed = p }) n k.progressed)) (none-behind r v)
    behind (c ∷ cs) m k =
        let a = k.calls (omega arith) in
        subst (Behind r (c ∷ cs)) (sym (ap₂ (λ (i : ℕ) (p : List Bool). record { lines = i; progressed = p }) k.counted k.progressed))
        (stage-behind r.stage refl a.0 (c ∷ cs) k.each a.1 (let n = k.counted in let m = a.2 in omega (arith, n, m)))
