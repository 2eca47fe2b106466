-- What the parts of a line put together make: the definition's next report, and what it prints.
use Rattle.std.specs.Prelude.{Ok, Err, Result}
use Prim.Native.Nat.{ℕ, zero, suc, ◌+◌, ◌*◌, ◌≤◌}
use mathlib.Core.Path.{◌≡◌, refl, sym, ap, ◌∙◌, subst}
use mathlib.Core.Bool.{false}
use mathlib.Core.Option.{Option, none, some}
use mathlib.Core.List.{List}
use native.Mathlib.Omega.{arith}
use borrow.Author.Tests.{le-ltb, ltb-false}
use lib.ListN.{length}
use Rattle.text.specs.Lines.{Read, bad, good}
use Rattle.text.specs.Buffers.{Put}
use Rattle.settings.specs.declared.Refusal.{Refusal}
use Rattle.settings.specs.declared.SchedConfig.{SchedConfig}
use Rattle.settings.specs.Reading.{refusal_number}
use Rattle.rcfg.specs.declared.Head as Heads
use Rattle.rcfg.specs.Reading.{head_meant}
use Rattle.script.specs.Invariants.{Kept}
use Rattle.model.specs.Types.{State}
use Rattle.model.specs.Calls as Calls
use Rattle.model.specs.Calls.{check, refused_new, made_of, new, unmade, made, step}
use Rattle.model.proofs.Refusals.{check-none, check-rest}
use Rattle.checks.specs.Check.{check_meant}
use Rattle.state.specs.declared.Sched.{Sched}
use Rattle.state.specs.Memory.{Memory, Unchanged}
use Rattle.state.specs.State.{meant_at, meant, lane_start}
use Rattle.switches.specs.Entries.{no_switches}
use Rattle.tick_plan.specs.DoneWith.{DoneWith}
use Rattle.new_plan.specs.declared.Created.{Created}
use Rattle.new_plan.specs.First.{core_count, is_short, or_refusal, new_refusal}
use Rattle.new_plan.specs.Made.{NewDone, NewTaken}
use Rattle.sched.specs.declared.Call.{Call}
use Rattle.sched.specs.declared.Applied.{Applied}
use Rattle.sched.specs.Meant.{call_meant, outcome_meant}
use Rattle.script.specs.Script.{call_line}
use Rattle.script.specs.Report as Definition
use Rattle.script.specs.Report.{heads, calls, ended, over, answer_text, refused_text, created, begun, said, line_at, feed}
use Rattle.script.proofs.Prints.{allowance}
use Rattle.script.proofs.Room.{call_room, line_room, feed-well}
use Rattle.feed_plan.specs.declared.Stage.{Stage}
use Rattle.feed_plan.specs.declared.Stage.TheVariants as StageCases
use Rattle.feed_plan.specs.declared.Report.{Report}
use Rattle.feed_plan.specs.declared.Line.{Line}
use Rattle.feed_plan.specs.declared.Line.TheVariants as LineCases
use Rattle.feed_plan.specs.declared.Next.{Next}
use Rattle.feed_plan.specs.declared.Fed.{Fed}
use Rattle.feed_plan.specs.Meant.{stage_meant, lines_in, counting, report_meant, Few, Held, Roomy, ReportValid}
use Rattle.feed_plan.specs.Steps.{after_refusal, step_in, fed_of, Counts, Rests, Fits, report_capacities, refused_stage, quiet_next, refused_next, headed_next, created_next, answered_next, applied_next, next_text}
use Rattle.feed_plan.specs.Feeding.{LineAsked, LineDone, Sayable, SaidAs, FeedDone}

---- a line that leaves the scheduler as it is

module _ (h : Heads.Head) (s : State) (n : ℕ) where
  rests : (g : Stage) → Rests g → ◌≡◌ {A = Definition.Report} (counting (record { lines = n; stage = stage_meant g h s })) (counting (record { lines = suc (lines_in (stage_meant g h s) n); stage = stage_meant g h s }))
  rests StageCases.Heads z = absurd z
  rests StageCases.Calls z = absurd z
  rests StageCases.Ended z = refl
  rests StageCases.Over z = refl

  refuses : (g : Stage) → Counts g
      → ◌≡◌ {A = Definition.Report} (counting (record { lines = n; stage = stage_meant (refused_stage g) h s })) (counting (record { lines = suc (lines_in (stage_meant g h s) n); stage = after_refusal (stage_meant g h s) }))
  refuses StageCases.Heads z = refl
  refuses StageCases.Calls z = refl
  refuses StageCases.Ended z = absurd z
  refuses StageCases.Over z = absurd z

  counts : (g : Stage) → Counts g → n + 1 ≡ suc (lines_in (stage_meant g h s) n)
  counts StageCases.Heads z = omega arith
  counts StageCases.Calls z = omega arith
  counts StageCases.Ended z = absurd z
  counts StageCases.Over z = absurd z

  in-heads : (g : Stage) → g ≡ StageCases.Heads → n + 1 ≡ suc (lines_in (stage_meant g h s) n)
  in-heads g e = counts g (subst Counts (sym e) tt)

  in-calls : (g : Stage) → g ≡ StageCases.Calls → n + 1 ≡ suc (lines_in (stage_meant g h s) n)
  in-calls g e = counts g (subst Counts (sym e) tt)

module _ (s : Sched) (m : Memory) where
  refused-held : (g : Stage) → Held g s m → Held (refused_stage g) s m
  refused-held StageCases.Heads k = tt
  refused-held StageCases.Calls k = k
  refused-held StageCases.Ended k = k
  refused-held StageCases.Over k = tt

module _ (r : Report) (m : Memory) where
  pub refused-done : (k : Refusal) (l : Result Line Refusal) → Counts r.stage → r.lines ≤ 1_000_000_000_000 → Held r.stage r.sched m
      → fed_of (report_meant r m) l ≡ fed_of (report_meant r m) (Err k) → LineDone r l m m (refused_next r k)
  unfolding report_meant next_text answer_text no_switches
  refused-done k l c f h e =
      let g : Definition.Stage = stage_meant r.stage r.head (meant r.sched m) in
      record {
        report = refuses r.head (meant r.sched m) r.lines r.stage c ∙ sym (ap (λ (x : Definition.Fed). counting x.report) e);
        text = ap (λ (i : ℕ). refused_text i (refusal_number k)) (counts r.head (meant r.sched m) r.lines r.stage c) ∙ sym (ap (λ (x : Definition.Fed). x.out) e);
        held = refused-held r.sched m r.stage h;
        number = omega arith;
        listed = omega arith;
      }

  pub quiet_done : LineAsked r (Ok LineCases.Nothing) m → LineDone r (Ok LineCases.Nothing) m m (quiet_next r)
  unfolding report_meant next_text answer_text no_switches
  quiet_done a = record { report = rests r.head (meant r.sched m) r.lines r.stage a.fits; text = refl; held = a.held; number = omega arith; listed = omega arith }

  headed_done : (h : Heads.Head) → LineAsked r (Ok (LineCases.Head h)) m → LineDone r (Ok (LineCases.Head h)) m m (headed_next r h)
  unfolding report_meant next_text answer_text no_switches
  headed_done h a =
      record {
        report = ap (λ (i : ℕ). record { lines = i; stage = heads (head_meant h) }) (in-heads r.head (meant r.sched m) r.lines r.stage a.fits.0);
        text = refl;
        held = tt;
        number = omega arith;
        listed = omega arith;
      }

  -- the same of a line that is known to be one
  pub headed-left : (l : Result Line Refusal) (h : Heads.Head) (y : Next) → l ≡ Ok (LineCases.Head h) → y ≡ headed_next r h → LineAsked r l m → LineDone r l m m y
  headed-left l h y e q a = rw (e, q) (headed_done h (subst (λ (x : Result Line Refusal). LineAsked r x m) e a))

---- the scheduler is made

lanes_fit : (n : ℕ) → n ≤ 8 → lane_start 256 (core_count n) ≤ 4_176
unfolding core_count
lanes_fit zero h = omega arith
lanes_fit (suc n) h = omega arith

module _ (c : SchedConfig) (n : ℕ) (m : Memory) (roomy : Roomy m) where
  abbrev refused_by : Option ℕ
  refused_by = refused_new c.quantum c.switch_cost n 256 512 256

  long-enough : refused_by ≡ none → is_short report_capacities n (length m.threads) (length m.queue) (length m.prios) (length m.log) (length m.lanes) ≡ false
  unfolding is_short refused_new
  long-enough e =
      let few : n ≤ 8 = ltb-false 8 n (check-none 2 _ _ (check-rest 1 _ _ e)) in
      rw (le-ltb (length m.threads) 256 roomy.threads, le-ltb (length m.queue) 256 roomy.queue, le-ltb (length m.prios) 256 roomy.prios, le-ltb (length m.log) (2 * 512) roomy.log, le-ltb (length m.lanes) (lane_start 256 (core_count n)) (omega (arith, roomy.lanes, lanes_fit n few)))

  made-refused : (k : ℕ) → new_refusal c n report_capacities (length m.threads) (length m.queue) (length m.prios) (length m.log) (length m.lanes) ≡ some k → refused_by ≡ some k
  unfolding new_refusal check
  made-refused k e = go refused_by refl e
    where
      go : (o : Option ℕ) → refused_by ≡ o → or_refusal o (check 3 (is_short report_capacities n (length m.threads) (length m.queue) (length m.prios) (length m.log) (length m.lanes)) none) ≡ some k → o ≡ some k
      go (some x) q g = g
      go none q g = rw (long-enough q) at g

unchanged-is : (m m' : Memory) → Unchanged m m' → m' ≡ m
unchanged-is m m' u = λ i. record { threads = u.0 i; queue = u.1 i; prios = u.2 i; log = u.3 i; lanes = u.4 i }

module _ (r : Report) (c : SchedConfig) (n : ℕ) (m m' : Memory) where
  start-taken : (s : Sched) → r.stage ≡ StageCases.Heads → r.lines ≤ 1_000_000_000_000 → NewTaken c n report_capacities 0 m m' s
      → LineDone r (Ok (LineCases.Start c n)) m m' (answered_next r s (Ok tt))
  unfolding report_meant next_text answer_text begun created no_switches
  start-taken s e f t =
      record {
        report = ap (λ (i : ℕ). record { lines = i; stage = calls (meant s m') }) (in-heads r.head (meant r.sched m) r.lines r.stage e) ∙ sym (ap (λ (x : Calls.Made). counting (begun (suc (report_meant r m).lines) x).report) t.state);
        text = sym (ap (λ (x : Calls.Made). (begun (suc (report_meant r m).lines) x).out) t.state);
        held = t.valid;
        number = omega arith;
        listed = omega arith;
      }

  start-refused : (k : Refusal) → LineAsked r (Ok (LineCases.Start c n)) m → new_refusal c n report_capacities (length m.threads) (length m.queue) (length m.prios) (length m.log) (length m.lanes) ≡ some (refusal_number k)
      → LineDone r (Ok (LineCases.Start c n)) m m (refused_next r k)
  unfolding report_meant begun created new made_of
  start-refused k a e =
      refused-done r m k (Ok (LineCases.Start c n)) (subst Counts (sym a.fits.0) tt) a.fits.1 a.held
      (rw (made-refused c n m a.memory (refusal_number k) e, a.fits.0))

  pub start-done : (x : Created) → LineAsked r (Ok (LineCases.Start c n)) m → NewDone c n report_capacities 0 m m' x.sched x.answer
      → LineDone r (Ok (LineCases.Start c n)) m m' (created_next r x)
  start-done x a d = go x.answer refl
    where
      go : (y : Result Unit Refusal) → x.answer ≡ y → LineDone r (Ok (LineCases.Start c n)) m m' (answered_next r x.sched y)
      go (Ok tt) e = start-taken x.sched a.fits.0 a.fits.1 (d.taken (ap check_meant e))
      go (Err k) e =
          subst (λ (z : Memory). LineDone r (Ok (LineCases.Start c n)) m z (refused_next r k)) (sym (unchanged-is m m' (d.refused (refusal_number k) (ap check_meant e))))
          (start-refused k a (sym d.answer ∙ ap check_meant e))

---- a call is applied

step_in_lem : (g : Stage) (h : Heads.Head) (s : State) (n : ℕ) (c : Calls.Call) → g ≡ StageCases.Calls → step_in n (stage_meant g h s) c ≡ said n (step s c)
step_in_lem g h s n c e = rw e

stepped-report : (n m : ℕ) (s t : State) → n ≡ m → s ≡ t → ◌≡◌ {A = Definition.Report} (record { lines = n; stage = calls s }) (record { lines = m; stage = calls t })
stepped-report n m s t p q = λ i. record { lines = p i; stage = calls (q i) }

stepped-text : (n m : ℕ) (s t : State) (a b : Calls.Answer) → n ≡ m → s ≡ t → a ≡ b → answer_text n s.now a ≡ answer_text m t.now b
stepped-text n m s t a b p q w = λ i. answer_text (p i) (q i).now (w i)

pub call-done : (r : Report) (c : Call) (x : Applied) (m m' : Memory) → LineAsked r (Ok (LineCases.Call c)) m
    → DoneWith (call_meant c) (outcome_meant x.outcome x.switches) x.switches r.sched x.sched m m' → LineDone r (Ok (LineCases.Call c)) m m' (applied_next r x)
unfolding report_meant next_text said meant_at
call-done r c x m m' a t =
    let d = t.done in
    let s : State = meant r.sched m in
    let n : ℕ = suc (lines_in (stage_meant r.stage r.head s) r.lines) in
    let e : r.lines + 1 ≡ n = in-calls r.head s r.lines r.stage a.fits.0 in
    let k : step_in n (stage_meant r.stage r.head s) (call_meant c) ≡ said n (step s (call_meant c)) = step_in_lem r.stage r.head s n (call_meant c) a.fits.0 in
    record {
      report = stepped-report (r.lines + 1) n (meant x.sched m') (step s (call_meant c)).state e d.state ∙ sym (ap (λ (f : Definition.Fed). counting f.report) k);
      text = stepped-text (r.lines + 1) n (meant x.sched m') (step s (call_meant c)).state _ _ e d.state d.answer ∙ sym (ap (λ (f : Definition.Fed). f.out) k);
      held = d.valid;
      number = omega arith;
      listed = t.list.few;
    }

---- the whole line

few-in : (g : Stage) (h : Heads.Head) (s : State) (n : ℕ) → Kept (lines_in (stage_meant g h s) n) (stage_meant g h s) → Few g n
few-in StageCases.Heads h s n k = k
few-in StageCases.Calls h s n k = k.0
few-in StageCases.Ended h s n k = tt
few-in StageCases.Over h s n k = tt

kept-counting : (g : Definition.Stage) (n : ℕ) → Kept n g → Kept (lines_in g n) g
kept-counting (heads h) n k = k
kept-counting (calls s) n k = k
kept-counting (ended s) n k = k
kept-counting over n k = k

call-room : (c : Read Calls.Call) → call_room c ≤ 288
unfolding call_room allowance
call-room (bad k) = omega arith
call-room (good (Calls.spawn p e)) = omega arith
call-room (good (Calls.exit i)) = omega arith
call-room (good (Calls.join i t)) = omega arith
call-room (good (Calls.retired i)) = omega arith
call-room (good (Calls.yield i)) = omega arith
call-room (good (Calls.priority t n)) = omega arith
call-room (good (Calls.timing q w)) = omega arith
call-room (good (Calls.force i t)) = omega arith
call-room (good Calls.tick) = omega arith
call-room (good (Calls.close i)) = omega arith

line-room : (g : Definition.Stage) (o : Option (List ℕ)) → line_room g o ≤ 288
unfolding line_room
line-room (heads h) o = omega arith
line-room (calls s) none = omega arith
line-room (calls s) (some l) = call-room (call_line l)
line-room (ended s) o = omega arith
line-room over o = omega arith

module _ (r : Report) (line : List ℕ) (m : Memory) (v : ReportValid r m) where
  pub lines-few : Few r.stage r.lines
  unfolding report_meant
  lines-few = few-in r.stage r.head (meant r.sched m) r.lines v.kept

  pub line-asked : (l : Result Line Refusal) → Fits r l → LineAsked r l m
  line-asked l f = record { fits = f; memory = v.memory; held = v.held }

  abbrev d : Definition.Report
  d = report_meant r m

  module _ (l : Result Line Refusal) (m' : Memory) (x : Next) (e : feed d line ≡ fed_of d l) (k : LineDone r l m m' x) where
    same_text : next_text x ≡ (feed d line).out
    same_text = k.text ∙ sym (ap (λ (f : Definition.Fed). f.out) e)

    pub sayable : (b : List ℕ) → 288 ≤ length b → Sayable x b
    sayable b h =
        let w = feed-well d line v.kept in
        record { number = k.number; listed = k.listed; short = omega arith; long = rw same_text (omega (arith, w.fits, line-room d.stage (line_at (suc d.lines) line))) }

    pub feed-done : (b b' : List ℕ) (f : Fed) → Roomy m' → SaidAs x b b' f → FeedDone r line b b' m m' f
    feed-done b b' f roomy z =
        let w = feed-well d line v.kept in
        let same : report_meant f.report m' ≡ counting (feed d line).report =
        ap (λ (y : Report). report_meant y m') z.report ∙ k.report ∙ sym (ap (λ (y : Definition.Fed). counting y.report) e) in
        record {
          report = same;
          text = subst (λ (t : List ℕ). Put b 0 t b' f.written) same_text z.text;
          valid = record {
            kept = subst (λ (y : Definition.Report). Kept y.lines y.stage) (sym same) (kept-counting (feed d line).report.stage (feed d line).report.lines w.kept);
            memory = roomy;
            held = subst (λ (y : Report). Held y.stage y.sched m') (sym z.report) k.held;
          };
        }
