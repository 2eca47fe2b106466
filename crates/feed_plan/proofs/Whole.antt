-- Lines one after the other: what a loop over the lines of a script holds on to, from the first line to the end.
use Prim.Native.Nat.{ℕ}
use mathlib.Core.Path.{◌≡◌, refl, sym, ap, ◌∙◌}
use mathlib.Core.List.{List, [], ◌∷◌, ◌++◌}
use native.Mathlib.Omega.{arith}
use Rattle.settings.specs.Settings.{none_yet}
use Rattle.rcfg.specs.declared.Head as Heads
use Rattle.rcfg.specs.Reading.{head_meant}
use Rattle.state.specs.declared.Sched.{Sched}
use Rattle.state.specs.Memory.{Memory}
use Rattle.script.specs.Report.{heads, calls, ended, over, Stage, Report, feed, feeds, finish, whole}
use Rattle.script.proofs.Streams.{whole-step, whole-end, whole-over, whole-ended}
use Rattle.feed_plan.specs.declared.Report as Program
use Rattle.feed_plan.specs.declared.Stage.TheVariants as StageCases
use Rattle.feed_plan.specs.declared.Fed as Feds
use Rattle.feed_plan.specs.Meant.{counting, report_meant}
use Rattle.feed_plan.specs.Feeding.{Starts, FeedDone}

-- the count that is forgotten after the end is never printed
pub whole-counting : (n : ℕ) (g : Stage) (ls : List (List ℕ)) → whole (feeds (counting (record { lines = n; stage = g })) ls) ≡ whole (feeds (record { lines = n; stage = g }) ls)
whole-counting n (heads h) ls = refl
whole-counting n (calls s) ls = refl
whole-counting n (ended s) ls = whole-ended 0 s ls ∙ sym (whole-ended n s ls)
whole-counting n over ls = whole-over 0 ls ∙ sym (whole-over n ls)

-- a line fed, and the rest of the script from what it left
pub feed-whole : (r : Program.Report) (line b b' : List ℕ) (m m' : Memory) (f : Feds.Fed) → FeedDone r line b b' m m' f → (more : List (List ℕ))
    → whole (feeds (report_meant r m) (line ∷ more)) ≡ (feed (report_meant r m) line).out ++ whole (feeds (report_meant f.report m') more)
feed-whole r line b b' m m' f k more =
    let d : Report = report_meant r m in
    let e : Report = (feed d line).report in
    whole-step d line more ∙
    ap (λ (t : List ℕ). (feed d line).out ++ t) (sym (whole-counting e.lines e.stage more) ∙ sym (ap (λ (x : Report). whole (feeds x more)) k.report))

-- at the end
pub finish-whole : (r : Program.Report) (m : Memory) → whole (feeds (report_meant r m) []) ≡ finish (report_meant r m)
finish-whole r m = whole-end (report_meant r m)

-- before the first line
pub starts : (h : Heads.Head) (s : Sched) → head_meant h ≡ none_yet → Starts (record { lines = 0; stage = StageCases.Heads; head = h; sched = s })
unfolding report_meant
starts h s e = record { report = λ m. (λ i. record { lines = 0; stage = heads (e i) }); valid = λ m roomy. record { kept = omega arith; memory = roomy; held = tt } }
