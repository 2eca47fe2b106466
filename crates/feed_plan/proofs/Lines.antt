-- What a line that was read says of the definition's `feed`: one law for each way that the program leaves.
use Rattle.std.specs.Prelude.{Ok, Err, Result}
use Rattle.std.specs.Result.{IsErrAnd}
use Prim.Native.Nat.{ℕ, suc, ◌-◌, ◌≤◌, ◌<◌}
use mathlib.Core.Path.{◌≡◌, subst, sym, ap}
use mathlib.Core.Logic.{◌⊎◌, inl, inr}
use mathlib.Core.Bool.{Bool, true, false, cond}
use mathlib.Core.Option.{Option, none, some}
use mathlib.Core.List.{List, []}
use native.Mathlib.Omega.{arith}
use borrow.Author.Tests.{le-leb, lt-leb}
use lib.Dec.{leb}
use lib.ListN.{length, take}
use Rattle.text.specs.Lines.{bad, good, line_of}
use Rattle.text.specs.Searches.{line_if}
use Rattle.text.proofs.Trimming.{line-some}
use Rattle.settings.specs.Settings.{Settings, Head}
use Rattle.settings.specs.declared.Refusal.{Refusal}
use Rattle.rcfg.specs.Reading.{head_meant}
use Rattle.model.specs.Types.{State}
use Rattle.model.specs.Calls.{Call, step}
use Rattle.script.specs.Script.{more, done, head_line, call_line}
use Rattle.script.specs.Report.{heads, calls, ended, over, at, refused_text, created, begun, headed, said, called, fed, limit_lines, line_at, feed}
use Rattle.feed_plan.specs.declared.Stage.{Stage}
use Rattle.feed_plan.specs.declared.Stage.TheVariants as StageCases
use Rattle.feed_plan.specs.declared.Report.{Report}
use Rattle.feed_plan.specs.declared.Line.{Line}
use Rattle.feed_plan.specs.declared.Line.TheVariants as LineCases
use Rattle.feed_plan.specs.Meant.{report_at, Few}
use Rattle.feed_plan.specs.Feeding.{LineRead}
use Rattle.feed_plan.specs.Steps.{fed_by, fed_of, Fits, Counts, Rests, HeadSays, CallSays}

---- a refusal that is handed on

pub handed : (x : Result Line Refusal) (k : Refusal) → IsErrAnd x (λ y. y ≡ k) → x ≡ Err k
handed (Ok l) k h = absurd h
handed (Err y) k h = ap Err h

---- the lines that are read

pub line_beyond : (n : ℕ) (l : List ℕ) → 1_000_000_000_000 ≤ n → line_at (suc n) l ≡ line_if false l
unfolding line_at limit_lines line_if
line_beyond n l h = rw (lt-leb (suc n) 1_000_000_000_000 (omega arith))

pub line_within : (n : ℕ) (l : List ℕ) → n < 1_000_000_000_000 → line_at (suc n) l ≡ line_of l
unfolding line_at limit_lines
line_within n l h = rw (le-leb (suc n) 1_000_000_000_000 (omega arith))

pub line-there : (n : ℕ) (l : List ℕ) (r : Bool) → line_at n l ≡ line_if r l → r ≡ true → 0 < length l
unfolding line_at line_if
line-there n l r e q = go (leb n limit_lines) (sym e)
  where
    go : (t : Bool) → line_if r l ≡ cond t (line_of l) none → 0 < length l
    go true k = line-some l r q (sym k)
    go false k = let f : ◌≡◌ {A = Option (List ℕ)} (some (take (length l - 1) l)) none = rw q at k in let z : ◌≡◌ {A = ℕ} 0 1 = cc in absurd (omega arith)

---- a line up to `cores=`

module _ (n : ℕ) (h : Head) (l : List ℕ) (r : Bool) (e : line_at n l ≡ line_if r l) where
  pub head-unread : r ≡ false → (k : ℕ) → fed k (heads h) (line_at n l) ≡ at k over (refused_text k 6)
  unfolding fed headed line_if
  head-unread q k = rw (e, q)

  module _ (q : r ≡ true) where
    pub head-refused : (m : ℕ) → head_line h (take (length l - 1) l) ≡ bad m → (k : ℕ) → fed k (heads h) (line_at n l) ≡ at k over (refused_text k m)
    unfolding fed headed line_if
    head-refused m g k = rw (e, q, g)

    pub head_more : (x : Head) → head_line h (take (length l - 1) l) ≡ good (more x) → (k : ℕ) → fed k (heads h) (line_at n l) ≡ at k (heads x) []
    unfolding fed headed line_if
    head_more x g k = rw (e, q, g)

    pub head_done : (c : Settings) (m : ℕ) → head_line h (take (length l - 1) l) ≡ good (done c m) → (k : ℕ) → fed k (heads h) (line_at n l) ≡ begun k (created c m)
    unfolding fed headed line_if
    head_done c m g k = rw (e, q, g)

---- a call line

module _ (n : ℕ) (l : List ℕ) (r : Bool) (e : line_at n l ≡ line_if r l) where
  pub call-unread : r ≡ false → (k : ℕ) (s : State) → fed k (calls s) (line_at n l) ≡ at k (ended s) (refused_text k 6)
  unfolding fed called line_if
  call-unread q k s = rw (e, q)

  module _ (q : r ≡ true) where
    pub call-refused : (m : ℕ) → call_line (take (length l - 1) l) ≡ bad m → (k : ℕ) (s : State) → fed k (calls s) (line_at n l) ≡ at k (ended s) (refused_text k m)
    unfolding fed called line_if
    call-refused m g k s = rw (e, q, g)

    pub call-good : (c : Call) → call_line (take (length l - 1) l) ≡ good c → (k : ℕ) (s : State) → fed k (calls s) (line_at n l) ≡ said k (step s c)
    unfolding fed called line_if
    call-good c g k s = rw (e, q, g)

---- in the report's stage

module _ (r : Report) (piece : List ℕ) (l : Result Line Refusal) where
  pub heads-feed : r.stage ≡ StageCases.Heads → ((n : ℕ) → fed n (heads (head_meant r.head)) (line_at (suc r.lines) piece) ≡ fed_by n (heads (head_meant r.head)) l) → (s : State) → feed (report_at r s) piece ≡ fed_of (report_at r s) l
  unfolding feed
  heads-feed e h s = rw e (h (suc r.lines))

  pub calls-feed : r.stage ≡ StageCases.Calls → ((n : ℕ) (s : State) → fed n (calls s) (line_at (suc r.lines) piece) ≡ fed_by n (calls s) l) → (s : State) → feed (report_at r s) piece ≡ fed_of (report_at r s) l
  unfolding feed
  calls-feed e h s = rw e (h (suc r.lines) s)

pub rests-read : (r : Report) (piece : List ℕ) → (r.stage ≡ StageCases.Ended) ⊎ (r.stage ≡ StageCases.Over) → LineRead r piece (Ok LineCases.Nothing)
unfolding feed fed
rests-read r piece (inl e) = record { says = λ s. rw e; fits = subst Rests (sym e) tt }
rests-read r piece (inr e) = record { says = λ s. rw e; fits = subst Rests (sym e) tt }

few-heads : (g : Stage) (n : ℕ) → g ≡ StageCases.Heads → Few g n → n ≤ 1_000_000_000_000
few-heads g n e h = subst (λ (x : Stage). Few x n) e h

few-calls : (g : Stage) (n : ℕ) → g ≡ StageCases.Calls → Few g n → n ≤ 1_000_000_000_000
few-calls g n e h = subst (λ (x : Stage). Few x n) e h

pub heads-fit : (r : Report) (l : Result Line Refusal) → r.stage ≡ StageCases.Heads → Few r.stage r.lines → HeadSays l → Fits r l
heads-fit r (Err k) e f h = (subst Counts (sym e) tt, few-heads r.stage r.lines e f)
heads-fit r (Ok LineCases.Nothing) e f h = absurd h
heads-fit r (Ok (LineCases.Head x)) e f h = (e, few-heads r.stage r.lines e f)
heads-fit r (Ok (LineCases.Start c n)) e f h = (e, few-heads r.stage r.lines e f)
heads-fit r (Ok (LineCases.Call c)) e f h = absurd h

pub calls-fit : (r : Report) (l : Result Line Refusal) → r.stage ≡ StageCases.Calls → Few r.stage r.lines → CallSays l → Fits r l
calls-fit r (Err k) e f h = (subst Counts (sym e) tt, few-calls r.stage r.lines e f)
calls-fit r (Ok LineCases.Nothing) e f h = absurd h
calls-fit r (Ok (LineCases.Head x)) e f h = absurd h
calls-fit r (Ok (LineCases.Start c n)) e f h = absurd h
calls-fit r (Ok (LineCases.Call c)) e f h = (e, few-calls r.stage r.lines e f)
