-- `retired` and `set_timing`, taken.
use Prim.Native.Nat.{ℕ, ◌<◌, max}
use mathlib.Core.Path.{◌≡◌, refl, sym, ap, ◌∙◌, subst}
use mathlib.Core.Bool.{Bool, true, false}
use mathlib.Core.Option.{none}
use mathlib.Core.List.{List}
use native.Mathlib.Omega.{arith}
use lib.ListN.{length, set, length-set}
use lib.Seq.{get_or-set_same, get_or-set_other}
use borrow.Author.Tests.{leb-false}
use Rattle.settings.specs.declared.SchedConfig.{SchedConfig}
use Rattle.model.specs.declared.ThreadInfo.{ThreadInfo}
use Rattle.model.specs.Types.{Core}
use Rattle.model.specs.Phases.{update}
use Rattle.model.specs.Calls.{Answer, ok, accept, retired, timing, mark_progress, idle_core}
use Rattle.model.proofs.Refusals.{check-none}
use Rattle.state.specs.declared.Sched.{Sched}
use Rattle.state.specs.Memory.{memory}
use Rattle.state.specs.State.{firsts, core_from, states_of, meant_at, MarksOK, Valid}
use Rattle.state.specs.Done.{Done}
use Rattle.state.proofs.Doing.{done-taken}
use Rattle.checks.specs.Check.{retired_refusal, timing_refusal}
use Rattle.checks.proofs.Refusals.{retired-refusal, timing-refusal}
use Rattle.checks.proofs.Answers.{ok-unrefused}
use Rattle.sched_marks.specs.Change.{with_progressed, with_config}
use Rattle.sched_marks.proofs.Marking.{firsts-update}

pub retired-place : (s : Sched) (i : ℕ) → retired_refusal s i ≡ none → i < s.cores
unfolding retired_refusal
retired-place s i h = leb-false s.cores i (check-none 4 _ _ h)

module _ (s : Sched) (ts : List ThreadInfo) (qs ps ls ws : List ℕ) (v : Valid s (memory ts qs ps ls ws)) where
  retired-done : (i : ℕ) (a : Answer) → a ≡ ok → retired_refusal s i ≡ none → Done (retired i) a s (with_progressed (set s.marks.progressed i true) s) (memory ts qs ps ls ws) (memory ts qs ps ls ws)
  unfolding accept meant_at core_from
  retired-done i a e h =
      done-taken (retired i) s ts qs ps ls ws v a (with_progressed (set s.marks.progressed i true) s) ts qs ps ls ws (retired-refusal s ts qs ls ws i ∙ h)
      (ap (λ (cs : List Core). record { config = (meant_at s ts qs ls ws).config; cores = cs; queue = (meant_at s ts qs ls ws).queue; accounts = (meant_at s ts qs ls ws).accounts; now = s.now.0; closed = s.closed }) marked)
      e (ok-unrefused a e) v.sizes v.rings marks v.words v.ticks v.priorities
      (record { threads = refl; queue = refl; prios = refl; log = refl; lanes = refl; ticks = λ j k. refl; places = λ j k. refl })
    where
      l : i < s.cores
      l = retired-place s i h

      g : List Bool → ℕ → Core
      g p = core_from (states_of s.states) s.marks.exits s.marks.blocks s.marks.yields p

      n : i < length s.marks.progressed
      n = let a = v.marks.progressed in let b = v.sizes.cores in omega (arith, l)

      with-mark : ℕ → Bool → Core
      with-mark j b = record { state = (g s.marks.progressed j).state; exits = (g s.marks.progressed j).exits; blocks = (g s.marks.progressed j).blocks; yields = (g s.marks.progressed j).yields; progressed = b }

      marked : firsts (g (set s.marks.progressed i true)) s.cores ≡ update i mark_progress (firsts (g s.marks.progressed) s.cores)
      marked = firsts-update (g s.marks.progressed) (g (set s.marks.progressed i true)) mark_progress s.cores i idle_core l
          (ap (λ (b : Bool). with-mark i b) (get_or-set_same s.marks.progressed i true false n)) (λ j d. ap (λ (b : Bool). with-mark j b) (get_or-set_other s.marks.progressed i j true false d))

      marks : MarksOK s.cores (states_of s.states) (record s.marks { progressed = set s.marks.progressed i true })
      marks =
          let m = v.marks in
          record {
            exits = m.exits;
            blocks = m.blocks;
            yields = m.yields;
            progressed = simp length-set m.progressed;
            unused = λ j k. ap (λ (b : Bool). with-mark j b) (get_or-set_other s.marks.progressed i j true false (λ z. omega (arith, l))) ∙ m.unused j k;
          }

  pub retired-taken : (i : ℕ) (a : Answer) (marks : List Bool) → marks ≡ set s.marks.progressed i true → a ≡ ok → retired_refusal s i ≡ none → Done (retired i) a s (with_progressed marks s) (memory ts qs ps ls ws) (memory ts qs ps ls ws)
  retired-taken i a marks m e h = subst (λ (p : List Bool). Done (retired i) a s (with_progressed p s) (memory ts qs ps ls ws) (memory ts qs ps ls ws)) (sym m) (retired-done i a e h)

  pub timing-taken : (q w : ℕ) (k : SchedConfig) (a : Answer) → a ≡ ok → timing_refusal s q w ≡ none → k.policy ≡ s.config.policy → k.quantum ≡ max q 1 → k.switch_cost ≡ w → Done (timing q w) a s (with_config k s) (memory ts qs ps ls ws) (memory ts qs ps ls ws)
  unfolding accept meant_at
  timing-taken q w k a e h p t c =
      done-taken (timing q w) s ts qs ps ls ws v a (with_config k s) ts qs ps ls ws (timing-refusal s ts qs ls ws q w ∙ h)
      (rw (p, t, c))
      e (ok-unrefused a e) v.sizes v.rings v.marks v.words v.ticks v.priorities
      (record { threads = refl; queue = refl; prios = refl; log = refl; lanes = refl; ticks = λ j k. refl; places = λ j k. refl })
