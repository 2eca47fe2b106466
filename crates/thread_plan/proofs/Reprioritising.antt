-- `set_priority`, taken.
use Prim.Native.Nat.{ℕ, ◌<◌}
use mathlib.Core.Path.{◌≡◌, refl, sym, ap, ap₂, ◌∙◌}
use mathlib.Core.Option.{none}
use mathlib.Core.List.{List, map}
use native.Mathlib.Omega.{arith}
use lib.ListN.{take, set, length-set}
use lib.Seq.{take-set-lt, drop-set-lt}
use borrow.Author.Tests.{leb-false}
use Rattle.model.specs.declared.ThreadInfo.{ThreadInfo}
use Rattle.model.specs.Types.{ThreadRecord, Event, Reprioritised, State}
use Rattle.model.specs.Phases.{update}
use Rattle.model.specs.Reading.{thread_meant}
use Rattle.model.specs.Accounting.{set_priority, logged}
use Rattle.model.specs.Calls.{Answer, ok, accept, priority}
use Rattle.model.proofs.Refusals.{check-none}
use Rattle.rings.specs.declared.RingPos.{RingPos}
use Rattle.records.specs.declared.change.Change.TheVariants as Changes
use Rattle.records.specs.Changes.{change_meant}
use Rattle.threads.specs.Slice.{threads_in}
use Rattle.state.specs.declared.Sched.{Sched}
use Rattle.state.specs.Memory.{memory}
use Rattle.state.specs.State.{meant_at, Valid}
use Rattle.state.specs.Done.{Done}
use Rattle.state.proofs.Doing.{done-taken}
use Rattle.checks.specs.Check.{priority_refusal}
use Rattle.checks.proofs.Refusals.{priority-refusal}
use Rattle.checks.proofs.Answers.{ok-unrefused}
use Rattle.updates.specs.Pending.{Pending}
use Rattle.thread_plan.specs.Logging.{Logged}
use Rattle.thread_plan.specs.Change.{with_log}
use Rattle.thread_plan.proofs.OneRecord.{in_use, rebuilt, Changed, changed-size, map-update}

pub priority-place : (s : Sched) (i : ℕ) → priority_refusal s i ≡ none → i < s.threads
unfolding priority_refusal
priority-place s i h = leb-false s.threads i (check-none 5 _ _ h)

module _ (s : Sched) (ts : List ThreadInfo) (qs ps ls ws : List ℕ) (v : Valid s (memory ts qs ps ls ws)) where
  abbrev M : State
  M = meant_at s ts qs ls ws

  module _ (i n : ℕ) (p : RingPos) (ls' : List ℕ) (h : priority_refusal s i ≡ none) (g : Logged s.capacities.events (record { tick = s.now.0; tid = i; kind = Reprioritised n }) ls ls' s.log p) (ts' : List ThreadInfo) (f : Changed i (set_priority n) ts ts') where
    l : i < s.threads
    l = priority-place s i h

    records : map thread_meant (take s.threads ts') ≡ update i (set_priority n) (map thread_meant (take s.threads ts))
    unfolding threads_in
    records = (f s.threads l).front

    state : meant_at (with_log p s) ts' qs ls' ws ≡ (accept M (priority i n)).state
    unfolding accept meant_at logged
    state = ap₂ (λ (t : List ThreadRecord) (e : List Event). rebuilt M M.cores M.queue t e) records g.events

    prios : take s.threads (set ps i n) ≡ map (λ (t : ThreadRecord). t.priority) (meant_at (with_log p s) ts' qs ls' ws).accounts.threads
    unfolding meant_at
    prios =
        take-set-lt s.threads ps i n l ∙ ap (λ (w : List ℕ). set w i n) v.priorities
        ∙ sym (ap (map (λ (t : ThreadRecord). t.priority)) records ∙ map-update (λ (t : ThreadRecord). t.priority) (set_priority n) n i (map thread_meant (take s.threads ts)) (λ t. refl))

    priority-done : (a : Answer) → a ≡ ok → Done (priority i n) a s (with_log p s) (memory ts qs ps ls ws) (memory ts' qs (set ps i n) ls' ws)
    unfolding accept
    priority-done a e =
        let z = v.sizes in
        done-taken (priority i n) s ts qs ps ls ws v a (with_log p s) ts' qs (set ps i n) ls' ws (priority-refusal s ts qs ls ws i n (in_use s ts qs ps ls ws v) ∙ h) state e (ok-unrefused a e)
        (record {
          cores = z.cores;
          in_use = z.in_use;
          waiting = z.waiting;
          threads = omega (arith, z.threads, changed-size i (set_priority n) ts ts' f);
          queue = z.queue;
          prios = simp length-set z.prios;
          log = omega (arith, z.log, g.size);
          lanes = z.lanes;
        })
        (record { eight = v.rings.eight; events = g.ok; segments = v.rings.segments }) v.marks v.words v.ticks prios
        (record { threads = (f s.threads l).rest; queue = refl; prios = drop-set-lt s.threads ps i n l; log = g.rest; lanes = refl; ticks = λ j k. refl; places = λ j k. refl })

  pub priority-taken :
      (i n : ℕ) (p : RingPos) (ls' : List ℕ) (a : Answer) → a ≡ ok → priority_refusal s i ≡ none → Logged s.capacities.events (record { tick = s.now.0; tid = i; kind = Reprioritised n }) ls ls' s.log p
      → Pending (priority i n) a s (with_log p s) i (Changes.Priority n) ts qs qs ps (set ps i n) ls ls' ws ws
  unfolding change_meant
  priority-taken i n p ls' a e h g =
      record {
        there = let k = priority-place s i h in let u = in_use s ts qs ps ls ws v in omega arith;
        fits = tt;
        done = λ ts' f. priority-done i n p ls' h g ts' f a e;
      }
