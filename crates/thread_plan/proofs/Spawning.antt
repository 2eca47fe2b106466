-- `spawn`, taken.
use Rattle.std.specs.Prelude as Std
use Prim.Native.Nat.{ℕ, zero, suc, ◌+◌, ◌<◌, max}
use mathlib.Core.Path.{◌≡◌, refl, sym, ap, ap₂, ◌∙◌}
use mathlib.Core.Option.{Option, none, some}
use mathlib.Core.List.{List, ◌∷◌, ◌++◌, map, map-append, []}
use native.Mathlib.Numerals.{add-one}
use native.Mathlib.Omega.{arith}
use lib.ListN.{length, take, get_or, get_elem?, set, length-set}
use lib.Seq.{take-suc-set, drop-set-lt, length-take-le}
use borrow.Author.Tests.{leb-false}
use Rattle.model.specs.declared.Tid.{Tid}
use Rattle.model.specs.declared.Tick.{Tick}
use Rattle.model.specs.declared.ThreadInfo.{ThreadInfo}
use Rattle.model.specs.Types.{ThreadRecord, Spawned, State}
use Rattle.model.specs.Phases.{update}
use Rattle.model.specs.Reading.{thread_meant, option_tid_meant}
use Rattle.model.specs.Accounting.{born, logged, newest}
use Rattle.model.specs.Calls.{Answer, spawned, refused, accept, spawn, priority_of, parent_of}
use Rattle.model.proofs.Refusals.{check-none, check-rest}
use Rattle.model.proofs.Placement.{queue-fits}
use Rattle.rings.specs.declared.RingPos.{RingPos}
use Rattle.records.specs.declared.change.Change.TheVariants as Changes
use Rattle.records.specs.Changes.{change_meant}
use Rattle.threads.specs.Slice.{blank, threads_in}
use Rattle.threads.proofs.Slices.{threads-back, length-threads}
use Rattle.state.specs.declared.Sched.{Sched}
use Rattle.state.specs.Memory.{memory}
use Rattle.state.specs.State.{meant_at, Valid}
use Rattle.state.specs.Done.{Done}
use Rattle.state.proofs.Doing.{done-taken}
use Rattle.checks.specs.Check.{spawn_refusal}
use Rattle.checks.proofs.Refusals.{spawn-refusal}
use Rattle.updates.specs.Pending.{Pending}
use Rattle.thread_plan.specs.Logging.{Logged}
use Rattle.thread_plan.specs.Reads.{or_ten, child_priority}
use Rattle.thread_plan.specs.Change.{with_counts}
use Rattle.thread_plan.proofs.OneRecord.{in_use, rebuilt, Changed, changed-size}

---- the child's priority

pub child-at : (ps : List ℕ) (i : ℕ) → get_or ps i 10 ≡ or_ten (get_elem? ps i)
child-at [] i = refl
child-at (p ∷ ps) zero = refl
child-at (p ∷ ps) (suc i) = child-at ps i

child-of : (X : List ThreadRecord) (p : ℕ) → or_ten (get_elem? (map (λ (t : ThreadRecord). t.priority) X) p) ≡ priority_of 10 (get_elem? X p)
unfolding priority_of
child-of [] p = refl
child-of (t ∷ X) zero = refl
child-of (t ∷ X) (suc p) = child-of X p

child-is : (m : State) (p : Option ℕ) → child_priority p (map (λ (t : ThreadRecord). t.priority) m.accounts.threads) ≡ priority_of 10 (parent_of m p)
unfolding priority_of
child-is m none = refl
child-is m (some p) = child-of m.accounts.threads p

---- one more of each

update-back : {A : Type 0} (n : ℕ) (f : A → A) (xs : List A) (y : A) → length xs ≡ n → update n f (xs ++ (y ∷ [])) ≡ xs ++ (f y ∷ [])
unfolding update
update-back zero f [] y e = refl
update-back (suc n) f [] y e = absurd (omega arith)
update-back zero f (x ∷ xs) y e = absurd (omega arith)
update-back {A} (suc n) f (x ∷ xs) y e = ap (λ (l : List A). x ∷ l) (update-back n f xs y (omega arith))

pushed : (ws : List ℕ) (n w : ℕ) → n < length ws → take (n + 1) (set ws n w) ≡ take n ws ++ (w ∷ [])
pushed ws n w h = rw (add-one, take-suc-set ws n w h)

module _ (s : Sched) (ts : List ThreadInfo) (qs ps ls ws : List ℕ) (v : Valid s (memory ts qs ps ls ws)) (h : spawn_refusal s ≡ none) where
  abbrev M : State
  M = meant_at s ts qs ls ws

  pub spawn-room : s.threads < s.capacities.threads
  unfolding spawn_refusal
  spawn-room = leb-false s.capacities.threads s.threads (check-none 17 _ _ (check-rest 11 _ _ h))

  X : List ThreadRecord
  X = map thread_meant (take s.threads ts)

  long : length M.accounts.threads ≡ s.threads
  unfolding meant_at threads_in
  long = length-threads ts s.threads (in_use s ts qs ps ls ws v)

  waiting : length M.queue ≡ s.queued
  unfolding meant_at
  waiting = length-take-le s.queued qs (omega (arith, v.sizes.waiting, v.sizes.queue))

  pub queue-room : s.queued < s.capacities.threads
  queue-room = let a = queue-fits M v.bounded.placed in omega (arith, a, long, waiting, spawn-room)

  module _ (tid : Tid) (parent : Std.Option Tid) (entry prio : ℕ) (now : Tick) (p : RingPos) (ls' : List ℕ) (et : tid.0 ≡ s.threads) (en : now.0 ≡ s.now.0) (ep : prio ≡ child_priority (option_tid_meant parent) (take s.threads ps))
      (g : Logged s.capacities.events (record { tick = s.now.0; tid = s.threads; kind = Spawned (option_tid_meant parent) }) ls ls' s.log p) (ts' : List ThreadInfo)
      (f : Changed s.threads (change_meant (Changes.Born tid parent entry prio now)) ts ts') where
    abbrev child : ℕ → ℕ → ThreadRecord
    child t pr = born t (option_tid_meant parent) entry pr s.now.0

    abbrev s' : Sched
    s' = with_counts (s.threads + 1) (s.queued + 1) p s

    records : map thread_meant (take (s.threads + 1) ts') ≡ map thread_meant (take s.threads ts) ++ (child s.threads prio ∷ [])
    unfolding threads_in change_meant
    records =
        (f (s.threads + 1) (omega arith)).front
        ∙ ap (update s.threads (λ (t : ThreadRecord). born tid.0 (option_tid_meant parent) entry prio now.0)) (sym (threads-back ts s.threads (omega (arith, spawn-room, v.sizes.threads))))
        ∙ update-back s.threads (λ (t : ThreadRecord). born tid.0 (option_tid_meant parent) entry prio now.0) (map thread_meant (take s.threads ts)) (thread_meant (get_or ts s.threads blank)) (length-threads ts s.threads (in_use s ts qs ps ls ws v))
        ∙ ap₂ (λ (t n : ℕ). map thread_meant (take s.threads ts) ++ (born t (option_tid_meant parent) entry prio n ∷ [])) et en

    abbrev after : ℕ → ℕ → State
    after t pr =
        rebuilt M M.cores (M.queue ++ (t ∷ [])) (M.accounts.threads ++ (child t pr ∷ [])) (newest s.capacities.events (M.accounts.log ++ (record { tick = s.now.0; tid = t; kind = Spawned (option_tid_meant parent) } ∷ [])))

    prio-is : prio ≡ priority_of 10 (parent_of M (option_tid_meant parent))
    prio-is = ep ∙ ap (child_priority (option_tid_meant parent)) v.priorities ∙ child-is M (option_tid_meant parent)

    queue : take (s.queued + 1) (set qs s.queued s.threads) ≡ take s.queued qs ++ (s.threads ∷ [])
    queue = pushed qs s.queued s.threads (omega (arith, queue-room, v.sizes.queue))

    written : meant_at s' ts' (set qs s.queued s.threads) ls' ws ≡ after s.threads prio
    unfolding meant_at
    written = λ k. rebuilt M M.cores (queue k) (records k) (g.events k)

    state : meant_at s' ts' (set qs s.queued s.threads) ls' ws ≡ (accept M (spawn (option_tid_meant parent) entry)).state
    unfolding accept logged meant_at
    state = written ∙ ap₂ after (sym long) prio-is

    prios : take (s.threads + 1) (set ps s.threads prio) ≡ map (λ (t : ThreadRecord). t.priority) (meant_at s' ts' (set qs s.queued s.threads) ls' ws).accounts.threads
    unfolding meant_at born
    prios =
        pushed ps s.threads prio (omega (arith, spawn-room, v.sizes.prios)) ∙ ap (λ (l : List ℕ). l ++ (prio ∷ [])) v.priorities
        ∙ sym (ap (map (λ (t : ThreadRecord). t.priority)) records ∙ map-append (λ (t : ThreadRecord). t.priority) (map thread_meant (take s.threads ts)) (child s.threads prio ∷ []))

    unrefused : (a : Answer) → a ≡ spawned s.threads → (n : ℕ) → a ≡ refused n → ⊥
    unrefused a e n k = let z : ◌≡◌ {A = ℕ} 0 1 = cc in omega arith

    spawn-done : (a : Answer) → a ≡ spawned s.threads → Done (spawn (option_tid_meant parent) entry) a s s' (memory ts qs ps ls ws) (memory ts' (set qs s.queued s.threads) (set ps s.threads prio) ls' ws)
    unfolding accept
    spawn-done a e =
        let z = v.sizes in
        done-taken (spawn (option_tid_meant parent) entry) s ts qs ps ls ws v a s' ts' (set qs s.queued s.threads) (set ps s.threads prio) ls' ws (spawn-refusal s ts qs ls ws (option_tid_meant parent) entry (in_use s ts qs ps ls ws v) ∙ h) state
        (e ∙ ap spawned (sym long)) (unrefused a e)
        (record {
          cores = z.cores;
          in_use = omega (arith, spawn-room);
          waiting = omega (arith, queue-room);
          threads = omega (arith, z.threads, changed-size s.threads (change_meant (Changes.Born tid parent entry prio now)) ts ts' f);
          queue = simp length-set z.queue;
          prios = simp length-set z.prios;
          log = omega (arith, z.log, g.size);
          lanes = z.lanes;
        })
        (record { eight = v.rings.eight; events = g.ok; segments = v.rings.segments }) v.marks v.words v.ticks prios
        (record {
          threads = (f (s.threads + 1) (omega arith)).rest;
          queue = drop-set-lt (max s.queued (s.queued + 1)) qs s.queued s.threads (omega arith);
          prios = drop-set-lt (s.threads + 1) ps s.threads prio (omega arith);
          log = g.rest;
          lanes = refl;
          ticks = λ j k. refl;
          places = λ j k. refl;
        })

  pub spawn-taken :
      (tid : Tid) (parent : Std.Option Tid) (entry prio : ℕ) (now : Tick) (p : RingPos) (ls' : List ℕ) (a : Answer) → a ≡ spawned s.threads → tid.0 ≡ s.threads → now.0 ≡ s.now.0 → prio ≡ child_priority (option_tid_meant parent) (take s.threads ps)
      → Logged s.capacities.events (record { tick = s.now.0; tid = s.threads; kind = Spawned (option_tid_meant parent) }) ls ls' s.log p
      → Pending (spawn (option_tid_meant parent) entry) a s (with_counts (s.threads + 1) (s.queued + 1) p s) s.threads (Changes.Born tid parent entry prio now) ts qs (set qs s.queued s.threads) ps (set ps s.threads prio) ls ls' ws ws
  spawn-taken tid parent entry prio now p ls' a e et en ep g =
      record {
        there = omega (arith, spawn-room, v.sizes.threads);
        fits = tt;
        done = λ ts' f. spawn-done tid parent entry prio now p ls' et en ep g ts' f a e;
      }
