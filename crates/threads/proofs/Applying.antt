-- What the first k moves make of the slice.
use Prim.Native.Nat.{ℕ, zero, suc, ◌+◌, ◌<◌, ◌≤◌}
use mathlib.Core.Path.{◌≡◌, refl, sym, ap, subst, ◌∙◌}
use mathlib.Core.List.{List, [], ◌∷◌, ◌++◌, map-append}
use native.Mathlib.Nat.{le_refl}
use native.Mathlib.Numerals.{add-one}
use native.Mathlib.Omega.{arith}
use mathlib.Core.Bool.{Bool, true, false}
use borrow.Author.Tests.{eqb-true, eqb-false}
use lib.Dec.{eqb}
use lib.ListN.{length, get_or, set, take, length-set}
use Rattle.std.proofs.lemmas.List.{get_or_default}
use lib.Seq.{take-suc, get_or-take, get_or-set_same, get_or-set_other}
use Rattle.model.specs.declared.ThreadInfo.{ThreadInfo}
use Rattle.model.specs.Types.{LeaveReason, Exit, Block, Yield, Quantum, Preempt, Forced, Move, starts, leaves, takes, ThreadRecord}
use Rattle.model.specs.Phases
use Rattle.model.specs.Accounting.{add_counts, started, record_leave, record_dispatch, left}
use Rattle.model.specs.Reading.{thread_meant}
use Rattle.record_moves.specs.Moves.{decode, moves_in, move_tid, moved_thread, moved_threads, MoveRoom}
use Rattle.threads.specs.Slice.{blank, threads_in, Front, tid_at, MovesFit}
use Rattle.threads.proofs.Slices.{changed_by, is-changed, changed-meant, front-set, length-update}

-- the record of move k's thread in the list ts, after the move
unfoldable pub moved_once : (now : ℕ) (moves : List ℕ) (k : ℕ) → List ThreadInfo → ThreadInfo
moved_once now moves k ts = changed_by (moved_thread now (decode (get_or moves k 0))) (get_or ts (tid_at moves k) blank)

-- the slice after the first k moves
unfoldable pub moved_by : (now : ℕ) (moves : List ℕ) (k : ℕ) → List ThreadInfo → List ThreadInfo
moved_by now moves zero ts = ts
moved_by now moves (suc k) ts = set (moved_by now moves k ts) (tid_at moves k) (moved_once now moves k (moved_by now moves k ts))

module _ (now : ℕ) (moves : List ℕ) (ts : List ThreadInfo) where
  pub moved-zero : moved_by now moves 0 ts ≡ ts
  unfolding moved_by
  moved-zero = refl

  pub moved-next : (k : ℕ) → set (moved_by now moves k ts) (tid_at moves k) (moved_once now moves k (moved_by now moves k ts)) ≡ moved_by now moves (k + 1) ts
  unfolding moved_by
  moved-next k = rw add-one

  pub length_moved : (k : ℕ) → length (moved_by now moves k ts) ≡ length ts
  unfolding moved_by
  length_moved zero = refl
  length_moved (suc k) = length-set (moved_by now moves k ts) (tid_at moves k) (moved_once now moves k (moved_by now moves k ts)) ∙ length_moved k

once : (now : ℕ) (moves : List ℕ) (k : ℕ) (ts : List ThreadInfo) → changed_by (moved_thread now (decode (get_or moves k 0))) (get_or ts (tid_at moves k) blank) ≡ moved_once now moves k ts
unfolding moved_once
once now moves k ts = refl

pub is-once : (now : ℕ) (moves : List ℕ) (k : ℕ) (ts : List ThreadInfo) (r : ThreadInfo) → thread_meant r ≡ moved_thread now (decode (get_or moves k 0)) (thread_meant (get_or ts (tid_at moves k) blank)) → r ≡ moved_once now moves k ts
unfolding moved_once
is-once now moves k ts r e = is-changed (moved_thread now (decode (get_or moves k 0))) (get_or ts (tid_at moves k) blank) r e

moves_more : (now : ℕ) (ms : List Move) (m : Move) (ts : List ThreadRecord) → moved_threads now (ms ++ (m ∷ [])) ts ≡ Phases.update (move_tid m) (moved_thread now m) (moved_threads now ms ts)
unfolding moved_threads
moves_more now [] m ts = refl
moves_more now (h ∷ ms) m ts = moves_more now ms m (Phases.update (move_tid h) (moved_thread now h) ts)

moves-snoc : (moves : List ℕ) (k : ℕ) → k < length moves → moves_in moves (suc k) ≡ moves_in moves k ++ (decode (get_or moves k 0) ∷ [])
unfolding moves_in
moves-snoc moves k h = rw (take-suc moves k 0 h) (map-append decode (take k moves) (get_or moves k 0 ∷ []))

-- the threads that the first k moves are about are among the first n
pub front-moved : (now : ℕ) (moves : List ℕ) (ts : List ThreadInfo) (n k : ℕ) → k ≤ length moves → ((j : ℕ) → j < k → tid_at moves j < length ts) → ((j : ℕ) → j < k → tid_at moves j < n)
    → Front n (moved_threads now (moves_in moves k) (threads_in ts n)) ts (moved_by now moves k ts)
unfolding moved_by moves_in moved_threads
front-moved now moves ts n zero h known few = record { front = refl; rest = refl }
front-moved now moves ts n (suc k) h known few =
    let was : Front n (moved_threads now (moves_in moves k) (threads_in ts n)) ts (moved_by now moves k ts) = front-moved now moves ts n k (omega arith) (λ j l. known j (omega arith)) (λ j l. few j (omega arith)) in
    let there : tid_at moves k < length (moved_by now moves k ts) = subst (λ (m : ℕ). tid_at moves k < m) (sym (length_moved now moves ts k)) (known k (le_refl (suc k))) in
    let step : Front n (Phases.update (tid_at moves k) (moved_thread now (decode (get_or moves k 0))) (threads_in (moved_by now moves k ts) n)) (moved_by now moves k ts) (set (moved_by now moves k ts) (tid_at moves k) (moved_once now moves k (moved_by now moves k ts))) =
    stepped there in
    record {
      front =
          step.front ∙ ap (Phases.update (tid_at moves k) (moved_thread now (decode (get_or moves k 0)))) was.front
          ∙ sym (ap (λ (ms : List Move). moved_threads now ms (threads_in ts n)) (moves-snoc moves k h) ∙ moves_more now (moves_in moves k) (decode (get_or moves k 0)) (threads_in ts n));
      rest = step.rest ∙ was.rest;
    }
  where
    stepped : tid_at moves k < length (moved_by now moves k ts) → Front n (Phases.update (tid_at moves k) (moved_thread now (decode (get_or moves k 0))) (threads_in (moved_by now moves k ts) n)) (moved_by now moves k ts) (set (moved_by now moves k ts) (tid_at moves k) (moved_once now moves k (moved_by now moves k ts)))
    stepped there = subst (λ (z : ThreadInfo). Front n (Phases.update (tid_at moves k) (moved_thread now (decode (get_or moves k 0))) (threads_in (moved_by now moves k ts) n)) (moved_by now moves k ts) (set (moved_by now moves k ts) (tid_at moves k) z)) (once now moves k (moved_by now moves k ts)) (front-set (moved_thread now (decode (get_or moves k 0))) (tid_at moves k) (moved_by now moves k ts) there n (few k (le_refl (suc k))))

pub length-moved_threads : (now : ℕ) (ms : List Move) (ts : List ThreadRecord) → length (moved_threads now ms ts) ≡ length ts
unfolding moved_threads
length-moved_threads now [] ts = refl
length-moved_threads now (m ∷ ms) ts = length-moved_threads now ms (Phases.update (move_tid m) (moved_thread now m) ts) ∙ length-update (move_tid m) (moved_thread now m) ts

---- the counters

fewer : (j k : ℕ) → j ≤ k → (t : ThreadRecord) → MoveRoom k t → MoveRoom j t
fewer j k h t g = record { dispatches = omega (arith, g.dispatches); preemptions = omega (arith, g.preemptions) }

-- a leave adds at most one preemption
left-room : (j : ℕ) (why : LeaveReason) (t : ThreadRecord) → MoveRoom (suc j) t → MoveRoom j (left why t)
unfolding left add_counts
left-room j Exit t g = fewer j (suc j) (omega arith) t g
left-room j Block t g = fewer j (suc j) (omega arith) t g
left-room j Yield t g = record { dispatches = omega (arith, g.dispatches); preemptions = omega (arith, g.preemptions) }
left-room j Quantum t g = record { dispatches = omega (arith, g.dispatches); preemptions = omega (arith, g.preemptions) }
left-room j Preempt t g = record { dispatches = omega (arith, g.dispatches); preemptions = omega (arith, g.preemptions) }
left-room j Forced t g = record { dispatches = omega (arith, g.dispatches); preemptions = omega (arith, g.preemptions) }

moved-room : (now j : ℕ) (m : Move) (t : ThreadRecord) → MoveRoom (suc j) t → MoveRoom j (moved_thread now m t)
unfolding moved_thread started record_leave record_dispatch add_counts
moved-room now j (starts u) t g = record { dispatches = omega (arith, g.dispatches); preemptions = omega (arith, g.preemptions) }
moved-room now j (leaves u i why) t g = let l : MoveRoom j (left why t) = left-room j why t g in record { dispatches = l.dispatches; preemptions = l.preemptions }
moved-room now j (takes u i) t g = record { dispatches = omega (arith, g.dispatches); preemptions = omega (arith, g.preemptions) }

-- a list with one record replaced has the record at i that it had, or the new one
set-or : (P : ThreadInfo → Type 0) (l : List ThreadInfo) (at i : ℕ) (z : ThreadInfo) → at < length l → P (get_or l i blank) → (at ≡ i → P z) → P (get_or (set l at z) i blank)
set-or P l at i z h was new = by-test (eqb at i) refl
  where
    by-test : (b : Bool) → eqb at i ≡ b → P (get_or (set l at z) i blank)
    by-test true e = let same : at ≡ i = eqb-true at i e in subst (λ (k : ℕ). P (get_or (set l at z) k blank)) same (subst P (sym (get_or-set_same l at z blank h)) (new same))
    by-test false e = subst P (sym (get_or-set_other l at i z blank (λ q. eqb-false at i e (sym q)))) was

-- after k moves a record that had room for k and j more has room for j
pub moved-still : (now : ℕ) (moves : List ℕ) (ts : List ThreadInfo) (i k j : ℕ) → ((m : ℕ) → m < k → tid_at moves m < length ts) → MoveRoom (k + j) (thread_meant (get_or ts i blank))
    → MoveRoom j (thread_meant (get_or (moved_by now moves k ts) i blank))
unfolding moved_by
moved-still now moves ts i zero j known g = fewer j (0 + j) (omega arith) (thread_meant (get_or ts i blank)) g
moved-still now moves ts i (suc k) j known g =
    let more : MoveRoom (suc j) (thread_meant (get_or (moved_by now moves k ts) i blank)) = moved-still now moves ts i k (suc j) (λ m l. known m (omega arith)) (fewer (k + suc j) (suc k + j) (omega arith) (thread_meant (get_or ts i blank)) g) in
    set-or (λ (t : ThreadInfo). MoveRoom j (thread_meant t)) (moved_by now moves k ts) (tid_at moves k) i (moved_once now moves k (moved_by now moves k ts))
    (subst (λ (m : ℕ). tid_at moves k < m) (sym (length_moved now moves ts k)) (known k (le_refl (suc k))))
    (fewer j (suc j) (omega arith) _ more)
    (λ same. subst (λ (t : ThreadInfo). MoveRoom j (thread_meant t)) (once now moves k (moved_by now moves k ts)) (
    subst (MoveRoom j) (sym (changed-meant (moved_thread now (decode (get_or moves k 0))) (get_or (moved_by now moves k ts) (tid_at moves k) blank)))
    (moved-room now j (decode (get_or moves k 0)) (thread_meant (get_or (moved_by now moves k ts) (tid_at moves k) blank)) (subst (λ (m : ℕ). MoveRoom (suc j) (thread_meant (get_or (moved_by now moves k ts) m blank))) (sym same) more))
    ))

-- the record that move k changes has room for it
pub turn-room : (now : ℕ) (moves : List ℕ) (ts : List ThreadInfo) (count k : ℕ) → k < count → MovesFit ts moves count → MoveRoom 1 (thread_meant (get_or (moved_by now moves k ts) (tid_at moves k) blank))
turn-room now moves ts count k h fit = moved-still now moves ts (tid_at moves k) k 1 (λ m l. fit.known m (omega arith)) (fewer (k + 1) count (omega arith) (thread_meant (get_or ts (tid_at moves k) blank)) (fit.room k h))

---- a turn of the loop: move k of the first `count` is about record i of the list so far

module _ (now : ℕ) (moves : List ℕ) (ts l : List ThreadInfo) (count k i : ℕ) (d : ThreadInfo) (h : k < count) (fit : MovesFit ts moves count) (reads : i ≡ move_tid (decode (get_or (take count moves) k 0))) (e : l ≡ moved_by now moves k ts) where
  word : get_or (take count moves) k 0 ≡ get_or moves k 0
  word = get_or-take count moves k 0 h

  at : i ≡ tid_at moves k
  at = reads ∙ ap (λ (w : ℕ). move_tid (decode w)) word

  there : i < length l
  there = rw (e, length_moved now moves ts k, at) (fit.known k h)

  same : get_or l i d ≡ get_or (moved_by now moves k ts) (tid_at moves k) blank
  same = get_or_default l i d blank there ∙ (ap (λ (x : List ThreadInfo). get_or x i blank) e ∙ ap (λ (j : ℕ). get_or (moved_by now moves k ts) j blank) at)

  pub turn-fits : MoveRoom 1 (thread_meant (get_or l i d))
  turn-fits = subst (λ (t : ThreadInfo). MoveRoom 1 (thread_meant t)) (sym same) (turn-room now moves ts count k h fit)

  pub turn-moved : (z : ThreadInfo) → thread_meant z ≡ moved_thread now (decode (get_or (take count moves) k 0)) (thread_meant (get_or l i d)) → set l i z ≡ moved_by now moves (k + 1) ts
  turn-moved z made =
      let z-is : z ≡ moved_once now moves k (moved_by now moves k ts) = is-once now moves k (moved_by now moves k ts) z (made ∙ rw (word, same)) in
      rw (e, at, z-is) (moved-next now moves ts k)

pub all-moved : (now : ℕ) (moves : List ℕ) (ts l : List ThreadInfo) (count k : ℕ) → k ≡ count → MovesFit ts moves count → l ≡ moved_by now moves k ts
    → (n : ℕ) → ((j : ℕ) → j < count → tid_at moves j < n) → Front n (moved_threads now (moves_in moves count) (threads_in ts n)) ts l
all-moved now moves ts l count k end fit e n few = rw (e, end) (front-moved now moves ts n count fit.within fit.known few)
