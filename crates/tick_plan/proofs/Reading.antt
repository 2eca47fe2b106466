-- What the program's memory says of cores, priorities and thread records, in the definition's words.
use Prim.Native.Nat.{ℕ, zero, suc, ◌+◌, ◌-◌, ◌*◌, ◌<◌, ◌≤◌}
use mathlib.Core.Path.{◌≡◌, refl, sym, ap, ◌∙◌}
use mathlib.Core.Bool.{Bool, true, false, cond}
use mathlib.Core.List.{List, [], ◌∷◌, ◌++◌, map, map-append, append_assoc, append-nil}
use native.Mathlib.Omega.{arith}
use native.Mathlib.Nat.{add-zero}
use native.Mathlib.Numerals.{add-one}
use lib.ListN.{length, take, drop, get_or, get_elem?, replicate, length-map, length-take, length-drop, replicate-append-replicate}
use lib.Seq.{drop-drop, length-take-le}
use Rattle.model.specs.Invariants.{All, CoreStateIn}
use Rattle.model.specs.declared.CoreState.TheVariants as CoreStateCases
use Rattle.model.specs.declared.ThreadInfo.{ThreadInfo}
use Rattle.model.specs.Types.{CoreState, Idle, Switching, Running, LeaveReason, Exit, Block, Yield, Quantum, Preempt, Forced, Core, Move, starts, leaves, takes, ThreadState, Ready, Exited, OnCore, Blocked, ThreadRecord}
use Rattle.model.specs.Phases.{update}
use Rattle.model.specs.Accounting.{add_counts, started, left, record_leave, record_dispatch, runs, holds, charge_waiting, charge_threads, takes_in}
use Rattle.model.specs.Calls.{priority_of, idle_core}
use Rattle.model.specs.Reading.{core_state_meant, thread_meant}
use Rattle.queue.specs.Words.{decode, moves_in}
use Rattle.turns.specs.Turns.{Short}
use Rattle.record_moves.specs.Moves.{move_tid, moved_thread, moved_threads}
use Rattle.charges.specs.Charging.{cores_meant}
use Rattle.charges.proofs.Charging.{charge-cores}
use Rattle.threads.specs.Slice.{threads_in, Front, tid_at}
use Rattle.state.specs.declared.Eight.{Eight}
use Rattle.state.specs.State.{firsts, core_from, states_of, lane_words}
use Rattle.tick_plan.proofs.Range.{MovesIn}

---- lists

pub all_list : (P : Core → Type 0) (cs : List Core) → All P cs → All P cs
all_list P [] a = tt
all_list P (c ∷ cs) a = (a.0, all_list P cs a.1)

module _ {A : Type 0} where
  firsts-add : (f : ℕ → A) (n k : ℕ) → firsts f (n + k) ≡ firsts f n ++ firsts (λ i. f (n + i)) k
  unfolding firsts
  firsts-add f n zero = rw add-zero (sym (append-nil (firsts f n)))
  firsts-add f n (suc k) = ap (firsts f) (next n k) ∙ ap (λ (l : List A). l ++ (f (n + k) ∷ [])) (firsts-add f n k) ∙ append_assoc (firsts f n) (firsts (λ i. f (n + i)) k) (f (n + k) ∷ [])
    where
      next : (n k : ℕ) → n + suc k ≡ suc (n + k)
      next n k = omega arith

  firsts-all-same : (f : ℕ → A) (a : A) (k : ℕ) → ((i : ℕ) → f i ≡ a) → firsts f k ≡ replicate k a
  unfolding firsts
  firsts-all-same f a zero e = refl
  firsts-all-same f a (suc k) e = rw (firsts-all-same f a k e, e k) (replicate-append-replicate k 1 a ∙ ap (λ (n : ℕ). replicate n a) (add-one k))

pub map-firsts : {A B : Type 0} (h : A → B) (g : ℕ → A) (n : ℕ) → map h (firsts g n) ≡ firsts (λ i. h (g i)) n
unfolding firsts
map-firsts h g zero = refl
map-firsts h g (suc n) = map-append h (firsts g n) (g n ∷ []) ∙ ap (λ (l : List _). l ++ (h (g n) ∷ [])) (map-firsts h g n)

---- the cores

pub short-in : (now : ℕ) → now ≤ 4_000_000_000 → (c : CoreState) → CoreStateIn now c → Short c
short-in now l Idle h = tt
short-in now l (Switching t k) h = tt
short-in now l (Running t k) h = omega arith

module _ (e : Eight) (ex bl yi pr : List Bool) (n : ℕ) (few : n ≤ 8) (unused : (i : ℕ) → n ≤ i → core_from (states_of e) ex bl yi pr i ≡ idle_core) where
  abbrev state_at : ℕ → CoreState
  state_at i = core_state_meant (get_or (states_of e) i CoreStateCases.Idle)

  all-eight : map core_state_meant (states_of e) ≡ firsts state_at 8
  unfolding firsts
  all-eight = refl

  idle-behind : (i : ℕ) → state_at (n + i) ≡ Idle
  unfolding core_from
  idle-behind i = ap (λ (c : Core). c.state) (unused (n + i) (omega arith))

  states-idle : map core_state_meant (states_of e) ≡ map (λ c. c.state) (firsts (core_from (states_of e) ex bl yi pr) n) ++ replicate (8 - n) Idle
  unfolding core_from
  states-idle =
      let k : 8 ≡ n + (8 - n) = omega arith in
      all-eight ∙ ap (firsts state_at) k ∙ firsts-add state_at n (8 - n)
      ∙ ap (λ (l : List CoreState). firsts state_at n ++ l) (firsts-all-same (λ i. state_at (n + i)) Idle (8 - n) idle-behind)
      ∙ ap (λ (l : List CoreState). l ++ replicate (8 - n) Idle) (sym (map-firsts (λ (c : Core). c.state) (core_from (states_of e) ex bl yi pr) n))

  -- charging by the array of eight is charging by the cores in use
  pub charge-used : (ts : List ThreadRecord) → charge_threads (cores_meant (states_of e)) 0 ts ≡ charge_threads (firsts (core_from (states_of e) ex bl yi pr) n) 0 ts
  charge-used ts = charge-cores (states_of e) (firsts (core_from (states_of e) ex bl yi pr) n) (8 - n) states-idle ts

---- the priorities

abbrev pub priorities_of : List ThreadRecord → List ℕ
priorities_of ts = map (λ (t : ThreadRecord). t.priority) ts

pub priority-at : (ts : List ThreadRecord) (t : ℕ) → priority_of 0 (get_elem? ts t) ≡ get_or (priorities_of ts) t 0
unfolding priority_of
priority-at [] t = refl
priority-at (x ∷ ts) zero = refl
priority-at (x ∷ ts) (suc t) = priority-at ts t

priority-update : (f : ThreadRecord → ThreadRecord) → ((t : ThreadRecord) → (f t).priority ≡ t.priority) → (i : ℕ) (ts : List ThreadRecord) → priorities_of (update i f ts) ≡ priorities_of ts
unfolding update
priority-update f e i [] = refl
priority-update f e zero (t ∷ ts) = ap (λ (n : ℕ). n ∷ priorities_of ts) (e t)
priority-update f e (suc i) (t ∷ ts) = ap (λ (l : List ℕ). t.priority ∷ l) (priority-update f e i ts)

priority-left : (now i : ℕ) (r : LeaveReason) (t : ThreadRecord) → (record_leave now i r t).priority ≡ t.priority
unfolding record_leave left add_counts
priority-left now i Exit t = refl
priority-left now i Block t = refl
priority-left now i Yield t = refl
priority-left now i Quantum t = refl
priority-left now i Preempt t = refl
priority-left now i Forced t = refl

priority-move : (now : ℕ) (m : Move) (t : ThreadRecord) → (moved_thread now m t).priority ≡ t.priority
unfolding moved_thread started record_dispatch add_counts
priority-move now (starts x) t = refl
priority-move now (leaves x i r) t = priority-left now i r t
priority-move now (takes x i) t = refl

pub priority-moved : (now : ℕ) (ms : List Move) (ts : List ThreadRecord) → priorities_of (moved_threads now ms ts) ≡ priorities_of ts
unfolding moved_threads
priority-moved now [] ts = refl
priority-moved now (m ∷ ms) ts = priority-moved now ms (update (move_tid m) (moved_thread now m) ts) ∙ priority-update (moved_thread now m) (priority-move now m) (move_tid m) ts

priority-waiting : (s : ThreadState) (t : ThreadRecord) → (charge_waiting s t).priority ≡ t.priority
unfolding charge_waiting add_counts
priority-waiting Ready t = refl
priority-waiting Exited t = refl
priority-waiting (OnCore i) t = refl
priority-waiting (Blocked u) t = refl

priority-charge : (a b : Bool) (t : ThreadRecord) → (cond a (add_counts 1 0 0 0 0 0 t) (cond b t (charge_waiting t.state t))).priority ≡ t.priority
unfolding add_counts
priority-charge true b t = refl
priority-charge false true t = refl
priority-charge false false t = priority-waiting t.state t

pub priority-charged : (cs : List Core) (i : ℕ) (ts : List ThreadRecord) → priorities_of (charge_threads cs i ts) ≡ priorities_of ts
unfolding charge_threads
priority-charged cs i [] = refl
priority-charged cs i (t ∷ ts) = rw (priority-charge (runs i cs) (holds i cs) t, priority-charged cs (suc i) ts)

---- the records

-- as many records as before, if the first n keep their priorities
pub front_long : (n : ℕ) (wanted : List ThreadRecord) (ts ts' : List ThreadInfo) → Front n wanted ts ts' → priorities_of wanted ≡ priorities_of (threads_in ts n) → n ≤ length ts → length ts' ≡ length ts
unfolding threads_in
front_long n wanted ts ts' f e l =
    let a : length (take n ts') ≡ length (take n ts) =
    sym (length-map (map thread_meant (take n ts')) (λ (t : ThreadRecord). t.priority) ∙ length-map (take n ts') thread_meant) ∙ ap length (ap priorities_of f.front ∙ e)
    ∙ length-map (map thread_meant (take n ts)) (λ (t : ThreadRecord). t.priority) ∙ length-map (take n ts) thread_meant in
    let b : length (drop n ts') ≡ length (drop n ts) = ap length f.rest in
    let x = length-take n ts' in
    let y = length-take n ts in
    let z = length-drop n ts' in
    let w = length-drop n ts in
    omega (arith, a, b, x, y, z, w)

---- moves and timelines

pub moves-at : (N : ℕ) (ws : List ℕ) (count : ℕ) → MovesIn N (moves_in ws count) → count ≤ length ws → (k : ℕ) → k < count → tid_at ws k < N
unfolding moves_in
moves-at N ws zero a l k h = absurd (omega arith)
moves-at N [] (suc n) a l k h = absurd (omega arith)
moves-at N (x ∷ ws) (suc n) a l zero h = a.0
moves-at N (x ∷ ws) (suc n) a l (suc k) h = moves-at N ws n a.1 (omega arith) k (omega arith)

takes-few : (ms : List Move) → takes_in ms ≤ length ms
unfolding takes_in
takes-few [] = omega arith
takes-few (starts t ∷ ms) = omega (arith, takes-few ms)
takes-few (leaves t i r ∷ ms) = omega (arith, takes-few ms)
takes-few (takes t i ∷ ms) = omega (arith, takes-few ms)

pub few-takes : (ws : List ℕ) (count : ℕ) → count ≤ length ws → takes_in (moves_in ws count) ≤ count
unfolding moves_in
few-takes ws count l =
    let a : length (map decode (take count ws)) ≡ count = length-map (take count ws) decode ∙ length-take-le count ws l in
    omega (arith, takes-few (map decode (take count ws)))

-- words that agree behind the moves' room agree in every timeline, and behind them
pub behind_more : (k x : ℕ) (ws ws' : List ℕ) → drop k ws' ≡ drop k ws → drop (k + x) ws' ≡ drop (k + x) ws
behind_more k x ws ws' e = sym (drop-drop x k ws') ∙ ap (drop x) e ∙ drop-drop x k ws

pub lane-same : (c i : ℕ) (ws ws' : List ℕ) → drop 80 ws' ≡ drop 80 ws → lane_words c i ws' ≡ lane_words c i ws
lane-same c i ws ws' e = ap (take (2 * c)) (behind_more 80 (i * (2 * c)) ws ws' e)
