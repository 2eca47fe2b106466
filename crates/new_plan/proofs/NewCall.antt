-- The call `new`, put together: the first record, its priority, the log's first events, and the state are the definition's first state.
use Rattle.std.specs.Prelude.{Result}
use Rattle.settings.specs.declared.Refusal.{Refusal}
use Prim.Native.Nat.{ℕ, zero, suc, pred, ◌+◌, ◌-◌, ◌*◌, ◌<◌, ◌≤◌}
use mathlib.Core.Path.{◌≡◌, refl, sym, ap, ap₂, ◌∙◌, subst}
use mathlib.Core.Bool.{false}
use mathlib.Core.Option.{Option, none, some}
use mathlib.Core.List.{List, [], ◌∷◌, ◌++◌, map}
use native.Mathlib.Omega.{arith}
use native.Mathlib.Nat.{mul-le-mul_right, suc-mul}
use native.Mathlib.Numerals.{add-one}
use borrow.Author.Tests.{ltb-false}
use lib.Dec.{ltb}
use lib.ListN.{length, take, drop, get_or, set, replicate, length-set, length-drop, length-replicate}
use lib.Seq.{length-take-le}
use Rattle.settings.specs.declared.SchedConfig.{SchedConfig}
use Rattle.settings.specs.Reading.{policy_meant}
use Rattle.model.specs.Invariants.{Bounded}
use Rattle.model.specs.declared.ThreadInfo.{ThreadInfo}
use Rattle.model.specs.declared.CoreState as Program
use Rattle.model.specs.declared.CoreState.TheVariants as CoreStateCases
use Rattle.model.specs.Types.{Core, Running, ThreadRecord, Config}
use Rattle.model.specs.Phases.{cleared}
use Rattle.model.specs.Accounting.{started, add_counts, born}
use Rattle.model.specs.Calls.{idle_core, initial_state, refused_new, new, made, made_of}
use Rattle.model.specs.Reading.{thread_meant, core_ticks_meant}
use Rattle.model.proofs.Bounded.{bounded-new}
use Rattle.model.proofs.Refusals.{check-none}
use Rattle.model.proofs.PhaseLaws.{or-false-l, or-false-r}
use Rattle.records.specs.Changes.{first_thread}
use Rattle.rings.specs.declared.RingPos.{RingPos}
use Rattle.rings.specs.Ring.{RingOK, capacity}
use Rattle.rings.specs.Events.{events_in}
use Rattle.rings.specs.Timeline.{segments_in}
use Rattle.rings.proofs.EntryLaws.{ring-empty, entries_none}
use Rattle.state.specs.declared.Capacities.{Capacities}
use Rattle.state.specs.declared.Sched.{Sched}
use Rattle.state.specs.Memory.{memory, Unchanged}
use Rattle.state.specs.State.{firsts, core_from, board_of, states_of, meant_at, no_ticks, no_pos, lane_start, lane_words, log_words, Valid}
use Rattle.checks.specs.Check.{check_meant}
use Rattle.walkkit.specs.Firsts as Walk
use Rattle.walkkit.proofs.Firsts.{length-firsts, drop-firsts}
use Rattle.new_plan.specs.First.{core_count, is_short, or_refusal, new_refusal, taken_count, first_sched, with_log, first_events, FirstLogged, CreateFit, CreatedAs}
use Rattle.new_plan.specs.Made.{same_at, NewTaken, NewDone}

---- lists of the same

get_d-same : {A : Type 0} (x : A) (m i : ℕ) → get_or (replicate m x) i x ≡ x
get_d-same x zero i = refl
get_d-same x (suc m) zero = refl
get_d-same x (suc m) (suc i) = get_d-same x m i

firsts-cons : {A : Type 0} (g : ℕ → A) (m : ℕ) → firsts g (suc m) ≡ g 0 ∷ firsts (λ i. g (suc i)) m
unfolding firsts
firsts-cons g zero = refl
firsts-cons g (suc m) = ap (λ (l : List _). l ++ (g (suc m) ∷ [])) (firsts-cons g m)

firsts-replicate : {A : Type 0} (g : ℕ → A) (x : A) → ((i : ℕ) → g i ≡ x) → (m : ℕ) → firsts g m ≡ replicate m x
unfolding firsts
firsts-replicate g x h zero = refl
firsts-replicate g x h (suc m) = firsts-cons g m ∙ ap₂ (λ (a : _) (l : List _). a ∷ l) (h 0) (firsts-replicate (λ i. g (suc i)) x (λ i. h (suc i)) m)

written : (t : ThreadInfo) (ts : List ThreadInfo) → 0 < length ts → take 1 (Walk.firsts (same_at t) 1 ts) ≡ t ∷ []
unfolding Walk.firsts same_at
written t [] h = absurd (omega arith)
written t (x ∷ ts) h = refl

first-set : (x : ℕ) (ps : List ℕ) → 0 < length ps → take 1 (set ps 0 x) ≡ x ∷ []
first-set x [] h = absurd (omega arith)
first-set x (p ∷ ps) h = refl

rest-set : (x : ℕ) (ps : List ℕ) → drop 1 (set ps 0 x) ≡ drop 1 ps
rest-set x [] = refl
rest-set x (p ∷ ps) = refl

count-some : (n : ℕ) → core_count n ≤ 0 → ⊥
unfolding core_count
count-some n l = omega arith

one_more : (i m : ℕ) → (i + 1) * m ≡ i * m + m
one_more i m = rw (add-one i) (suc-mul i m)

none_both : (r x : Option ℕ) → or_refusal r x ≡ none → (r ≡ none) × (x ≡ none)
none_both none x e = (refl, e)
none_both (some n) x e = absurd (let z : ◌≡◌ {A = ℕ} 0 1 = cc in omega arith)

module _ (c : SchedConfig) (n : ℕ) (k : Capacities) (entry : ℕ) (ts : List ThreadInfo) (qs ps ls ws : List ℕ) where
  abbrev why : Option ℕ
  why = new_refusal c n k (length ts) (length qs) (length ps) (length ls) (length ws)

  abbrev config : Config
  config = record { policy = policy_meant c.policy; quantum = c.quantum; cost = c.switch_cost; cap_t = k.threads; cap_e = k.events; cap_s = k.segments }

  module _ (h : why ≡ none) where
    unrefused : refused_new c.quantum c.switch_cost n k.threads k.events k.segments ≡ none
    unfolding new_refusal
    unrefused = (none_both _ _ h).0

    enough : is_short k n (length ts) (length qs) (length ps) (length ls) (length ws) ≡ false
    unfolding new_refusal
    enough = check-none 3 _ _ (none_both (refused_new c.quantum c.switch_cost n k.threads k.events k.segments) _ h).1

    is-new : new (policy_meant c.policy) c.quantum c.switch_cost n k.threads k.events k.segments entry ≡ made (initial_state (pred n) entry config)
    unfolding new made_of
    is-new = rw unrefused

    bounded : Bounded (initial_state (pred n) entry config)
    bounded = bounded-new (policy_meant c.policy) c.quantum c.switch_cost n k.threads k.events k.segments entry _ is-new

    -- what the memory holds
    pub records-fit : k.threads ≤ length ts
    unfolding is_short
    records-fit = ltb-false _ _ (or-false-l _ _ enough)

    queue-fits : k.threads ≤ length qs
    unfolding is_short
    queue-fits = ltb-false _ _ (or-false-l _ _ (or-false-r (ltb (length ts) k.threads) _ enough))

    prios-fit : k.threads ≤ length ps
    unfolding is_short
    prios-fit = ltb-false _ _ (or-false-l _ _ (or-false-r (ltb (length qs) k.threads) _ (or-false-r (ltb (length ts) k.threads) _ enough)))

    log-fits : 2 * k.events ≤ length ls
    unfolding is_short
    log-fits = ltb-false _ _ (or-false-l _ _ (or-false-r (ltb (length ps) k.threads) _ (or-false-r (ltb (length qs) k.threads) _ (or-false-r (ltb (length ts) k.threads) _ enough))))

    lanes_fit : lane_start k.segments (core_count n) ≤ length ws
    unfolding is_short
    lanes_fit = ltb-false _ _ (or-false-r (ltb (length ls) (2 * k.events)) _ (or-false-r (ltb (length ps) k.threads) _ (or-false-r (ltb (length qs) k.threads) _ (or-false-r (ltb (length ts) k.threads) _ enough))))

    some-thread : 1 ≤ k.threads
    unfolding initial_state
    some-thread = bounded.settings.cap_t

    some-event : 1 ≤ k.events
    unfolding initial_state
    some-event = bounded.settings.cap_e

    some-segment : 1 ≤ k.segments
    unfolding initial_state
    some-segment = bounded.settings.cap_s

    few-segments : k.segments ≤ 4096
    unfolding initial_state
    few-segments = bounded.settings.cap_s'

    few-events : k.events ≤ 512
    unfolding initial_state
    few-events = bounded.settings.cap_e'

    few-cores : core_count n ≤ 8
    unfolding initial_state core_count
    few-cores = let f = bounded.few in let l : length (replicate (pred n) idle_core) ≡ pred n = length-replicate (pred n) idle_core in omega arith

  -- what the call's end asks
  pub create-fits : (r : Option ℕ) → r ≡ why → CreateFit k r ps ls
  create-fits r e =
      record {
        prios = λ z. let a = prios-fit (sym e ∙ z) in let b = some-thread (sym e ∙ z) in omega arith;
        events = λ z. some-event (sym e ∙ z);
        few = λ z. few-events (sym e ∙ z);
        log = λ z. log-fits (sym e ∙ z);
      }

  pub count_fits : (r : Option ℕ) → r ≡ why → taken_count r ≤ length ts
  count_fits none e = let a = records-fit (sym e) in let b = some-thread (sym e) in omega arith
  count_fits (some m) e = omega arith

  ---- the first state

  module _ (h : why ≡ none) (t : ThreadInfo) (first : thread_meant t ≡ first_thread entry) (p : RingPos) (ls' : List ℕ) (logged : FirstLogged (2 * k.events) ls ls' p) where
    abbrev s : Sched
    s = with_log p (first_sched c n k)

    abbrev ts' : List ThreadInfo
    ts' = Walk.firsts (same_at t) 1 ts

    abbrev ps' : List ℕ
    ps' = set ps 0 10

    abbrev own : ℕ → Core
    own = board_of s

    own_first : own 0 ≡ cleared (Running 0 0) false false
    unfolding core_from first_sched
    own_first = refl

    own-idle : (i : ℕ) → own (suc i) ≡ idle_core
    unfolding core_from first_sched
    own-idle i = rw (get_d-same {A = Program.CoreState} CoreStateCases.Idle 7 i, get_d-same false 7 i) refl

    cores-are : firsts own s.cores ≡ cleared (Running 0 0) false false ∷ replicate (pred n) idle_core
    unfolding first_sched core_count
    cores-are = firsts-cons own (pred n) ∙ ap₂ (λ (a : Core) (l : List Core). a ∷ l) own_first (firsts-replicate (λ i. own (suc i)) idle_core own-idle (pred n))

    ticks-are : firsts (λ i. core_ticks_meant (get_or s.ticks i no_ticks)) s.cores ≡ replicate (suc (pred n)) (record { busy = 0; switching = 0; idle = 0 })
    unfolding first_sched core_count
    ticks-are = firsts-replicate (λ i. core_ticks_meant (get_or s.ticks i no_ticks)) (record { busy = 0; switching = 0; idle = 0 }) (λ i. ap core_ticks_meant (get_d-same no_ticks 8 i)) (suc (pred n))

    no-lane : (i : ℕ) → get_or s.lanes i no_pos ≡ no_pos
    unfolding first_sched
    no-lane i = get_d-same no_pos 8 i

    no-segments : (i : ℕ) → segments_in (lane_words k.segments i ws) (get_or s.lanes i no_pos) ≡ []
    unfolding segments_in
    no-segments i = rw (no-lane i, entries_none (lane_words k.segments i ws) no_pos refl) refl

    timelines-are : firsts (λ i. segments_in (lane_words k.segments i ws) (get_or s.lanes i no_pos)) s.cores ≡ replicate (suc (pred n)) []
    unfolding first_sched core_count
    timelines-are = firsts-replicate (λ i. segments_in (lane_words k.segments i ws) (get_or s.lanes i no_pos)) [] no-segments (suc (pred n))

    log_is : events_in (log_words k.events ls') p ≡ first_events k.events
    log_is =
        let l : length (take (2 * k.events) ls) ≡ 2 * k.events = length-take-le (2 * k.events) ls (log-fits h) in
        let e : capacity (take (2 * k.events) ls) ≡ k.events = omega arith in
        logged.events ∙ ap first_events e

    some-record : 0 < length ts
    some-record = let a = records-fit h in let b = some-thread h in omega arith

    threads-are : map thread_meant (take 1 ts') ≡ first_thread entry ∷ []
    threads-are = ap (map thread_meant) (written t ts some-record) ∙ ap (λ (x : ThreadRecord). x ∷ []) first

    state-is : meant_at s ts' qs ls' ws ≡ initial_state (pred n) entry config
    unfolding meant_at initial_state first_sched first_events
    state-is =
        λ j. record {
          config = config;
          cores = cores-are j;
          queue = [];
          accounts = record { threads = threads-are j; ticks = ticks-are j; timelines = timelines-are j; log = log_is j; context_switches = 0 };
          now = 0;
          closed = false;
        }

    lane-ok : (i : ℕ) → i < core_count n → RingOK (lane_words k.segments i ws) (get_or s.lanes i no_pos)
    lane-ok i l =
        let f : lane_start k.segments (core_count n) ≤ length ws = lanes_fit h in
        let m : (i + 1) * (2 * k.segments) ≤ core_count n * (2 * k.segments) = mul-le-mul_right (2 * k.segments) (omega arith) in
        let e : (i + 1) * (2 * k.segments) ≡ i * (2 * k.segments) + 2 * k.segments = one_more i (2 * k.segments) in
        let d : length (drop (lane_start k.segments i) ws) ≡ length ws - lane_start k.segments i = length-drop (lane_start k.segments i) ws in
        let w : length (lane_words k.segments i ws) ≡ 2 * k.segments = length-take-le (2 * k.segments) (drop (lane_start k.segments i) ws) (omega arith) in
        rw (no-lane i) (ring-empty (lane_words k.segments i ws) no_pos k.segments (omega arith) (let g = few-segments h in omega arith) (let g = some-segment h in omega arith) refl)

    unused-idle : (i : ℕ) → core_count n ≤ i → own i ≡ idle_core
    unused-idle zero l = absurd (count-some n l)
    unused-idle (suc i) l = own-idle i

    priorities-are : take 1 ps' ≡ map (λ (x : ThreadRecord). x.priority) (meant_at s ts' qs ls' ws).accounts.threads
    unfolding meant_at first_sched started add_counts born
    priorities-are = first-set 10 ps (let a = prios-fit h in let b = some-thread h in omega arith) ∙ sym (ap (map (λ (x : ThreadRecord). x.priority)) threads-are)

    valid-is : Valid s (memory ts' qs ps' ls' ws)
    unfolding first_sched core_from
    valid-is =
        let long : length ts' ≡ length ts = length-firsts (same_at t) 1 ts in
        let long_p : length ps' ≡ length ps = length-set ps 0 10 in
        let longL = logged.long in
        let a = records-fit h in
        let b = some-thread h in
        let e = prios-fit h in
        let f = log-fits h in
        record {
          sizes = record { cores = few-cores h; in_use = omega arith; waiting = omega arith; threads = omega arith; queue = queue-fits h; prios = omega arith; log = omega arith; lanes = lanes_fit h };
          rings = record { eight = refl; events = logged.ok; segments = lane-ok };
          marks = record { exits = refl; blocks = refl; yields = refl; progressed = refl; unused = unused-idle };
          words = refl;
          ticks = refl;
          priorities = priorities-are;
          bounded = subst Bounded (sym state-is) (bounded h);
        }

    no-ticks : (i : ℕ) → get_or s.ticks i no_ticks ≡ no_ticks
    unfolding first_sched
    no-ticks i = get_d-same no_ticks 8 i

    pub new-taken : NewTaken c n k entry (memory ts qs ps ls ws) (memory ts' qs ps' ls' ws) s
    new-taken = record { state = is-new h ∙ ap made (sym state-is); valid = valid-is; threads = drop-firsts (same_at t) 1 ts; queue = refl; prios = rest-set 10 ps; log = logged.rest; lanes = refl; ticks = λ i l. no-ticks i; places = λ i l. no-lane i }

  module _ (g : Result Unit Refusal) (e : check_meant g ≡ why) (t : ThreadInfo) (first : thread_meant t ≡ first_thread entry) (ts' : List ThreadInfo) (w : ts' ≡ Walk.firsts (same_at t) (taken_count (check_meant g)) ts)
      (ps' ls' : List ℕ) (s : Sched) (a : Result Unit Refusal) (f : CreatedAs c n k g ps ps' ls ls' s a) where
    refused-same : (m : ℕ) → check_meant g ≡ some m → Unchanged (memory ts qs ps ls ws) (memory ts' qs ps' ls' ws)
    unfolding Walk.firsts
    refused-same m z = (w ∙ ap (λ (o : Option ℕ). Walk.firsts (same_at t) (taken_count o) ts) z, refl, (f.refused m z).0, (f.refused m z).1, refl)

    taken-all : check_meant g ≡ none → NewTaken c n k entry (memory ts qs ps ls ws) (memory ts' qs ps' ls' ws) s
    taken-all z =
        let d = f.taken z in
        rw (w ∙ ap (λ (o : Option ℕ). Walk.firsts (same_at t) (taken_count o) ts) z, d.1)
        (subst (λ (x : Sched). NewTaken c n k entry (memory ts qs ps ls ws) (memory (Walk.firsts (same_at t) 1 ts) qs (set ps 0 10) ls' ws) x) (sym d.0) (new-taken (sym e ∙ z) t first s.log ls' d.2))

    pub new-done : NewDone c n k entry (memory ts qs ps ls ws) (memory ts' qs ps' ls' ws) s a
    new-done =
        record {
          answer = ap check_meant f.answer ∙ e;
          refused = λ m z. refused-same m (sym (ap check_meant f.answer) ∙ z);
          taken = λ z. taken-all (sym (ap check_meant f.answer) ∙ z);
        }
