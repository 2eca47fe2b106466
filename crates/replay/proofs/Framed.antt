-- What no call changes: the capacities, the count of cores, and memory behind what these name.
use Prim.Native.Nat.{ℕ, suc, pred, ◌+◌, ◌-◌, ◌≤◌, max}
use native.Mathlib.Omega.{arith}
use mathlib.Core.Path.{◌≡◌, refl, sym, ap, subst, ◌∙◌}
use mathlib.Core.Option.{Option, none, some}
use mathlib.Core.List.{List, [], ◌∷◌, map}
use lib.ListN.{length, take, drop, get_elem?, length-map, length-take, length-replicate}
use lib.Seq.{drop-drop, length-take-le}
use Rattle.settings.specs.declared.SchedConfig.{SchedConfig}
use Rattle.settings.specs.Reading.{policy_meant}
use Rattle.model.specs.Types.{Policy, State}
use Rattle.model.specs.Calls.{Call, spawn, exit, join, retired, yield, priority, timing, force, tick, close, JoinOutcome, Done, Wait, Invalid, Made, made, unmade, outcome, thread_state_of, tid_on, exited, blocking, refusal, accept, stepped, step, run, refused_new, initial_state, idle_core, made_of, new}
use Rattle.model.specs.Reading.{thread_meant}
use Rattle.model.proofs.Bounded.{accept-cores}
use Rattle.model.proofs.Placement.{queue-fits, threads-grow}
use Rattle.state.specs.declared.Capacities.{Capacities}
use Rattle.state.specs.declared.Sched.{Sched}
use Rattle.state.specs.Memory.{Memory}
use Rattle.state.specs.State.{meant, meant_at, Valid, lane_start}
use Rattle.state.specs.Done as D
use Rattle.state.proofs.Firsts.{length-firsts}
use Rattle.new_plan.specs.First.{core_count}
use Rattle.new_plan.specs.Made.{NewTaken}
use Rattle.replay.specs.Chain.{Link, Linked, last_sched, last_memory}
use Rattle.replay.specs.Replay.{Behind}

pub record Fixed (s t : State) : Type 0 where
  pub cap_t : t.config.cap_t ≡ s.config.cap_t
  pub cap_e : t.config.cap_e ≡ s.config.cap_e
  pub cap_s : t.config.cap_s ≡ s.config.cap_s
  pub cores : length t.cores ≡ length s.cores

fixed-join : (s : State) (i t : ℕ) (j : JoinOutcome) → ((blocking s i t j).config.cap_t ≡ s.config.cap_t) × ((blocking s i t j).config.cap_e ≡ s.config.cap_e) × ((blocking s i t j).config.cap_s ≡ s.config.cap_s)
unfolding blocking
fixed-join s i t Done = (refl, refl, refl)
fixed-join s i t Wait = (refl, refl, refl)
fixed-join s i t Invalid = (refl, refl, refl)

fixed-accept : (s : State) (c : Call) → ((accept s c).state.config.cap_t ≡ s.config.cap_t) × ((accept s c).state.config.cap_e ≡ s.config.cap_e) × ((accept s c).state.config.cap_s ≡ s.config.cap_s)
unfolding accept exited
fixed-accept s (spawn p e) = (refl, refl, refl)
fixed-accept s (exit i) = (refl, refl, refl)
fixed-accept s (join i t) = fixed-join s i t (outcome (tid_on s i) t (thread_state_of (get_elem? s.accounts.threads t)))
fixed-accept s (retired i) = (refl, refl, refl)
fixed-accept s (yield i) = (refl, refl, refl)
fixed-accept s (priority t n) = (refl, refl, refl)
fixed-accept s (timing q w) = (refl, refl, refl)
fixed-accept s (force i n) = (refl, refl, refl)
fixed-accept s tick = (refl, refl, refl)
fixed-accept s (close i) = (refl, refl, refl)

fixed-step : (s : State) (c : Call) → Fixed s (step s c).state
unfolding step stepped
fixed-step s c = go (refusal s c)
  where
    go : (r : Option ℕ) → Fixed s (stepped s c r).state
    go (some n) = record { cap_t = refl; cap_e = refl; cap_s = refl; cores = refl }
    go none = let h = fixed-accept s c in record { cap_t = h.0; cap_e = h.1; cap_s = h.2; cores = accept-cores s c }

pub fixed-run : (s : State) (cs : List Call) → Fixed s (run s cs)
unfolding run
fixed-run s [] = record { cap_t = refl; cap_e = refl; cap_s = refl; cores = refl }
fixed-run s (c ∷ cs) =
    let h = fixed-step s c in
    let k = fixed-run (step s c).state cs in
    record { cap_t = k.cap_t ∙ h.cap_t; cap_e = k.cap_e ∙ h.cap_e; cap_s = k.cap_s ∙ h.cap_s; cores = k.cores ∙ h.cores }

---- the same of the program's state

pub record Alike (s t : Sched) : Type 0 where
  pub threads : t.capacities.threads ≡ s.capacities.threads
  pub events : t.capacities.events ≡ s.capacities.events
  pub segments : t.capacities.segments ≡ s.capacities.segments
  pub cores : t.cores ≡ s.cores

pub alike : (s t : Sched) (m m' : Memory) (cs : List Call) → meant t m' ≡ run (meant s m) cs → Alike s t
unfolding meant_at
alike s t m m' cs e =
    let h = fixed-run (meant s m) cs in
    record {
      threads = ap (λ (x : State). x.config.cap_t) e ∙ h.cap_t;
      events = ap (λ (x : State). x.config.cap_e) e ∙ h.cap_e;
      segments = ap (λ (x : State). x.config.cap_s) e ∙ h.cap_s;
      cores = sym (length-firsts _ t.cores) ∙ ap (λ (x : State). length x.cores) e ∙ h.cores ∙ length-firsts _ s.cores;
    }

---- memory

drop-up : {A : Type 0} (i j : ℕ) (l l' : List A) → i ≤ j → drop i l' ≡ drop i l → drop j l' ≡ drop j l
drop-up i j l l' h e =
    let p : i + (j - i) ≡ j = omega arith in
    subst (λ (k : ℕ). drop k l' ≡ drop k l) p (sym (drop-drop (j - i) i l') ∙ ap (drop (j - i)) e ∙ drop-drop (j - i) i l)

pub behind-none : {n E S c : ℕ} {m : Memory} → Behind n E S c m m
behind-none = record { threads = refl; queue = refl; prios = refl; log = refl; lanes = refl }

pub behind-then : {n E S c : ℕ} {m m' m'' : Memory} → Behind n E S c m m' → Behind n E S c m' m'' → Behind n E S c m m''
behind-then h k = record { threads = k.threads ∙ h.threads; queue = k.queue ∙ h.queue; prios = k.prios ∙ h.prios; log = k.log ∙ h.log; lanes = k.lanes ∙ h.lanes }

-- what one call leaves, behind n threads
pub behind-at : (s t : Sched) (m m' : Memory) (n : ℕ) → s.queued ≤ n → t.queued ≤ n → t.threads ≤ n → D.Frame s t m m' → Behind n s.capacities.events s.capacities.segments s.cores m m'
behind-at s t m m' n waits waits' used f =
    record {
      threads = drop-up t.threads n m.threads m'.threads used f.threads;
      queue = drop-up (max s.queued t.queued) n m.queue m'.queue (omega arith) f.queue;
      prios = drop-up t.threads n m.prios m'.prios used f.prios;
      log = f.log;
      lanes = f.lanes;
    }

-- and behind the capacity
pub behind-call : (s t : Sched) (m m' : Memory) → Alike s t → Valid s m → Valid t m' → D.Frame s t m m' → Behind s.capacities.threads s.capacities.events s.capacities.segments s.cores m m'
behind-call s t m m' a v v' = behind-at s t m m' s.capacities.threads v.sizes.waiting (omega (arith, a.threads, v'.sizes.waiting)) (omega (arith, a.threads, v'.sizes.in_use))

-- at the capacities of a state that has the same
pub behind-alike : {s t : Sched} {m m' : Memory} → Alike s t → Behind t.capacities.threads t.capacities.events t.capacities.segments t.cores m m'
    → Behind s.capacities.threads s.capacities.events s.capacities.segments s.cores m m'
behind-alike a b = rw (← a.threads, ← a.events, ← a.segments, ← a.cores) b

---- over a chain

-- 01: "The child joins the back of the queue.": nobody stands there who is no thread
pub queued-threads : (s : Sched) (m : Memory) → Valid s m → s.queued ≤ s.threads
unfolding meant_at
queued-threads s m v =
    let a = queue-fits (meant s m) v.bounded.placed in
    let b = length-take-le s.queued m.queue (omega (arith, v.sizes.waiting, v.sizes.queue)) in
    let c = length-map (take s.threads m.threads) thread_meant in
    let d = length-take-le s.threads m.threads (omega (arith, v.sizes.in_use, v.sizes.threads)) in
    omega (arith, a, b, c, d)

-- threads are made and never unmade
pub threads-kept : (s t : Sched) (m m' : Memory) (c : Call) → Valid s m → Valid t m' → meant t m' ≡ (step (meant s m) c).state → s.threads ≤ t.threads
unfolding meant_at
threads-kept s t m m' c v v' e =
    let g = threads-grow (meant s m) c in
    let a = length-map (take s.threads m.threads) thread_meant in
    let b = length-take-le s.threads m.threads (omega (arith, v.sizes.in_use, v.sizes.threads)) in
    let a' = length-map (take t.threads m'.threads) thread_meant in
    let b' = length-take-le t.threads m'.threads (omega (arith, v'.sizes.in_use, v'.sizes.threads)) in
    let f : length (map thread_meant (take t.threads m'.threads)) ≡ length (step (meant s m) c).state.accounts.threads = ap (λ (x : State). length x.accounts.threads) e in
    omega (arith, g, a, b, a', b', f)

pub linked-threads : (s : Sched) (m : Memory) (ls : List Link) → Valid s m → Linked s m ls → s.threads ≤ (last_sched s ls).threads
linked-threads s m [] v h = omega arith
linked-threads s m (l ∷ ls) v h =
    let a = threads-kept s l.sched m l.memory l.call v h.0.valid h.0.state in
    let b = linked-threads l.sched l.memory ls h.0.valid h.1 in
    omega (arith, a, b)

run-one : (s : State) (c : Call) → run s (c ∷ []) ≡ (step s c).state
unfolding run
run-one s c = refl

pub linked-behind : (s : Sched) (m : Memory) (ls : List Link) → Valid s m → Linked s m ls → Behind (last_sched s ls).threads s.capacities.events s.capacities.segments s.cores m (last_memory m ls)
linked-behind s m [] v h = behind-none
linked-behind s m (l ∷ ls) v h =
    let t = l.sched in
    let w = l.memory in
    let v' = h.0.valid in
    let same : Alike s t = alike s t m w (l.call ∷ []) (h.0.state ∙ sym (run-one _ l.call)) in
    let kept = threads-kept s t m w l.call v v' h.0.state in
    let more = linked-threads t w ls v' h.1 in
    let one = behind-at s t m w (last_sched t ls).threads (omega (arith, queued-threads s m v, kept, more)) (omega (arith, queued-threads t w v', more)) more h.0.frame in
    let others : Behind (last_sched t ls).threads s.capacities.events s.capacities.segments s.cores w (last_memory w ls) = rw (← same.events, ← same.segments, ← same.cores) (linked-behind t w ls v' h.1) in
    behind-then one others

---- `new`

new-state : (p : Policy) (q w n t e c entry : ℕ) (s : State) → new p q w n t e c entry ≡ made s → initial_state (pred n) entry (record { policy = p; quantum = q; cost = w; cap_t = t; cap_e = e; cap_s = c }) ≡ s
unfolding new made_of
new-state p q w n t e c entry s h = go (refused_new q w n t e c) h
  where
    s0 : State
    s0 = initial_state (pred n) entry (record { policy = p; quantum = q; cost = w; cap_t = t; cap_e = e; cap_s = c })

    state_of : Made → State
    state_of (made x) = x
    state_of (unmade m) = s

    go : (r : Option ℕ) → made_of r s0 ≡ made s → s0 ≡ s
    go (some m) es = absurd (let z : ◌≡◌ {A = ℕ} 0 1 = cc in omega arith)
    go none es = ap state_of es

module _ {c : SchedConfig} {n : ℕ} {k : Capacities} {entry : ℕ} {m m₁ : Memory} {s : Sched} (z : NewTaken c n k entry m m₁ s) where
  first-is : initial_state (pred n) entry (record { policy = policy_meant c.policy; quantum = c.quantum; cost = c.switch_cost; cap_t = k.threads; cap_e = k.events; cap_s = k.segments }) ≡ meant s m₁
  first-is = new-state (policy_meant c.policy) c.quantum c.switch_cost n k.threads k.events k.segments entry (meant s m₁) z.state

  pub first-threads : k.threads ≡ s.capacities.threads
  unfolding initial_state meant_at
  first-threads = ap (λ (x : State). x.config.cap_t) first-is

  pub first-events : k.events ≡ s.capacities.events
  unfolding initial_state meant_at
  first-events = ap (λ (x : State). x.config.cap_e) first-is

  pub first-segments : k.segments ≡ s.capacities.segments
  unfolding initial_state meant_at
  first-segments = ap (λ (x : State). x.config.cap_s) first-is

  pub first-cores : core_count n ≡ s.cores
  unfolding initial_state meant_at core_count
  first-cores = sym (ap suc (length-replicate (pred n) idle_core)) ∙ ap (λ (x : State). length x.cores) first-is ∙ length-firsts _ s.cores

  -- thread 0 is there
  pub first_one : 1 ≤ s.threads
  unfolding initial_state meant_at
  first_one = omega (arith, ap (λ (x : State). length x.accounts.threads) first-is, length-map (take s.threads m₁.threads) thread_meant, length-take s.threads m₁.threads)

  pub first_some : 1 ≤ k.threads
  unfolding meant_at
  first_some = subst (λ (x : ℕ). 1 ≤ x) (sym first-threads) z.valid.bounded.settings.cap_t

  -- it writes the first record and priority, and the log
  pub behind-new : (i : ℕ) → 1 ≤ i → Behind i k.events k.segments (core_count n) m m₁
  behind-new i pos =
      record {
        threads = drop-up 1 i m.threads m₁.threads pos z.threads;
        queue = ap (drop i) z.queue;
        prios = drop-up 1 i m.prios m₁.prios pos z.prios;
        log = z.log;
        lanes = ap (drop (lane_start k.segments (core_count n))) z.lanes;
      }
