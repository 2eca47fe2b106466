-- What holds of the records where one has been changed.
use Prim.Native.Nat.{ℕ, zero, suc, ◌+◌, ◌*◌, ◌<◌, ◌≤◌}
use mathlib.Core.Path.{◌≡◌, refl, sym, ap, ap₂, ◌∙◌}
use mathlib.Core.List.{List, ◌∷◌, map, []}
use native.Mathlib.Omega.{arith}
use mathlib.Core.Bool.{Bool, true, false, cond}
use mathlib.Core.Option.{none}
use lib.ListN.{length, take, drop, get_elem?, set, length-map, length-append, take-append-drop}
use Rattle.model.specs.declared.ThreadInfo.{ThreadInfo}
use Rattle.model.specs.Types.{Core, ThreadRecord, Event, State}
use Rattle.model.specs.Phases.{update}
use Rattle.model.specs.Reading.{thread_meant}
use Rattle.model.proofs.PhaseLaws.{length-update}
use Rattle.model.specs.Calls.{limit_now}
use Rattle.rings.specs.Ring.{RingOK}
use Rattle.state.specs.declared.Sched.{Sched}
use Rattle.state.specs.Memory.{memory}
use Rattle.state.specs.State.{log_words, meant_at, Valid}
use Rattle.threads.specs.Slice.{threads_in, Front}

pub in_use : (s : Sched) (ts : List ThreadInfo) (qs ps ls ws : List ℕ) → Valid s (memory ts qs ps ls ws) → s.threads ≤ length ts
in_use s ts qs ps ls ws v = omega (arith, v.sizes.in_use, v.sizes.threads)

-- what the log asks of an event at `now`
pub log-room : (s : Sched) (ts : List ThreadInfo) (qs ps ls ws : List ℕ) → Valid s (memory ts qs ps ls ws)
    → (s.capacities.events ≤ 512) × (2 * s.capacities.events ≤ length ls) × RingOK (log_words s.capacities.events ls) s.log × (s.now.0 < 4_294_967_296)
unfolding meant_at limit_now
log-room s ts qs ps ls ws v = (v.bounded.settings.cap_e', v.sizes.log, v.rings.events, omega (arith, v.bounded.now))

-- the state m with these cores, queue, records and events
abbrev pub rebuilt : State → List Core → List ℕ → List ThreadRecord → List Event → State
rebuilt m cs q ts l =
    record {
      config = m.config;
      cores = cs;
      queue = q;
      accounts = record { threads = ts; ticks = m.accounts.ticks; timelines = m.accounts.timelines; log = l; context_switches = m.accounts.context_switches };
      now = m.now;
      closed = m.closed;
    }

-- the records after record i was changed by f
abbrev pub Changed : (i : ℕ) → (ThreadRecord → ThreadRecord) → (ts ts' : List ThreadInfo) → Type 0
Changed i f ts ts' = (n : ℕ) → i < n → Front n (update i f (threads_in ts n)) ts ts'

in_parts : (n : ℕ) (xs : List ThreadInfo) → length xs ≡ length (take n xs) + length (drop n xs)
in_parts n xs = ap length (sym (take-append-drop n xs)) ∙ length-append (take n xs) (drop n xs)

pub changed-size : (i : ℕ) (f : ThreadRecord → ThreadRecord) (ts ts' : List ThreadInfo) → Changed i f ts ts' → length ts' ≡ length ts
unfolding threads_in
changed-size i f ts ts' h =
    let k = h (suc i) (omega arith) in
    let a : length (take (suc i) ts') ≡ length (take (suc i) ts) = sym (length-map (take (suc i) ts') thread_meant) ∙ ap length k.front ∙ length-update f i (map thread_meant (take (suc i) ts)) ∙ length-map (take (suc i) ts) thread_meant in
    in_parts (suc i) ts' ∙ ap₂ ◌+◌ a (ap length k.rest) ∙ sym (in_parts (suc i) ts)

-- a field of the records, kept beside them in words
pub map-update : {B : Type 0} (g : ThreadRecord → B) (f : ThreadRecord → ThreadRecord) (b : B) (i : ℕ) (ts : List ThreadRecord) → ((t : ThreadRecord) → g (f t) ≡ b) → map g (update i f ts) ≡ set (map g ts) i b
unfolding update
map-update g f b i [] h = refl
map-update {B} g f b zero (t ∷ ts) h = ap (λ (x : B). x ∷ map g ts) (h t)
map-update {B} g f b (suc i) (t ∷ ts) h = ap (λ (l : List B). g t ∷ l) (map-update g f b i ts h)

pub map-kept : {B : Type 0} (g : ThreadRecord → B) (f : ThreadRecord → ThreadRecord) (i : ℕ) (ts : List ThreadRecord) → ((t : ThreadRecord) → g (f t) ≡ g t) → map g (update i f ts) ≡ map g ts
unfolding update
map-kept g f i [] h = refl
map-kept {B} g f zero (t ∷ ts) h = ap (λ (x : B). x ∷ map g ts) (h t)
map-kept {B} g f (suc i) (t ∷ ts) h = ap (λ (l : List B). g t ∷ l) (map-kept g f i ts h)

pub beyond : {A : Type 0} (xs : List A) (k : ℕ) → length xs ≤ k → get_elem? xs k ≡ none
beyond [] k h = refl
beyond (x ∷ xs) zero h = absurd (omega arith)
beyond (x ∷ xs) (suc k) h = beyond xs k (omega arith)

pub cond-true : {A : Type 0} (b : Bool) (x y : A) → b ≡ true → x ≡ cond b x y
cond-true b x y e = rw e

pub cond-false : {A : Type 0} (b : Bool) (x y : A) → b ≡ false → y ≡ cond b x y
cond-false b x y e = rw e

pub few-threads : (s : Sched) (ts : List ThreadInfo) (qs ps ls ws : List ℕ) → Valid s (memory ts qs ps ls ws) → s.capacities.threads ≤ 256
unfolding meant_at
few-threads s ts qs ps ls ws v = v.bounded.settings.cap_t'
