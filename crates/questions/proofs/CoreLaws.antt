-- What the struct and the lent memory say of a core, the log or a timeline is what the definition says, also of a core that is not there and behind the end.
use Prim.Native.Nat.{ℕ, zero, suc, ◌+◌, ◌-◌, ◌*◌, ◌<◌, ◌≤◌}
use mathlib.Core.Path.{◌≡◌, refl, sym, ap, ◌∙◌, subst}
use mathlib.Core.Bool.{Bool, true, false}
use mathlib.Core.Option.{Option, none, some}
use mathlib.Core.List.{List, [], ◌∷◌, ◌++◌, map}
use lib.Dec.{leb}
use lib.ListN.{length, take, drop, get_or, get_elem?, replicate, length-map, length-append, length-replicate, drop_of_length-le, get_or-eq_default, get_or-map}
use lib.Seq.{length-take-le, drop-cons, ext_get_or}
use native.Mathlib.Omega.{arith}
use native.Mathlib.Nat.{suc-mul, mul-le-mul_right}
use borrow.Author.Tests.{leb-true, leb-false}
use Rattle.model.specs.declared.CoreState as Program
use Rattle.model.specs.declared.CoreState.TheVariants as CoreStateCases
use Rattle.model.specs.Types.{Core, CoreState, Idle, State}
use Rattle.model.specs.Calls.{core_at, core_state_of, idle_core}
use Rattle.model.specs.Phases.{holder}
use Rattle.model.specs.Accounting.{is_holder}
use Rattle.model.specs.Questions.{next_tid, find_from, core_of, or_empty, timeline_of}
use Rattle.model.specs.Reading.{core_state_meant, core_ticks_meant, thread_meant}
use Rattle.model.proofs.LoopLaws.{core_at-get_d}
use Rattle.state.specs.declared.Sched.{Sched}
use Rattle.state.specs.Memory.{Memory}
use Rattle.state.specs.Asked.{Askable, the_log, the_lanes}
use Rattle.state.specs.State.{firsts, core_from, board_of, states_of, no_ticks, no_pos, lane_start, lane_words, log_words, meant_at, meant, Valid}
use Rattle.rings.specs.Ring.{RingOK}
use Rattle.rings.specs.Timeline.{segments_in}
use Rattle.rings.proofs.EventLaws.{events-count}
use Rattle.rings.proofs.TimelineLaws.{segments-count}
use Rattle.state.proofs.Firsts.{length-firsts, get_d-firsts}
use Rattle.questions.specs.Questions.{core_states}

---- an element by its place, out of the list and out of the function; none behind the end

module _ {A : Type 0} where
  get-some : (l : List A) (i : ℕ) (d : A) → i < length l → get_elem? l i ≡ some (get_or l i d)
  get-some [] i d h = absurd (omega arith)
  get-some (x ∷ l) zero d h = refl
  get-some (x ∷ l) (suc i) d h = get-some l i d (omega arith)

  pub get_none : (l : List A) (i : ℕ) → length l ≤ i → get_elem? l i ≡ none
  get_none [] i h = refl
  get_none (x ∷ l) zero h = absurd (omega arith)
  get_none (x ∷ l) (suc i) h = get_none l i (omega arith)

  module _ (g : ℕ → A) (n i : ℕ) where
    get_elem-firsts : i < n → get_elem? (firsts g n) i ≡ some (g i)
    get_elem-firsts h = get-some (firsts g n) i (g i) (subst (λ (m : ℕ). i < m) (sym (length-firsts g n)) h) ∙ ap some (get_d-firsts g n i (g i) h)

    get_elem-behind : n ≤ i → get_elem? (firsts g n) i ≡ none
    get_elem-behind h = get_none (firsts g n) i (subst (λ (m : ℕ). m ≤ i) (sym (length-firsts g n)) h)

  -- a list filled up with the default
  get_d-filler : (k i : ℕ) (z : A) → get_or (replicate k z) i z ≡ z
  get_d-filler zero i z = refl
  get_d-filler (suc k) zero z = refl
  get_d-filler (suc k) (suc i) z = get_d-filler k i z

  get_d-filled : (l : List A) (k i : ℕ) (z : A) → get_or (l ++ replicate k z) i z ≡ get_or l i z
  get_d-filled [] k i z = get_d-filler k i z
  get_d-filled (x ∷ l) k zero z = refl
  get_d-filled (x ∷ l) k (suc i) z = get_d-filled l k i z

---- states

core-there : (g : ℕ → Core) (n i : ℕ) → (n ≤ i → g i ≡ idle_core) → core_at (firsts g n) i ≡ g i
core-there g n i u = core_at-get_d (firsts g n) i ∙ go (leb n i) refl
  where
    go : (b : Bool) → leb n i ≡ b → get_or (firsts g n) i idle_core ≡ g i
    go true e = get_or-eq_default (firsts g n) idle_core (subst (λ (m : ℕ). m ≤ i) (sym (length-firsts g n)) (leb-true n i e)) ∙ sym (u (leb-true n i e))
    go false e = get_d-firsts g n i idle_core (leb-false n i e)

-- the definition's states by place, filled up with idle ones
state-by-place : (d : State) (k i : ℕ) → core_state_of d i ≡ get_or (core_states d ++ replicate k Idle) i Idle
unfolding core_state_of
state-by-place d k i =
    let st : Core → CoreState = λ c. c.state in
    ap st (core_at-get_d d.cores i) ∙ sym (get_d-filled (core_states d) k i Idle ∙ get_or-map st d.cores i idle_core)

module _ (s : Sched) (m : Memory) (v : Valid s m) where
  pub core-state-is : (i : ℕ) → core_state_meant (get_or (states_of s.states) i CoreStateCases.Idle) ≡ core_state_of (meant s m) i
  unfolding core_state_of meant_at core_from
  core-state-is i = sym (ap (λ (c : Core). c.state) (core-there (board_of s) s.cores i (v.marks.unused i)))

  pub count-is : s.cores ≡ length (meant s m).cores
  unfolding meant_at
  count-is = sym (length-firsts (board_of s) s.cores)

  pub states-are : map core_state_meant (states_of s.states) ≡ core_states (meant s m) ++ replicate (8 - length (meant s m).cores) Idle
  states-are =
      let d = meant s m in
      let k = 8 - length d.cores in
      let st : Core → CoreState = λ c. c.state in
      ext_get_or Idle (map core_state_meant (states_of s.states)) (core_states d ++ replicate k Idle)
      (omega (arith, length-append (core_states d) (replicate k Idle), length-map d.cores st, length-replicate k Idle, count-is, v.sizes.cores))
      (λ i h. get_or-map core_state_meant (states_of s.states) i CoreStateCases.Idle ∙ core-state-is i ∙ state-by-place d k i)

  pub next-is : s.threads ≡ next_tid (meant s m)
  unfolding next_tid meant_at
  next-is = sym (length-map (take s.threads m.threads) thread_meant ∙ length-take-le s.threads m.threads (omega (arith, v.sizes.in_use, v.sizes.threads)))

---- counters

module _ (s : Sched) (m : Memory) (i : ℕ) where
  pub counters-at : i < s.cores → some (core_ticks_meant (get_or s.ticks i no_ticks)) ≡ get_elem? (meant s m).accounts.ticks i
  unfolding meant_at
  counters-at h = sym (get_elem-firsts (λ (j : ℕ). core_ticks_meant (get_or s.ticks j no_ticks)) s.cores i h)

  pub counters-behind : s.cores ≤ i → none ≡ get_elem? (meant s m).accounts.ticks i
  unfolding meant_at
  counters-behind h = sym (get_elem-behind (λ (j : ℕ). core_ticks_meant (get_or s.ticks j no_ticks)) s.cores i h)

---- the core that a thread is on, found by going up

module _ (t : ℕ) (g : ℕ → Core) (n : ℕ) where
  -- what is still to be searched at core i
  abbrev pub from : ℕ → Option ℕ
  from i = find_from i t (drop i (firsts g n))

  next-core : (i : ℕ) → i < n → drop i (firsts g n) ≡ g i ∷ drop (suc i) (firsts g n)
  next-core i h = drop-cons (firsts g n) i idle_core (subst (λ (m : ℕ). i < m) (sym (length-firsts g n)) h) ∙ ap (λ (c : Core). c ∷ drop (suc i) (firsts g n)) (get_d-firsts g n i idle_core h)

  pub find_none : (i : ℕ) → n ≤ i → from i ≡ none
  unfolding find_from
  find_none i h = rw (drop_of_length-le (firsts g n) (subst (λ (m : ℕ). m ≤ i) (sym (length-firsts g n)) h))

  -- a core that is not there is idle
  module _ (idle : (i : ℕ) → n ≤ i → g i ≡ idle_core) (i : ℕ) where
    pub find-pass : is_holder t (holder (g i).state) ≡ false → from i ≡ from (suc i)
    unfolding find_from
    find-pass e = go (leb n i) refl
      where
        go : (b : Bool) → leb n i ≡ b → from i ≡ from (suc i)
        go true l = let h : n ≤ i = leb-true n i l in find_none i h ∙ sym (find_none (suc i) (omega arith))
        go false l = rw (next-core i (leb-false n i l), e)

    pub find-here : is_holder t (holder (g i).state) ≡ true → from i ≡ some i
    unfolding find_from is_holder
    find-here e = go (leb n i) refl
      where
        go : (b : Bool) → leb n i ≡ b → from i ≡ some i
        go true l =
            let f : true ≡ false = sym e ∙ ap (λ (c : Core). is_holder t (holder c.state)) (idle i (leb-true n i l)) in
            cc
        go false l = rw (next-core i (leb-false n i l), e)

-- the whole search, over the arrays
pub core-found : (s : Sched) (m : Memory) (a : List Program.CoreState) (t : ℕ) → a ≡ states_of s.states → core_of (meant s m) t ≡ from t (core_from a s.marks.exits s.marks.blocks s.marks.yields s.marks.progressed) s.cores 0
unfolding core_of meant_at
core-found s m a t e = ap (λ (l : List Program.CoreState). find_from 0 t (firsts (core_from l s.marks.exits s.marks.blocks s.marks.yields s.marks.progressed) s.cores)) (sym e)

---- the log

module _ (s : Sched) (m : Memory) (v : Valid s m) where
  pub event-count-is : s.log.len ≡ length (meant s m).accounts.log
  unfolding meant_at
  event-count-is = sym (events-count (log_words s.capacities.events m.log) s.log v.rings.events)

  pub events-end : (k : ℕ) → s.log.len ≤ k → none ≡ get_elem? (meant s m).accounts.log k
  events-end k h = sym (get_none (meant s m).accounts.log k (omega (arith, event-count-is)))

-- what is asked, of the words that are read
module _ (s : Sched) (ls : List ℕ) (a : Askable s (the_log ls)) where
  pub log-fits : 2 * s.capacities.events ≤ length ls
  log-fits = omega (arith, a.1.sizes.log, ap length a.2)

  pub log-ring : RingOK (log_words s.capacities.events ls) s.log
  log-ring = subst (λ (l : List ℕ). RingOK (log_words s.capacities.events l) s.log) a.2 a.1.rings.events

---- timelines

module _ (s : Sched) (m : Memory) (i : ℕ) where
  pub timeline-at : i < s.cores → timeline_of (meant s m) i ≡ segments_in (lane_words s.capacities.segments i m.lanes) (get_or s.lanes i no_pos)
  unfolding timeline_of meant_at or_empty
  timeline-at h = rw (get_elem-firsts (λ (j : ℕ). segments_in (lane_words s.capacities.segments j m.lanes) (get_or s.lanes j no_pos)) s.cores i h)

  pub timeline-behind : s.cores ≤ i → timeline_of (meant s m) i ≡ []
  unfolding timeline_of meant_at or_empty
  timeline-behind h = rw (get_elem-behind (λ (j : ℕ). segments_in (lane_words s.capacities.segments j m.lanes) (get_or s.lanes j no_pos)) s.cores i h)

  module _ (v : Valid s m) (h : i < s.cores) where
    pub segment-count-is : (get_or s.lanes i no_pos).len ≡ length (timeline_of (meant s m) i)
    segment-count-is = sym (ap length (timeline-at h) ∙ segments-count (lane_words s.capacities.segments i m.lanes) (get_or s.lanes i no_pos) (v.rings.segments i h))

    pub segments-end : (k : ℕ) → (get_or s.lanes i no_pos).len ≤ k → none ≡ get_elem? (timeline_of (meant s m) i) k
    segments-end k l = sym (get_none (timeline_of (meant s m) i) k (omega (arith, segment-count-is)))

module _ (s : Sched) (ws : List ℕ) (a : Askable s (the_lanes ws)) (i : ℕ) (h : i < s.cores) where
  -- a core's words end where the next core's begin
  pub lane-fits : lane_start s.capacities.segments i + 2 * s.capacities.segments ≤ length ws
  lane-fits =
      let w = 2 * s.capacities.segments in
      let e : i * w + w ≤ s.cores * w = subst (λ (x : ℕ). x ≤ s.cores * w) (suc-mul i w) (mul-le-mul_right w h) in
      omega (arith, a.1.sizes.lanes, ap length a.2)

  pub lane-ring : RingOK (lane_words s.capacities.segments i ws) (get_or s.lanes i no_pos)
  lane-ring = subst (λ (l : List ℕ). RingOK (lane_words s.capacities.segments i l) (get_or s.lanes i no_pos)) a.2 (a.1.rings.segments i h)

-- a part of the lent words from its start to its end
pub lane-part : (c i : ℕ) (ws : List ℕ) → take (lane_start c i + 2 * c - lane_start c i) (drop (lane_start c i) ws) ≡ lane_words c i ws
lane-part c i ws = let e : lane_start c i + 2 * c - lane_start c i ≡ 2 * c = omega arith in ap (λ (n : ℕ). take n (drop (lane_start c i) ws)) e
