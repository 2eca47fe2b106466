-- The two round robin guarantees (demand 3), stated over `new`'s arguments and a list of calls. Everything is read off the list and the
-- definition's own run. The proofs are `proofs/Wait.antt` and `proofs/Stay.antt`; `proofs/History.antt` shows that a report here is what 01 calls one.
use Rattle.std.specs.Prelude.{ℕ, zero, suc, ◌+◌, ◌≤◌, ◌<◌, ◌≡◌, refl, Bool, true, false, cond, not, ◌&&◌, ◌||◌, List, [], ◌∷◌, ◌++◌, map, leb, eqb, length}
use Rattle.std.proofs.Math.Option.{Option, none, some}
use Rattle.std.proofs.Math.ListN.{get_elem?}
use Rattle.model.specs.Types.{Policy, RoundRobin, CoreState, Idle, Switching, Running, Core, Move, starts, leaves, takes, ThreadRecord, State}
use Rattle.model.specs.Phases.{Pass, update, holder, phases1_to4}
use Rattle.model.specs.Calls.{Call, spawn, exit, join, retired, yield, priority, timing, force, tick, close, Made, made, new, refusal, stepped, rules, core_at, is_running, is_none}
use Rattle.model.specs.Bound.{bound}

---- what happened

-- a thread got a core ("A thread gets a core at its dispatch.")
unfoldable pub gets : (tid : ℕ) → List Move → Bool
gets t [] = false
gets t (starts u ∷ ms) = gets t ms
gets t (leaves u i r ∷ ms) = gets t ms
gets t (takes u i ∷ ms) = eqb u t || gets t ms

-- a core took a thread; a core's thread left
unfoldable pub takes_on : (core : ℕ) → List Move → Bool
takes_on i [] = false
takes_on i (starts t ∷ ms) = takes_on i ms
takes_on i (leaves t j r ∷ ms) = takes_on i ms
takes_on i (takes t j ∷ ms) = eqb j i || takes_on i ms

unfoldable pub leaves_on : (core : ℕ) → List Move → Bool
leaves_on i [] = false
leaves_on i (starts t ∷ ms) = leaves_on i ms
leaves_on i (leaves t j r ∷ ms) = eqb j i || leaves_on i ms
leaves_on i (takes t j ∷ ms) = leaves_on i ms

---- the run, with what each core reported

-- 01: a core reports in a tick "if an unrefused `retired` of it stands before that call and after every earlier tick and dispatch on it":
-- a tick takes every report back, a dispatch its core's
pub record Observed : Type 0 where
  pub state : State
  pub reported : List Bool

unfoldable pub reports_after : Call → List Bool → List Bool
reports_after tick reported = map (λ x. false) reported
reports_after (retired i) reported = update i (λ x. true) reported
reports_after (spawn parent entry) reported = reported
reports_after (exit i) reported = reported
reports_after (join i t) reported = reported
reports_after (yield i) reported = reported
reports_after (priority t n) reported = reported
reports_after (timing quantum cost) reported = reported
reports_after (force i named) reported = reported
reports_after (close i) reported = reported

unfoldable pub reports_cleared : List Move → List Bool → List Bool
reports_cleared [] reported = reported
reports_cleared (starts t ∷ ms) reported = reports_cleared ms reported
reports_cleared (leaves t i r ∷ ms) reported = reports_cleared ms reported
reports_cleared (takes t i ∷ ms) reported = reports_cleared ms (update i (λ x. false) reported)

-- the second argument is the verdict: the call's refusal, if it has one
unfoldable pub reports : Call → Option ℕ → List Move → List Bool → List Bool
reports call (some n) ms reported = reported
reports call none ms reported = reports_cleared ms (reports_after call reported)

unfoldable pub observed : Observed → Call → Option ℕ → Observed
observed w call verdict = record { state = (stepped w.state call verdict).state; reported = reports call verdict (stepped w.state call verdict).moves w.reported }

abbrev pub refusal_of : Observed → Call → Option ℕ
refusal_of w call = refusal w.state call

abbrev pub moves_of : Observed → Call → List Move
moves_of w call = (stepped w.state call (refusal_of w call)).moves

abbrev pub observe : Observed → Call → Observed
observe w call = observed w call (refusal_of w call)

unfoldable pub observe_all : Observed → List Call → Observed
observe_all w [] = w
observe_all w (call ∷ calls) = observe_all (observe w call) calls

-- as `new` left it: nothing is reported
unfoldable pub unobserved : State → Observed
unobserved s = record { state = s; reported = map (λ c. false) s.cores }

---- the conditions

abbrev pub is_tick : Call → Bool
is_tick tick = true
is_tick (spawn parent entry) = false
is_tick (exit i) = false
is_tick (join i t) = false
is_tick (retired i) = false
is_tick (yield i) = false
is_tick (priority t n) = false
is_tick (timing quantum cost) = false
is_tick (force i named) = false
is_tick (close i) = false

abbrev pub is_force_or_close : Call → Bool
is_force_or_close tick = false
is_force_or_close (spawn parent entry) = false
is_force_or_close (exit i) = false
is_force_or_close (join i t) = false
is_force_or_close (retired i) = false
is_force_or_close (yield i) = false
is_force_or_close (priority t n) = false
is_force_or_close (timing quantum cost) = false
is_force_or_close (force i named) = true
is_force_or_close (close i) = true

-- an unrefused tick
abbrev pub ticked : Call → Option ℕ → Bool
ticked call (some n) = false
ticked call none = is_tick call

-- each running core has reported
unfoldable pub all_reported : List Core → List Bool → Bool
all_reported [] reported = true
all_reported (c ∷ cs) [] = not (is_running c.state) && all_reported cs []
all_reported (c ∷ cs) (said ∷ reported) = (not (is_running c.state) || said) && all_reported cs reported

-- 01: "each running core reports a retired instruction every tick and no force or close is accepted"; "refused calls break no condition"
unfoldable pub conditions_hold : Observed → Call → Option ℕ → Bool
conditions_hold w call (some n) = true
conditions_hold w call none = not (is_force_or_close call) && (not (is_tick call) || all_reported w.state.cores w.reported)

abbrev pub call_conditions : Observed → Call → Bool
call_conditions w call = conditions_hold w call (refusal_of w call)

-- 01: "Timing has changed if `set_timing` ever left numbers other than `new`'s"; `timing_kept` asks it of the calls before, `wait_conditions` and `stay_conditions` of those
-- of the wait and of the stay
abbrev pub timing_is : (quantum cost : ℕ) → State → Bool
timing_is quantum cost s = eqb s.config.quantum quantum && eqb s.config.cost cost

unfoldable pub timing_kept : (quantum cost : ℕ) → Observed → List Call → Bool
timing_kept quantum cost w [] = true
timing_kept quantum cost w (call ∷ calls) = timing_is quantum cost (observe w call).state && timing_kept quantum cost (observe w call) calls

---- the wait

-- the conditions hold till thread t gets a core, or to the end of the list
unfoldable pub wait_conditions : (quantum cost tid : ℕ) → Observed → List Call → Bool
wait_conditions quantum cost t w [] = true
wait_conditions quantum cost t w (call ∷ calls) =
    call_conditions w call && (gets t (moves_of w call) || (timing_is quantum cost (observe w call).state && wait_conditions quantum cost t (observe w call) calls))

abbrev pub add_if : Bool → ℕ → ℕ
add_if true n = suc n
add_if false n = n

-- the ticks that are not refused
unfoldable pub ticks : Observed → List Call → ℕ
ticks w [] = 0
ticks w (call ∷ calls) = add_if (ticked call (refusal_of w call)) (ticks (observe w call) calls)

-- what is left of n ticks
abbrev pub less_if : Bool → ℕ → ℕ
less_if true n = n
less_if false n = suc n

-- thread t gets a core within the next n ticks that are not refused
unfoldable pub gets_within : ℕ → (tid : ℕ) → Observed → List Call → Bool
gets_within n t w [] = false
gets_within zero t w (call ∷ calls) = false
gets_within (suc n) t w (call ∷ calls) = gets t (moves_of w call) || gets_within (less_if (ticked call (refusal_of w call)) n) t (observe w call) calls

-- thread t gets no core
unfoldable pub gets_none : (tid : ℕ) → Observed → List Call → Bool
gets_none t w [] = true
gets_none t w (call ∷ calls) = not (gets t (moves_of w call)) && gets_none t (observe w call) calls

-- "wherever in it a thread is ready with p ahead of it: it gets a core within the next ... ticks that are not refused.": s is what `new` left, `before` the calls up to
-- the point between calls at which thread t is ready with p ahead of it, `during` those that follow
abbrev pub WaitHolds : (quantum cost cores : ℕ) → State → (before during : List Call) → Type 0
WaitHolds quantum cost cores s before during =
    timing_kept quantum cost (unobserved s) before ≡ true →
    (t p : ℕ) → get_elem? (observe_all (unobserved s) before).state.queue p ≡ some t →
    wait_conditions quantum cost t (observe_all (unobserved s) before) during ≡ true →
    bound p cores quantum cost ≤ ticks (observe_all (unobserved s) before) during →
    gets_within (bound p cores quantum cost) t (observe_all (unobserved s) before) during ≡ true

abbrev pub WaitBound : Type 0
WaitBound =
    (quantum cost cores cap_t cap_e cap_s entry : ℕ) (s : State) → new RoundRobin quantum cost cores cap_t cap_e cap_s entry ≡ made s →
    (before during : List Call) → WaitHolds quantum cost cores s before during

-- the same, the other way round: a thread that gets no core has not waited that long
abbrev pub WaitBound' : Type 0
WaitBound' =
    (quantum cost cores cap_t cap_e cap_s entry : ℕ) (s : State) → new RoundRobin quantum cost cores cap_t cap_e cap_s entry ≡ made s →
    (before during : List Call) → timing_kept quantum cost (unobserved s) before ≡ true →
    (t p : ℕ) → get_elem? (observe_all (unobserved s) before).state.queue p ≡ some t →
    wait_conditions quantum cost t (observe_all (unobserved s) before) during ≡ true →
    gets_none t (observe_all (unobserved s) before) during ≡ true →
    ticks (observe_all (unobserved s) before) during < bound p cores quantum cost

---- the stay

-- "A stay lasts from a dispatch (for thread 0 also from creation)": the last of these calls put a thread on core i, or there is none yet and i is 0
unfoldable pub begins : (core : ℕ) → Observed → List Call → Bool
begins i w [] = eqb i 0
begins i w (call ∷ []) = takes_on i (moves_of w call)
begins i w (call ∷ (call' ∷ calls)) = begins i (observe w call) (call' ∷ calls)

-- this call charges the thread of core i a run tick
abbrev pub charges : (core : ℕ) → Observed → Call → Bool
charges i w call = ticked call (refusal_of w call) && is_running (core_at w.state.cores i).state

-- 01: "A thread still waited if the queue is not empty after phase 4."
abbrev pub is_non_empty : List ℕ → Bool
is_non_empty [] = false
is_non_empty (h ∷ q) = true

unfoldable pub still_waited : State → Bool
still_waited s = is_non_empty (phases1_to4 (rules s) s.cores s.queue).queue

-- the conditions hold, and some thread still waited at the end of each charged tick, till core i's thread leaves, or to the end of the list
unfoldable pub stay_conditions : (quantum cost core : ℕ) → Observed → List Call → Bool
stay_conditions quantum cost i w [] = true
stay_conditions quantum cost i w (call ∷ calls) =
    call_conditions w call
    && ((not (charges i w call) || still_waited w.state) && (leaves_on i (moves_of w call) || (timing_is quantum cost (observe w call).state && stay_conditions quantum cost i (observe w call) calls)))

-- a thread's run ticks as its record counts them (0 where there is no such thread)
unfoldable pub run_ticks : Option ThreadRecord → ℕ
run_ticks none = 0
run_ticks (some thread) = thread.counts.run

unfoldable pub ran_of : List ThreadRecord → (tid : ℕ) → ℕ
ran_of ts t = run_ticks (get_elem? ts t)

-- 01: "to the next leave"; "a stay still open at its end is limited too": the state after the call with which core i's thread leaves, or at the end of the list
unfoldable pub stay_end : (core : ℕ) → Observed → List Call → State
stay_end i w [] = w.state
stay_end i w (call ∷ calls) = let rest = stay_end i (observe w call) calls in cond (leaves_on i (moves_of w call)) (observe w call).state rest

-- "No thread is charged more run ticks than a quantum in one stay on a core if some thread still waited, after idle cores were filled, at the end
-- of each charged tick.": t is the thread of core i when the stay begins, and its own run ticks grow by at most the quantum till the stay ends
abbrev pub StayHolds : (quantum cost : ℕ) → State → (before during : List Call) → Type 0
StayHolds quantum cost s before during =
    timing_kept quantum cost (unobserved s) before ≡ true →
    (i t : ℕ) → begins i (unobserved s) before ≡ true →
    holder (core_at (observe_all (unobserved s) before).state.cores i).state ≡ some t →
    stay_conditions quantum cost i (observe_all (unobserved s) before) during ≡ true →
    ran_of (stay_end i (observe_all (unobserved s) before) during).accounts.threads t ≤ ran_of (observe_all (unobserved s) before).state.accounts.threads t + quantum

abbrev pub StayBound : Type 0
StayBound =
    (quantum cost cores cap_t cap_e cap_s entry : ℕ) (s : State) → new RoundRobin quantum cost cores cap_t cap_e cap_s entry ≡ made s →
    (before during : List Call) → StayHolds quantum cost s before during

-- demand 3, on the definition
abbrev pub RoundRobinBounds : Type 0
RoundRobinBounds = WaitBound × StayBound
