-- The claims' conditions and counts, computed on small lists: they can hold, the bounds are met exactly, and what breaks a condition is seen.
use Rattle.std.specs.Prelude.{ℕ, zero, suc, ◌≡◌, refl, Bool, true, false, List, [], ◌∷◌, ◌++◌}
use Rattle.std.proofs.Math.Option.{Option, none, some}
use Rattle.model.specs.Types.{RoundRobin, State}
use Rattle.model.specs.Calls.{Call, spawn, exit, join, retired, yield, priority, timing, force, tick, close, Made, made, unmade}
use Rattle.guarantees.specs.Claims.{Observed, gets, takes_on, leaves_on, reports_after, reports_cleared, reports, observed, observe_all, unobserved, all_reported, conditions_hold, timing_kept, wait_conditions, ticks, gets_within, gets_none, begins, still_waited, stay_conditions, run_ticks, ran_of, stay_end}
use Rattle.std.proofs.Math.ListN.{get_elem?}
use Rattle.model.specs.Bound.{bound}
use Rattle.model.specs.Cases.{compute, at}

judge : Unit {0}
unfolding compute gets takes_on leaves_on reports_after reports_cleared reports observed observe_all unobserved all_reported conditions_hold timing_kept wait_conditions ticks gets_within gets_none begins still_waited stay_conditions run_ticks ran_of stay_end
judge = tt

abbrev from : {A : Type 0} → Made → A → (State → A) → A
from (unmade n) default f = default
from (made s) default f = f s

-- one core, quantum 2, cost 1: threads 1 and 2 are spawned, and thread 0 runs out its quantum
abbrev start : List Call
start = spawn none 0 ∷ spawn none 0 ∷ retired 0 ∷ tick ∷ retired 0 ∷ tick ∷ []

abbrev turn : List Call
turn = tick ∷ retired 0 ∷ tick ∷ retired 0 ∷ tick ∷ []

abbrev board : Made
board = at RoundRobin 2 1 1

-- thread 2 is then at the front; the conditions hold, three ticks follow, and it gets the core in the third: the bound, (0 / 1 + 1) × (2 + 1)
wait-holds : from board false (λ s. wait_conditions 2 1 2 (observe_all (unobserved s) start) turn) ≡ true
unfolding judge
wait-holds = refl

wait-bound : from board 0 (λ s. ticks (observe_all (unobserved s) start) turn) ≡ bound 0 1 2 1
unfolding judge
wait-bound = refl

wait-gets : from board false (λ s. gets_within 3 2 (observe_all (unobserved s) start) turn) ≡ true
unfolding judge
wait-gets = refl

wait-no-sooner : from board true (λ s. gets_within 2 2 (observe_all (unobserved s) start) turn) ≡ false
unfolding judge
wait-no-sooner = refl

-- a tick in which the running core did not report breaks the condition, and so does an accepted force; a refused one does not
silent : from board true (λ s. wait_conditions 2 1 2 (observe_all (unobserved s) start) (tick ∷ tick ∷ [])) ≡ false
unfolding judge
silent = refl

forced : from board true (λ s. wait_conditions 2 1 2 (observe_all (unobserved s) start) (tick ∷ force 0 (some 0) ∷ [])) ≡ false
unfolding judge
forced = refl

refused-force : from board false (λ s. wait_conditions 2 1 2 (observe_all (unobserved s) start) (force 0 none ∷ [])) ≡ true
unfolding judge
refused-force = refl

-- a report of the tick before does not serve for the next
stale : from board true (λ s. wait_conditions 2 1 2 (observe_all (unobserved s) start) (retired 0 ∷ tick ∷ tick ∷ [])) ≡ false
unfolding judge
stale = refl

-- thread 1's stay begins with the second tick of `start`; it is charged the quantum, 2, and leaves
stay-begins : from board false (λ s. begins 0 (unobserved s) start) ≡ true
unfolding judge
stay-begins = refl

stay-holds : from board false (λ s. stay_conditions 2 1 0 (observe_all (unobserved s) start) (turn ++ turn)) ≡ true
unfolding judge
stay-holds = refl

stay-charged : from board 0 (λ s. ran_of (stay_end 0 (observe_all (unobserved s) start) (turn ++ turn)).accounts.threads 1) ≡ 2
unfolding judge
stay-charged = refl

-- alone, a thread is charged more: nobody still waited
alone : from board 0 (λ s. ran_of (stay_end 0 (unobserved s) (retired 0 ∷ tick ∷ retired 0 ∷ tick ∷ retired 0 ∷ tick ∷ [])).accounts.threads 0) ≡ 3
unfolding judge
alone = refl

alone-unfair : from board true (λ s. stay_conditions 2 1 0 (unobserved s) (retired 0 ∷ tick ∷ [])) ≡ false
unfolding judge
alone-unfair = refl

-- timing set to what it was is kept; to something else it is not
timing_kept-same : from board false (λ s. timing_kept 2 1 (unobserved s) (timing 2 1 ∷ tick ∷ [])) ≡ true
unfolding judge
timing_kept-same = refl

timing_kept-other : from board true (λ s. timing_kept 2 1 (unobserved s) (timing 3 1 ∷ timing 2 1 ∷ [])) ≡ false
unfolding judge
timing_kept-other = refl

---- four looser readings under which the claims would be false: for each a list in which the bound is passed, and the statement's condition does not hold

-- quantum 1, cost 0, one core; thread 1 was forced onto it, thread 2 is at the front
abbrev brief : Made
brief = at RoundRobin 1 0 1

abbrev put_on : List Call
put_on = spawn none 0 ∷ spawn none 0 ∷ retired 0 ∷ force 0 (some 1) ∷ []

-- a `retired` before the dispatch is no report of it: thread 1 keeps the core, and thread 2 gets none within 1 tick
early-front : from brief none (λ s. get_elem? (observe_all (unobserved s) put_on).state.queue 0) ≡ some 2
unfolding judge
early-front = refl

early-none : from brief true (λ s. gets_within (bound 0 1 1 0) 2 (observe_all (unobserved s) put_on) (tick ∷ [])) ≡ false
unfolding judge
early-none = refl

early-no-report : from brief true (λ s. wait_conditions 1 0 2 (observe_all (unobserved s) put_on) (tick ∷ [])) ≡ false
unfolding judge
early-no-report = refl

-- timing that is changed and restored has changed: thread 1 is at the front and gets no core within 1 tick
abbrev restored : List Call
restored = timing 5 0 ∷ retired 0 ∷ tick ∷ timing 1 0 ∷ []

restored-none : from brief true (λ s. gets_within (bound 0 1 1 0) 1 (observe_all (unobserved s) (spawn none 0 ∷ [])) restored) ≡ false
unfolding judge
restored-none = refl

restored-changed : from brief true (λ s. wait_conditions 1 0 1 (observe_all (unobserved s) (spawn none 0 ∷ [])) restored) ≡ false
unfolding judge
restored-changed = refl

restored-unkept : from brief true (λ s. timing_kept 1 0 (unobserved s) restored) ≡ false
unfolding judge
restored-unkept = refl

-- conditions are asked of the wait alone: thread 1 gets its core within the bound, and the force that is accepted after it breaks nothing
abbrev waited : List Call
waited = retired 0 ∷ tick ∷ []

waited-enough : from brief false (λ s. gets_within (bound 0 1 1 0) 1 (observe_all (unobserved s) (spawn none 0 ∷ [])) waited) ≡ true
unfolding judge
waited-enough = refl

forced-after : from brief false (λ s. wait_conditions 1 0 1 (observe_all (unobserved s) (spawn none 0 ∷ [])) (waited ++ (force 0 none ∷ []))) ≡ true
unfolding judge
forced-after = refl

-- and the force is accepted: of a wait that begins before it, it breaks the condition
forced-breaks : from brief true (λ s. wait_conditions 1 0 0 (observe_all (unobserved s) (spawn none 0 ∷ waited)) (force 0 none ∷ [])) ≡ false
unfolding judge
forced-breaks = refl

-- who waits is judged after phase 4: before it a thread waited in both ticks, an idle core took it, and thread 0 is charged 2 in one stay
abbrev pair : Made
pair = at RoundRobin 1 0 2

abbrev filled-up : List Call
filled-up = spawn none 0 ∷ retired 0 ∷ tick ∷ spawn none 0 ∷ exit 1 ∷ retired 0 ∷ retired 1 ∷ tick ∷ []

filled-charged : from pair 0 (λ s. ran_of (stay_end 0 (unobserved s) filled-up).accounts.threads 0) ≡ 2
unfolding judge
filled-charged = refl

filled-nobody : from pair true (λ s. stay_conditions 1 0 0 (unobserved s) filled-up) ≡ false
unfolding judge
filled-nobody = refl

-- a retake begins a new stay: thread 1 leaves core 0, since it joined, and is taken there again in the same tick end, since it was woken; it is charged once before and
-- once after, and the stay that began with `swapped` ends with the leave
abbrev swapped : List Call
swapped = spawn none 0 ∷ spawn none 0 ∷ exit 0 ∷ tick ∷ []

abbrev woken : List Call
woken = join 0 2 ∷ exit 1 ∷ spawn none 0 ∷ spawn none 0 ∷ retired 0 ∷ retired 1 ∷ tick ∷ []

abbrev again : List Call
again = retired 0 ∷ retired 1 ∷ tick ∷ []

retaken-begins : from pair false (λ s. begins 0 (unobserved s) swapped) ≡ true
unfolding judge
retaken-begins = refl

retaken-holds : from pair false (λ s. stay_conditions 1 0 0 (observe_all (unobserved s) swapped) (woken ++ again)) ≡ true
unfolding judge
retaken-holds = refl

retaken-stay : from pair 0 (λ s. ran_of (stay_end 0 (observe_all (unobserved s) swapped) (woken ++ again)).accounts.threads 1) ≡ 1
unfolding judge
retaken-stay = refl

retaken-both : from pair 0 (λ s. ran_of (observe_all (unobserved s) (swapped ++ (woken ++ again))).state.accounts.threads 1) ≡ 2
unfolding judge
retaken-both = refl

-- the second stay begins with the tick that took it again
retaken-new : from pair false (λ s. begins 0 (unobserved s) (swapped ++ woken)) ≡ true
unfolding judge
retaken-new = refl
