-- The decisions: what the six phases do to the cores and the queue, and the moves that they emit. Nothing here reads or writes the accounts.
use Rattle.std.specs.Prelude.{ℕ, zero, suc, pred, Bool, true, false, cond, ◌&&◌, ◌||◌, leb, ltb, eqb, length}
use Rattle.std.proofs.Math.Option.{Option, none, some}
use mathlib.Core.List.{List, [], ◌∷◌, ◌++◌, head?}
pub use Rattle.settings.specs.Policy.{is_preemptive}
use Rattle.model.specs.Types.{Policy, Off, Fifo, RoundRobin, Priority, CoreState, Idle, Switching, Running, LeaveReason, Exit, Block, Yield, Quantum, Preempt, Forced, Core, Move, starts, leaves, takes}

-- what a decision reads besides the cores and the queue
pub record Rules : Type 0 where
  pub policy : Policy
  pub quantum : ℕ
  pub cost : ℕ
  pub prio : ℕ → ℕ

-- one core's part in a phase, and a whole phase
pub record Turn : Type 0 where
  pub core : Core
  pub queue : List ℕ
  pub moves : List Move

pub record Pass : Type 0 where
  pub cores : List Core
  pub queue : List ℕ
  pub moves : List Move

abbrev pub Phase : Type 0
Phase = ℕ → Core → List ℕ → Turn

-- 01: "cores ascending in each phase"
unfoldable pub ascend : Phase → ℕ → List Core → List ℕ → Pass
ascend f i [] q = record { cores = []; queue = q; moves = [] }
ascend f i (c ∷ cs) q =
    let turn : Turn = f i c q in
    let rest : Pass = ascend f (suc i) cs turn.queue in
    record { cores = turn.core ∷ rest.cores; queue = rest.queue; moves = turn.moves ++ rest.moves }

unfoldable pub and_then : Pass → Phase → Pass
and_then pass f =
    let next : Pass = ascend f 0 pass.cores pass.queue in
    record { cores = next.cores; queue = next.queue; moves = pass.moves ++ next.moves }

-- a core put into another state, its marks kept
abbrev pub with_state : CoreState → Core → Core
with_state state c = record { state = state; exits = c.exits; blocks = c.blocks; yields = c.yields; progressed = c.progressed }

-- a turn that moves nobody
abbrev pub unmoved : Core → List ℕ → Turn
unmoved c q = record { core = c; queue = q; moves = [] }

-- a thread taken out of the queue, where it stands once (proofs/Placement)
unfoldable pub without : ℕ → List ℕ → List ℕ
without t [] = []
without t (h ∷ q) = cond (eqb h t) q (h ∷ without t q)

---- choices

-- 01: "A smaller priority number is more urgent." The smallest number, earliest in the queue among equals
unfoldable pub more_urgent : (ℕ → ℕ) → ℕ → Option ℕ → ℕ
more_urgent pr h none = h
more_urgent pr h (some best) = cond (ltb (pr best) (pr h)) best h

unfoldable pub most_urgent : (ℕ → ℕ) → List ℕ → Option ℕ
most_urgent pr [] = none
most_urgent pr (h ∷ q) = some (more_urgent pr h (most_urgent pr q))

unfoldable pub eligible : (ℕ → ℕ) → Option ℕ → List ℕ → List ℕ
eligible pr none q = q
eligible pr (some n) [] = []
eligible pr (some n) (h ∷ q) = let rest = eligible pr (some n) q in cond (leb (pr h) n) (h ∷ rest) rest

-- 01: "Next means the queue's front; under priority the smallest number, earliest in the queue among equals."
-- The ceiling is the largest number that is eligible; only priority gives one. The core is there for R-12.
unfoldable pub choose : Policy → (ℕ → ℕ) → Option ℕ → List ℕ → Option ℕ
choose Off pr ceiling q = head? q  -- 01: "Policy off schedules exactly as fifo."
choose Fifo pr ceiling q = head? q
choose RoundRobin pr ceiling q = head? q
choose Priority pr ceiling q = most_urgent pr (eligible pr ceiling q)

unfoldable pub pick_next : Rules → (core : ℕ) → Option ℕ → List ℕ → Option ℕ
pick_next k core ceiling q = choose k.policy k.prio ceiling q

-- the quantum of a thread (for R-6 and R-7)
unfoldable pub quantum_of : Rules → (tid : ℕ) → ℕ
quantum_of k t = k.quantum

abbrev pub ceiling_for : Policy → ℕ → Option ℕ
ceiling_for Off n = none
ceiling_for Fifo n = none
ceiling_for RoundRobin n = none
ceiling_for Priority n = some n

---- dispatch

-- 01: "Dispatch clears the mark; at cost 0 the thread runs at once, otherwise left = cost."
unfoldable pub dispatched_state : (cost tid : ℕ) → CoreState
dispatched_state zero t = Running t 0
dispatched_state (suc n) t = Switching t (suc n)

unfoldable pub dispatch_moves : (cost tid core : ℕ) → List Move
dispatch_moves zero t i = takes t i ∷ starts t ∷ []
dispatch_moves (suc n) t i = takes t i ∷ []

abbrev pub dispatch : (cost tid : ℕ) → Core → Core
dispatch cost t c = record { state = dispatched_state cost t; exits = c.exits; blocks = c.blocks; yields = c.yields; progressed = false }

---- the phases

-- 1, on the cores: "A running core adds 1 to slice"
unfoldable pub sliced : CoreState → CoreState
sliced Idle = Idle
sliced (Switching t l) = Switching t l
sliced (Running t slice) = Running t (suc slice)

unfoldable pub phase1 : Phase
phase1 i c q = unmoved (with_state (sliced c.state) c) q

-- 2: "Switching with left ≤ 1 becomes running, slice 0, first run set if unset; otherwise left − 1."
unfoldable pub switched_in : Core → CoreState → Bool → List ℕ → Turn
switched_in c Idle due q = unmoved c q
switched_in c (Running t slice) due q = unmoved c q
switched_in c (Switching t l) false q = unmoved (with_state (Switching t (pred l)) c) q
switched_in c (Switching t l) true q = record { core = with_state (Running t 0) c; queue = q; moves = starts t ∷ [] }

abbrev pub is_due : CoreState → Bool
is_due Idle = false
is_due (Running t slice) = false
is_due (Switching t l) = leb l 1

unfoldable pub phase2 : Phase
phase2 i c q = switched_in c c.state (is_due c.state) q

-- 3: "Threads that exited or blocked this tick leave, in one pass; their core's yield mark goes with them."
abbrev pub cleared : CoreState → (yields progressed : Bool) → Core
cleared state yields progressed = record { state = state; exits = false; blocks = false; yields = yields; progressed = progressed }

abbrev pub leaves_for : Bool → Bool → Option LeaveReason
leaves_for true blocks = some Exit
leaves_for false true = some Block
leaves_for false false = none

abbrev pub holder : CoreState → Option ℕ
holder Idle = none
holder (Switching t l) = some t
holder (Running t slice) = some t

unfoldable pub vacate : ℕ → Core → Option ℕ → Option LeaveReason → List ℕ → Turn
vacate i c none reason q = unmoved (cleared Idle false c.progressed) q
vacate i c (some t) none q = unmoved (cleared c.state c.yields c.progressed) q
vacate i c (some t) (some r) q = record { core = cleared Idle false c.progressed; queue = q; moves = leaves t i r ∷ [] }

unfoldable pub phase3 : Phase
phase3 i c q = vacate i c (holder c.state) (leaves_for c.exits c.blocks) q

-- 4: "Idle cores take the next thread."
unfoldable pub filled : Rules → ℕ → Core → CoreState → Option ℕ → List ℕ → Turn
filled k i c (Switching t l) next q = unmoved c q
filled k i c (Running t slice) next q = unmoved c q
filled k i c Idle none q = unmoved c q
filled k i c Idle (some h) q = record { core = dispatch k.cost h c; queue = without h q; moves = dispatch_moves k.cost h i }

unfoldable pub phase4 : Rules → Phase
phase4 k i c q = filled k i c c.state (pick_next k i none q) q

-- 5: "A running core that yielded, or whose slice ≥ quantum with its progressed mark set under rr or priority, hands over. Under priority only
-- threads with number ≤ its own are eligible. With none eligible it keeps its thread, slice 0, the mark untouched. Yield outranks quantum as reason."
unfoldable pub quantum_over : Rules → Core → (tid slice : ℕ) → Bool
quantum_over k c t slice = is_preemptive k.policy && (leb (quantum_of k t) slice && c.progressed)

unfoldable pub hand_over : Rules → ℕ → Core → CoreState → Bool → Option ℕ → LeaveReason → List ℕ → Turn
hand_over k i c Idle wants next r q = unmoved c q
hand_over k i c (Switching t l) wants next r q = unmoved c q
hand_over k i c (Running t slice) false next r q = unmoved c q
hand_over k i c (Running t slice) true none r q = unmoved (with_state (Running t 0) c) q
hand_over k i c (Running t slice) true (some h) r q =
    record { core = dispatch k.cost h c; queue = without h (q ++ (t ∷ [])); moves = leaves t i r ∷ dispatch_moves k.cost h i }

abbrev pub wants_hand_over : Rules → Core → CoreState → Bool
wants_hand_over k c Idle = false
wants_hand_over k c (Switching t l) = false
wants_hand_over k c (Running t slice) = c.yields || quantum_over k c t slice

abbrev pub ceiling_of : Rules → CoreState → Option ℕ
ceiling_of k Idle = none
ceiling_of k (Switching t l) = none
ceiling_of k (Running t slice) = ceiling_for k.policy (k.prio t)

abbrev pub unyielded : Core → Core
unyielded c = record { state = c.state; exits = c.exits; blocks = c.blocks; yields = false; progressed = c.progressed }

unfoldable pub phase5 : Rules → Phase
phase5 k i c q = hand_over k i (unyielded c) c.state (wants_hand_over k c c.state) (pick_next k i (ceiling_of k c.state) q) (cond c.yields Yield Quantum) q

-- 6: "Under priority, while the best waiting number is strictly below the largest running number, that thread loses its core; among equals the
-- highest core." A core that took a thread here runs a number that nobody waiting is below, so each core loses at most once and the number of
-- cores bounds the rounds (`proofs/Preempt.antt`: after them there is no next swap).
pub record Victim : Type 0 where
  pub tid : ℕ
  pub core : ℕ

unfoldable pub less_urgent : (ℕ → ℕ) → Victim → Option Victim → Victim
less_urgent pr v none = v
less_urgent pr v (some v') = cond (ltb (pr v'.tid) (pr v.tid)) v v'

unfoldable pub candidate : (ℕ → ℕ) → ℕ → CoreState → Option Victim → Option Victim
candidate pr i Idle rest = rest
candidate pr i (Switching t l) rest = rest
candidate pr i (Running t slice) rest = some (less_urgent pr (record { tid = t; core = i }) rest)

unfoldable pub least_urgent : (ℕ → ℕ) → ℕ → List Core → Option Victim
least_urgent pr i [] = none
least_urgent pr i (c ∷ cs) = candidate pr i c.state (least_urgent pr (suc i) cs)

unfoldable pub update {ℓ} : {A : Type ℓ} → ℕ → (A → A) → List A → List A
update n f [] = []
update zero f (x ∷ xs) = f x ∷ xs
update (suc n) f (x ∷ xs) = x ∷ update n f xs

-- a core loses its thread to the back of the queue and takes another
unfoldable pub preempted : Rules → LeaveReason → Victim → ℕ → Pass → Pass
preempted k r v h pass =
    record { cores = update v.core (dispatch k.cost h) pass.cores; queue = without h (pass.queue ++ (v.tid ∷ [])); moves = pass.moves ++ (leaves v.tid v.core r ∷ dispatch_moves k.cost h v.core) }

pub record Preemption : Type 0 where
  pub victim : Victim
  pub best : ℕ

unfoldable pub preemption_of : (ℕ → ℕ) → Option ℕ → Option Victim → Option Preemption
preemption_of pr none v = none
preemption_of pr (some best) none = none
preemption_of pr (some best) (some v) = cond (ltb (pr best) (pr v.tid)) (some (record { victim = v; best = best })) none

unfoldable pub next_preemption : Rules → Pass → Option Preemption
next_preemption k pass = preemption_of k.prio (most_urgent k.prio pass.queue) (least_urgent k.prio 0 pass.cores)

unfoldable pub preempt_rounds : Rules → ℕ → Pass → Pass
preempt_rounds k zero pass = pass
preempt_rounds k (suc n) pass = elim (next_preemption k pass) [ none ↦ pass | some next ↦ preempt_rounds k n (preempted k Preempt next.victim next.best pass) ]

unfoldable pub phase6 : Policy → Rules → Pass → Pass
phase6 Off k pass = pass
phase6 Fifo k pass = pass
phase6 RoundRobin k pass = pass
phase6 Priority k pass = preempt_rounds k (length pass.cores) pass

-- the six phases; `phases1_to4` is how things stand when the idle cores are filled
unfoldable pub phases1_to4 : Rules → List Core → List ℕ → Pass
phases1_to4 k cs q = and_then (and_then (and_then (ascend phase1 0 cs q) phase2) phase3) (phase4 k)

unfoldable pub decide : Rules → List Core → List ℕ → Pass
decide k cs q = phase6 k.policy k (and_then (phases1_to4 k cs q) (phase5 k))
