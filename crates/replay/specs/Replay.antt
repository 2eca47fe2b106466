-- Demand 3: what a list of calls leaves, on a scheduler that `new` made.
use Rattle.std.specs.Prelude.{ℕ, ◌*◌, min, ◌≡◌, List, [], ◌∷◌, map, length, take, drop}
use Rattle.std.proofs.Math.Option.{Option, none, some}
use Rattle.settings.specs.declared.SchedConfig.{SchedConfig}
use Rattle.settings.specs.Reading.{policy_meant}
use Rattle.model.specs.Types.{State}
use Rattle.model.specs.Calls.{Call, Answer, ok, step, run, new, made}
use Rattle.guarantees.specs.Claims.{unobserved, observe_all}
use Rattle.switches.specs.Entries.{no_switches, ListFor}
use Rattle.state.specs.declared.Capacities.{Capacities}
use Rattle.state.specs.Memory.{Memory, Unchanged}
use Rattle.state.specs.State.{meant, Valid, lane_start}
use Rattle.checks.specs.Check.{check_meant}
use Rattle.new_plan.specs.First.{core_count, new_refusal}
use Rattle.sched.specs.declared.Applied.{Applied}
use Rattle.replay.specs.declared.Replayed.{Replayed}
use Rattle.sched.specs.Meant.{outcome_meant}
use Rattle.replay.specs.Chain.{Link, Linked, Guaranteed, last_sched, last_memory, last_said}

-- the definition's answer to the last of these calls, from the state s on; a where there is none
unfoldable pub last_answer : Answer → State → List Call → Answer
last_answer a s [] = a
last_answer a s (c ∷ cs) = last_answer (step s c).answer (step s c).state cs

-- how many calls are due of a list of so many: none where `new` is refused
abbrev pub due : Option ℕ → (count upto : ℕ) → ℕ
due (some m) n u = 0
due none n u = min u n

-- memory behind what n threads, E events and S segments on each of c cores take; a queue holds no more threads than there are
pub record Behind (n E S c : ℕ) (m m' : Memory) : Type 0 where
  pub threads : drop n m'.threads ≡ drop n m.threads
  pub queue : drop n m'.queue ≡ drop n m.queue
  pub prios : drop n m'.prios ≡ drop n m.prios
  pub log : drop (2 * E) m'.log ≡ drop (2 * E) m.log
  pub lanes : drop (lane_start S c) m'.lanes ≡ drop (lane_start S c) m.lanes

-- What the calls `cs` leave, made one after the other, each on what the one before left: links of a chain, one for each call, from the first state to the last.
pub record AppliedAll (cs : List Call) (first last : Applied) (m m' : Memory) : Type 0 where
  pub links : List Link
  pub calls : map (λ (l : Link). l.call) links ≡ cs
  pub linked : Linked first.sched m links
  pub sched : last.sched ≡ last_sched first.sched links
  pub memory : m' ≡ last_memory m links
  pub answer : outcome_meant last.outcome last.switches ≡ last_said (outcome_meant first.outcome first.switches) links
  pub list : ListFor (outcome_meant first.outcome first.switches) first.switches → ListFor (outcome_meant last.outcome last.switches) last.switches

-- Where `new` is accepted. `cs` is the whole list of calls, of which the first `upto` were made; `start` is the state of the definition's own run,
-- which is fed "the arguments of `new` and of the calls, never the program's state or what lent memory holds".
pub record ReplayTaken (c : SchedConfig) (n : ℕ) (k : Capacities) (entry : ℕ) (cs : List Call) (upto : ℕ) (m m' : Memory) (r : Replayed) : Type 0 where
  pub start : State
  -- what the definition's `new` makes of the same arguments
  pub begins : new (policy_meant c.policy) c.quantum c.switch_cost n k.threads k.events k.segments entry ≡ made start
  -- "core states and counters, queue, `now` and thread records equal the definition's after `new` and after every call"
  pub state : meant r.sched m' ≡ run start (take upto cs)
  -- "the program's answers, switch lists": the answer to the last of these calls, a tick's or a force's with its switch list
  pub answer : outcome_meant r.outcome r.switches ≡ last_answer ok start (take upto cs)
  -- the list is that answer's: its count is the length of the definition's list, 0 where there is none
  pub list : ListFor (last_answer ok start (take upto cs)) r.switches
  -- "each call gets what the one before left": it is all that a call asks
  pub valid : Valid r.sched m'
  -- memory behind the counts stays as it was
  pub behind : Behind r.sched.threads k.events k.segments (core_count n) m m'
  -- the two guarantees are read off the same run
  pub one_run : (before : List Call) → (observe_all (unobserved start) before).state ≡ run start before
  -- of the whole list, as far as one likes to look
  pub guarantees : Guaranteed c n start cs

-- What `replay` promises. The calls `cs` are any list and `upto` is any number, so this speaks of the state and of the answer after `new` and after every call of every list.
-- c, n, k and entry are the arguments of `new`; m is the lent memory before and m' after; r is the result.
pub record ReplayDone (c : SchedConfig) (n : ℕ) (k : Capacities) (entry : ℕ) (cs : List Call) (upto : ℕ) (m m' : Memory) (r : Replayed) : Type 0 where
  -- "`new` checks 1, 2, 3."
  pub answer : check_meant r.made ≡ new_refusal c n k (length m.threads) (length m.queue) (length m.prios) (length m.log) (length m.lanes)
  -- refused, it makes no scheduler: no call is made, nothing is written, and there is no switch list; the state and the outcome that r holds are then left open
  pub refused : (i : ℕ) → check_meant r.made ≡ some i → Unchanged m m' × (r.switches ≡ no_switches)
  pub taken : check_meant r.made ≡ none → ReplayTaken c n k entry cs upto m m' r
