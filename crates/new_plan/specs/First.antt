-- The parts of the call `new`. 01: "`new` checks 1, 2, 3."; "`new` starts thread 0 running on core 0, priority 10."
use Rattle.settings.specs.declared.Refusal.{Refusal}
use Rattle.std.specs.Prelude.{ℕ, suc, pred, ◌*◌, ◌<◌, ◌≤◌, ◌≡◌, Bool, false, ◌||◌, List, [], ◌∷◌, ltb, length, take, drop, set, replicate, Result}
use Rattle.std.proofs.Math.Option.{Option, none, some}
use Rattle.settings.specs.declared.SchedConfig.{SchedConfig}
use Rattle.settings.specs.Policy.{beyond}
use Rattle.model.specs.Types.{Event, Spawned, Dispatched}
use Rattle.model.specs.Accounting.{newest}
use Rattle.model.specs.Calls.{check, refused_new}
use Rattle.rings.specs.declared.RingPos.{RingPos}
use Rattle.rings.specs.Ring.{RingOK, capacity}
use Rattle.rings.specs.Events.{events_in}
use Rattle.state.specs.declared.Capacities.{Capacities}
use Rattle.state.specs.declared.Sched.{Sched}
use Rattle.state.specs.State.{others_idle, no_ticks, no_pos, lane_start}
use Rattle.checks.specs.Check.{check_meant}

-- 01: "0 counts as 1"
unfoldable pub core_count : ℕ → ℕ
core_count n = suc (pred n)

unfoldable pub bad_capacity : Capacities → Bool
bad_capacity k = beyond 1 256 k.threads || (beyond 1 512 k.events || beyond 1 4096 k.segments)

-- the memory that the host lends, by its lengths, does not hold what the capacities promise
unfoldable pub is_short : Capacities → (cores threads queue prios log lanes : ℕ) → Bool
is_short k n t q p l w = ltb t k.threads || (ltb q k.threads || (ltb p k.threads || (ltb l (2 * k.events) || ltb w (lane_start k.segments (core_count n)))))

-- a refusal, or what the rest says
abbrev pub or_refusal : Option ℕ → Option ℕ → Option ℕ
or_refusal none r = r
or_refusal (some n) r = some n

-- 01: "1 setting out of range"; "2+ over 8 cores (0 counts as 1)"; "3+ capacity out of range": a capacity for which there is no memory is out of range too
unfoldable pub new_refusal : SchedConfig → (cores : ℕ) → Capacities → (threads queue prios log lanes : ℕ) → Option ℕ
new_refusal c n k t q p l w = or_refusal (refused_new c.quantum c.switch_cost n k.threads k.events k.segments) (check 3 (is_short k n t q p l w) none)

-- records written: one, or none where the call is refused
abbrev pub taken_count : Option ℕ → ℕ
taken_count none = 1
taken_count (some n) = 0

-- the first state, without its log
unfoldable pub first_sched : SchedConfig → (cores : ℕ) → Capacities → Sched
first_sched c n k =
    record {
      config = c;
      capacities = k;
      cores = core_count n;
      threads = 1;
      queued = 0;
      now = record { 0 = 0 };
      context_switches = 0;
      closed = false;
      states = others_idle (record { kind = 2; tid = 0; count = 0 });
      marks = record { exits = replicate 8 false; blocks = replicate 8 false; yields = replicate 8 false; progressed = replicate 8 false };
      ticks = replicate 8 no_ticks;
      log = no_pos;
      lanes = replicate 8 no_pos;
    }

abbrev pub with_log : RingPos → Sched → Sched
with_log p s = record s { log = p }

-- 01: "Spawn, dispatch, leave, wake and priority change each write one event"; the newest are kept
unfoldable pub first_events : (cap_e : ℕ) → List Event
first_events e = newest e (record { tick = 0; tid = 0; kind = Spawned none } ∷ record { tick = 0; tid = 0; kind = Dispatched 0 } ∷ [])

-- the two events, in a ring in the first `words` words
pub record FirstLogged (words : ℕ) (ls ls' : List ℕ) (p : RingPos) : Type 0 where
  pub ok : RingOK (take words ls') p
  pub events : events_in (take words ls') p ≡ first_events (capacity (take words ls))
  pub rest : drop words ls' ≡ drop words ls
  pub long : length ls' ≡ length ls

-- what the call's end asks where the call is taken
pub record CreateFit (k : Capacities) (r : Option ℕ) (ps ls : List ℕ) : Type 0 where
  pub prios : r ≡ none → 0 < length ps
  pub events : r ≡ none → 1 ≤ k.events
  pub few : r ≡ none → k.events ≤ 512
  pub log : r ≡ none → 2 * k.events ≤ length ls

-- and what it leaves
pub record CreatedAs (c : SchedConfig) (cores : ℕ) (k : Capacities) (given : Result Unit Refusal) (ps ps' ls ls' : List ℕ) (s : Sched) (a : Result Unit Refusal) : Type 0 where
  pub answer : a ≡ given
  pub long_prios : length ps' ≡ length ps
  pub long_log : length ls' ≡ length ls
  pub refused : (n : ℕ) → check_meant given ≡ some n → (ps' ≡ ps) × (ls' ≡ ls)
  pub taken : check_meant given ≡ none → (s ≡ with_log s.log (first_sched c cores k)) × (ps' ≡ set ps 0 10) × FirstLogged (2 * k.events) ls ls' s.log
