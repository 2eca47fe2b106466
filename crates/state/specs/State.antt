-- Which state of the definition a `Sched` stands for, together with the memory that the host lends, and what every call may count on.
--   threads: T records; the first `threads` of them are in use
--   queue:   T words; the first `queued` are the ready queue, front first
--   prios:   T words; the first `threads` are the threads' priority numbers
--   log:     2 E words, a ring of events
--   lanes:   80 words that a tick end or a forced switch writes its moves to, then 2 S words a core, each a ring of segments
use Rattle.std.specs.Prelude.{ℕ, zero, suc, ◌+◌, ◌*◌, ◌<◌, ◌≤◌, ◌≡◌, List, [], ◌∷◌, map, length, take, drop, get_or}
use Rattle.settings.specs.Reading.{policy_meant}
use Rattle.model.specs.Invariants.{Bounded}
use Rattle.model.specs.declared.CoreState as Program
use Rattle.model.specs.declared.CoreState.TheVariants as CoreStateCases
use Rattle.model.specs.declared.ThreadInfo.{ThreadInfo}
use Rattle.model.specs.declared.CoreTicks as Counters
use Rattle.model.specs.Types.{Core, ThreadRecord, State}
use Rattle.model.specs.Reading.{core_ticks_meant, thread_meant}
unfoldable pub use Rattle.phases.specs.Cores.{firsts}
unfoldable pub use Rattle.phases.specs.Cores.{core_at as core_from}
use Rattle.phases.specs.Cores.{board}
use Rattle.turns.specs.declared.Marks.{Marks}
use Rattle.rings.specs.declared.RingPos.{RingPos}
use Rattle.rings.specs.Ring.{RingOK}
use Rattle.rings.specs.Events.{events_in}
use Rattle.rings.specs.Timeline.{segments_in}
use Rattle.model.specs.Calls.{idle_core}
use Rattle.state.specs.Memory.{Memory}
use Rattle.state.specs.declared.CoreWords.{CoreWords}
use Rattle.state.specs.declared.Eight.{Eight}
use Rattle.state.specs.declared.Capacities.{Capacities}
use Rattle.state.specs.declared.Sched.{Sched}

-- a core state by its three words
abbrev pub state_from : (kind tid count : ℕ) → Program.CoreState
state_from zero t n = CoreStateCases.Idle
state_from (suc zero) t n = CoreStateCases.Switching (record { 0 = t }) n
state_from (suc (suc kind)) t n = CoreStateCases.Running (record { 0 = t }) n

abbrev pub state_in : CoreWords → Program.CoreState
state_in words = state_from words.kind words.tid words.count

abbrev pub states_of : Eight → List Program.CoreState
states_of eight = state_in eight.c0 ∷ state_in eight.c1 ∷ state_in eight.c2 ∷ state_in eight.c3 ∷ state_in eight.c4 ∷ state_in eight.c5 ∷ state_in eight.c6 ∷ state_in eight.c7 ∷ []

-- the words of a core state: 0 for idle, with zeros, 1 for switching, 2 for running
abbrev pub words_of : Program.CoreState → CoreWords
words_of CoreStateCases.Idle = record { kind = 0; tid = 0; count = 0 }
words_of (CoreStateCases.Switching t n) = record { kind = 1; tid = t.0; count = n }
words_of (CoreStateCases.Running t n) = record { kind = 2; tid = t.0; count = n }

abbrev idle_words : CoreWords
idle_words = words_of CoreStateCases.Idle

-- eight core states in words: no other words stand for them
abbrev pub packed : List Program.CoreState → Eight
packed states =
    record {
      c0 = words_of (get_or states 0 CoreStateCases.Idle);
      c1 = words_of (get_or states 1 CoreStateCases.Idle);
      c2 = words_of (get_or states 2 CoreStateCases.Idle);
      c3 = words_of (get_or states 3 CoreStateCases.Idle);
      c4 = words_of (get_or states 4 CoreStateCases.Idle);
      c5 = words_of (get_or states 5 CoreStateCases.Idle);
      c6 = words_of (get_or states 6 CoreStateCases.Idle);
      c7 = words_of (get_or states 7 CoreStateCases.Idle);
    }

abbrev pub others_idle : CoreWords → Eight
others_idle words = record { c0 = words; c1 = idle_words; c2 = idle_words; c3 = idle_words; c4 = idle_words; c5 = idle_words; c6 = idle_words; c7 = idle_words }

abbrev pub no_ticks : Counters.CoreTicks
no_ticks = record { busy = 0; switching = 0; idle = 0 }

abbrev pub no_pos : RingPos
no_pos = record { last = 0; len = 0 }

-- the words that a tick end's moves take
abbrev pub move_room : ℕ
move_room = 80

-- where core i's segments begin, and where they stand
abbrev pub lane_start : (cap_s i : ℕ) → ℕ
lane_start cap_s i = move_room + i * (2 * cap_s)

abbrev pub lane_words : (cap_s i : ℕ) → List ℕ → List ℕ
lane_words cap_s i ws = take (2 * cap_s) (drop (lane_start cap_s i) ws)

abbrev pub log_words : (cap_e : ℕ) → List ℕ → List ℕ
log_words cap_e ls = take (2 * cap_e) ls

-- core i of a state, with its marks
abbrev pub board_of : Sched → ℕ → Core
board_of s = board (states_of s.states) s.marks

unfoldable pub meant_at : Sched → List ThreadInfo → (queue log lanes : List ℕ) → State
meant_at s ts qs ls ws =
    record {
      config = record {
        policy = policy_meant s.config.policy;
        quantum = s.config.quantum;
        cost = s.config.switch_cost;
        cap_t = s.capacities.threads;
        cap_e = s.capacities.events;
        cap_s = s.capacities.segments;
      };
      cores = firsts (board_of s) s.cores;
      queue = take s.queued qs;
      accounts = record {
        threads = map thread_meant (take s.threads ts);
        ticks = firsts (λ i. core_ticks_meant (get_or s.ticks i no_ticks)) s.cores;
        timelines = firsts (λ i. segments_in (lane_words s.capacities.segments i ws) (get_or s.lanes i no_pos)) s.cores;
        log = events_in (log_words s.capacities.events ls) s.log;
        context_switches = s.context_switches;
      };
      now = s.now.0;
      closed = s.closed;
    }

-- the same of the lent memory as one value; the priorities only repeat what the records hold
abbrev pub meant : Sched → Memory → State
meant s m = meant_at s m.threads m.queue m.log m.lanes

-- the memory holds what the capacities promise
pub record Sizes (capacities : Capacities) (core_count thread_count queued : ℕ) (m : Memory) : Type 0 where
  pub cores : core_count ≤ 8
  pub in_use : thread_count ≤ capacities.threads
  pub waiting : queued ≤ capacities.threads
  pub threads : capacities.threads ≤ length m.threads
  pub queue : capacities.threads ≤ length m.queue
  pub prios : capacities.threads ≤ length m.prios
  pub log : 2 * capacities.events ≤ length m.log
  pub lanes : lane_start capacities.segments core_count ≤ length m.lanes

-- the rings' positions are within their memory
pub record Rings (capacities : Capacities) (cores : ℕ) (log : RingPos) (lanes : List RingPos) (ls ws : List ℕ) : Type 0 where
  pub eight : length lanes ≡ 8
  pub events : RingOK (log_words capacities.events ls) log
  pub segments : (i : ℕ) → i < cores → RingOK (lane_words capacities.segments i ws) (get_or lanes i no_pos)

-- arrays of eight are lists of eight; a core that is not there is idle and unmarked
pub record MarksOK (cores : ℕ) (states : List Program.CoreState) (marks : Marks) : Type 0 where
  pub exits : length marks.exits ≡ 8
  pub blocks : length marks.blocks ≡ 8
  pub yields : length marks.yields ≡ 8
  pub progressed : length marks.progressed ≡ 8
  pub unused : (i : ℕ) → cores ≤ i → board states marks i ≡ idle_core

-- what `new` and every call leave, and all that a call asks
pub record Valid (s : Sched) (m : Memory) : Type 0 where
  pub sizes : Sizes s.capacities s.cores s.threads s.queued m
  pub rings : Rings s.capacities s.cores s.log s.lanes m.log m.lanes
  pub marks : MarksOK s.cores (states_of s.states) s.marks
  -- the words of the core states are determined by the states
  pub words : s.states ≡ packed (states_of s.states)
  pub ticks : length s.ticks ≡ 8
  pub priorities : take s.threads m.prios ≡ map (λ (t : ThreadRecord). t.priority) (meant s m).accounts.threads
  pub bounded : Bounded (meant s m)
