-- What the parts of a tick end leave, and what is still to be done to the thread records.
use Rattle.settings.specs.declared.Refusal.{Refusal}
use Rattle.std.specs.Prelude.{ℕ, ◌+◌, ◌*◌, ◌<◌, ◌≤◌, ◌≡◌, List, [], length, take, drop, get_or, Result}
use Rattle.std.proofs.Math.Option.{Option, none, some}
use Rattle.model.specs.declared.CoreState.TheVariants as CoreStateCases
use Rattle.model.specs.declared.ThreadInfo.{ThreadInfo}
use Rattle.model.specs.declared.Tick.{Tick}
use Rattle.model.specs.Types.{Move}
use Rattle.model.specs.Phases.{decide}
use Rattle.model.specs.Accounting.{charge_threads, switch_list, takes_in}
use Rattle.model.specs.Calls.{tick, switched}
use Rattle.model.specs.Reading.{core_state_meant}
use Rattle.queue.specs.Words.{moves_in, NoLonger}
use Rattle.turns.specs.Turns.{rules_of, Short}
use Rattle.phases.specs.Cores.{board, pass_of}
use Rattle.switches.specs.declared.SwitchList.{SwitchList}
use Rattle.switches.specs.Entries.{answer_with, ListFor}
use Rattle.rings.specs.declared.RingPos.{RingPos}
use Rattle.rings.specs.Ring.{RingOK}
use Rattle.rings.specs.Events.{events_in}
use Rattle.ticks.specs.Room.{TicksRoom}
use Rattle.charges.specs.Charging.{cores_meant}
use Rattle.record_moves.specs.Moves.{moved_threads}
use Rattle.threads.specs.Slice.{threads_in, Front, tid_at, MovesFit}
use Rattle.state.specs.declared.Sched.{Sched}
use Rattle.state.specs.Memory.{Memory}
use Rattle.state.specs.State.{firsts, board_of, packed, states_of, no_ticks, no_pos, move_room, lane_start, lane_words, log_words}
use Rattle.accounts.specs.Charging.{TicksCharged, LanesCharged}
use Rattle.accounts.specs.Log.{moved_log}
use Rattle.checks.specs.Check.{tick_refusal}
use Rattle.tick_plan.specs.DoneWith.{DoneWith}
use Rattle.tick_plan.specs.declared.Charged.{Charged}
use Rattle.tick_plan.specs.declared.Planned.{Planned}
use Rattle.tick_plan.specs.declared.Written.{Written}

---- what a tick end asks of the records

abbrev pub unless_refused : Option ℕ → ℕ → ℕ
unless_refused none n = n
unless_refused (some r) n = 0

-- the threads that are charged: none where the call is refused
unfoldable pub tick_threads : Sched → ℕ
tick_threads s = unless_refused (tick_refusal s) s.threads

-- the records charged, and the moves applied to them
abbrev pub ChargedRecords : Sched → (ts ts₁ : List ThreadInfo) → Type 0
ChargedRecords s ts ts₁ = Front (tick_threads s) (charge_threads (cores_meant (states_of s.states)) 0 (threads_in ts (tick_threads s))) ts ts₁

abbrev pub MovedRecords : (now : ℕ) (ws : List ℕ) (count : ℕ) (ts₁ ts' : List ThreadInfo) → Type 0
MovedRecords now ws count ts₁ ts' = (n : ℕ) → ((k : ℕ) → k < count → tid_at ws k < n) → Front n (moved_threads now (moves_in ws count) (threads_in ts₁ n)) ts₁ ts'

-- a tick end that is done once the records are charged and the moves applied to them
pub record TickPending (a : Result Unit Refusal) (l : SwitchList) (s s' : Sched) (count : ℕ) (m m' : Memory) : Type 0 where
  pub fits : (ts₁ : List ThreadInfo) → ChargedRecords s m.threads ts₁ → MovesFit ts₁ m'.lanes count
  pub done : (ts₁ ts' : List ThreadInfo) → ChargedRecords s m.threads ts₁ → MovedRecords (s.now.0 + 1) m'.lanes count ts₁ ts' → DoneWith tick (answer_with a l) l s s' m (record m' { threads = ts' })

---- charging

pub record ChargeFits (s : Sched) (ws : List ℕ) : Type 0 where
  pub cores : s.cores ≤ 8
  pub eight_ticks : length s.ticks ≡ 8
  pub eight_lanes : length s.lanes ≡ 8
  pub room : (i : ℕ) → i < s.cores → TicksRoom (get_or s.ticks i no_ticks)
  pub segments : s.capacities.segments ≤ 4096
  pub words : lane_start s.capacities.segments s.cores ≤ length ws
  pub now : s.now.0 < 4294967295
  pub rings : (i : ℕ) → i < s.cores → RingOK (lane_words s.capacities.segments i ws) (get_or s.lanes i no_pos)

pub record ChargedOf (s : Sched) (ws ws' : List ℕ) (c : Charged) : Type 0 where
  pub ticks : TicksCharged s.cores (states_of s.states) s.ticks c.ticks
  pub lanes : LanesCharged s.capacities.segments s.cores s.now.0 (states_of s.states) ws ws' s.lanes c.lanes
  pub eight_ticks : length c.ticks ≡ 8
  pub eight_lanes : length c.lanes ≡ 8

---- deciding

pub record PlanFits (s : Sched) (qs ps ws : List ℕ) : Type 0 where
  pub cores : s.cores ≤ 8
  pub queued : s.queued ≤ length qs
  pub prios : s.threads ≤ length ps
  pub words : move_room ≤ length ws
  pub short : (j : ℕ) → j < s.cores → Short (core_state_meant (get_or (states_of s.states) j CoreStateCases.Idle))

pub record PlannedOf (s : Sched) (qs qs' ps ws ws' : List ℕ) (p : Planned) : Type 0 where
  pub decided :
      pass_of s.cores (board (states_of p.states) p.marks) (take p.queued qs') (moves_in ws' p.moves)
      ≡ decide (rules_of s.config.policy s.config.quantum s.config.switch_cost (take s.threads ps))
      (firsts (board_of s) s.cores) (take s.queued qs)
  pub unused :
      (j : ℕ) → s.cores ≤ j
      → board (states_of p.states) p.marks j ≡ board_of s j
  pub queue : NoLonger s.queued p.queued qs qs'
  pub few : p.moves ≤ move_room
  pub behind : drop move_room ws' ≡ drop move_room ws
  pub long_queue : length qs' ≡ length qs
  pub long_lanes : length ws' ≡ length ws
  pub exits : length p.marks.exits ≡ 8
  pub blocks : length p.marks.blocks ≡ 8
  pub yields : length p.marks.yields ≡ 8
  pub progressed : length p.marks.progressed ≡ 8
  pub words : s.states ≡ packed (states_of s.states) → p.states ≡ packed (states_of p.states)

---- writing

-- the log stands at `pos` in the first `events` entries of its words
pub record WriteFitsAt (events : ℕ) (pos : RingPos) (ls ws : List ℕ) (count now : ℕ) : Type 0 where
  pub words : 2 * events ≤ length ls
  pub ring : RingOK (log_words events ls) pos
  pub within : count ≤ length ws
  pub early : now < 4294967296

pub record WrittenAt (capacity : ℕ) (pos : RingPos) (now : ℕ) (ms : List Move) (ls ls' : List ℕ) (w : Written) : Type 0 where
  pub ok : RingOK (log_words capacity ls') w.log
  pub events : events_in (log_words capacity ls') w.log ≡ moved_log capacity now ms (events_in (log_words capacity ls) pos)
  pub after : drop (2 * capacity) ls' ≡ drop (2 * capacity) ls
  pub long : length ls' ≡ length ls
  pub takes : w.takes ≡ takes_in ms
  pub list : ListFor (switched (switch_list [] ms)) w.switches

-- the same of a state's log
abbrev pub WriteFits : Sched → (ls ws : List ℕ) (count now : ℕ) → Type 0
WriteFits s = WriteFitsAt s.capacities.events s.log

abbrev pub WrittenOf : Sched → (now : ℕ) (ms : List Move) (ls ls' : List ℕ) → Written → Type 0
WrittenOf s = WrittenAt s.capacities.events s.log

---- the state that is left

-- with what was decided, and with what its moves came to
abbrev pub planned_sched : Sched → Planned → Written → Sched
planned_sched s p w =
    record s {
      queued = p.queued;
      context_switches = s.context_switches + w.takes;
      states = p.states;
      marks = p.marks;
      log = w.log;
    }

-- and charged, one tick later
abbrev pub ticked_sched : Sched → Tick → Charged → Planned → Written → Sched
ticked_sched s t c p w = let planned : Sched = planned_sched s p w in record planned { now = t; ticks = c.ticks; lanes = c.lanes }
