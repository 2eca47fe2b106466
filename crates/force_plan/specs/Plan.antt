-- What a forced switch leaves beside the thread records, and what is still to be done to them.
use Rattle.settings.specs.declared.Refusal.{Refusal}
use Rattle.std.specs.Prelude.{ℕ, ◌<◌, ◌≤◌, ◌≡◌, false, List, ◌++◌, leb, length, take, drop, get_or, Result, Ok, Err}
use Rattle.std.proofs.Math.Option.{Option, none, some}
use Rattle.settings.specs.Reading.{policy_meant, refusal_number}
use Rattle.model.specs.declared.CoreState.TheVariants as CoreStateCases
use Rattle.model.specs.declared.ThreadInfo.{ThreadInfo}
use Rattle.model.specs.Types.{CoreState}
use Rattle.model.specs.Phases.{update, without, dispatch_moves}
use Rattle.model.specs.Calls.{force, check, any_leaving, is_switching, out_of, back_of, forced_core, limit_switches}
use Rattle.model.specs.Reading.{core_state_meant}
use Rattle.queue.specs.Words.{moves_in, NoLonger}
use Rattle.queue.specs.Ready.{Picked, prio_of}
use Rattle.phases.specs.Cores.{board}
use Rattle.switches.specs.declared.SwitchList.{SwitchList}
use Rattle.switches.specs.Entries.{answer_with}
use Rattle.threads.specs.Slice.{MovesFit}
use Rattle.state.specs.declared.Sched.{Sched}
use Rattle.state.specs.Memory.{Memory}
use Rattle.state.specs.State.{firsts, board_of, packed, states_of, move_room, Valid}
use Rattle.tick_plan.specs.declared.Planned.{Planned}
use Rattle.tick_plan.specs.Plan.{MovedRecords}
use Rattle.tick_plan.specs.DoneWith.{DoneWith}
use Rattle.decide.specs.Forced.{asked, absent}

-- a forced switch that is done once the moves are applied to the records
pub record ForcePending (core : ℕ) (named : Option ℕ) (a : Result Unit Refusal) (l : SwitchList) (s s' : Sched) (count : ℕ) (m m' : Memory) : Type 0 where
  pub fits : MovesFit m.threads m'.lanes count
  pub done : (ts' : List ThreadInfo) → MovedRecords s.now.0 m'.lanes count m.threads ts' → DoneWith (force core named) (answer_with a l) l s s' m (record m' { threads = ts' })

abbrev pub state_at : Sched → ℕ → CoreState
state_at s i = core_state_meant (get_or (states_of s.states) i CoreStateCases.Idle)

-- 01: "4, 11, 12 (any core), 14, 15 or 16, 19", with the place in the queue of the thread that is asked for
unfoldable pub force_refusal : Sched → (core : ℕ) → (named : Option ℕ) → (place : ℕ) → Option ℕ
force_refusal s i n at =
    check 4 (leb s.cores i) (check 11 s.closed (check 12 (any_leaving (firsts (board_of s) s.cores)) (check 14 (is_switching (state_at s i))
    (check (absent n) (leb s.queued at) (check 19 (leb limit_switches s.context_switches) none)))))

-- what the check answers; where it refuses nothing, the place is the one that it was given
abbrev pub place_check_meant : Result ℕ Refusal → Option ℕ
place_check_meant (Ok at) = none
place_check_meant (Err r) = some (refusal_number r)

-- the place in the queue of the thread that is asked for; where there is none, the one behind the last
abbrev pub AskedAt : Sched → (named : Option ℕ) → (qs ps : List ℕ) → (place : ℕ) → Type 0
AskedAt s n qs ps at = Picked (asked (policy_meant s.config.policy) (prio_of (take s.threads ps)) n (take s.queued qs)) (take s.queued qs) at

-- a forced switch that is not refused
pub record Forceable (s : Sched) (core : ℕ) (named : Option ℕ) (at : ℕ) (m : Memory) : Type 0 where
  pub valid : Valid s m
  pub place : AskedAt s named m.queue m.prios at
  pub unrefused : force_refusal s core named at ≡ none

---- deciding

pub record ForceFits (s : Sched) (core at : ℕ) (qs ws : List ℕ) : Type 0 where
  pub cores : s.cores ≤ 8
  pub there : core < s.cores
  pub settled : is_switching (state_at s core) ≡ false
  pub waits : at < s.queued
  pub queued : s.queued ≤ length qs
  pub words : move_room ≤ length ws
  pub pick : (who : Option ℕ) × Picked who (take s.queued qs) at

pub record ForcedOf (s : Sched) (core at : ℕ) (qs qs' ws ws' : List ℕ) (p : Planned) : Type 0 where
  pub cores : firsts (board (states_of p.states) p.marks) s.cores ≡ update core (forced_core s.config.switch_cost (get_or (take s.queued qs) at 0)) (firsts (board_of s) s.cores)
  pub others : (j : ℕ) → (j ≡ core → ⊥) → board (states_of p.states) p.marks j ≡ board_of s j
  pub left : take p.queued qs' ≡ without (get_or (take s.queued qs) at 0) (take s.queued qs ++ back_of (state_at s core))
  pub moves : moves_in ws' p.moves ≡ out_of core (state_at s core) ++ dispatch_moves s.config.switch_cost (get_or (take s.queued qs) at 0) core
  pub queue : NoLonger s.queued p.queued qs qs'
  pub few : p.moves ≤ 3
  pub behind : drop move_room ws' ≡ drop move_room ws
  pub long_queue : length qs' ≡ length qs
  pub long_lanes : length ws' ≡ length ws
  pub exits : length p.marks.exits ≡ 8
  pub blocks : length p.marks.blocks ≡ 8
  pub yields : length p.marks.yields ≡ 8
  pub progressed : length p.marks.progressed ≡ 8
  pub words : p.states ≡ packed (states_of p.states)
