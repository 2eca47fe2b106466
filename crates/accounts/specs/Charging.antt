-- What charging a tick leaves of the cores' counters and of their timelines in lent words.
use Rattle.std.specs.Prelude.{ℕ, ◌-◌, ◌<◌, ◌≤◌, ◌≡◌, List, length, take, drop, get_or}
use Rattle.model.specs.Types.{Lane}
use Rattle.model.specs.Accounting.{newest, charge_core, lane_of, grown}
use Rattle.model.specs.Reading.{core_state_meant, core_ticks_meant}
use Rattle.model.specs.declared.CoreState as Program
use Rattle.model.specs.declared.CoreState.TheVariants as CoreStateCases
use Rattle.model.specs.declared.CoreTicks as Counters
use Rattle.rings.specs.declared.RingPos.{RingPos}
use Rattle.rings.specs.Ring.{RingOK, Behind}
use Rattle.rings.specs.Timeline.{segments_in}
use Rattle.state.specs.State.{no_ticks, no_pos, move_room, lane_start, lane_words}

---- counters

-- 01: "Charging a tick changes one core's three counters and nothing beside them in the step that counts this core, which adds 1 to one of the three".
-- Core i's counters, after a tick in the state that it has:
abbrev pub TickCharged : ℕ → List Program.CoreState → (old new : List Counters.CoreTicks) → Type 0
TickCharged i states old new = core_ticks_meant (get_or new i no_ticks) ≡ charge_core (core_state_meant (get_or states i CoreStateCases.Idle)) (core_ticks_meant (get_or old i no_ticks))

pub record TicksCharged (n : ℕ) (states : List Program.CoreState) (old new : List Counters.CoreTicks) : Type 0 where
  pub charged : (i : ℕ) → i < n → TickCharged i states old new
  pub rest : (i : ℕ) → n ≤ i → get_or new i no_ticks ≡ get_or old i no_ticks

---- timelines

-- the words from `start` up to `end`
abbrev pub part : (start end : ℕ) → List ℕ → List ℕ
part start end ws = take (end - start) (drop start ws)

-- 01: "A segment grows if lane and end match, otherwise a new one begins." One timeline, in the words of its ring.
pub record LaneCharged (cap_s tick : ℕ) (lane : Lane) (b b' : List ℕ) (p p' : RingPos) : Type 0 where
  pub ok : RingOK b' p'
  pub segments : segments_in b' p' ≡ newest cap_s (grown tick lane (segments_in b p))
  pub behind : Behind b b' p p'

-- words of which only those from `start` up to `end` may have changed
pub record Outside (start end : ℕ) (old new : List ℕ) : Type 0 where
  pub before : take start new ≡ take start old
  pub after : drop end new ≡ drop end old

-- the timelines of the first n cores; the moves' words before them and the words behind them are as they were
pub record LanesCharged (cap_s n tick : ℕ) (states : List Program.CoreState) (old new : List ℕ) (pos pos' : List RingPos) : Type 0 where
  pub lanes :
      (i : ℕ) → i < n
      → LaneCharged cap_s tick (lane_of (core_state_meant (get_or states i CoreStateCases.Idle))) (lane_words cap_s i old) (lane_words cap_s i new) (get_or pos i no_pos) (get_or pos' i no_pos)
  pub moves : take move_room new ≡ take move_room old
  pub after : drop (lane_start cap_s n) new ≡ drop (lane_start cap_s n) old
  pub size : length new ≡ length old
  pub rest : (i : ℕ) → n ≤ i → get_or pos' i no_pos ≡ get_or pos i no_pos
