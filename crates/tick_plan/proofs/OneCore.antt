-- Charging a tick on a board of one core: the first step of what the loops over the cores do, and the last.
use Prim.Native.Nat.{ℕ, ◌+◌, ◌*◌, ◌<◌, ◌≤◌}
use mathlib.Core.Path.{◌≡◌, ◌∙◌}
use mathlib.Core.List.{List}
use native.Mathlib.Omega.{arith}
use lib.ListN.{length, get_or, set, length-set}
use Rattle.model.specs.declared.CoreState as Program
use Rattle.model.specs.declared.CoreTicks as Counters
use Rattle.model.specs.Accounting.{charge_core, lane_of}
use Rattle.model.specs.Reading.{core_state_meant, core_ticks_meant}
use Rattle.ticks.specs.Room.{TicksRoom}
use Rattle.rings.specs.declared.RingPos.{RingPos}
use Rattle.rings.specs.Ring.{capacity, RingOK}
use Rattle.state.specs.declared.Sched.{Sched}
use Rattle.state.specs.State.{state_in, states_of, no_ticks, no_pos, lane_start}
use Rattle.accounts.specs.Charging.{part, LaneCharged, Outside}
use Rattle.accounts.proofs.Counting.{ticks-none, ticks-next, ticks_end}
use Rattle.accounts.proofs.Timelines.{lanes-none, lanes_next, lanes_end, next-ok}
use Rattle.tick_plan.specs.Plan.{ChargeFits, ChargedOf}

module _ (s : Sched) (ws : List ℕ) (f : ChargeFits s ws) (one : s.cores ≡ 1) (end : ℕ) (e : end ≡ 80 + 2 * s.capacities.segments) where
  abbrev c : ℕ
  c = s.capacities.segments

  abbrev states : List Program.CoreState
  states = states_of s.states

  there : 0 < s.cores
  there = omega (arith, one)

  starts : 80 ≡ lane_start c 0
  starts = omega arith

  pub lane-fits : end ≤ length ws
  lane-fits = let w : lane_start c s.cores ≤ length ws = f.words in let k : lane_start c s.cores ≡ 80 + 2 * c = rw one (omega arith) in omega (arith, w, k, e)

  pub ticks-room : TicksRoom (get_or s.ticks 0 no_ticks)
  ticks-room = f.room 0 there

  pub lane-ring : RingOK (part 80 end ws) (get_or s.lanes 0 no_pos)
  lane-ring = next-ok c 0 s.now.0 states ws ws s.lanes s.lanes 80 end (lanes-none c s.now.0 states ws s.lanes) starts e lane-fits (f.rings 0 there)

  pub charged-one :
      (x : Program.CoreState) → x ≡ state_in s.states.c0 → (u : Counters.CoreTicks) → core_ticks_meant u ≡ charge_core (core_state_meant x) (core_ticks_meant (get_or s.ticks 0 no_ticks))
      → (ws' : List ℕ) (q : RingPos)
      → LaneCharged (capacity (part 80 end ws)) s.now.0 (lane_of (core_state_meant x)) (part 80 end ws) (part 80 end ws') (get_or s.lanes 0 no_pos) q
      → Outside 80 end ws ws' → length ws' ≡ length ws → length s.ticks ≡ 8 → length s.lanes ≡ 8
      → ChargedOf s ws ws' (record { ticks = set s.ticks 0 u; lanes = set s.lanes 0 q })
  charged-one x ex u eu ws' q y o size l m =
      record {
        ticks = ticks_end s.cores (ticks-next 0 states s.ticks s.ticks u (ticks-none states s.ticks) (omega (arith, l)) (rw ex at eu)) (omega (arith, one)) (omega (arith, one));
        lanes = lanes_end s.cores
            (lanes_next c 0 s.now.0 states ws ws s.lanes s.lanes 80 end (lanes-none c s.now.0 states ws s.lanes) starts e lane-fits ws' q (omega (arith, m)) (rw ex at y) o size)
            (omega (arith, one)) (omega (arith, one));
        eight_ticks = length-set s.ticks 0 u ∙ l;
        eight_lanes = length-set s.lanes 0 q ∙ m;
      }
