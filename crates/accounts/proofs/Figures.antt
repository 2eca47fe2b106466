-- What the functions leave, as parts of the definition's accounts: the laws that callers cite.
-- Assumes nothing.
use Prim.Native.Nat.{ℕ, zero, suc, ◌+◌, ◌*◌, ◌≤◌, ◌<◌}
use mathlib.Core.Path.{◌≡◌, refl, sym, ap, ◌∙◌}
use mathlib.Core.List.{List, [], ◌∷◌, ◌++◌, zip_with}
use native.Mathlib.Numerals.{add-one}
use native.Mathlib.Omega.{arith}
use borrow.Author.Count.{below_none, below_more}
use lib.ListN.{length, get_or, length-append}
use lib.Seq.{length-take-le}
use Rattle.model.specs.Invariants.{All, TicksIn}
use Rattle.model.specs.Types.{CoreState, Core, CoreTicks, Segment, Move, starts, leaves, takes, Accounts}
use Rattle.model.specs.Accounting.{newest, grown, lane_of, charge_core, charge, apply_move, apply_moves, logged}
use Rattle.model.specs.Calls.{limit_now, wake}
use Rattle.model.specs.Reading.{core_state_meant, core_ticks_meant}
use Rattle.model.specs.declared.CoreState as Program
use Rattle.model.specs.declared.CoreState.TheVariants as CoreStateCases
use Rattle.model.specs.declared.CoreTicks as Counters
use Rattle.ticks.specs.Room.{TicksRoom}
use Rattle.rings.specs.declared.RingPos.{RingPos}
use Rattle.rings.specs.Ring.{capacity}
use Rattle.rings.specs.Timeline.{segments_in}
use Rattle.model.specs.declared.ThreadInfo.{ThreadInfo}
use Rattle.state.specs.declared.Sched.{Sched}
use Rattle.state.specs.State.{firsts, states_of, core_from, board_of, meant_at, no_ticks, no_pos, lane_words, log_words}
use Rattle.accounts.specs.Charging.{TicksCharged, LanesCharged}
use Rattle.accounts.specs.Log.{moved_log, woken_log}

---- the first n values of a function

module _ {A : Type 0} where
  pub firsts-length : (g : ℕ → A) (n : ℕ) → length (firsts g n) ≡ n
  unfolding firsts
  firsts-length g zero = refl
  firsts-length g (suc n) = length-append (firsts g n) (g n ∷ []) ∙ add-one (length (firsts g n)) ∙ ap suc (firsts-length g n)

  pub firsts_same : (g h : ℕ → A) (n : ℕ) → ((i : ℕ) → i < n → g i ≡ h i) → firsts g n ≡ firsts h n
  unfolding firsts
  firsts_same g h zero e = refl
  firsts_same g h (suc n) e = rw (firsts_same g h n (λ i l. e i (omega arith)), e n (omega arith))

module _ {A : Type 0} (P : A → Type 0) where
  all-front : (xs : List A) (y : A) → All P (xs ++ (y ∷ [])) → All P xs × P y
  all-front [] y a = (tt, a.0)
  all-front (x ∷ xs) y a = let r = all-front xs y a.1 in ((a.0, r.0), r.1)

  -- what holds of a list of first values holds of each of them
  pub firsts-all : (g : ℕ → A) (n : ℕ) → All P (firsts g n) → (i : ℕ) → i < n → P (g i)
  unfolding firsts
  firsts-all g zero a = below_none (λ i. P (g i))
  firsts-all g (suc n) a =
      let r = all-front (firsts g n) (g n) a in
      λ i l. below_more (λ j. P (g j)) n (firsts-all g n r.0) r.1 i (rw add-one l)

module _ {A B C : Type 0} (f : A → B → C) where
  zip-append : (xs : List A) (ys : List B) (x : A) (y : B) → length xs ≡ length ys → zip_with f (xs ++ (x ∷ [])) (ys ++ (y ∷ [])) ≡ zip_with f xs ys ++ (f x y ∷ [])
  unfolding zip_with
  zip-append [] [] x y e = refl
  zip-append [] (b ∷ ys) x y e = absurd (omega arith)
  zip-append (a ∷ xs) [] x y e = absurd (omega arith)
  zip-append (a ∷ xs) (b ∷ ys) x y e = ap (λ (l : List C). f a b ∷ l) (zip-append xs ys x y (omega arith))

  pub firsts-zip : (g : ℕ → A) (h : ℕ → B) (n : ℕ) → firsts (λ i. f (g i) (h i)) n ≡ zip_with f (firsts g n) (firsts h n)
  unfolding firsts zip_with
  firsts-zip g h zero = refl
  firsts-zip g h (suc n) =
      ap (λ (l : List C). l ++ (f (g n) (h n) ∷ [])) (firsts-zip g h n)
      ∙ sym (zip-append (firsts g n) (firsts h n) (g n) (h n) (firsts-length g n ∙ sym (firsts-length h n)))

---- what `charge_ticks` asks: the counters of a core add up to the ticks so far

pub ticks-room :
    (n now : ℕ) (ticks : List Counters.CoreTicks) → now ≤ limit_now → All (TicksIn now) (firsts (λ i. core_ticks_meant (get_or ticks i no_ticks)) n) → (i : ℕ) → i < n → TicksRoom (get_or ticks i no_ticks)
unfolding limit_now
ticks-room n now ticks h a i l =
    let e : (get_or ticks i no_ticks).busy + (get_or ticks i no_ticks).switching + (get_or ticks i no_ticks).idle ≡ now = firsts-all (TicksIn now) (λ j. core_ticks_meant (get_or ticks j no_ticks)) n a i l in
    record { busy = omega arith; switching = omega arith; idle = omega arith }

---- charging: with `cores` the cores, whatever their marks

module _ (n : ℕ) (states : List Program.CoreState) (cores : ℕ → Core) (same : (i : ℕ) → i < n → (cores i).state ≡ core_state_meant (get_or states i CoreStateCases.Idle)) where
  -- the counters of the definition's `charge`
  pub charged-ticks :
      (old new : List Counters.CoreTicks) → TicksCharged n states old new
      → firsts (λ i. core_ticks_meant (get_or new i no_ticks)) n ≡ zip_with (λ c t. charge_core c.state t) (firsts cores n) (firsts (λ i. core_ticks_meant (get_or old i no_ticks)) n)
  charged-ticks old new h =
      firsts_same (λ i. core_ticks_meant (get_or new i no_ticks)) (λ i. charge_core (cores i).state (core_ticks_meant (get_or old i no_ticks))) n
      (λ i l. h.charged i l ∙ ap (λ (s : CoreState). charge_core s (core_ticks_meant (get_or old i no_ticks))) (sym (same i l)))
      ∙ firsts-zip (λ (c : Core) (t : CoreTicks). charge_core c.state t) cores (λ i. core_ticks_meant (get_or old i no_ticks)) n

  -- the timelines of the definition's `charge`
  pub charged-timelines :
      (cap_s tick : ℕ) (old new : List ℕ) (pos pos' : List RingPos) → LanesCharged cap_s n tick states old new pos pos'
      → firsts (λ i. segments_in (lane_words cap_s i new) (get_or pos' i no_pos)) n
      ≡ zip_with (λ c l. newest cap_s (grown tick (lane_of c.state) l)) (firsts cores n) (firsts (λ i. segments_in (lane_words cap_s i old) (get_or pos i no_pos)) n)
  charged-timelines cap_s tick old new pos pos' h =
      firsts_same (λ i. segments_in (lane_words cap_s i new) (get_or pos' i no_pos)) (λ i. newest cap_s (grown tick (lane_of (cores i).state) (segments_in (lane_words cap_s i old) (get_or pos i no_pos)))) n
      (λ i l. (h.lanes i l).segments ∙ ap (λ (s : CoreState). newest cap_s (grown tick (lane_of s) (segments_in (lane_words cap_s i old) (get_or pos i no_pos)))) (sym (same i l)))
      ∙ firsts-zip (λ (c : Core) (l : List Segment). newest cap_s (grown tick (lane_of c.state) l)) cores (λ i. segments_in (lane_words cap_s i old) (get_or pos i no_pos)) n

-- the same for the state that a `Sched` stands for
module _ (s : Sched) (ts : List ThreadInfo) (qs ls ws : List ℕ) where
  pub meant-ticks :
      (tick : ℕ) (new : List Counters.CoreTicks) → TicksCharged s.cores (states_of s.states) s.ticks new
      → firsts (λ i. core_ticks_meant (get_or new i no_ticks)) s.cores ≡ (charge s.capacities.segments tick (meant_at s ts qs ls ws).cores (meant_at s ts qs ls ws).accounts).ticks
  unfolding charge meant_at core_from
  meant-ticks tick new h = charged-ticks s.cores (states_of s.states) (board_of s) (λ i l. refl) s.ticks new h

  pub meant-timelines :
      (tick : ℕ) (ws' : List ℕ) (pos' : List RingPos) → LanesCharged s.capacities.segments s.cores tick (states_of s.states) ws ws' s.lanes pos'
      → firsts (λ i. segments_in (lane_words s.capacities.segments i ws') (get_or pos' i no_pos)) s.cores
      ≡ (charge s.capacities.segments tick (meant_at s ts qs ls ws).cores (meant_at s ts qs ls ws).accounts).timelines
  unfolding charge meant_at core_from
  meant-timelines tick ws' pos' h =
      charged-timelines s.cores (states_of s.states) (board_of s) (λ i l. refl) s.capacities.segments tick ws ws' s.lanes pos' h

---- the log's ring holds as many events as the capacity says

pub log-capacity : (e : ℕ) (ls : List ℕ) → 2 * e ≤ length ls → capacity (log_words e ls) ≡ e
log-capacity e ls l =
    let k : length (log_words e ls) ≡ 2 * e = length-take-le (2 * e) ls l in
    omega (arith, k)

---- moves (counters and context switches: `applied-ticks` and `applied-switches` of model's Bounded)

pub applied-log : (e now : ℕ) (ms : List Move) (b : Accounts) → (apply_moves e now ms b).log ≡ moved_log e now ms b.log
unfolding apply_moves apply_move logged moved_log
applied-log e now [] b = refl
applied-log e now (starts t ∷ ms) b = applied-log e now ms _
applied-log e now (leaves t i r ∷ ms) b = applied-log e now ms _
applied-log e now (takes t i ∷ ms) b = applied-log e now ms _

pub applied-timelines : (e now : ℕ) (ms : List Move) (b : Accounts) → (apply_moves e now ms b).timelines ≡ b.timelines
unfolding apply_moves apply_move logged
applied-timelines e now [] b = refl
applied-timelines e now (starts t ∷ ms) b = applied-timelines e now ms _
applied-timelines e now (leaves t i r ∷ ms) b = applied-timelines e now ms _
applied-timelines e now (takes t i ∷ ms) b = applied-timelines e now ms _

---- wakes (counters: `wake-ticks` of model's Bounded)

pub woken-log : (e now : ℕ) (w : List ℕ) (b : Accounts) → (wake e now w b).log ≡ woken_log e now w b.log
unfolding wake logged woken_log
woken-log e now [] b = refl
woken-log e now (t ∷ w) b = woken-log e now w _

pub woken-timelines : (e now : ℕ) (w : List ℕ) (b : Accounts) → (wake e now w b).timelines ≡ b.timelines
unfolding wake logged
woken-timelines e now [] b = refl
woken-timelines e now (t ∷ w) b = woken-timelines e now w _

pub woken-switches : (e now : ℕ) (w : List ℕ) (b : Accounts) → (wake e now w b).context_switches ≡ b.context_switches
unfolding wake logged
woken-switches e now [] b = refl
woken-switches e now (t ∷ w) b = woken-switches e now w _
