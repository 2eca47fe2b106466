-- What the checks read off the program's state is the definition's `refusal` of the state that it stands for.
use Prim.Native.Nat.{ℕ, ◌≤◌}
use mathlib.Core.Path.{◌≡◌, refl, ap, ◌∙◌}
use mathlib.Core.Bool.{Bool, true, false, ◌||◌}
use mathlib.Core.Option.{Option, none}
use mathlib.Core.List.{List, map}
use lib.Dec.{leb}
use lib.ListN.{length, take, get_or, get_elem?, length-map}
use lib.Seq.{length-take-le}
use borrow.Author.Tests.{leb-false}
use Rattle.model.specs.declared.ThreadInfo.{ThreadInfo}
use Rattle.model.specs.declared.CoreState.TheVariants as CoreStateCases
use Rattle.model.specs.Types.{Core, State}
use Rattle.model.specs.Calls.{check, refusal, no_core, leaving, core_at, core_state_of, limit_now, spawn, exit, join, retired, yield, priority, timing, tick, close, tid_on, yields_of}
use Rattle.model.specs.Reading.{core_state_meant, thread_meant}
use Rattle.state.specs.declared.Sched.{Sched}
use Rattle.state.specs.State.{core_from, board_of, states_of, meant_at}
use Rattle.state.proofs.Firsts.{length-firsts, core_at-firsts}
use Rattle.checks.specs.Check.{stops, core_refusal, spawn_refusal, tick_refusal, retired_refusal, priority_refusal, timing_refusal}

pub length-threads : (n : ℕ) (ts : List ThreadInfo) → n ≤ length ts → length (map thread_meant (take n ts)) ≡ n
length-threads n ts h = length-map (take n ts) thread_meant ∙ length-take-le n ts h

module _ (s : Sched) (ts : List ThreadInfo) (qs ls ws : List ℕ) where
  abbrev M : State
  M = meant_at s ts qs ls ws

  abbrev own : ℕ → Core
  own = board_of s

  no-core : (i : ℕ) → no_core M i ≡ leb s.cores i
  unfolding no_core meant_at
  no-core i = ap (λ (n : ℕ). leb n i) (length-firsts own s.cores)

  core-own : (i : ℕ) → leb s.cores i ≡ false → core_at M.cores i ≡ own i
  unfolding meant_at
  core-own i h = core_at-firsts own s.cores i (leb-false s.cores i h)

  pub chain : (i : ℕ) (running : Bool) (rest rest' : Option ℕ) → (leb s.cores i ≡ false → rest ≡ rest')
      → check 4 (no_core M i) (check 11 M.closed (check 12 (leaving (core_at M.cores i)) (check 13 (stops running (core_state_of M i)) rest))) ≡ core_refusal s i running rest'
  unfolding core_refusal core_state_of check leaving core_from meant_at
  chain i running rest rest' h = ap (λ (b : Bool). check 4 b (check 11 M.closed (check 12 (leaving (core_at M.cores i)) (check 13 (stops running (core_at M.cores i).state) rest)))) (no-core i) ∙ go (leb s.cores i) refl
    where
      go : (b : Bool) → leb s.cores i ≡ b → check 4 b (check 11 M.closed (check 12 (leaving (core_at M.cores i)) (check 13 (stops running (core_at M.cores i).state) rest)))
          ≡ check 4 b (check 11 s.closed (check 12 (get_or s.marks.exits i false || get_or s.marks.blocks i false) (check 13 (stops running (core_state_meant (get_or (states_of s.states) i CoreStateCases.Idle))) rest')))
      go true e = refl
      go false e =
          ap (λ (c : Core). check 11 M.closed (check 12 (leaving c) (check 13 (stops running c.state) rest))) (core-own i e)
          ∙ ap (λ (r : Option ℕ). check 11 s.closed (check 12 (get_or s.marks.exits i false || get_or s.marks.blocks i false) (check 13 (stops running (core_state_meant (get_or (states_of s.states) i CoreStateCases.Idle))) r))) (h e)

  pub exit-refusal : (i : ℕ) → refusal M (exit i) ≡ core_refusal s i false none
  unfolding refusal
  exit-refusal i = chain i false none none (λ e. refl)

  pub join-refusal : (i t : ℕ) → refusal M (join i t) ≡ core_refusal s i true none
  unfolding refusal
  join-refusal i t = chain i true none none (λ e. refl)

  pub yield-refusal : (i n : ℕ) → (leb s.cores i ≡ false → yields_of (get_elem? M.accounts.threads (tid_on M i)) ≡ n) → refusal M (yield i) ≡ core_refusal s i true (check 19 (leb limit_now n) none)
  unfolding refusal
  yield-refusal i n h = chain i true (check 19 (leb limit_now (yields_of (get_elem? M.accounts.threads (tid_on M i)))) none) (check 19 (leb limit_now n) none) (λ e. ap (λ (k : ℕ). check 19 (leb limit_now k) none) (h e))

  pub close-refusal : (i : ℕ) → refusal M (close i) ≡ core_refusal s i false (check 18 (leb limit_now s.now.0) none)
  unfolding refusal meant_at
  close-refusal i = chain i false (check 18 (leb limit_now s.now.0) none) (check 18 (leb limit_now s.now.0) none) (λ e. refl)

  pub retired-refusal : (i : ℕ) → refusal M (retired i) ≡ retired_refusal s i
  unfolding refusal retired_refusal meant_at
  retired-refusal i = ap (λ (b : Bool). check 4 b (check 11 s.closed none)) (no-core i)

  pub tick-refusal : refusal M tick ≡ tick_refusal s
  unfolding refusal tick_refusal meant_at
  tick-refusal = refl

  pub timing-refusal : (q w : ℕ) → refusal M (timing q w) ≡ timing_refusal s q w
  unfolding refusal timing_refusal meant_at
  timing-refusal q w = refl

  pub spawn-refusal : (p : Option ℕ) (e : ℕ) → s.threads ≤ length ts → refusal M (spawn p e) ≡ spawn_refusal s
  unfolding refusal spawn_refusal meant_at
  spawn-refusal p e h = ap (λ (n : ℕ). check 11 s.closed (check 17 (leb s.capacities.threads n) none)) (length-threads s.threads ts h)

  pub priority-refusal : (t n : ℕ) → s.threads ≤ length ts → refusal M (priority t n) ≡ priority_refusal s t
  unfolding refusal priority_refusal meant_at
  priority-refusal t n h = ap (λ (k : ℕ). check 5 (leb k t) (check 11 s.closed none)) (length-threads s.threads ts h)
