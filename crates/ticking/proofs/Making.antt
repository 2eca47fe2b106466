-- A load put together: `new`, the spawns and the turns.
use Prim.Native.Nat.{ℕ, ◌<◌}
use native.Mathlib.Omega.{arith}
use mathlib.Core.Path.{◌≡◌, refl, sym, ap, subst, ◌∙◌}
use mathlib.Core.Option.{Option, none, some}
use mathlib.Core.List.{◌++◌}
use Rattle.settings.specs.declared.SchedConfig.{SchedConfig}
use Rattle.state.specs.declared.Capacities.{Capacities}
use Rattle.state.specs.declared.Sched.{Sched}
use Rattle.state.specs.Memory.{Memory, Unchanged}
use Rattle.state.specs.State.{meant, Valid}
use Rattle.checks.specs.Check.{check_meant}
use Rattle.new_plan.specs.declared.Created.{Created}
use Rattle.new_plan.specs.First.{core_count}
use Rattle.new_plan.specs.Made.{NewDone}
use Rattle.replay.proofs.Framed.{alike, behind-then, first-threads, first-events, first-segments, first-cores, first_some, behind-new}
use Rattle.ticking.specs.Turns.{spawns, turns, Ran, TurnsDone, SpawnsDone}
use Rattle.ticking.specs.Load.{due, LoadTaken, LoadDone}
use Rattle.ticking.proofs.Running.{ran-both}

module _ (c : SchedConfig) (n : ℕ) (k : Capacities) (m m₁ : Memory) (g : Created) (created : NewDone c n k 0 m m₁ g.sched g.answer) where
  -- what `spawn_all` asks
  pub spawns-ask : (l : ℕ) → 0 < due (check_meant g.answer) l → Valid g.sched m₁
  spawns-ask l h = go (check_meant g.answer) refl h
    where
      go : (x : Option ℕ) → check_meant g.answer ≡ x → 0 < due x l → Valid g.sched m₁
      go none e d = (created.taken e).valid
      go (some y) e d = absurd (omega arith)

  module _ (count : ℕ) (m₂ : Memory) (s₂ : Sched) (spawned : SpawnsDone (due (check_meant g.answer) count) g.sched s₂ m₁ m₂) where
    -- what `run_ticks` asks
    pub turns-ask : (ticks : ℕ) → 0 < due (check_meant g.answer) ticks → Valid s₂ m₂
    turns-ask ticks h = (spawned.ran (spawns-ask ticks h)).valid

    module _ (ticks : ℕ) (m' : Memory) (s' : Sched) (ticked : TurnsDone (due (check_meant g.answer) ticks) s₂ s' m₂ m') where
      -- both runs, from what `new` left
      ran : check_meant g.answer ≡ none → Ran (spawns count ++ turns (core_count n) ticks) g.sched s' m₁ m'
      ran e =
          let z = created.taken e in
          let x : Ran (spawns count) g.sched s₂ m₁ m₂ = subst (λ (y : Option ℕ). Ran (spawns (due y count)) g.sched s₂ m₁ m₂) e (spawned.ran z.valid) in
          let y : Ran (turns s₂.cores ticks) s₂ s' m₂ m' = subst (λ (y : Option ℕ). Ran (turns s₂.cores (due y ticks)) s₂ s' m₂ m') e (ticked.ran x.valid) in
          let cores : s₂.cores ≡ core_count n = (alike g.sched s₂ m₁ m₂ (spawns count) x.state).cores ∙ sym (first-cores z) in
          ran-both g.sched s₂ s' m₁ m₂ m' (spawns count) (turns (core_count n) ticks) x (subst (λ (i : ℕ). Ran (turns i ticks) s₂ s' m₂ m') cores y)

      made-taken : check_meant g.answer ≡ none → LoadTaken c n k count ticks m m' (record { made = g.answer; sched = s' })
      made-taken e =
          let z = created.taken e in
          record {
            start = meant g.sched m₁;
            begins = z.state;
            state = (ran e).state;
            valid = (ran e).valid;
            behind = behind-then (behind-new z k.threads (first_some z)) (rw (first-threads z, first-events z, first-segments z, first-cores z) (ran e).behind);
          }

      pub load-done : LoadDone c n k count ticks m m' (record { made = g.answer; sched = s' })
      load-done =
          record {
            answer = created.answer;
            refused = λ y e.
                let u = spawned.unmoved (ap (λ (x : Option ℕ). due x count) e) in
                let t = ticked.unmoved (ap (λ (x : Option ℕ). due x ticks) e) in
                subst (Unchanged m) (sym (t.1 ∙ u.1)) (created.refused y e);
            taken = made-taken;
          }
