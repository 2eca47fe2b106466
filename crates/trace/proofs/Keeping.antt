-- What is valid after `new`: what it made, or, where it was refused, what was there.
use Rattle.std.specs.Prelude.{Ok, Err, Result}
use Prim.Native.Nat.{ℕ}
use mathlib.Core.Path.{◌≡◌, refl, sym, ap, subst, ◌∙◌}
use mathlib.Core.Option.{none}
use lib.ListN.{length}
use Rattle.settings.specs.declared.SchedConfig.{SchedConfig}
use Rattle.settings.specs.declared.Refusal.{Refusal}
use Rattle.settings.specs.declared.SchedPolicy.TheVariants as Policies
use Rattle.settings.specs.Policy.{beyond}
use Rattle.model.specs.Calls.{check, refused_new, bad_timing}
use Rattle.state.specs.declared.Capacities.{Capacities}
use Rattle.state.specs.declared.Sched.{Sched}
use Rattle.state.specs.Memory.{Memory, memory}
use Rattle.state.specs.State.{Valid}
use Rattle.checks.specs.Check.{check_meant}
use Rattle.new_plan.specs.First.{new_refusal, is_short, core_count}
use Rattle.new_plan.specs.Made.{NewDone}

module _ (c : SchedConfig) (n : ℕ) (k : Capacities) (pc : ℕ) (m m' : Memory) (s : Sched) (a : Result Unit Refusal) (d : NewDone c n k pc m m' s a) where
  pub kept-taken : a ≡ Ok tt → Valid s m'
  kept-taken e = (d.taken (ap check_meant e)).valid

  pub kept-refused : (s₀ : Sched) → Valid s₀ m → (r : Refusal) → a ≡ Err r → Valid s₀ m'
  kept-refused s₀ v r e =
      let u = d.refused _ (ap check_meant e) in
      let same : m' ≡ m = λ i. memory (u.0 i) (u.1 i) (u.2 i) (u.3 i) (u.4 i) in
      subst (Valid s₀) (sym same) v

abbrev first_config : SchedConfig
first_config = record { policy = Policies.RoundRobin; quantum = 1; switch_cost = 0 }

abbrev first_capacities : Capacities
first_capacities = record { threads = 1; events = 1; segments = 1 }

none-refused : new_refusal first_config 1 first_capacities 256 256 256 1024 65616 ≡ none
unfolding new_refusal is_short core_count refused_new check beyond bad_timing
none-refused = refl

pub first-valid : (m m' : Memory) (s : Sched) (a : Result Unit Refusal) → NewDone first_config 1 first_capacities 0 m m' s a
    → length m.threads ≡ 256 → length m.queue ≡ 256 → length m.prios ≡ 256 → length m.log ≡ 1024 → length m.lanes ≡ 65616 → Valid s m'
first-valid m m' s a d eT eQ eP eL eW = (d.taken (d.answer ∙ same ∙ none-refused)).valid
  where
    same : new_refusal first_config 1 first_capacities (length m.threads) (length m.queue) (length m.prios) (length m.log) (length m.lanes) ≡ new_refusal first_config 1 first_capacities 256 256 256 1024 65616
    same = rw (eT, eQ, eP, eL, eW)
