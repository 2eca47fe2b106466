-- A change that is made in two or three steps on a record is the definition's.
use mathlib.Core.Path.{◌≡◌, refl, sym, ap, subst, ◌∙◌}
use mathlib.Core.List.{[], ◌∷◌}
use mathlib.Core.Option.{none, some}
use Prim.Native.Nat.{ℕ, ◌+◌, ◌<◌, ◌^◌}
use native.Mathlib.Omega.{arith}
use Rattle.model.specs.Types.{ThreadRecord, LeaveReason, Config}
use Rattle.model.specs.Calls.{initial_state}
use Rattle.model.specs.Accounting.{add_counts, set_last, started, record_leave, record_dispatch, left, born}
use Rattle.records.specs.Changes.{first_thread}

-- `left` writes the state and the counters only
left-last : (why : LeaveReason) (t : ThreadRecord) → (left why t).last ≡ t.last
unfolding left add_counts
left-last LeaveReason.Exit t = refl
left-last LeaveReason.Block t = refl
left-last LeaveReason.Yield t = refl
left-last LeaveReason.Quantum t = refl
left-last LeaveReason.Preempt t = refl
left-last LeaveReason.Forced t = refl

pub leave-step : (now i : ℕ) (why : LeaveReason) (t u r : ThreadRecord) → u ≡ left why t
    → r ≡ set_last (record { core = u.last.core; dispatch = u.last.dispatch; leave = some (record { tick = now; core = i; reason = why }) }) u → r ≡ record_leave now i why t
unfolding record_leave
leave-step now i why t u r p e = e ∙ rw (p, left-last)

pub first-room : (entry : ℕ) (t : ThreadRecord) → t ≡ born 0 none entry 10 0 → t.counts.dispatches + 1 < 2 ^ 64
unfolding born
first-room entry t e = subst (λ (n : ℕ). n + 1 < 2 ^ 64) (sym (ap (λ (x : ThreadRecord). x.counts.dispatches) e)) (omega arith)

pub first_step : (entry : ℕ) (t u r : ThreadRecord) → t ≡ born 0 none entry 10 0 → u ≡ record_dispatch 0 0 t → r ≡ started 0 u → r ≡ first_thread entry
unfolding record_dispatch started born add_counts
first_step entry t u r p q e = e ∙ ap (started 0) (q ∙ ap (record_dispatch 0 0) p)

-- the one thread that a new scheduler has
pub initial-thread : (cores entry : ℕ) (k : Config) → (initial_state cores entry k).accounts.threads ≡ first_thread entry ∷ []
unfolding initial_state
initial-thread cores entry k = refl
