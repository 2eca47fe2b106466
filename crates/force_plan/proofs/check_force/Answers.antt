use mathlib.Core.Path.{◌≡◌, refl, sym, ap, ◌∙◌}
use native.Mathlib.Omega.{arith}
use Rattle.std.specs.Prelude.{leb, true, unwrap_or}
use Rattle.std.specs.Prelude as Std
use mathlib.Core.Option.{some}
use Prim.Native.Nat.{ℕ}
use borrow.Author.Tests.{le-leb, lt-leb}
use Rattle.model.specs.declared.CoreState as Program
use Rattle.model.specs.Calls.{is_switching, limit_switches}
use Rattle.model.specs.Reading.{core_state_meant}
use Rattle.checks.proofs.Ladder.{hit, pass}
use Rattle.force_plan.specs.Plan.{force_refusal}
use Rattle.force_plan.proofs.check_force.Goals as goal
use Rattle.force_plan.proofs.check_force.Goals.{in_default-via-in-Some+else-at-s, in_default-via-in_default}

pub returns-then-s-i-clause-refusal : goal.returns-then-s-i-clause-refusal
unfolding force_refusal limit_switches
returns-then-s-i-clause-refusal c = hit 4 _ _ (le-leb _ _ c.if-s-i.true)

pub returns-then-s-clause-refusal : goal.returns-then-s-clause-refusal
unfolding force_refusal limit_switches
returns-then-s-clause-refusal c = pass 4 _ _ _ (lt-leb _ _ c.if-s-i.false) (hit 11 _ _ c.if-s.true)

pub returns-then-any_leaving-clause-refusal : goal.returns-then-any_leaving-clause-refusal
unfolding force_refusal limit_switches
returns-then-any_leaving-clause-refusal c = pass 4 _ _ _ (lt-leb _ _ c.if-s-i.false) (pass 11 _ _ _ c.if-s.false (hit 12 _ _ (sym c.any_leaving.ensures ∙ c.if-any_leaving.true)))

pub returns-then-is_switching-clause-refusal : goal.returns-then-is_switching-clause-refusal
unfolding force_refusal limit_switches
returns-then-is_switching-clause-refusal c = pass 4 _ _ _ (lt-leb _ _ c.if-s-i.false) (pass 11 _ _ _ c.if-s.false (pass 12 _ _ _ (sym c.any_leaving.ensures ∙ c.if-any_leaving.false) (hit 14 _ _ (ap (λ (x : Program.CoreState). is_switching (core_state_meant x)) (sym c.state_at.ensures) ∙ sym c.is_switching.ensures ∙ c.if-is_switching.true))))

-- no place is behind the last one
nowhere : (at : Std.Option ℕ) (queued : ℕ) → ((k : ℕ) → at ≡ Std.Some k → ⊥) → leb queued (unwrap_or at queued) ≡ true
nowhere Std.None queued n = le-leb _ _ (omega arith)
nowhere (Std.Some k) queued n = absurd (n k refl)

pub returns-in_default-clause-refusal : goal.returns-in_default-clause-refusal
unfolding force_refusal limit_switches
returns-in_default-clause-refusal c = pass 4 _ _ _ (lt-leb _ _ c.if-s-i.false) (pass 11 _ _ _ c.if-s.false (pass 12 _ _ _ (sym c.any_leaving.ensures ∙ c.if-any_leaving.false) (pass 14 _ _ _ (ap (λ (x : Program.CoreState). is_switching (core_state_meant x)) (sym c.state_at.ensures) ∙ sym c.is_switching.ensures ∙ c.if-is_switching.false) (ap (λ (n : ℕ). some n) c.nobody.ensures ∙ hit _ _ _ (elim c.in_default.branch [
  | in_default-via-in-Some+else-at-s w ↦ rw w.in-Some.is (le-leb _ _ w.if-at-s.false)
  | in_default-via-in_default w ↦ nowhere c.args.at c.args.s.queued w.in_default.not-Some
])))))

pub returns-then-s-2-clause-refusal : goal.returns-then-s-2-clause-refusal
unfolding force_refusal limit_switches
returns-then-s-2-clause-refusal c = pass 4 _ _ _ (lt-leb _ _ c.if-s-i.false) (pass 11 _ _ _ c.if-s.false (pass 12 _ _ _ (sym c.any_leaving.ensures ∙ c.if-any_leaving.false) (pass 14 _ _ _ (ap (λ (x : Program.CoreState). is_switching (core_state_meant x)) (sym c.state_at.ensures) ∙ sym c.is_switching.ensures ∙ c.if-is_switching.false) (pass _ _ _ _ (rw c.in-Some.is (lt-leb _ _ c.if-at-s.true)) (hit 19 _ _ (le-leb _ _ c.if-s-2.true))))))

pub returns-clause-refusal : goal.returns-clause-refusal
unfolding force_refusal limit_switches
returns-clause-refusal c = pass 4 _ _ _ (lt-leb _ _ c.if-s-i.false) (pass 11 _ _ _ c.if-s.false (pass 12 _ _ _ (sym c.any_leaving.ensures ∙ c.if-any_leaving.false) (pass 14 _ _ _ (ap (λ (x : Program.CoreState). is_switching (core_state_meant x)) (sym c.state_at.ensures) ∙ sym c.is_switching.ensures ∙ c.if-is_switching.false) (pass _ _ _ _ (rw c.in-Some.is (lt-leb _ _ c.if-at-s.true)) (pass 19 _ _ _ (lt-leb _ _ c.if-s-2.false) refl)))))
