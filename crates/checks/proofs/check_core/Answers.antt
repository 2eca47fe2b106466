use mathlib.Core.Path.{refl, sym, ap, ◌∙◌}
use borrow.Author.Tests.{le-leb, lt-leb}
use Rattle.model.specs.declared.CoreState as Program
use Rattle.model.specs.Reading.{core_state_meant}
use Rattle.checks.proofs.Ladder.{hit, pass, or-first, or-second, or-none}
use Rattle.checks.specs.Check.{stops, needs_running, core_refusal}
use Rattle.checks.proofs.check_core.Goals as goal

pub returns-then-s-i : goal.returns-then-s-i
unfolding core_refusal
returns-then-s-i c = hit 4 _ _ (le-leb _ _ c.if-s-i.true)

pub returns-then-s : goal.returns-then-s
unfolding core_refusal
returns-then-s c = pass 4 _ _ _ (lt-leb _ _ c.if-s-i.false) (hit 11 _ _ c.if-s.true)

pub returns-then-s-i-2 : goal.returns-then-s-i-2
unfolding core_refusal
returns-then-s-i-2 c = pass 4 _ _ _ (lt-leb _ _ c.if-s-i.false) (pass 11 _ _ _ c.if-s.false (hit 12 _ _ (or-first _ _ c.if-s-i-2.true)))

pub returns-then-s-i-3 : goal.returns-then-s-i-3
unfolding core_refusal
returns-then-s-i-3 c = pass 4 _ _ _ (lt-leb _ _ c.if-s-i.false) (pass 11 _ _ _ c.if-s.false (hit 12 _ _ (or-second _ _ c.if-s-i-2.false c.if-s-i-3.true)))

pub returns-then-is_stopped_by : goal.returns-then-is_stopped_by
unfolding core_refusal
returns-then-is_stopped_by c =
    pass 4 _ _ _ (lt-leb _ _ c.if-s-i.false) (pass 11 _ _ _ c.if-s.false (pass 12 _ _ _ (or-none _ _ c.if-s-i-2.false c.if-s-i-3.false)
    (hit 13 _ _ (ap (λ (x : Program.CoreState). stops (needs_running c.args.needs) (core_state_meant x)) (sym c.state_at.ensures) ∙ sym c.is_stopped_by.ensures ∙ c.if-is_stopped_by.true))))

pub returns : goal.returns
unfolding core_refusal
returns c =
    pass 4 _ _ _ (lt-leb _ _ c.if-s-i.false) (pass 11 _ _ _ c.if-s.false (pass 12 _ _ _ (or-none _ _ c.if-s-i-2.false c.if-s-i-3.false)
    (pass 13 _ _ _ (ap (λ (x : Program.CoreState). stops (needs_running c.args.needs) (core_state_meant x)) (sym c.state_at.ensures) ∙ sym c.is_stopped_by.ensures ∙ c.if-is_stopped_by.false) refl)))
