use mathlib.Core.Path.{◌≡◌, refl, sym, ap, ◌∙◌}
use Rattle.std.specs.Prelude.{unwrap_or}
use Rattle.force_plan.proofs.Parts.{pending-refused, forceable}
use Rattle.force_plan.specs.Plan.{place_check_meant}
use Rattle.model.specs.Reading.{option_tid_meant}
use Rattle.force_plan.proofs.force.force_decided_on_words.Goals as goal

pub force_taken-requires : goal.force_taken-requires
force_taken-requires c =
    let at : c.in-Ok.at ≡ unwrap_or c.place-at.result c.args.s.queued = rw c.in-Ok.is at c.check_force.ensures.place in
    (option_tid_meant c.args.named, (c.requires.0, rw at (forceable c.args.s c.requires.0 c.args.w.now.queue.now c.args.w.now.prios.now c.args.w.now.log.now c.args.w.now.lanes.now (option_tid_meant c.args.named) _ c.args.core.0 c.requires.1 c.place-at.ensures _ refl (ap place_check_meant (sym c.in-Ok.is) ∙ c.check_force.ensures.refusal))))

pub returns-in-Err-clause-done : goal.returns-in-Err-clause-done
returns-in-Err-clause-done c =
    λ ts v. pending-refused c.args.s ts c.args.w.now.queue.now c.args.w.now.prios.now c.args.w.now.log.now c.args.w.now.lanes.now (option_tid_meant c.args.named) _ c.args.core.0 v c.place-at.ensures _ _ _ c.no_switches.ensures refl (ap place_check_meant (sym c.in-Err.is) ∙ c.check_force.ensures.refusal)

pub returns-in-Ok-clause-done : goal.returns-in-Ok-clause-done
returns-in-Ok-clause-done c =
    let at : c.in-Ok.at ≡ unwrap_or c.place-at.result c.args.s.queued = rw c.in-Ok.is at c.check_force.ensures.place in
    λ ts v. c.force_taken.ensures.done (option_tid_meant c.args.named) ts
    (rw at (forceable c.args.s ts c.args.w.now.queue.now c.args.w.now.prios.now c.args.w.now.log.now c.args.w.now.lanes.now (option_tid_meant c.args.named) _ c.args.core.0 v c.place-at.ensures _ refl (ap place_check_meant (sym c.in-Ok.is) ∙ c.check_force.ensures.refusal)))
