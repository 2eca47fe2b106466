use Rattle.std.specs.Prelude.{Result}
use Rattle.settings.specs.declared.Refusal.{Refusal}
use mathlib.Core.Path.{sym, ap, ◌∙◌}
use Rattle.checks.specs.Check.{check_meant}
use Rattle.replay.specs.Replay.{due}
use Rattle.replay.proofs.calls_due.Goals as goal

pub returns-in-Ok : goal.returns-in-Ok
returns-in-Ok c = c.min.ensures ∙ ap (λ (x : Result Unit Refusal). due (check_meant x) c.args.count c.args.upto) (sym c.in-Ok.is)

pub returns-in-Err : goal.returns-in-Err
returns-in-Err c = ap (λ (x : Result Unit Refusal). due (check_meant x) c.args.count c.args.upto) (sym c.in-Err.is)
