use mathlib.Core.Path.{◌∙◌, sym, ap}
use Rattle.std.specs.Int.{from_bool}
use Rattle.model.specs.Reading.{thread_meant}
use Rattle.charges.proofs.Alone.{others-is}
use Rattle.charges.proofs.Charging.{held-is, waiting-is}
use Rattle.charges.proofs.charge.charge.Goals as goal

pub returns-then-holds : goal.returns-then-holds
returns-then-holds c = λ cores e. held-is c.args.i c.requires.number c.args.on (thread_meant c.args.t.now) cores e (sym (c.holds.ensures (others-is _ cores e)) ∙ c.if-holds.true) c.from.result (c.from.ensures ∙ ap from_bool (c.runs.ensures (others-is _ cores e)))

pub returns : goal.returns
returns c = λ cores e. waiting-is c.args.i c.requires.number c.args.on (thread_meant c.args.t.now) cores e (sym (c.holds.ensures (others-is _ cores e)) ∙ c.if-holds.false) c.ready_due.result c.blocked_due.result c.ready_due.ensures c.blocked_due.ensures
