-- src/lib.rt:93:9
use mathlib.Core.Path.{sym, ap}
use mathlib.Core.List.{List}
use lib.ListN.{get_or, get_or-eq_default}
use Rattle.model.specs.declared.CoreState as Program
use Rattle.model.specs.declared.CoreState.TheVariants
use Rattle.state.specs.State.{states_of}
use Rattle.state.proofs.state_at.Goals as goal

pub returns-then-i-ge8 : goal.returns-then-i-ge8
returns-then-i-ge8 c = sym (get_or-eq_default (states_of c.args.e) _ c.if-i-ge8.true)

-- src/lib.rt:89:1
pub returns : goal.returns
returns c = ap (λ (l : List Program.CoreState). get_or l c.args.i TheVariants.Idle) c.unpack-a.ensures
