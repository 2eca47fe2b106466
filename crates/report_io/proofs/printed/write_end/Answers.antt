use mathlib.Core.Path.{refl}
use mathlib.Core.Logic.{inl, inr}
use Rattle.report_io.specs.Blocks.{EndWritten}
use Rattle.report_io.proofs.printed.write_end.Goals as goal

pub returns-then-write_all : goal.returns-then-write_all
unfolding EndWritten
returns-then-write_all c = inr refl

pub returns-else-p : goal.returns-else-p
unfolding EndWritten
returns-else-p c = inl refl
