use native.Mathlib.Omega.{arith}
use Rattle.report_io.proofs.Printing.{written-kept, written_out}
use Rattle.report_io.proofs.printed.written.Goals as goal

pub returns-then-p-most : goal.returns-then-p-most
returns-then-p-most c =
    (record { within = c.requires.0; room = omega arith }, written-kept c.args.most c.args.p _ (omega arith))

pub returns : goal.returns
returns c = (
  record { within = record { begins = c.requires.0.begins; ends = c.requires.0.ends; pending = omega arith; turns = c.requires.0.turns }; room = omega arith },
  written_out c.args.most c.args.p c.write_all.result (omega arith),
)
