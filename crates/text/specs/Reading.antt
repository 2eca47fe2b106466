-- Which part of the definition a value of the program's types stands for.
use Rattle.std.specs.Prelude.{ℕ, Some, None}
use Rattle.std.specs.Prelude as Std
use Rattle.std.proofs.Math.Option.{Option, none, some}

abbrev pub number_meant : Std.Option ℕ → Option ℕ
number_meant (Some n) = some n
number_meant None = none
