-- Which part of the definition the fields of a value stand for.
use Rattle.std.specs.Prelude.{ℕ, List, Result, Ok, Err}
use Rattle.std.specs.Prelude as Std
use Rattle.std.proofs.Math.Option.{Option}
use denote.Ref.{Bor}
use Rattle.text.specs.Lines.{Read, bad, good}
use Rattle.settings.specs.declared.Refusal.{Refusal}
use Rattle.settings.specs.Reading.{refusal_number}
use Rattle.model.specs.declared.Tid.{Tid}
use Rattle.model.specs.Reading.{option_tid_meant}

-- a field, and two, as they stand in the value
abbrev pub field_meant : Result (Bor (List ℕ)) Refusal → Read (List ℕ)
field_meant (Ok f) = good f.now
field_meant (Err k) = bad (refusal_number k)

abbrev pub fields_meant : Result (Bor (List ℕ) × Bor (List ℕ)) Refusal → Read (List ℕ × List ℕ)
fields_meant (Ok f) = good (f.0.now, f.1.now)
fields_meant (Err k) = bad (refusal_number k)

-- what they say
abbrev pub number_read_meant : Result ℕ Refusal → Read ℕ
number_read_meant (Ok n) = good n
number_read_meant (Err k) = bad (refusal_number k)

abbrev pub maybe_read_meant : Result (Std.Option Tid) Refusal → Read (Option ℕ)
maybe_read_meant (Ok t) = good (option_tid_meant t)
maybe_read_meant (Err k) = bad (refusal_number k)

abbrev pub numbers_read_meant : Result (ℕ × ℕ) Refusal → Read (ℕ × ℕ)
numbers_read_meant (Ok p) = good p
numbers_read_meant (Err k) = bad (refusal_number k)

abbrev pub number_maybe_read_meant : Result (ℕ × Std.Option Tid) Refusal → Read (ℕ × Option ℕ)
number_maybe_read_meant (Ok p) = good (p.0, option_tid_meant p.1)
number_maybe_read_meant (Err k) = bad (refusal_number k)
