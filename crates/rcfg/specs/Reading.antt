-- Which part of the definition a value of the program's types stands for.
use Rattle.std.specs.Prelude.{ℕ, List, Result, Ok, Err, Some, None}
use Rattle.std.specs.Prelude as Std
use Rattle.std.proofs.Math.Option.{Option, none, some}
use Rattle.rcfg.specs.declared.HeadKey as HeadKeys
use Rattle.rcfg.specs.declared.HeadKey.TheVariants as HeadKeyCases
use Rattle.rcfg.specs.declared.Head as Heads
use Rattle.rcfg.specs.declared.RefusedLine.{RefusedLine}
use Rattle.text.specs.Lines.{Read, bad, good}
use Rattle.text.specs.Buffers.{Laid}
use Rattle.settings.specs.declared.SchedConfig.{SchedConfig}
use Rattle.settings.specs.declared.Refusal.{Refusal}
use Rattle.settings.specs.Settings.{Head, HeadKey, PolicyKey, QuantumKey, CostKey, CoresKey, Settled, unsettled, settled}
use Rattle.settings.specs.Reading.{settings_meant, refusal_number}

abbrev pub ranged_meant : Result ℕ Refusal → Read ℕ
ranged_meant (Ok n) = good n
ranged_meant (Err k) = bad (refusal_number k)

abbrev pub key_meant : Std.Option HeadKeys.HeadKey → Option HeadKey
key_meant (Some HeadKeyCases.Policy) = some PolicyKey
key_meant (Some HeadKeyCases.Quantum) = some QuantumKey
key_meant (Some HeadKeyCases.SwitchCost) = some CostKey
key_meant (Some HeadKeyCases.Cores) = some CoresKey
key_meant None = none

abbrev pub head_meant : Heads.Head → Head
head_meant h = record { settings = settings_meant h.config; past = h.past }

abbrev pub head_read_meant : Result Heads.Head Refusal → Read Head
head_read_meant (Ok h) = good (head_meant h)
head_read_meant (Err k) = bad (refusal_number k)

abbrev pub settled_meant : Result SchedConfig RefusedLine → Settled
settled_meant (Ok c) = settled (settings_meant c)
settled_meant (Err r) = unsettled r.line (refusal_number r.refusal)

-- with the buffer as it was left
abbrev pub laid_meant : Result ℕ Refusal → List ℕ → Laid
laid_meant (Ok n) b = record { refusal = none; count = n; buffer = b }
laid_meant (Err k) b = record { refusal = some (refusal_number k); count = 0; buffer = b }
