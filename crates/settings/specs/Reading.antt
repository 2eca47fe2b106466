-- Which part of the definition a value of the program's types stands for.
use Rattle.std.specs.Prelude.{ℕ, zero, suc, Some, None}
use Rattle.std.specs.Prelude as Std
use Rattle.std.proofs.Math.Option.{Option, none, some}
use Rattle.settings.specs.declared.SchedPolicy as Policies
use Rattle.settings.specs.declared.SchedPolicy.TheVariants as PolicyCases
use Rattle.settings.specs.declared.SchedConfig as Configs
use Rattle.settings.specs.declared.Refusal as Refusals
use Rattle.settings.specs.declared.Refusal.TheVariants as RefusalCases
use Rattle.settings.specs.Policy.{Policy, Off, Fifo, RoundRobin, Priority}
use Rattle.settings.specs.Settings.{Settings}

abbrev pub policy_meant : Policies.SchedPolicy → Policy
policy_meant PolicyCases.Off = Off
policy_meant PolicyCases.Fifo = Fifo
policy_meant PolicyCases.RoundRobin = RoundRobin
policy_meant PolicyCases.Priority = Priority

abbrev pub settings_meant : Configs.SchedConfig → Settings
settings_meant c = record { policy = policy_meant c.policy; quantum = c.quantum; cost = c.switch_cost }

-- 01, "Refused by the input" and "Refused by the state": the number of each refusal
abbrev pub refusal_number : Refusals.Refusal → ℕ
refusal_number RefusalCases.SettingRange = 1
refusal_number RefusalCases.CoreCount = 2
refusal_number RefusalCases.Capacity = 3
refusal_number RefusalCases.NoCore = 4
refusal_number RefusalCases.NoThread = 5
refusal_number RefusalCases.BadLine = 6
refusal_number RefusalCases.BadPolicy = 7
refusal_number RefusalCases.BadNumber = 8
refusal_number RefusalCases.Closed = 11
refusal_number RefusalCases.Leaving = 12
refusal_number RefusalCases.NotRunning = 13
refusal_number RefusalCases.StillSwitching = 14
refusal_number RefusalCases.NotReady = 15
refusal_number RefusalCases.NobodyWaits = 16
refusal_number RefusalCases.ThreadsFull = 17
refusal_number RefusalCases.ClockLimit = 18
refusal_number RefusalCases.CounterLimit = 19

abbrev pub policy_found_meant : Std.Option Policies.SchedPolicy → Option Policy
policy_found_meant (Some p) = some (policy_meant p)
policy_found_meant None = none

-- the policy with a number, counted from 0 in the Rust's order
abbrev pub numbered : ℕ → Std.Option Policies.SchedPolicy
numbered zero = Some PolicyCases.Off
numbered (suc zero) = Some PolicyCases.Fifo
numbered (suc (suc zero)) = Some PolicyCases.RoundRobin
numbered (suc (suc (suc zero))) = Some PolicyCases.Priority
numbered (suc (suc (suc (suc n)))) = None
