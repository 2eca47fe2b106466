-- Which part of the definition a value of the program's types stands for.
use Rattle.std.specs.Prelude.{ℕ, ◌≡◌, List, Result, Ok, Err, Some, None}
use Rattle.std.specs.Prelude as Std
use Rattle.std.proofs.Math.Option.{Option, none, some}
use Rattle.text.specs.Lines.{Read, bad, good, fields, needed, one}
use Rattle.settings.specs.declared.Refusal.{Refusal}
use Rattle.settings.specs.Reading.{refusal_number}
use Rattle.model.specs.declared.CoreId.{CoreId}
use Rattle.model.specs.Reading.{option_tid_meant}
use Rattle.model.specs.Calls.{Call, spawn, exit, join, retired, yield, priority, force, tick, close}
use Rattle.script.specs.Script.{CallKey, SpawnKey, ExitKey, JoinKey, RetiredKey, YieldKey, PrioKey, ForceKey, TickKey, CloseKey}
use Rattle.commands.specs.declared.Command.{Command}
use Rattle.commands.specs.declared.Command.TheVariants as CommandCases
use Rattle.commands.specs.declared.CallKey as CallKeys
use Rattle.commands.specs.declared.CallKey.TheVariants as CallKeyCases

abbrev pub call_key_meant : Std.Option CallKeys.CallKey → Option CallKey
call_key_meant (Some CallKeyCases.Spawn) = some SpawnKey
call_key_meant (Some CallKeyCases.Exit) = some ExitKey
call_key_meant (Some CallKeyCases.Join) = some JoinKey
call_key_meant (Some CallKeyCases.Retired) = some RetiredKey
call_key_meant (Some CallKeyCases.Yield) = some YieldKey
call_key_meant (Some CallKeyCases.Prio) = some PrioKey
call_key_meant (Some CallKeyCases.Force) = some ForceKey
call_key_meant (Some CallKeyCases.Tick) = some TickKey
call_key_meant (Some CallKeyCases.Close) = some CloseKey
call_key_meant None = none

abbrev pub command_meant : Command → Call
command_meant (CommandCases.Spawn p) = spawn (option_tid_meant p) 0
command_meant (CommandCases.Exit c) = exit c.0
command_meant (CommandCases.Join c t) = join c.0 t.0
command_meant (CommandCases.Retired c) = retired c.0
command_meant (CommandCases.Yield c) = yield c.0
command_meant (CommandCases.Prio t n) = priority t.0 n
command_meant (CommandCases.Force c t) = force c.0 (option_tid_meant t)
command_meant CommandCases.Tick = tick
command_meant (CommandCases.Close c) = close c.0

abbrev pub call_read_meant : Result Command Refusal → Read Call
call_read_meant (Ok c) = good (command_meant c)
call_read_meant (Err k) = bad (refusal_number k)

-- the call that P makes of the core that a value names, which is one number
abbrev pub IsOnCore : (CoreId → Command → Type 0) → List ℕ → Result Command Refusal → Type 0
IsOnCore P v (Ok c) = (core : CoreId) × (one (fields v) needed ≡ good core.0) × P core c
IsOnCore P v (Err k) = one (fields v) needed ≡ bad (refusal_number k)
