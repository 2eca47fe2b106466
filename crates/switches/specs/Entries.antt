-- What one move makes of the entry of the core that it touches, and a switch list as the program has it.
use Rattle.settings.specs.declared.Refusal.{Refusal}
use Rattle.std.specs.Prelude.{ℕ, ◌-◌, ◌≤◌, ◌≡◌, List, ◌++◌, map, length, replicate, Result}
use Rattle.std.proofs.Math.Option.{Option, none, some}
use Rattle.model.specs.Types.{Move, starts, leaves, takes, SwitchEntry}
use Rattle.model.specs.Reading.{switch_answer_meant, switch_of}
use Rattle.model.specs.Calls.{Answer, refused, ok, spawned, joined, switched}
use Rattle.model.specs.declared.Switch.{Switch}
use Rattle.model.specs.declared.CoreId.{CoreId}
use Rattle.std.specs.Prelude as Std
use Rattle.switches.specs.declared.SwitchList.{SwitchList}

-- the core that a move touches; 8: none
abbrev pub core_touched : Move → ℕ
core_touched (starts t) = 8
core_touched (leaves t i r) = i
core_touched (takes t i) = i

-- the same as the program answers it
abbrev pub core_meant : Std.Option CoreId → ℕ
core_meant Std.None = 8
core_meant (Std.Some core) = core.0

-- 01: "One entry per core touched, …: thread out with reason, thread in."
abbrev pub entry_after : Move → SwitchEntry → SwitchEntry
entry_after (starts t) e = e
entry_after (leaves t i r) e = record { core = i; out = some (record { tid = t; reason = r }); inn = e.inn }
entry_after (takes t i) e = record { core = i; out = e.out; inn = some t }

---- a list as the program has it

-- an entry of no core: what stands behind a list
abbrev pub no_switch : Switch
no_switch = record { core = record { 0 = 0 }; out = Std.None; inn = Std.None }

-- the entries in the front, and how many they are
unfoldable pub list_of : List SwitchEntry → SwitchList
list_of es = record { entries = map switch_of es ++ replicate (8 - length es) no_switch; count = length es }

-- the list where no switch is due
unfoldable pub no_switches : SwitchList
no_switches = record { entries = replicate 8 no_switch; count = 0 }

-- the list that goes with an answer: none where the call is refused, or says something else
abbrev pub list_in : Answer → SwitchList
list_in (refused n) = no_switches
list_in ok = no_switches
list_in (spawned t) = no_switches
list_in (joined o) = no_switches
list_in (switched es) = list_of es

-- what a call says with a list beside it
abbrev pub answer_with : Result Unit Refusal → SwitchList → Answer
answer_with a l = switch_answer_meant a l.entries l.count

-- what is promised of the list beside an answer: it is the answer's, entry by entry, and whoever goes through it to its count stays within the eight
pub record ListFor (a : Answer) (l : SwitchList) : Type 0 where
  pub list : l ≡ list_in a
  pub few : l.count ≤ 8
