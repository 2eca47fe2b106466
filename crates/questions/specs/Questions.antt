-- What crates/model/specs/Questions.antt leaves to the state's own fields, named as in the Rust; and the words of the Rust's labels.
use Rattle.std.specs.Prelude.{ℕ, List, map}
use Rattle.text.specs.Bytes.{ascii}
use Rattle.settings.specs.Settings.{Settings}
use Rattle.model.specs.Types.{CoreState, Core, ThreadState, Ready, Exited, OnCore, Blocked, State}

-- `config`
abbrev pub settings_of : State → Settings
settings_of d = record { policy = d.config.policy; quantum = d.config.quantum; cost = d.config.cost }

-- `cores`: what each core does
abbrev pub core_states : State → List CoreState
core_states d = map (λ (c : Core). c.state) d.cores

-- `ThreadState::label`; the words of `LeaveReason::label` are the report's (`reason_word` of crates/script)
abbrev pub state_word : ThreadState → List ℕ
state_word Ready = ascii "READY"
state_word (OnCore i) = ascii "RUN"
state_word (Blocked t) = ascii "BLOCK"
state_word Exited = ascii "EXIT"
