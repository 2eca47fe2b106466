-- A reason as the number that words keep.
use Rattle.std.specs.Prelude.{◌≡◌, ℕ, ◌≤◌, Result, MatchResult}
use Rattle.model.specs.Types.{LeaveReason, Exit, Block, Yield, Quantum, Preempt, Forced}
use Rattle.model.specs.Reading.{reason_meant}
use Rattle.model.specs.declared.LeaveReason as Reasons
use Rattle.model.specs.declared.reasons.UnknownReason.{UnknownReason}

abbrev pub reason_code : LeaveReason → ℕ
reason_code Exit = 0
reason_code Block = 1
reason_code Yield = 2
reason_code Quantum = 3
reason_code Preempt = 4
reason_code Forced = 5

-- the reason with this number; a number above 5 stands for none
abbrev pub Decodes : ℕ → Result Reasons.LeaveReason UnknownReason → Type 0
Decodes code r = MatchResult r (λ reason. reason_code (reason_meant reason) ≡ code) (λ e. (e.0 ≡ code) × (6 ≤ code))
