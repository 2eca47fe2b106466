-- What the checks answer. Each is the definition's `refusal`, read off the program's state (proofs/Refusals).
use Rattle.settings.specs.declared.Refusal.{Refusal}
use Rattle.std.specs.Prelude.{ℕ, Bool, true, false, not, ◌||◌, leb, get_or, Ok, Err, Result}
use Rattle.std.proofs.Math.Option.{Option, none, some}
use Rattle.settings.specs.Reading.{refusal_number}
use Rattle.model.specs.declared.CoreState.TheVariants as CoreStateCases
use Rattle.model.specs.Types.{CoreState}
use Rattle.model.specs.Calls.{check, is_idle, is_running, bad_timing, limit_now}
use Rattle.model.specs.Reading.{core_state_meant}
use Rattle.state.specs.declared.Sched.{Sched}
use Rattle.checks.specs.declared.Needs.{Needs}
use Rattle.checks.specs.declared.Needs.TheVariants as NeedsCases
use Rattle.state.specs.State.{states_of}

abbrev pub check_meant : Result Unit Refusal → Option ℕ
check_meant (Ok tt) = none
check_meant (Err r) = some (refusal_number r)

-- 01: "13 core idle, or switching for join and yield"
abbrev pub stops : (running : Bool) → CoreState → Bool
stops true s = not (is_running s)
stops false s = is_idle s

-- whether a switching core stops the call too, as the program says it
abbrev pub needs_running : Needs → Bool
needs_running NeedsCases.Held = false
needs_running NeedsCases.Running = true

-- 01: "exit 4, 11, 12, 13; join 4, 11, 12, 13", and with a rest: "yield 4, 11, 12, 13, 19", "close 4, 11, 12, 13, 18"
unfoldable pub core_refusal : Sched → (core : ℕ) → (running : Bool) → Option ℕ → Option ℕ
core_refusal s i running rest =
    check 4 (leb s.cores i) (check 11 s.closed (check 12 (get_or s.marks.exits i false || get_or s.marks.blocks i false)
    (check 13 (stops running (core_state_meant (get_or (states_of s.states) i CoreStateCases.Idle))) rest)))

-- 01: "spawn 11, 17; tick 11, 18"; "retired 4, 11; priority 5, 11"; "`set_timing` 1, 11"
unfoldable pub spawn_refusal : Sched → Option ℕ
spawn_refusal s = check 11 s.closed (check 17 (leb s.capacities.threads s.threads) none)

unfoldable pub tick_refusal : Sched → Option ℕ
tick_refusal s = check 11 s.closed (check 18 (leb limit_now s.now.0) none)

unfoldable pub retired_refusal : Sched → (core : ℕ) → Option ℕ
retired_refusal s i = check 4 (leb s.cores i) (check 11 s.closed none)

unfoldable pub priority_refusal : Sched → (tid : ℕ) → Option ℕ
priority_refusal s t = check 5 (leb s.threads t) (check 11 s.closed none)

unfoldable pub timing_refusal : Sched → (quantum cost : ℕ) → Option ℕ
timing_refusal s q w = check 1 (bad_timing q w) (check 11 s.closed none)
