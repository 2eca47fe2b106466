-- The answers of the calls, as one kind of answer.
use Rattle.std.specs.Prelude.{Result}
use Rattle.std.specs.Result.{result_map_both}
use Rattle.settings.specs.declared.Refusal.{Refusal}
use Rattle.tick_plan.specs.declared.Ticked.{Ticked}
use Rattle.sched.specs.declared.Applied.{Applied}
use Rattle.sched.specs.declared.Outcome.{Outcome}
use Rattle.sched.specs.declared.Outcome.TheVariants as OutcomeCases

-- a refusal stays, and what a taken call says becomes the way in which it was taken
abbrev pub taken_as : {A : Type 0} → (A → Outcome) → Result A Refusal → Result Outcome Refusal
taken_as how = result_map_both how (λ r. r)

abbrev pub taken : Result Unit Refusal → Result Outcome Refusal
taken = taken_as (λ _. OutcomeCases.Taken)

abbrev pub of_ticked : Ticked → Applied
of_ticked a = record { sched = a.sched; outcome = taken_as (λ _. OutcomeCases.Switched) a.answer; switches = a.switches }
