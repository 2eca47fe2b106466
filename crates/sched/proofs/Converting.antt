-- What converted answers stand for, and what a call promises once its answer is converted.
use Rattle.std.specs.Prelude.{Ok, Err, Result, MatchResult, IsOkAnd}
use Rattle.model.specs.declared.JoinOutcome.{JoinOutcome}
use Rattle.model.specs.declared.Tid.{Tid}
use Rattle.settings.specs.declared.Refusal.{Refusal}
use mathlib.Core.Path.{◌≡◌, refl, ap}
use native.Mathlib.Omega.{arith}
use Rattle.model.specs.Reading.{call_answer_meant, spawn_answer_meant, join_answer_meant, switch_answer_meant}
use Rattle.model.specs.Calls as Calls
use Rattle.switches.specs.declared.SwitchList.{SwitchList}
use Rattle.state.specs.declared.Sched.{Sched}
use Rattle.state.specs.Memory.{Memory}
use Rattle.state.specs.Done.{Done}
use Rattle.tick_plan.specs.DoneWith.{DoneWith}
use Rattle.sched_marks.specs.declared.Answered.{Answered}
use Rattle.sched.specs.declared.Applied.{Applied}
use Rattle.sched.specs.declared.Outcome.{Outcome}
use Rattle.sched.specs.declared.Outcome.TheVariants as OutcomeCases
use Rattle.sched.specs.Meant.{outcome_meant}
use Rattle.switches.specs.Entries.{no_switches, ListFor}
use Rattle.sched.specs.Answers.{taken_as, taken}

---- a converted answer stands for what the answer did

taken-meant : (x : Result Unit Refusal) (l : SwitchList) → call_answer_meant x ≡ outcome_meant (taken_as (λ _. OutcomeCases.Taken) x) l
taken-meant (Ok tt) l = refl
taken-meant (Err r) l = refl

spawned-meant : (x : Result Tid Refusal) (l : SwitchList) → spawn_answer_meant x ≡ outcome_meant (taken_as (λ t. OutcomeCases.Spawned t) x) l
spawned-meant (Ok t) l = refl
spawned-meant (Err r) l = refl

joined-meant : (x : Result JoinOutcome Refusal) (l : SwitchList) → join_answer_meant x ≡ outcome_meant (taken_as (λ o. OutcomeCases.Joined o) x) l
joined-meant (Ok o) l = refl
joined-meant (Err r) l = refl

pub switched-meant : (x : Result Unit Refusal) (l : SwitchList) → switch_answer_meant x l.entries l.count ≡ outcome_meant (taken_as (λ _. OutcomeCases.Switched) x) l
switched-meant (Ok tt) l = refl
switched-meant (Err r) l = refl

---- an answer without a list has none beside it

taken-list : (x : Result Unit Refusal) → ListFor (call_answer_meant x) no_switches
unfolding no_switches
taken-list (Ok tt) = record { list = refl; few = omega arith }
taken-list (Err r) = record { list = refl; few = omega arith }

spawned-list : (x : Result Tid Refusal) → ListFor (spawn_answer_meant x) no_switches
unfolding no_switches
spawned-list (Ok t) = record { list = refl; few = omega arith }
spawned-list (Err r) = record { list = refl; few = omega arith }

joined-list : (x : Result JoinOutcome Refusal) → ListFor (join_answer_meant x) no_switches
unfolding no_switches
joined-list (Ok o) = record { list = refl; few = omega arith }
joined-list (Err r) = record { list = refl; few = omega arith }

---- what a call promises, said of the answer once it is converted

-- the conversion, said by cases
abbrev pub Converted : {A : Type 0} → (A → Outcome) → Result A Refusal → Result Outcome Refusal → Type 0
Converted how x y = MatchResult x (λ v. IsOkAnd y (λ o. o ≡ how v)) (λ r. y ≡ Err r)

is-converted : {A : Type 0} (how : A → Outcome) (x : Result A Refusal) (y : Result Outcome Refusal) → Converted how x y → y ≡ taken_as how x
is-converted how (Ok v) (Ok o) h = ap Ok h
is-converted how (Ok v) (Err r) h = absurd h
is-converted how (Err r) y h = h

module _ (call : Calls.Call) (s : Sched) (m m' : Memory) (r : Applied) where
  converted :
      {A : Type 0} (answer_meant : Result A Refusal → Calls.Answer) (how : A → Outcome) → ((x : Result A Refusal) (l : SwitchList) → answer_meant x ≡ outcome_meant (taken_as how x) l)
      → ((x : Result A Refusal) → ListFor (answer_meant x) no_switches) → (a : Answered A) → r.sched ≡ a.sched → r.outcome ≡ taken_as how a.answer → r.switches ≡ no_switches
      → Done call (answer_meant a.answer) s a.sched m m' → DoneWith call (outcome_meant r.outcome r.switches) r.switches s r.sched m m'
  converted answer_meant how meant list a es eo el d =
      rw (es, eo, el)
      (record { done = rw (← meant a.answer no_switches) d; list = rw (← meant a.answer no_switches) (list a.answer) })

  pub with-taken :
      (a : Answered Unit) → r.sched ≡ a.sched → r.outcome ≡ taken a.answer → r.switches ≡ no_switches
      → Done call (call_answer_meant a.answer) s a.sched m m' → DoneWith call (outcome_meant r.outcome r.switches) r.switches s r.sched m m'
  with-taken = converted call_answer_meant (λ _. OutcomeCases.Taken) taken-meant taken-list

  pub with-spawned :
      (a : Answered Tid) → r.sched ≡ a.sched → Converted (λ t. OutcomeCases.Spawned t) a.answer r.outcome → r.switches ≡ no_switches
      → Done call (spawn_answer_meant a.answer) s a.sched m m' → DoneWith call (outcome_meant r.outcome r.switches) r.switches s r.sched m m'
  with-spawned a es eo = converted spawn_answer_meant (λ t. OutcomeCases.Spawned t) spawned-meant spawned-list a es (is-converted (λ t. OutcomeCases.Spawned t) a.answer r.outcome eo)

  pub with-joined :
      (a : Answered JoinOutcome) → r.sched ≡ a.sched → Converted (λ o. OutcomeCases.Joined o) a.answer r.outcome → r.switches ≡ no_switches
      → Done call (join_answer_meant a.answer) s a.sched m m' → DoneWith call (outcome_meant r.outcome r.switches) r.switches s r.sched m m'
  with-joined a es eo = converted join_answer_meant (λ o. OutcomeCases.Joined o) joined-meant joined-list a es (is-converted (λ o. OutcomeCases.Joined o) a.answer r.outcome eo)
