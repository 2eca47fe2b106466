-- The parts of `close` by what the check answered.
use Rattle.std.specs.Prelude.{Ok, Err, Result}
use Prim.Native.Nat.{ℕ, ◌+◌, ◌<◌}
use mathlib.Core.Path.{◌≡◌, refl, sym, ap, ◌∙◌, subst}
use mathlib.Core.Bool.{Bool, true, false}
use mathlib.Core.Option.{Option, none, some}
use mathlib.Core.List.{List}
use native.Mathlib.Omega.{arith}
use lib.Dec.{leb}
use lib.ListN.{get_or}
use Rattle.settings.specs.declared.Refusal.{Refusal}
use Rattle.settings.specs.Reading.{refusal_number}
use Rattle.model.specs.declared.CoreState as Program
use Rattle.model.specs.declared.CoreState.TheVariants as CoreStateCases
use Rattle.model.specs.declared.CoreId.{CoreId}
use Rattle.model.specs.declared.Tick.{Tick}
use Rattle.model.specs.Types.{Move}
use Rattle.model.specs.Phases
use Rattle.model.specs.Calls.{check, limit_now}
use Rattle.model.specs.Reading.{core_state_meant}
use Rattle.model.proofs.Refusals.{check-none}
use Rattle.turns.specs.Turns.{Short}
use Rattle.phases.specs.Cores.{Ran}
use Rattle.state.specs.declared.Eight.{Eight}
use Rattle.state.specs.declared.Sched.{Sched}
use Rattle.state.specs.State.{core_from, packed, states_of}
use Rattle.checks.specs.Check.{check_meant, core_refusal}
use Rattle.checks.proofs.Answers.{taken_none}
use Rattle.sched_marks.specs.declared.Answered.{Answered}
use Rattle.exit_plan.specs.Exit.{by_refusal}
use Rattle.exit_plan.proofs.Parts.{taken_is, refused-is}
use Rattle.tick_plan.specs.declared.Charged.{Charged}
use Rattle.tick_plan.specs.Plan.{ChargedOf}
use Rattle.close_plan.specs.Close.{close_refusal, close_core, if_taken, charged_threads, closed_sched, ClosedOf, CloseFinished}

---- the rest of the ladder behind 4, 11, 12, 13

abbrev or_rest : Option ℕ → Option ℕ → Option ℕ
or_rest (some n) r = some n
or_rest none r = r

four : (a b c d : Bool) (r : Option ℕ) → check 4 a (check 11 b (check 12 c (check 13 d r))) ≡ or_rest (check 4 a (check 11 b (check 12 c (check 13 d none)))) r
unfolding check
four true b c d r = refl
four false true c d r = refl
four false false true d r = refl
four false false false true r = refl
four false false false false r = refl

abbrev limit : Sched → Option ℕ
limit s = check 18 (leb limit_now s.now.0) none

close-ladder : (s : Sched) (i : ℕ) → close_refusal s i ≡ or_rest (core_refusal s i false none) (limit s)
unfolding close_refusal core_refusal
close-ladder s i = four _ _ _ _ (limit s)

pub close-stopped : (s : Sched) (i : ℕ) (b : Result Unit Refusal) (x : Refusal) → b ≡ Err x → check_meant b ≡ core_refusal s i false none → check_meant b ≡ close_refusal s i
close-stopped s i b x e h = ap check_meant e ∙ sym (close-ladder s i ∙ ap (λ (o : Option ℕ). or_rest o (limit s)) (sym h ∙ ap check_meant e))

pub close-rest : (s : Sched) (i : ℕ) (x : Option ℕ) (b : Result Unit Refusal) → b ≡ Ok tt → check_meant b ≡ core_refusal s i false none → x ≡ check 18 (leb limit_now s.now.0) none → x ≡ close_refusal s i
close-rest s i x b e h k = k ∙ sym (close-ladder s i ∙ ap (λ (o : Option ℕ). or_rest o (limit s)) (taken_none b (core_refusal s i false none) e h))

first-none : (o r : Option ℕ) → or_rest o r ≡ none → o ≡ none
first-none none r e = refl
first-none (some n) r e = e

rest-none : (o r : Option ℕ) → or_rest o r ≡ none → r ≡ none
rest-none none r e = e
rest-none (some n) r e = absurd (let z : ◌≡◌ {A = ℕ} 0 1 = cc in omega arith)

-- a call that is taken: the core's thread can exit, and the tick can end
pub close-exits : (s : Sched) (i : ℕ) → close_refusal s i ≡ none → core_refusal s i false none ≡ none
close-exits s i h = first-none (core_refusal s i false none) (limit s) (sym (close-ladder s i) ∙ h)

pub close-early : (s : Sched) (i : ℕ) → close_refusal s i ≡ none → leb limit_now s.now.0 ≡ false
close-early s i h = check-none 18 _ _ (rest-none (core_refusal s i false none) (limit s) (sym (close-ladder s i) ∙ h))

---- what the check answered

module _ (s : Sched) (i : ℕ) (a : Result Unit Refusal) (h : check_meant a ≡ close_refusal s i) where
  pub answer-taken : a ≡ Ok tt → close_refusal s i ≡ none
  answer-taken e = taken_none a _ e h

  answer-refused : (x : Refusal) → a ≡ Err x → close_refusal s i ≡ some (refusal_number x)
  answer-refused x e = sym h ∙ ap check_meant e

  pub core-refused : (r : CoreId) (x : Refusal) → a ≡ Err x → r.0 ≡ 8 → r ≡ close_core s i
  unfolding close_core
  core-refused r x e k = let z : r.0 ≡ by_refusal (close_refusal s i) i 8 = k ∙ sym (refused-is (close_refusal s i) i 8 _ (answer-refused x e)) in λ j. record { 0 = z j }

  pub core-taken : (r : CoreId) → a ≡ Ok tt → r.0 ≡ i → r ≡ close_core s i
  unfolding close_core
  core-taken r e k = let z : r.0 ≡ by_refusal (close_refusal s i) i 8 = k ∙ sym (taken_is (close_refusal s i) i 8 (answer-taken e)) in λ j. record { 0 = z j }

  no_both : {B : Type 0} (n : ℕ) (o : Option ℕ) → o ≡ none → o ≡ some n → B
  no_both n o e f = absurd (let z : ◌≡◌ {A = ℕ} 0 1 = cc in omega arith)

  pub finished-refused : (e : Answered Unit) (ws : List ℕ) (x : Refusal) → a ≡ Err x → CloseFinished s i e ws ws s a
  finished-refused e ws x k =
      record { answer = h; long = refl; refused = λ n m. (refl, refl); taken = λ m. no_both (refusal_number x) (close_refusal s i) m (answer-refused x k) }

  pub finished-taken : (e : Answered Unit) (ws ws' : List ℕ) (s' : Sched) → a ≡ Ok tt → ClosedOf e.sched ws ws' s' → CloseFinished s i e ws ws' s' a
  finished-taken e ws ws' s' k c = record { answer = h; long = c.charged.lanes.size; refused = λ n m. no_both n (close_refusal s i) (answer-taken k) m; taken = λ m. c }

---- who is charged

pub none-charged : (e : Answered Unit) (x : Refusal) → e.answer ≡ Err x → 0 ≡ charged_threads e
unfolding charged_threads
none-charged e x k = sym (ap (λ (a : Result Unit Refusal). if_taken a e.sched.threads) k)

pub all-charged : (e : Answered Unit) → e.answer ≡ Ok tt → e.sched.threads ≡ charged_threads e
unfolding charged_threads
all-charged e k = sym (ap (λ (a : Result Unit Refusal). if_taken a e.sched.threads) k)

---- phase 1

module _ (s : Sched) (cs : List Program.CoreState) (same : cs ≡ states_of s.states) where
  pub short-same : ((j : ℕ) → j < s.cores → Short (core_state_meant (get_or (states_of s.states) j CoreStateCases.Idle))) → (j : ℕ) → j < s.cores → Short (core_state_meant (get_or cs j CoreStateCases.Idle))
  short-same h j l = subst (λ (x : List Program.CoreState). Short (core_state_meant (get_or x j CoreStateCases.Idle))) (sym same) (h j l)

  pub closed_of :
      (ws ws' : List ℕ) (c : Charged) (cs' : List Program.CoreState) (e : Eight) (t : Tick) (s' : Sched) → ChargedOf s ws ws' c
      → ((ex bl yi pr : List Bool) (q : List ℕ) (m : List Move) → Ran Phases.phase1 s.cores (core_from cs ex bl yi pr) q m (core_from cs' ex bl yi pr) q m)
      → e ≡ packed cs' → states_of e ≡ cs' → t.0 ≡ s.now.0 + 1 → s' ≡ closed_sched s t c e → ClosedOf s ws ws' s'
  closed_of ws ws' c cs' e t s' ch sl wo pk nx is =
      record {
        tick = t;
        counted = c;
        states = e;
        is = is;
        next = nx;
        charged = ch;
        sliced = λ ex bl yi pr q m.
            subst (λ (x : List Program.CoreState). Ran Phases.phase1 s.cores (core_from (states_of s.states) ex bl yi pr) q m (core_from x ex bl yi pr) q m) (sym pk)
            (subst (λ (x : List Program.CoreState). Ran Phases.phase1 s.cores (core_from x ex bl yi pr) q m (core_from cs' ex bl yi pr) q m) same (sl ex bl yi pr q m));
        words = wo ∙ ap packed (sym pk);
      }
