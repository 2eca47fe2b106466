-- The parts of `exit` by what the check answered, and the log's ring in its memory.
use Rattle.std.specs.Prelude.{Ok, Err, Result}
use Prim.Native.Nat.{ℕ, ◌*◌, ◌-◌, ◌<◌, ◌≤◌}
use mathlib.Core.Path.{◌≡◌, refl, sym, ap, ◌∙◌}
use mathlib.Core.Bool.{false}
use mathlib.Core.Option.{Option, none, some}
use mathlib.Core.List.{List, ◌++◌}
use native.Mathlib.Omega.{arith}
use borrow.Author.Tests.{leb-false}
use lib.ListN.{length, take, drop, length-append, length-drop}
use lib.Seq.{length-take-le, take_at, drop_at}
use Rattle.settings.specs.declared.Refusal.{Refusal}
use Rattle.settings.specs.Reading.{refusal_number}
use Rattle.model.specs.declared.Tid.{Tid}
use Rattle.model.specs.Calls.{ok, refused}
use Rattle.model.specs.Reading.{call_answer_meant}
use Rattle.model.proofs.Refusals.{check-none}
use Rattle.rings.specs.declared.RingPos.{RingPos}
use Rattle.rings.specs.Ring.{RingOK, capacity}
use Rattle.rings.specs.Events.{events_in}
use Rattle.accounts.specs.Log.{woken_log}
use Rattle.state.specs.declared.Sched.{Sched}
use Rattle.checks.specs.Check.{check_meant, core_refusal}
use Rattle.checks.proofs.Answers.{taken_none}
use Rattle.exit_plan.specs.Exit.{exit_refusal, by_refusal, WakesLogged, with_exit, Finished}

---- what the check answered

pub tid-is : (t : Tid) (n : ℕ) → t.0 ≡ n → t ≡ record { 0 = n }
tid-is t n e = λ i. record { 0 = e i }

pub taken_is : {A : Type 0} (r : Option ℕ) (x y : A) → r ≡ none → by_refusal r x y ≡ x
taken_is r x y e = rw e

pub refused-is : {A : Type 0} (r : Option ℕ) (x y : A) (n : ℕ) → r ≡ some n → by_refusal r x y ≡ y
refused-is r x y n e = rw e

module _ (s : Sched) (i : ℕ) (a : Result Unit Refusal) (h : check_meant a ≡ core_refusal s i false none) where
  pub check-taken : a ≡ Ok tt → exit_refusal s i ≡ none
  unfolding exit_refusal
  check-taken e = taken_none a _ e h

  pub check-refused : (x : Refusal) → a ≡ Err x → exit_refusal s i ≡ some (refusal_number x)
  unfolding exit_refusal
  check-refused x e = sym h ∙ ap check_meant e

  check-is : check_meant a ≡ exit_refusal s i
  unfolding exit_refusal
  check-is = h

  no_both : {B : Type 0} (n : ℕ) (o : Option ℕ) → o ≡ none → o ≡ some n → B
  no_both n o e f = absurd (let z : ◌≡◌ {A = ℕ} 0 1 = cc in omega arith)

  -- the call's end, refused or taken
  pub finished-refused : (len : ℕ) (qs ls : List ℕ) (x : Refusal) → a ≡ Err x → Finished s i len qs ls ls s a
  finished-refused len qs ls x e =
      record { answer = check-is; long = refl; refused = λ n k. (refl, refl); taken = λ k. no_both (refusal_number x) (exit_refusal s i) k (check-refused x e) }

  pub finished-taken :
      (len : ℕ) (qs ls ls' : List ℕ) (p : RingPos) → a ≡ Ok tt
      → WakesLogged (2 * s.capacities.events) s.now.0 (take (len - s.queued) (drop s.queued qs)) ls ls' s.log p → Finished s i len qs ls ls' (with_exit i len p s) a
  finished-taken len qs ls ls' p e w = record { answer = check-is; long = w.long; refused = λ n k. no_both n (exit_refusal s i) (check-taken e) k; taken = λ k. (refl, w) }

-- the core is there
pub exit-core : (s : Sched) (i : ℕ) → exit_refusal s i ≡ none → i < s.cores
unfolding exit_refusal core_refusal
exit-core s i h = leb-false s.cores i (check-none 4 _ _ h)

pub answer-refused : (a : Result Unit Refusal) (n : ℕ) → check_meant a ≡ some n → call_answer_meant a ≡ refused n
answer-refused (Ok tt) n e = absurd (let z : ◌≡◌ {A = ℕ} 0 1 = cc in omega arith)
answer-refused (Err r) n e = let z : refusal_number r ≡ n = cc in ap refused z

pub answer-taken : (a : Result Unit Refusal) → check_meant a ≡ none → call_answer_meant a ≡ ok
answer-taken (Ok tt) e = refl
answer-taken (Err r) e = absurd (let z : ◌≡◌ {A = ℕ} 0 1 = cc in omega arith)

---- the ring was lent as the first words, and came back as b

pub wakes-put :
    (words now : ℕ) (tids ls b : List ℕ) (p p' : RingPos) → words ≤ length ls → length b ≡ length (take words ls) → RingOK b p'
    → events_in b p' ≡ woken_log (capacity (take words ls)) now tids (events_in (take words ls) p) → WakesLogged words now tids ls (b ++ drop words ls) p p'
wakes-put words now tids ls b p p' h l k e =
    let z : length b ≡ words = l ∙ length-take-le words ls h in
    let f : take words (b ++ drop words ls) ≡ b = take_at b (drop words ls) words z in
    record { ok = rw f k; events = rw f e; rest = drop_at b (drop words ls) words z; long = simp (length-append, length-drop) (omega arith) }
