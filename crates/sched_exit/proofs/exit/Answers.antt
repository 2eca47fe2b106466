-- What each call asks and what `exit` says, from what the calls before it left.
use Prim.Native.Nat.{ℕ, ◌<◌}
use mathlib.Core.Path.{◌≡◌, refl, ◌∙◌}
use mathlib.Core.List.{List}
use lib.ListN.{length, get_or}
use Rattle.model.specs.declared.ThreadInfo.{ThreadInfo}
use Rattle.model.specs.declared.CoreId.{CoreId}
use Rattle.model.specs.declared.Tid.{Tid}
use Rattle.model.specs.Phases.{update}
use Rattle.model.specs.Reading.{thread_meant, call_answer_meant}
use Rattle.model.specs.Calls as Calls
use Rattle.records.specs.declared.change.Change.{Change}
use Rattle.records.specs.Changes.{change_meant, Fits}
use Rattle.threads.specs.Slice.{blank, threads_in, Front, WakeFit, Woken}
use Rattle.state.specs.declared.Sched.{Sched}
use Rattle.state.specs.Memory.{memory}
use Rattle.state.specs.State.{Valid}
use Rattle.state.specs.Done.{Done}
use Rattle.sched_marks.specs.declared.Answered.{Answered}
use Rattle.exit_plan.specs.Exit.{exit_tid, exit_place, exit_change, exit_threads, FinishFit, Finished}
use Rattle.exit_plan.proofs.ExitCall.{exit-there, exit-fits, wake-fits, finish-fits, exit-done}
use Rattle.sched_exit.specs.Asked.{ExitAsked}
use Rattle.sched_exit.proofs.exit.Goals as goal

-- the record at i was changed by c
abbrev Updated : ℕ → Change → (ts ts' : List ThreadInfo) → Type 0
Updated i c ts ts' = (n : ℕ) → i < n → Front n (update i (change_meant c) (threads_in ts n)) ts ts'

-- the steps over plain variables: ys₁ are the records once one is changed, ys₂ once the waiters are woken
module _ (st : Sched) (core : CoreId) (ys : List ThreadInfo) (qs ls : List ℕ) (pre : ExitAsked st ys qs ls) (i : ℕ) (c : Change) (i-is : i ≡ exit_place st core.0) (c-is : c ≡ exit_change st core.0) where
  updates : (i < length ys) × Fits c (thread_meant (get_or ys i blank))
  updates = (rw i-is (exit-there st ys qs pre.prios ls pre.lanes pre.valid core.0), rw c-is (exit-fits st ys qs pre.prios ls pre.lanes pre.valid core.0 _))

  module _ (ys₁ : List ThreadInfo) (updated : Updated i c ys ys₁) (long₁ : length ys₁ ≡ length ys) where
    updated-so : Updated (exit_place st core.0) (exit_change st core.0) ys ys₁
    updated-so = rw c-is at (rw i-is at updated)

    wakes : (n : ℕ) (on : Tid) (p : ℕ) → n ≡ exit_threads st core.0 → on ≡ exit_tid st core.0 → p ≡ st.queued → WakeFit n on.0 ys₁ qs p
    wakes n on p n-is on-is p-is = rw (n-is, on-is, p-is) (wake-fits st ys qs pre.prios ls pre.lanes pre.valid core.0 ys₁ updated-so long₁)

    module _ (n : ℕ) (on : Tid) (p len : ℕ) (n-is : n ≡ exit_threads st core.0) (on-is : on ≡ exit_tid st core.0) (p-is : p ≡ st.queued) (ys₂ : List ThreadInfo) (qs₂ : List ℕ) (woken : Woken n on.0 ys₁ ys₂ p qs len qs₂) (long_q : length qs₂ ≡ length qs) where
      woken-so : Woken (exit_threads st core.0) (exit_tid st core.0).0 ys₁ ys₂ st.queued qs len qs₂
      woken-so = rw p-is at (rw on-is at (rw n-is at woken))

      finishes : FinishFit st len qs₂ ls
      finishes = finish-fits st ys qs pre.prios ls pre.lanes pre.valid core.0 ys₁ updated-so long₁ ys₂ len qs₂ woken-so long_q

      told : length ys₂ ≡ length ys → (r : Answered Unit) (ls' : List ℕ) → Finished st core.0 len qs₂ ls ls' r.sched r.answer → (ps ws : List ℕ) → Valid st (memory ys qs ps ls ws) → Done (Calls.exit core.0) (call_answer_meant r.answer) st r.sched (memory ys qs ps ls ws) (memory ys₂ qs₂ ps ls' ws)
      told long₂ r ls' fin ps ws v = exit-done st ys qs ps ls ws v core.0 ys₁ updated-so long₁ ys₂ len qs₂ woken-so long_q long₂ r.sched r.answer ls' fin

pub update-requires : goal.update-requires
update-requires c = updates c.args.s c.args.core _ _ _ c.requires _ _ c.exit_place-i.ensures c.exit_change-change.ensures

pub wake_waiters-len-requires : goal.wake_waiters-len-requires
wake_waiters-len-requires c =
    wakes c.args.s c.args.core _ _ _ c.requires _ _ c.exit_place-i.ensures c.exit_change-change.ensures _ c.update.ensures c.update.auto.threads
    _ _ _ c.exit_threads-n.ensures c.exit_tid-on.ensures refl

pub exit_finished-requires : goal.exit_finished-requires
exit_finished-requires c =
    finishes c.args.s c.args.core _ _ _ c.requires _ _ c.exit_place-i.ensures c.exit_change-change.ensures _ c.update.ensures c.update.auto.threads
    _ _ _ _ c.exit_threads-n.ensures c.exit_tid-on.ensures refl _ _ c.wake_waiters-len.ensures c.wake_waiters-len.auto.queue

pub returns : goal.returns
returns c =
    told c.args.s c.args.core _ _ _ c.requires _ _ c.exit_place-i.ensures c.exit_change-change.ensures _ c.update.ensures c.update.auto.threads
    _ _ _ _ c.exit_threads-n.ensures c.exit_tid-on.ensures refl _ _ c.wake_waiters-len.ensures c.wake_waiters-len.auto.queue
    (c.wake_waiters-len.auto.threads ∙ c.update.auto.threads) _ _ c.exit_finished.ensures
