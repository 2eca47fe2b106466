-- The thread on a core that runs, and the marks of a core.
use Prim.Native.Nat.{ℕ, ◌<◌}
use mathlib.Core.Path.{◌≡◌, refl, ap, ◌∙◌}
use mathlib.Core.Bool.{Bool, true, false, cond, not}
use mathlib.Core.Option.{Option, none}
use mathlib.Core.List.{List}
use native.Mathlib.Omega.{arith}
use lib.Dec.{leb}
use lib.ListN.{length, get_or, set, length-set}
use lib.Seq.{get_or-set_same, get_or-set_other}
use borrow.Author.Tests.{leb-true, leb-false}
use Rattle.model.specs.declared.ThreadInfo.{ThreadInfo}
use Rattle.model.specs.declared.CoreState.TheVariants as CoreStateCases
use Rattle.model.specs.Types.{Core, CoreState, Idle, Switching, Running, OnCore, State}
use Rattle.model.specs.Phases.{update, holder}
use Rattle.model.specs.Reading.{core_state_meant}
use Rattle.model.specs.Calls.{refusal, join, core_at, core_state_of, is_idle, is_running, tid_of, tid_on, mark_block, mark_yield, idle_core}
use Rattle.model.proofs.Refusals.{check-none, check-rest}
use Rattle.model.proofs.Placement.{held_on, states_of-range}
use Rattle.model.proofs.PhaseLaws.{not-both}
use Rattle.model.specs.Invariants as Invariants
use Rattle.threads.specs.Slice.{threads_in}
use Rattle.threads.proofs.Slices.{length-threads}
use Rattle.state.specs.declared.Sched.{Sched}
use Rattle.state.specs.Memory.{memory}
use Rattle.state.specs.State.{firsts, core_from, board_of, states_of, meant_at, MarksOK, Valid}
use Rattle.state.proofs.Firsts.{core_at-firsts}
use Rattle.checks.specs.Check.{core_refusal}
use Rattle.checks.proofs.Refusals.{join-refusal}
use Rattle.updates.proofs.Updating.{some-record}
use Rattle.sched_marks.proofs.Marking.{firsts-update}
use Rattle.thread_plan.specs.Reads.{own_tid, known_place}
use Rattle.thread_plan.proofs.OneRecord.{in_use}

---- places

pub place-known : (s : Sched) (t : ℕ) → t < s.threads → known_place s t ≡ t
unfolding known_place
place-known s t h = go (leb s.threads t) refl
  where
    go : (b : Bool) → leb s.threads t ≡ b → cond b 0 t ≡ t
    go true e = absurd (omega (arith, leb-true s.threads t e))
    go false e = refl

pub place-there : (s : Sched) (ts : List ThreadInfo) (qs ps ls ws : List ℕ) → Valid s (memory ts qs ps ls ws) → (t : ℕ) → known_place s t < length ts
unfolding known_place
place-there s ts qs ps ls ws v t = go (leb s.threads t) refl
  where
    go : (b : Bool) → leb s.threads t ≡ b → cond b 0 t < length ts
    go true e = some-record s ts qs ps ls ws v
    go false e = let k = leb-false s.threads t e in omega (arith, k, in_use s ts qs ps ls ws v)

---- a core that may join or yield

pub core-there : (s : Sched) (i : ℕ) (running : Bool) (r : Option ℕ) → core_refusal s i running r ≡ none → i < s.cores
unfolding core_refusal
core-there s i running r h = leb-false s.cores i (check-none 4 _ _ h)

not-idle : (c : CoreState) → not (is_running c) ≡ false → is_idle c ≡ false
not-idle Idle e = absurd (let z : ◌≡◌ {A = Bool} true false = e in not-both true refl z)
not-idle (Switching t l) e = refl
not-idle (Running t s) e = refl

module _ (s : Sched) (ts : List ThreadInfo) (qs ps ls ws : List ℕ) (v : Valid s (memory ts qs ps ls ws)) (i : ℕ) (h : core_refusal s i true none ≡ none) where
  abbrev M : State
  M = meant_at s ts qs ls ws

  abbrev own : ℕ → Core
  own = board_of s

  pub own-tid : tid_on M i ≡ own_tid s i
  unfolding tid_on core_state_of own_tid core_from meant_at
  own-tid = ap (λ (c : Core). tid_of (holder c.state)) (core_at-firsts own s.cores i (core-there s i true none h))

  held : tid_on M i < length M.accounts.threads
  unfolding tid_on core_state_of refusal Invariants.CoresOK
  held =
      let r : refusal M (join i 0) ≡ none = join-refusal s ts qs ls ws i 0 ∙ h in
      let r11 = check-rest 4 _ _ r in
      let r12 = check-rest 11 _ _ r11 in
      let r13 = check-rest 12 _ _ r12 in
      states_of-range M.accounts.threads (tid_on M i) (OnCore i)
      (held_on (Invariants.states_of M.accounts.threads) i 0 i M.cores (omega arith) (v.bounded.placed.cores (check-none 11 _ _ r11)) (check-none 12 _ _ r12) (not-idle (core_at M.cores i).state (check-none 13 _ _ r13)))

  pub own-known : own_tid s i < s.threads
  unfolding meant_at threads_in
  own-known = let a = held in let b = own-tid in let c = length-threads ts s.threads (in_use s ts qs ps ls ws v) in omega (arith, a, b, c)

---- a mark written

module _ (s : Sched) (ts : List ThreadInfo) (qs ps ls ws : List ℕ) (v : Valid s (memory ts qs ps ls ws)) (i : ℕ) (l : i < s.cores) where
  abbrev with-block : ℕ → Bool → Core
  with-block j b = record { state = core_state_meant (get_or (states_of s.states) j CoreStateCases.Idle); exits = get_or s.marks.exits j false; blocks = b; yields = get_or s.marks.yields j false; progressed = get_or s.marks.progressed j false }

  abbrev with-yield : ℕ → Bool → Core
  with-yield j b = record { state = core_state_meant (get_or (states_of s.states) j CoreStateCases.Idle); exits = get_or s.marks.exits j false; blocks = get_or s.marks.blocks j false; yields = b; progressed = get_or s.marks.progressed j false }

  pub blocked : firsts (core_from (states_of s.states) s.marks.exits (set s.marks.blocks i true) s.marks.yields s.marks.progressed) s.cores ≡ update i mark_block (firsts (board_of s) s.cores)
  unfolding core_from
  blocked =
      let n : i < length s.marks.blocks = let a = v.marks.blocks in let b = v.sizes.cores in omega (arith, l, a, b) in
      firsts-update (board_of s) (core_from (states_of s.states) s.marks.exits (set s.marks.blocks i true) s.marks.yields s.marks.progressed) mark_block s.cores i idle_core l
      (ap (with-block i) (get_or-set_same s.marks.blocks i true false n)) (λ j d. ap (with-block j) (get_or-set_other s.marks.blocks i j true false d))

  pub yielded : firsts (core_from (states_of s.states) s.marks.exits s.marks.blocks (set s.marks.yields i true) s.marks.progressed) s.cores ≡ update i mark_yield (firsts (board_of s) s.cores)
  unfolding core_from
  yielded =
      let n : i < length s.marks.yields = let a = v.marks.yields in let b = v.sizes.cores in omega (arith, l, a, b) in
      firsts-update (board_of s) (core_from (states_of s.states) s.marks.exits s.marks.blocks (set s.marks.yields i true) s.marks.progressed) mark_yield s.cores i idle_core l
      (ap (with-yield i) (get_or-set_same s.marks.yields i true false n)) (λ j d. ap (with-yield j) (get_or-set_other s.marks.yields i j true false d))

  pub block-marks : MarksOK s.cores (states_of s.states) (record s.marks { blocks = set s.marks.blocks i true })
  unfolding core_from
  block-marks =
      let m = v.marks in
      record {
        exits = m.exits;
        blocks = simp length-set m.blocks;
        yields = m.yields;
        progressed = m.progressed;
        unused = λ j k. ap (with-block j) (get_or-set_other s.marks.blocks i j true false (λ z. omega (arith, l))) ∙ m.unused j k;
      }

  pub yield-marks : MarksOK s.cores (states_of s.states) (record s.marks { yields = set s.marks.yields i true })
  unfolding core_from
  yield-marks =
      let m = v.marks in
      record {
        exits = m.exits;
        blocks = m.blocks;
        yields = simp length-set m.yields;
        progressed = m.progressed;
        unused = λ j k. ap (with-yield j) (get_or-set_other s.marks.yields i j true false (λ z. omega (arith, l))) ∙ m.unused j k;
      }
