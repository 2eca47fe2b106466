-- The parts of a tick end that switches nothing.
use Rattle.std.specs.Prelude.{Ok, Result}
use Rattle.settings.specs.declared.Refusal.{Refusal}
use Prim.Native.Nat.{ℕ, ◌+◌, ◌<◌, ◌≤◌}
use mathlib.Core.Path.{◌≡◌, refl, sym, ap, ◌∙◌, subst}
use mathlib.Core.Bool.{true}
use mathlib.Core.Option.{none}
use mathlib.Core.List.{List, []}
use native.Mathlib.Omega.{arith}
use borrow.Author.Tests.{lt-leb, le-leb}
use lib.ListN.{length, take}
use Rattle.model.specs.declared.ThreadInfo.{ThreadInfo}
use Rattle.model.specs.declared.Tick.{Tick}
use Rattle.model.specs.Types.{Core, Move}
use Rattle.model.specs.Calls.{sliced_all}
use Rattle.model.specs.Accounting.{switch_list, takes_in}
use Rattle.model.specs.Calls.{switched}
use Rattle.switches.specs.Entries.{ListFor}
use Rattle.queue.specs.Words.{moves_in}
use Rattle.queue.proofs.Frames.{no-longer-same}
use Rattle.phases.specs.Cores.{pass_of}
use Rattle.rings.specs.Ring.{RingOK}
use Rattle.state.specs.declared.Sched.{Sched}
use Rattle.state.specs.Memory.{memory}
use Rattle.state.specs.State.{firsts, core_from, board_of, packed, states_of, log_words, Valid}
use Rattle.state.proofs.Firsts.{firsts_same}
use Rattle.quiet.specs.Quiet.{is_quiet, sliced_below, state_at, Roomy}
use Rattle.quiet.proofs.Resting.{still, ticked}
use Rattle.quiet.proofs.Cores.{cores_of, decide-quiet}
use Rattle.accounts.specs.Log.{moved_log}
use Rattle.checks.specs.Check.{tick_refusal}
use Rattle.tick_plan.specs.declared.Charged.{Charged}
use Rattle.tick_plan.specs.declared.Planned.{Planned}
use Rattle.tick_plan.specs.declared.Written.{Written}
use Rattle.tick_plan.specs.Plan.{TickPending, ChargedOf, PlannedOf, WrittenOf, ticked_sched}
use Rattle.tick_plan.proofs.Reading.{map-firsts}
use Rattle.tick_plan.proofs.Ticking.{plan-fits}
use Rattle.tick_plan.proofs.Parts.{pending-at}

no-moves : (ws : List ℕ) → moves_in ws 0 ≡ []
unfolding moves_in
no-moves ws = refl

---- the plan

module _ (s : Sched) (h : is_quiet s ≡ true) (p : Planned) (st : (j : ℕ) → state_at p.states j ≡ sliced_below s.cores j (state_at s.states j)) where
  abbrev own : ℕ → Core
  own = board_of s

  abbrev next : ℕ → Core
  next = core_from (states_of p.states) s.marks.exits s.marks.blocks s.marks.yields s.marks.progressed

  grown : (j : ℕ) → j < s.cores → next j ≡ ticked (own j)
  unfolding core_from
  grown j l = rw (st j, lt-leb s.cores j l)

  behind : (j : ℕ) → s.cores ≤ j → next j ≡ own j
  unfolding core_from
  behind j l = rw (st j, le-leb s.cores j l)

  all_grown : firsts next s.cores ≡ sliced_all (cores_of s)
  unfolding sliced_all
  all_grown = firsts_same next (λ j. ticked (own j)) s.cores grown ∙ sym (map-firsts ticked own s.cores)

  pub quiet-planned :
      p.marks ≡ s.marks → p.queued ≡ s.queued → p.moves ≡ 0
      → (length p.marks.exits ≡ 8) × (length p.marks.blocks ≡ 8) × (length p.marks.yields ≡ 8) × (length p.marks.progressed ≡ 8)
      → (s.states ≡ packed (states_of s.states) → p.states ≡ packed (states_of p.states)) → (qs ps ws : List ℕ) → PlannedOf s qs qs ps ws ws p
  unfolding pass_of
  quiet-planned em qu mo m8 wo qs ps ws =
      record {
        decided =
            rw (em, qu, mo, no-moves ws)
            (ap (λ (cs : List Core). still cs (take s.queued qs)) all_grown ∙ sym (decide-quiet s h (take s.threads ps) (take s.queued qs)));
        unused = rw em behind;
        queue = rw qu (no-longer-same s.queued qs);
        few = rw mo (omega arith);
        behind = refl;
        long_queue = refl;
        long_lanes = refl;
        exits = m8.0;
        blocks = m8.1;
        yields = m8.2;
        progressed = m8.3;
        words = wo;
      }

---- the log

pub nothing_written :
    (s : Sched) (ws : List ℕ) (w : Written) → w.log ≡ s.log → w.takes ≡ 0 → ListFor (switched (switch_list [] (moves_in ws 0))) w.switches
    → (now : ℕ) (ls : List ℕ) → RingOK (log_words s.capacities.events ls) s.log → WrittenOf s now [] ls ls w
unfolding moved_log takes_in
nothing_written s ws w el et es now ls ok =
    record { ok = rw el ok; events = rw el; after = refl; long = refl; takes = et; list = subst (λ (ms : List Move). ListFor (switched (switch_list [] ms)) w.switches) (no-moves ws) es }

---- the tick end

pub quiet-roomy : (s : Sched) (ts : List ThreadInfo) (qs ps ls ws : List ℕ) → Valid s (memory ts qs ps ls ws) → tick_refusal s ≡ none → Roomy s
quiet-roomy s ts qs ps ls ws v h = (plan-fits s ts qs ps ls ws v h ws refl).short

pub quiet-pending :
    (s : Sched) (t : Tick) (c : Charged) (p : Planned) (w : Written) (s' : Sched) → s' ≡ ticked_sched s t c p w → t.0 ≡ s.now.0 + 1 → p.moves ≡ 0
    → ((qs ps ws : List ℕ) → PlannedOf s qs qs ps ws ws p) → ((now : ℕ) (ls : List ℕ) → RingOK (log_words s.capacities.events ls) s.log → WrittenOf s now [] ls ls w)
    → (a : Result Unit Refusal) (ts : List ThreadInfo) (qs ps ls ws ws' : List ℕ) → Valid s (memory ts qs ps ls ws) → tick_refusal s ≡ none → ChargedOf s ws ws' c → a ≡ Ok tt
    → TickPending a w.switches s s' p.moves (memory ts qs ps ls ws) (memory ts qs ps ls ws')
quiet-pending s t c p w s' es et mo P R a ts qs ps ls ws ws' v h C e =
    let none_left : [] ≡ moves_in ws' p.moves = rw mo (sym (no-moves ws')) in
    pending-at s ts qs ps ls ws v h t c p w s' qs ls ws' ws' es et C (P qs ps ws') (subst (λ (ms : List Move). WrittenOf s t.0 ms ls ls w) none_left (R t.0 ls v.rings.events)) a e
