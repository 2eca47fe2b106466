-- What each part's callees leave is what the part says.
use Rattle.std.specs.Prelude.{Ok, Err, Result}
use Prim.Native.Nat.{ℕ, ◌+◌, ◌<◌, ◌≤◌, ◌^◌}
use mathlib.Core.Path.{◌≡◌, refl, sym, ap, ◌∙◌, subst}
use mathlib.Core.Bool.{false}
use mathlib.Core.Option.{Option}
use mathlib.Core.List.{List, ◌++◌}
use native.Mathlib.Omega.{arith}
use lib.ListN.{length, take, drop, get_or}
use lib.Seq.{length-take-le, drop_at, length_front}
use Rattle.settings.specs.declared.Refusal.{Refusal}
use Rattle.settings.specs.Reading.{policy_meant, refusal_number}
use Rattle.model.specs.declared.CoreState as Program
use Rattle.model.specs.declared.CoreState.TheVariants as CoreStateCases
use Rattle.model.specs.declared.ThreadInfo.{ThreadInfo}
use Rattle.model.specs.Types.{Core, State}
use Rattle.model.specs.Phases.{Rules, update, without, dispatch_moves}
use Rattle.model.specs.Calls.{force, rules, is_switching, out_of, back_of, forced_core}
use Rattle.model.specs.Reading.{core_state_meant}
use Rattle.switches.specs.declared.SwitchList.{SwitchList}
use Rattle.switches.specs.Entries.{answer_with, no_switches}
use Rattle.switches.proofs.Words.{list-refused}
use Rattle.queue.specs.Words.{moves_in, NoLonger, Appended}
use Rattle.queue.specs.Ready.{Picked}
use Rattle.turns.specs.declared.Marks.{Marks}
use Rattle.phases.specs.Cores.{board}
use Rattle.decide.specs.Forced.{asked}
use Rattle.state.specs.declared.Eight.{Eight}
use Rattle.state.specs.declared.Sched.{Sched}
use Rattle.state.specs.Memory.{memory}
use Rattle.state.specs.State.{firsts, board_of, packed, states_of, meant_at, Valid}
use Rattle.state.proofs.Doing.{done_refused}
use Rattle.checks.specs.Check.{check_meant}
use Rattle.checks.proofs.Answers.{taken_none}
use Rattle.tick_plan.specs.declared.Planned.{Planned}
use Rattle.tick_plan.specs.declared.Written.{Written}
use Rattle.tick_plan.specs.Plan.{planned_sched, WriteFits, WrittenOf}
use Rattle.tick_plan.specs.DoneWith.{DoneWith}
use Rattle.tick_plan.proofs.Parts.{moves_front}
use Rattle.tick_plan.proofs.Ticking.{rules-same}
use Rattle.force_plan.specs.Plan.{ForcePending, AskedAt, Forceable, ForceFits, ForcedOf, force_refusal}
use Rattle.force_plan.proofs.Forcing as F

pub may-take : (s : Sched) (i at : ℕ) (qs ws : List ℕ) (cs : List Program.CoreState) → cs ≡ states_of s.states → ForceFits s i at qs ws → is_switching (core_state_meant (get_or cs i CoreStateCases.Idle)) ≡ false
may-take s i at qs ws cs e f = ap (λ (x : List Program.CoreState). is_switching (core_state_meant (get_or x i CoreStateCases.Idle))) e ∙ f.settled

-- what `force_core` leaves in the front of the lanes
module _ (s : Sched) (i at : ℕ) (qs qs' ws a b : List ℕ) (cs cs' : List Program.CoreState) (e₁ : Eight) (mk : Marks) (queued moves : ℕ) where
  pub forced : (p : Planned) (qs₂ b₂ z : List ℕ) → qs₂ ≡ qs' → b₂ ≡ b → z ≡ drop 80 ws → a ≡ take 80 ws → cs ≡ states_of s.states → states_of e₁ ≡ cs' → (p.states ≡ e₁) × (p.marks ≡ mk) × (p.queued ≡ queued) × (p.moves ≡ moves)
      → (length p.marks.exits ≡ 8) × (length p.marks.blocks ≡ 8) × (length p.marks.yields ≡ 8) × (length p.marks.progressed ≡ 8) → ForceFits s i at qs ws → length b ≡ length a → length qs' ≡ length qs
      → ((n : ℕ) → i < n → firsts (board cs' mk) n ≡ update i (forced_core s.config.switch_cost (get_or (take s.queued qs) at 0)) (firsts (board cs s.marks) n))
      → ((j : ℕ) → (j ≡ i → ⊥) → board cs' mk j ≡ board cs s.marks j)
      → ((who : Option ℕ) → Picked who (take s.queued qs) at → take queued qs' ≡ without (get_or (take s.queued qs) at 0) (take s.queued qs ++ back_of (core_state_meant (get_or cs i CoreStateCases.Idle))))
      → moves_in b moves ≡ out_of i (core_state_meant (get_or cs i CoreStateCases.Idle)) ++ dispatch_moves s.config.switch_cost (get_or (take s.queued qs) at 0) i
      → NoLonger s.queued queued qs qs' → Appended 3 0 moves a b → e₁ ≡ packed (states_of e₁) → ForcedOf s i at qs qs₂ ws (b₂ ++ z) p
  forced p qs₂ b₂ z eq eb ez ea e e' m m8 f lb lq made kept left moved q app wo =
      let lt : length b ≡ length (take 80 ws) = lb ∙ ap length ea in
      let k : length b ≡ 80 = lt ∙ length-take-le 80 ws f.words in
      let few : moves ≤ 3 = omega (arith, app.fits) in
      let board-same : board cs s.marks ≡ board_of s = ap (λ (x : List Program.CoreState). board x s.marks) e in
      rw (eq, eb, ez)
      (record {
        cores =
            rw (m.0, m.1, e')
            (made s.cores f.there ∙ ap (λ (g : ℕ → Core). update i (forced_core s.config.switch_cost (get_or (take s.queued qs) at 0)) (firsts g s.cores)) board-same);
        others = λ j d. rw (m.0, m.1, e') (kept j d ∙ ap (λ (g : ℕ → Core). g j) board-same);
        left = rw m.2 (left f.pick.0 f.pick.1 ∙ ap (λ (c : List Program.CoreState). without (get_or (take s.queued qs) at 0) (take s.queued qs ++ back_of (core_state_meant (get_or c i CoreStateCases.Idle)))) e);
        moves =
            rw m.3
            (sym (moves_front b (drop 80 ws) moves (omega (arith, few, k))) ∙ moved
            ∙ ap (λ (c : List Program.CoreState). out_of i (core_state_meant (get_or c i CoreStateCases.Idle)) ++ dispatch_moves s.config.switch_cost (get_or (take s.queued qs) at 0) i) e);
        queue = rw m.2 q;
        few = rw m.3 few;
        behind = drop_at b (drop 80 ws) 80 k;
        long_queue = lq;
        long_lanes = length_front ws b 80 lt;
        exits = m8.0;
        blocks = m8.1;
        yields = m8.2;
        progressed = m8.3;
        words = rw m.0 wo;
      })

-- the place, by the priorities that the records hold
module _ (s : Sched) (ts : List ThreadInfo) (qs ps ls ws : List ℕ) (nm : Option ℕ) (at : ℕ) where
  abbrev M : State
  M = meant_at s ts qs ls ws

  pub place-meant : Valid s (memory ts qs ps ls ws) → AskedAt s nm qs ps at → Picked (asked M.config.policy (rules M).prio nm M.queue) M.queue at
  unfolding meant_at
  place-meant v p =
      subst (λ (k : Rules). Picked (asked (policy_meant s.config.policy) k.prio nm (take s.queued qs)) (take s.queued qs) at) (sym (rules-same s ts qs ps ls ws v)) p

  ---- refused: nothing is decided, and there are no moves

  pub pending-refused : (i : ℕ) → Valid s (memory ts qs ps ls ws) → AskedAt s nm qs ps at → (a : Result Unit Refusal) (x : Refusal) (l : SwitchList) → l ≡ no_switches → a ≡ Err x → check_meant a ≡ force_refusal s i nm at
      → ForcePending i nm a l s s 0 (memory ts qs ps ls ws) (memory ts qs ps ls ws)
  pending-refused i v p a x l none-due e h =
      record {
        fits = record { within = omega arith; known = λ k l. absurd (omega arith); room = λ k l. absurd (omega arith) };
        done = λ ts' g.
            let same : ts' ≡ ts = (g 0 (λ k l. absurd (omega arith))).rest in
            subst (λ (ys : List ThreadInfo). DoneWith (force i nm) (answer_with a l) l s s (memory ts qs ps ls ws) (memory ys qs ps ls ws)) (sym same)
            (subst (λ (b : Result Unit Refusal). DoneWith (force i nm) (answer_with b l) l s s (memory ts qs ps ls ws) (memory ts qs ps ls ws)) (sym e)
            (record {
              done = done_refused (force i nm) s ts qs ps ls ws v (refusal_number x) (F.force-refusal s ts qs ps ls ws v i nm at (place-meant v p) ∙ sym h ∙ ap check_meant e);
              list = list-refused l none-due (refusal_number x);
            }));
      }

  ---- taken

  pub forceable : (i : ℕ) → Valid s (memory ts qs ps ls ws) → AskedAt s nm qs ps at → (a : Result Unit Refusal) → a ≡ Ok tt → check_meant a ≡ force_refusal s i nm at → Forceable s i nm at (memory ts qs ps ls ws)
  forceable i v p a e h = record { valid = v; place = p; unrefused = taken_none a (force_refusal s i nm at) e h }

  module _ (i : ℕ) (f : Forceable s i nm at (memory ts qs ps ls ws)) where
    abbrev pick : Picked (asked M.config.policy (rules M).prio nm M.queue) M.queue at
    pick = place-meant f.valid f.place

    pub plan-fits : ForceFits s i at qs ws
    plan-fits = F.plan-fits s ts qs ps ls ws f.valid i nm at pick f.unrefused

    pub write-fits : (ws' : List ℕ) (count now : ℕ) → length ws' ≡ length ws → count ≤ 3 → now ≡ s.now.0 → WriteFits s ls ws' count now
    write-fits = F.write-fits s ts qs ps ls ws f.valid i nm at pick f.unrefused

    pub switches-fit : (ws' : List ℕ) (count now : ℕ) (ls' : List ℕ) (w : Written) → count ≤ 3 → WriteFits s ls ws' count now → WrittenOf s now (moves_in ws' count) ls ls' w → s.context_switches + w.takes < 2 ^ 64
    switches-fit = F.switches-fit s ts qs ps ls ws f.valid i nm at pick f.unrefused

    pub pending-at : (p : Planned) (w : Written) (s' : Sched) (now : ℕ) (qs' ls' ws' : List ℕ) → s' ≡ planned_sched s p w → now ≡ s.now.0 → ForcedOf s i at qs qs' ws ws' p → WrittenOf s now (moves_in ws' p.moves) ls ls' w
        → ForcePending i nm (Ok tt) w.switches s s' p.moves (memory ts qs ps ls ws) (memory ts qs' ps ls' ws')
    pending-at p w s' now qs' ls' ws' e en P R =
        subst (λ (x : Sched). ForcePending i nm (Ok tt) w.switches s x p.moves (memory ts qs ps ls ws) (memory ts qs' ps ls' ws')) (sym e)
        (F.force-pending s ts qs ps ls ws f.valid i nm at pick f.unrefused p w qs' ls' ws' P (subst (λ (n : ℕ). WrittenOf s n (moves_in ws' p.moves) ls ls' w) en R) (Ok tt) refl)
