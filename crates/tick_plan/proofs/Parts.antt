-- What each part's callees leave is what the part says.
use Rattle.std.specs.Prelude.{Ok, Err, Result}
use Prim.Native.Nat.{ℕ, ◌+◌, ◌*◌, ◌<◌, ◌≤◌}
use mathlib.Core.Path.{◌≡◌, sym, ap, ◌∙◌, subst}
use mathlib.Core.Option.{none}
use mathlib.Core.List.{List, [], ◌++◌, map}
use native.Mathlib.Omega.{arith}
use lib.ListN.{length, take, drop, get_or}
use lib.Seq.{length-take-le, take_at, drop_at, take-append-le, length_front}
use Rattle.settings.specs.declared.Refusal.{Refusal}
use Rattle.settings.specs.Reading.{refusal_number}
use Rattle.model.specs.declared.CoreState as Program
use Rattle.model.specs.declared.CoreState.TheVariants as CoreStateCases
use Rattle.model.specs.declared.ThreadInfo.{ThreadInfo}
use Rattle.model.specs.declared.Tick.{Tick}
use Rattle.model.specs.Types.{Move}
use Rattle.model.specs.Phases.{decide}
use Rattle.model.specs.Accounting.{switch_list, takes_in}
use Rattle.model.specs.Reading.{core_state_meant}
use Rattle.model.specs.Calls.{switched}
use Rattle.switches.specs.Entries.{ListFor}
use Rattle.queue.specs.Words.{decode, moves_in, NoLonger, Appended}
use Rattle.turns.specs.Turns.{rules_of, Short}
use Rattle.turns.specs.declared.Marks.{Marks}
use Rattle.phases.specs.Cores.{board, pass_of}
use Rattle.rings.specs.declared.RingPos.{RingPos}
use Rattle.rings.specs.Ring.{capacity, RingOK}
use Rattle.rings.specs.Events.{events_in}
use Rattle.state.specs.declared.Eight.{Eight}
use Rattle.state.specs.declared.Sched.{Sched}
use Rattle.state.specs.Memory.{memory}
use Rattle.state.specs.State.{firsts, board_of, packed, states_of, log_words, Valid}
use Rattle.accounts.specs.Charging.{TicksCharged, LanesCharged}
use Rattle.accounts.specs.Log.{moved_log}
use Rattle.accounts.proofs.Figures.{log-capacity}
use Rattle.checks.specs.Check.{check_meant, tick_refusal}
use Rattle.tick_plan.specs.declared.Charged.{Charged}
use Rattle.tick_plan.specs.declared.Planned.{Planned}
use Rattle.tick_plan.specs.declared.Written.{Written}
use Rattle.tick_plan.specs.Plan.{tick_threads, TickPending, ChargedOf, PlannedOf, WrittenAt, WrittenOf, ticked_sched}
use Rattle.tick_plan.proofs.Ticking.{threads-refused, tick-pending}

pub refused_none : (s : Sched) (a : Result Unit Refusal) (x : Refusal) → a ≡ Err x → check_meant a ≡ tick_refusal s → 0 ≡ tick_threads s
refused_none s a x e h = sym (threads-refused s (refusal_number x) (sym h ∙ ap check_meant e))

pub charged : (s : Sched) (ws ws' : List ℕ) (c : Charged) (cs : List Program.CoreState) → cs ≡ states_of s.states → TicksCharged s.cores cs s.ticks c.ticks
    → LanesCharged s.capacities.segments s.cores s.now.0 cs ws ws' s.lanes c.lanes → length c.ticks ≡ 8 → length c.lanes ≡ 8 → ChargedOf s ws ws' c
charged s ws ws' c cs e a b l m =
    record {
      ticks = subst (λ (x : List Program.CoreState). TicksCharged s.cores x s.ticks c.ticks) e a;
      lanes = subst (λ (x : List Program.CoreState). LanesCharged s.capacities.segments s.cores s.now.0 x ws ws' s.lanes c.lanes) e b;
      eight_ticks = l;
      eight_lanes = m;
    }

pub short-same : (states : Eight) (n : ℕ) (cs : List Program.CoreState) → cs ≡ states_of states → ((j : ℕ) → j < n → Short (core_state_meant (get_or (states_of states) j CoreStateCases.Idle)))
    → (j : ℕ) → j < n → Short (core_state_meant (get_or cs j CoreStateCases.Idle))
short-same states n cs e h j l = subst (λ (x : List Program.CoreState). Short (core_state_meant (get_or x j CoreStateCases.Idle))) (sym e) (h j l)

-- the ring's words stand in the front of the log
pub written : (c : ℕ) (pos : RingPos) (now : ℕ) (ms : List Move) (ls b : List ℕ) (w : Written) → 2 * c ≤ length ls → length b ≡ length (take (2 * c) ls) → RingOK b w.log
    → events_in b w.log ≡ moved_log (capacity (take (2 * c) ls)) now ms (events_in (take (2 * c) ls) pos) → w.takes ≡ takes_in ms
    → ListFor (switched (switch_list [] ms)) w.switches → WrittenAt c pos now ms ls (b ++ drop (2 * c) ls) w
written c pos now ms ls b w h l ok ev ta sw =
    let k : length b ≡ 2 * c = l ∙ length-take-le (2 * c) ls h in
    let e : log_words c (b ++ drop (2 * c) ls) ≡ b = take_at b (drop (2 * c) ls) (2 * c) k in
    record {
      ok = subst (λ (x : List ℕ). RingOK x w.log) (sym e) ok;
      events =
          ap (λ (x : List ℕ). events_in x w.log) e ∙ ev
          ∙ ap (λ (n : ℕ). moved_log n now ms (events_in (take (2 * c) ls) pos)) (log-capacity c ls h);
      after = drop_at b (drop (2 * c) ls) (2 * c) k;
      long = length_front ls b (2 * c) l;
      takes = ta;
      list = sw;
    }

-- the moves stand in the front of the lanes
pub moves_front : (b r : List ℕ) (n : ℕ) → n ≤ length b → moves_in b n ≡ moves_in (b ++ r) n
unfolding moves_in
moves_front b r n l = sym (ap (map decode) (take-append-le n b r l))

-- what the phases leave in the front of the lanes
module _ (s : Sched) (qs qs' ps ws a b : List ℕ) (e₁ : Eight) (mk : Marks) (queued moves : ℕ) where
  pub planned : (p : Planned) (qs₂ b₂ z : List ℕ) → qs₂ ≡ qs' → b₂ ≡ b → z ≡ drop 80 ws → a ≡ take 80 ws → (p.states ≡ e₁) × (p.marks ≡ mk) × (p.queued ≡ queued) × (p.moves ≡ moves)
      → (length p.marks.exits ≡ 8) × (length p.marks.blocks ≡ 8) × (length p.marks.yields ≡ 8) × (length p.marks.progressed ≡ 8) → s.cores ≤ 8 → 80 ≤ length ws → length b ≡ length a → length qs' ≡ length qs
      → pass_of s.cores (board (states_of e₁) mk) (take queued qs') (moves_in b moves)
      ≡ decide (rules_of s.config.policy s.config.quantum s.config.switch_cost (take s.threads ps)) (firsts (board_of s) s.cores) (take s.queued qs)
      → ((j : ℕ) → s.cores ≤ j → board (states_of e₁) mk j ≡ board_of s j)
      → NoLonger s.queued queued qs qs' → Appended (10 * s.cores) 0 moves a b
      → (s.states ≡ packed (states_of s.states) → e₁ ≡ packed (states_of e₁)) → PlannedOf s qs qs₂ ps ws (b₂ ++ z) p
  unfolding pass_of
  planned p qs₂ b₂ z eq eb ez ea m m8 n8 l80 lb lq d u q f wo =
      let lt : length b ≡ length (take 80 ws) = lb ∙ ap length ea in
      let k : length b ≡ 80 = lt ∙ length-take-le 80 ws l80 in
      let few : moves ≤ 80 = omega (arith, f.fits) in
      rw (eq, eb, ez)
      (record {
        decided =
            rw (m.0, m.1, m.2, m.3)
            (ap (λ (x : List Move). pass_of s.cores (board (states_of e₁) mk) (take queued qs') x) (sym (moves_front b (drop 80 ws) moves (omega (arith, few, k))))
            ∙ d);
        unused = λ j l. rw (m.0, m.1) (u j l);
        queue = rw m.2 q;
        few = rw m.3 few;
        behind = drop_at b (drop 80 ws) 80 k;
        long_queue = lq;
        long_lanes = length_front ws b 80 lt;
        exits = m8.0;
        blocks = m8.1;
        yields = m8.2;
        progressed = m8.3;
        words = λ h. rw m.0 (wo h);
      })

-- all parts of a tick end that is taken
pub pending-at : (s : Sched) (ts : List ThreadInfo) (qs ps ls ws : List ℕ) → Valid s (memory ts qs ps ls ws) → tick_refusal s ≡ none → (t : Tick) (c : Charged) (p : Planned) (w : Written) (s' : Sched) (qs' ls' ws₁ ws' : List ℕ) → s' ≡ ticked_sched s t c p w → t.0 ≡ s.now.0 + 1
    → ChargedOf s ws ws₁ c → PlannedOf s qs qs' ps ws₁ ws' p → WrittenOf s t.0 (moves_in ws' p.moves) ls ls' w → (a : Result Unit Refusal) → a ≡ Ok tt
    → TickPending a w.switches s s' p.moves (memory ts qs ps ls ws) (memory ts qs' ps ls' ws')
pending-at s ts qs ps ls ws v h t c p w s' qs' ls' ws₁ ws' e et C P R a ea =
    subst (λ (x : Sched). TickPending a w.switches s x p.moves (memory ts qs ps ls ws) (memory ts qs' ps ls' ws')) (sym e)
    (tick-pending s ts qs ps ls ws v h t c p w qs' ls' ws₁ ws' et C P (subst (λ (n : ℕ). WrittenOf s n (moves_in ws' p.moves) ls ls' w) et R) a ea)
