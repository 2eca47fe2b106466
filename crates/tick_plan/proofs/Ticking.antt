-- A tick end, from what its parts leave to its promise.
use Rattle.std.specs.Prelude.{Ok, Err, Result}
use Prim.Native.Nat.{ℕ, ◌+◌, ◌*◌, ◌<◌, ◌≤◌, ◌^◌, max}
use mathlib.Core.Path.{◌≡◌, refl, sym, ap, ◌∙◌, subst, fun_ext}
use mathlib.Core.Bool.{false}
use mathlib.Core.Option.{Option, none, some}
use mathlib.Core.List.{List, [], map}
use native.Mathlib.Omega.{arith}
use borrow.Author.Tests.{leb-false}
use lib.ListN.{length, take, drop, get_or, get_elem?}
use Rattle.settings.specs.declared.Refusal.{Refusal}
use Rattle.settings.specs.Reading.{refusal_number}
use Rattle.model.specs.Invariants.{All, ThreadIn, CoreStateIn}
use Rattle.model.specs.declared.CoreState.TheVariants as CoreStateCases
use Rattle.model.specs.declared.ThreadInfo.{ThreadInfo}
use Rattle.model.specs.declared.Tick.{Tick}
use Rattle.model.specs.Types.{Core, Move, State}
use Rattle.model.specs.Phases.{Rules, Pass, decide}
use Rattle.model.specs.Accounting.{charge_threads, charge, apply_moves, switch_list}
use Rattle.model.specs.Calls.{switched, rules, priority_of, accept, charged, tick, limit_now}
use Rattle.model.specs.Reading.{core_state_meant, thread_meant}
use Rattle.model.proofs.Refusals.{check-none, check-rest}
use Rattle.model.proofs.Bounded.{all-at, charged-in, applied-ticks, applied-switches, switches-figure}
use Rattle.queue.specs.Words.{moves_in}
use Rattle.switches.specs.declared.SwitchList.{SwitchList}
use Rattle.switches.specs.Entries.{answer_with, no_switches}
use Rattle.switches.proofs.Words.{list-says, list-taken, list-refused}
use Rattle.turns.specs.Turns.{rules_of}
use Rattle.phases.specs.Cores.{board, pass_of}
use Rattle.charges.specs.Charging.{cores_meant}
use Rattle.record_moves.specs.Moves.{moved_threads, MoveRoom}
use Rattle.record_moves.proofs.Moving.{moved-threads}
use Rattle.threads.specs.Slice.{blank, threads_in, Front, AllChargeable, tid_at, MovesFit}
use Rattle.threads.proofs.Slices.{thread-at, length-threads}
use Rattle.state.specs.declared.Sched.{Sched}
use Rattle.state.specs.Memory.{memory}
use Rattle.state.specs.State.{core_from, board_of, states_of, no_pos, meant_at, Sizes, Rings, MarksOK, Valid}
use Rattle.state.specs.Done.{Frame, Done}
use Rattle.state.proofs.Doing.{done_refused, done-taken}
use Rattle.accounts.proofs.Figures.{firsts-all, firsts_same, ticks-room, meant-ticks, meant-timelines, applied-log, applied-timelines}
use Rattle.rings.specs.Timeline.{segments_in}
use Rattle.checks.specs.Check.{check_meant, tick_refusal}
use Rattle.checks.proofs.Refusals.{tick-refusal}
use Rattle.tick_plan.specs.DoneWith.{DoneWith}
use Rattle.tick_plan.specs.declared.Charged.{Charged}
use Rattle.tick_plan.specs.declared.Planned.{Planned}
use Rattle.tick_plan.specs.declared.Written.{Written}
use Rattle.tick_plan.specs.Plan.{unless_refused, tick_threads, ChargedRecords, MovedRecords, TickPending, ChargeFits, ChargedOf, PlanFits, PlannedOf, WriteFits, WrittenOf, ticked_sched}
use Rattle.tick_plan.proofs.Range.{MovesIn, decide-in, placed-cores, placed-queue}
use Rattle.tick_plan.proofs.Reading.{all_list, short-in, charge-used, priorities_of, priority-at, priority-moved, priority-charged, front_long, moves-at, few-takes, behind_more, lane-same}

---- who is charged

pub threads-taken : (s : Sched) → tick_refusal s ≡ none → tick_threads s ≡ s.threads
unfolding tick_threads
threads-taken s e = rw e

pub threads-refused : (s : Sched) (n : ℕ) → tick_refusal s ≡ some n → tick_threads s ≡ 0
unfolding tick_threads
threads-refused s n e = rw e

module _ (s : Sched) (ts : List ThreadInfo) (qs ps ls ws : List ℕ) (v : Valid s (memory ts qs ps ls ws)) where
  abbrev M : State
  M = meant_at s ts qs ls ws

  pub next_fits : s.now.0 + 1 < 2 ^ 64
  unfolding meant_at limit_now
  next_fits = omega (arith, v.bounded.now)

  records-long : s.threads ≤ length ts
  records-long = omega (arith, v.sizes.in_use, v.sizes.threads)

  -- the rules, with the priorities of the lent words
  pub rules-same : rules M ≡ rules_of s.config.policy s.config.quantum s.config.switch_cost (take s.threads ps)
  unfolding rules meant_at
  rules-same =
      λ i. record {
        policy = (rules M).policy;
        quantum = s.config.quantum;
        cost = s.config.switch_cost;
        prio = fun_ext {f = λ (t : ℕ). priority_of 0 (get_elem? M.accounts.threads t)} {g = λ (t : ℕ). get_or (take s.threads ps) t 0} (λ t. priority-at M.accounts.threads t ∙ ap (λ (l : List ℕ). get_or l t 0) (sym v.priorities)) i;
      }

  -- what charging the records asks
  pub charge-all-fits : (tick_threads s ≤ length ts) × AllChargeable (tick_threads s) ts
  unfolding tick_threads meant_at limit_now threads_in
  charge-all-fits = go (tick_refusal s)
    where
      each : AllChargeable s.threads ts
      each k l =
          let t : ThreadIn s.now.0 (s.context_switches + 1) s.context_switches (thread_meant (get_or ts k blank)) =
          all-at (ThreadIn s.now.0 (s.context_switches + 1) s.context_switches) (map thread_meant (take s.threads ts)) k (thread_meant (get_or ts k blank)) v.bounded.threads (thread-at ts s.threads k l (omega (arith, records-long))) in
          record {
            number = omega (arith, l, v.sizes.in_use, v.bounded.settings.cap_t');
            run = omega (arith, t.run, v.bounded.now);
            ready = omega (arith, t.ready, v.bounded.now);
            blocked = omega (arith, t.blocked, v.bounded.now);
          }

      go : (o : Option ℕ) → (unless_refused o s.threads ≤ length ts) × AllChargeable (unless_refused o s.threads) ts
      go none = (records-long, each)
      go (some n) = (omega arith, λ k l. absurd (omega arith))

  ---- refused: no record is charged, and there are no moves

  pub pending-refused : (a : Result Unit Refusal) (x : Refusal) (l : SwitchList) → l ≡ no_switches → a ≡ Err x → check_meant a ≡ tick_refusal s
      → TickPending a l s s 0 (memory ts qs ps ls ws) (memory ts qs ps ls ws)
  pending-refused a x l none-due e h =
      record {
        fits = λ ts₁ f. record { within = omega arith; known = λ k l. absurd (omega arith); room = λ k l. absurd (omega arith) };
        done = λ ts₁ ts' f g.
            let same : ts' ≡ ts = (g 0 (λ k l. absurd (omega arith))).rest ∙ uncharged ts₁ f in
            subst (λ (ys : List ThreadInfo). DoneWith tick (answer_with a l) l s s (memory ts qs ps ls ws) (memory ys qs ps ls ws)) (sym same)
            (subst (λ (b : Result Unit Refusal). DoneWith tick (answer_with b l) l s s (memory ts qs ps ls ws) (memory ts qs ps ls ws)) (sym e)
            (record { done = done_refused tick s ts qs ps ls ws v (refusal_number x) (tick-refusal s ts qs ls ws ∙ number); list = list-refused l none-due (refusal_number x) }));
      }
    where
      number : tick_refusal s ≡ some (refusal_number x)
      number = sym h ∙ ap check_meant e

      uncharged : (ts₁ : List ThreadInfo) → ChargedRecords s ts ts₁ → ts₁ ≡ ts
      uncharged ts₁ f = subst (λ (n : ℕ). drop n ts₁ ≡ drop n ts) (threads-refused s (refusal_number x) number) f.rest

  ---- taken

  module _ (h : tick_refusal s ≡ none) where
    still_open : s.closed ≡ false
    unfolding tick_refusal
    still_open = check-none 11 _ _ h

    early : s.now.0 < limit_now
    unfolding tick_refusal
    early = leb-false limit_now s.now.0 (check-none 18 _ _ (check-rest 11 _ _ h))

    -- what the parts ask
    pub charge-fits : ChargeFits s ws
    unfolding meant_at limit_now
    charge-fits =
        record {
          cores = v.sizes.cores;
          eight_ticks = v.ticks;
          eight_lanes = v.rings.eight;
          room = ticks-room s.cores s.now.0 s.ticks v.bounded.now v.bounded.ticks;
          segments = v.bounded.settings.cap_s';
          words = v.sizes.lanes;
          now = omega (arith, early);
          rings = v.rings.segments;
        }

    pub plan-fits : (ws₁ : List ℕ) → length ws₁ ≡ length ws → PlanFits s qs ps ws₁
    unfolding meant_at limit_now core_from
    plan-fits ws₁ e =
        record {
          cores = v.sizes.cores;
          queued = omega (arith, v.sizes.waiting, v.sizes.queue);
          prios = omega (arith, v.sizes.in_use, v.sizes.prios);
          words = omega (arith, v.sizes.lanes);
          short = λ j l.
              short-in s.now.0 v.bounded.now (core_state_meant (get_or (states_of s.states) j CoreStateCases.Idle))
              (firsts-all (λ (c : Core). CoreStateIn s.now.0 c.state) (board_of s) s.cores (all_list (λ (c : Core). CoreStateIn s.now.0 c.state) M.cores v.bounded.cores) j l);
        }

    pub write-fits : (ws₁ ws₂ : List ℕ) (count now : ℕ) → length ws₁ ≡ length ws → length ws₂ ≡ length ws₁ → count ≤ 80 → now ≡ s.now.0 + 1 → WriteFits s ls ws₂ count now
    unfolding limit_now
    write-fits ws₁ ws₂ count now e e' l t =
        record { words = v.sizes.log; ring = v.rings.events; within = omega (arith, v.sizes.lanes); early = omega (arith, early) }

    pub switches-fit : (ws₂ : List ℕ) (count now : ℕ) (ls' : List ℕ) (w : Written) → count ≤ 80 → WriteFits s ls ws₂ count now → WrittenOf s now (moves_in ws₂ count) ls ls' w → s.context_switches + w.takes < 2 ^ 64
    unfolding meant_at
    switches-fit ws₂ count now ls' w l f g = omega (arith, few-takes ws₂ count f.within, g.takes, switches-figure M v.bounded)

    module _ (t : Tick) (c : Charged) (p : Planned) (w : Written) (qs' ls' ws₁ ws' : List ℕ)
        (et : t.0 ≡ s.now.0 + 1) (C : ChargedOf s ws ws₁ c) (P : PlannedOf s qs qs' ps ws₁ ws' p) (R : WrittenOf s (s.now.0 + 1) (moves_in ws' p.moves) ls ls' w) where
      abbrev s' : Sched
      s' = ticked_sched s t c p w

      abbrev ms : List Move
      ms = moves_in ws' p.moves

      long-lanes : length ws' ≡ length ws
      long-lanes = P.long_lanes ∙ C.lanes.size

      pass : pass_of s.cores (board (states_of p.states) p.marks) (take p.queued qs') ms ≡ decide (rules M) M.cores M.queue
      unfolding meant_at
      pass = P.decided ∙ ap (λ (k : Rules). decide k M.cores M.queue) (sym rules-same)

      count_long : p.moves ≤ length ws'
      count_long = omega (arith, P.few, long-lanes, v.sizes.lanes)

      known : (k : ℕ) → k < p.moves → tid_at ws' k < s.threads
      unfolding pass_of meant_at threads_in
      known =
          let a : MovesIn (length M.accounts.threads) (decide (rules M) M.cores M.queue).moves =
          (decide-in _ (rules M) M.cores M.queue (placed-cores M v.bounded.placed still_open) (placed-queue M v.bounded.placed)).moves in
          let b : MovesIn (length M.accounts.threads) ms = subst (λ (x : Pass). MovesIn (length M.accounts.threads) x.moves) (sym pass) a in
          moves-at s.threads ws' p.moves (subst (λ (n : ℕ). MovesIn n ms) (length-threads ts s.threads records-long) b) count_long

      ---- the records

      module _ (ts₁ : List ThreadInfo) (f : ChargedRecords s ts ts₁) where
        charged-front : Front s.threads (charge_threads (cores_meant (states_of s.states)) 0 (threads_in ts s.threads)) ts ts₁
        charged-front = subst (λ (n : ℕ). Front n (charge_threads (cores_meant (states_of s.states)) 0 (threads_in ts n)) ts ts₁) (threads-taken s h) f

        charged-threads : threads_in ts₁ s.threads ≡ charge_threads M.cores 0 (threads_in ts s.threads)
        unfolding meant_at
        charged-threads = charged-front.front ∙ charge-used s.states s.marks.exits s.marks.blocks s.marks.yields s.marks.progressed s.cores v.sizes.cores v.marks.unused (threads_in ts s.threads)

        charged-long : length ts₁ ≡ length ts
        charged-long = front_long s.threads _ ts ts₁ charged-front (priority-charged (cores_meant (states_of s.states)) 0 (threads_in ts s.threads)) records-long

        pub moves-fit : MovesFit ts₁ ws' p.moves
        unfolding meant_at threads_in
        moves-fit =
            record {
              within = count_long;
              known = λ k l. omega (arith, known k l, charged-long, records-long);
              room = λ k l. roomy (tid_at ws' k) (known k l);
            }
          where
            all : All (ThreadIn (s.now.0 + 1) (s.context_switches + 1) s.context_switches) (threads_in ts₁ s.threads)
            all = subst (All (ThreadIn (s.now.0 + 1) (s.context_switches + 1) s.context_switches)) (sym charged-threads) (charged-in s.now.0 (s.context_switches + 1) s.context_switches M.cores 0 M.accounts.threads v.bounded.threads)

            roomy : (x : ℕ) → x < s.threads → MoveRoom p.moves (thread_meant (get_or ts₁ x blank))
            roomy x l =
                let r : ThreadIn (s.now.0 + 1) (s.context_switches + 1) s.context_switches (thread_meant (get_or ts₁ x blank)) =
                all-at (ThreadIn (s.now.0 + 1) (s.context_switches + 1) s.context_switches) (threads_in ts₁ s.threads) x (thread_meant (get_or ts₁ x blank)) all (thread-at ts₁ s.threads x l (omega (arith, charged-long, records-long))) in
                record { dispatches = omega (arith, r.dispatches, P.few, switches-figure M v.bounded); preemptions = omega (arith, r.preemptions, P.few, switches-figure M v.bounded) }

        module _ (ts' : List ThreadInfo) (g : MovedRecords (s.now.0 + 1) ws' p.moves ts₁ ts') where
          moved_front : Front s.threads (moved_threads (s.now.0 + 1) ms (threads_in ts₁ s.threads)) ts₁ ts'
          moved_front = g s.threads known

          all-threads : threads_in ts' s.threads ≡ moved_threads (s.now.0 + 1) ms (charge_threads M.cores 0 (threads_in ts s.threads))
          all-threads = moved_front.front ∙ ap (moved_threads (s.now.0 + 1) ms) charged-threads

          moved-long : length ts' ≡ length ts
          moved-long = front_long s.threads _ ts₁ ts' moved_front (priority-moved (s.now.0 + 1) ms (threads_in ts₁ s.threads)) (omega (arith, charged-long, records-long)) ∙ charged-long

          priorities-kept : take s.threads ps ≡ priorities_of (threads_in ts' s.threads)
          unfolding meant_at threads_in
          priorities-kept = v.priorities ∙ sym (ap priorities_of all-threads ∙ priority-moved (s.now.0 + 1) ms _ ∙ priority-charged M.cores 0 (threads_in ts s.threads))

          ---- the state

          -- the accounts, part by part
          accounts-same : (meant_at s' ts' qs' ls' ws').accounts ≡ apply_moves s.capacities.events (s.now.0 + 1) ms (charged M)
          unfolding meant_at threads_in charge
          accounts-same =
              λ i. record {
                threads = (all-threads ∙ sym (moved-threads s.capacities.events (s.now.0 + 1) ms (charged M))) i;
                ticks = (meant-ticks s ts qs ls ws s.now.0 c.ticks C.ticks ∙ sym (applied-ticks s.capacities.events (s.now.0 + 1) ms (charged M))) i;
                timelines = (firsts_same _ _ s.cores (λ j l. ap (λ (b : List ℕ). segments_in b (get_or c.lanes j no_pos)) (lane-same s.capacities.segments j ws₁ ws' P.behind)) ∙ meant-timelines s ts qs ls ws s.now.0 ws₁ c.lanes C.lanes ∙ sym (applied-timelines s.capacities.events (s.now.0 + 1) ms (charged M))) i;
                log = (R.events ∙ sym (applied-log s.capacities.events (s.now.0 + 1) ms (charged M))) i;
                context_switches = (ap (λ (n : ℕ). s.context_switches + n) R.takes ∙ sym (applied-switches s.capacities.events (s.now.0 + 1) ms (charged M))) i;
              }

          -- what the definition makes of what was decided
          ended : Pass → State
          ended x = record { config = M.config; cores = x.cores; queue = x.queue; accounts = apply_moves s.capacities.events (s.now.0 + 1) x.moves (charged M); now = s.now.0 + 1; closed = s.closed }

          state-same : meant_at s' ts' qs' ls' ws' ≡ (accept M tick).state
          unfolding accept meant_at pass_of ended
          state-same =
              (λ i. record { config = M.config; cores = (meant_at s' ts' qs' ls' ws').cores; queue = take p.queued qs'; accounts = accounts-same i; now = et i; closed = s.closed })
              ∙ ap ended pass

          sizes : Sizes s.capacities s.cores s.threads p.queued (memory ts' qs' ps ls' ws')
          sizes =
              record {
                cores = v.sizes.cores;
                in_use = v.sizes.in_use;
                waiting = omega (arith, P.queue.fits, v.sizes.waiting);
                threads = omega (arith, moved-long, v.sizes.threads);
                queue = omega (arith, P.long_queue, v.sizes.queue);
                prios = v.sizes.prios;
                log = omega (arith, R.long, v.sizes.log);
                lanes = omega (arith, long-lanes, v.sizes.lanes);
              }

          rings : Rings s.capacities s.cores w.log c.lanes ls' ws'
          rings =
              record {
                eight = C.eight_lanes;
                events = R.ok;
                segments = λ i l. rw (lane-same s.capacities.segments i ws₁ ws' P.behind) (C.lanes.lanes i l).ok;
              }

          marks : MarksOK s.cores (states_of p.states) p.marks
          marks =
              record {
                exits = P.exits;
                blocks = P.blocks;
                yields = P.yields;
                progressed = P.progressed;
                unused = λ i l. P.unused i l ∙ v.marks.unused i l;
              }

          frame : Frame s s' (memory ts qs ps ls ws) (memory ts' qs' ps ls' ws')
          frame =
              let m : max s.queued p.queued ≡ s.queued = omega (arith, P.queue.fits) in
              record {
                threads = moved_front.rest ∙ charged-front.rest;
                queue = rw m P.queue.behind;
                prios = refl;
                log = R.after;
                lanes = behind_more 80 (s.cores * (2 * s.capacities.segments)) ws₁ ws' P.behind ∙ C.lanes.after;
                ticks = C.ticks.rest;
                places = C.lanes.rest;
              }

          pub tick-done : (a : Result Unit Refusal) → a ≡ Ok tt → Done tick (answer_with a w.switches) s s' (memory ts qs ps ls ws) (memory ts' qs' ps ls' ws')
          unfolding accept pass_of meant_at threads_in
          tick-done a e =
              let is : answer_with a w.switches ≡ answer_with (Ok tt) w.switches = ap (λ (b : Result Unit Refusal). answer_with b w.switches) e in
              done-taken tick s ts qs ps ls ws v _ s' ts' qs' ps ls' ws' (tick-refusal s ts qs ls ws ∙ h) state-same
              (is ∙ ap switched (list-says _ _ R.list) ∙ ap (λ (x : Pass). switched (switch_list [] x.moves)) pass)
              (λ n z. let y : ◌≡◌ {A = ℕ} 0 1 = cc in omega arith)
              sizes rings marks (P.words v.words) C.eight_ticks priorities-kept frame

      pub tick-pending : (a : Result Unit Refusal) → a ≡ Ok tt → TickPending a w.switches s s' p.moves (memory ts qs ps ls ws) (memory ts qs' ps ls' ws')
      tick-pending a e = record { fits = λ ts₁ f. moves-fit ts₁ f; done = λ ts₁ ts' f g. record { done = tick-done ts₁ f ts' g a e; list = list-taken _ _ R.list a e } }
