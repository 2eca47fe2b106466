-- A forced switch, from what its parts leave to its promise.
use Rattle.std.specs.Prelude.{Ok, Result}
use Rattle.settings.specs.declared.Refusal.{Refusal}
use Prim.Native.Nat.{ℕ, zero, suc, ◌+◌, ◌*◌, ◌<◌, ◌≤◌, ◌^◌, max}
use mathlib.Core.Path.{◌≡◌, refl, sym, ap, ◌∙◌, subst}
use mathlib.Core.Bool.{Bool, true, false}
use mathlib.Core.Option.{Option, none}
use mathlib.Core.List.{List, [], ◌∷◌, ◌++◌}
use native.Mathlib.Omega.{arith}
use borrow.Author.Tests.{leb-true, leb-false}
use lib.Dec.{leb}
use lib.ListN.{length, take, get_or}
use lib.Seq.{length-take-le}
use Rattle.model.specs.Invariants.{All, ThreadIn}
use Rattle.model.specs.declared.ThreadInfo.{ThreadInfo}
use Rattle.model.specs.Types.{CoreState, Core, Move, State}
use Rattle.model.specs.Phases.{update, without, dispatch_moves}
use Rattle.model.specs.Accounting.{apply_moves, switch_list}
use Rattle.model.specs.Calls.{switched, refusal, accept, check, force, rules, no_core, core_at, core_state_of, any_leaving, is_switching, cannot_take, taken_by, out_of, back_of, forced_core, limit_switches, limit_now}
use Rattle.model.specs.Reading.{thread_meant}
use Rattle.switches.specs.Entries.{answer_with}
use Rattle.switches.proofs.Words.{list-says, list-taken}
use Rattle.model.proofs.Refusals.{check-none, check-rest}
use Rattle.model.proofs.Bounded.{all-at, applied-ticks, applied-switches, switches-figure}
use Rattle.queue.specs.Words.{moves_in}
use Rattle.queue.specs.Ready.{Picked}
use Rattle.decide.specs.Forced.{asked, absent}
use Rattle.decide.proofs.Asked.{taken_at, can-take, cannot-take}
use Rattle.record_moves.specs.Moves.{moved_threads, MoveRoom}
use Rattle.record_moves.proofs.Moving.{moved-threads}
use Rattle.threads.specs.Slice.{blank, threads_in, Front, tid_at, MovesFit}
use Rattle.threads.proofs.Slices.{thread-at, length-threads}
use Rattle.state.specs.declared.Sched.{Sched}
use Rattle.state.specs.Memory.{memory}
use Rattle.state.specs.State.{board_of, core_from, no_pos, meant_at, Valid}
use Rattle.state.specs.Done.{Done}
use Rattle.state.proofs.Doing.{done-taken}
use Rattle.state.proofs.Firsts.{length-firsts, core_at-firsts}
use Rattle.accounts.proofs.Figures.{firsts_same, applied-log, applied-timelines}
use Rattle.rings.specs.Timeline.{segments_in}
use Rattle.tick_plan.specs.declared.Planned.{Planned}
use Rattle.tick_plan.specs.declared.Written.{Written}
use Rattle.tick_plan.specs.Plan.{MovedRecords, planned_sched, WriteFits, WrittenOf}
use Rattle.tick_plan.proofs.Range.{In, CoreIn, MovesIn, QueueIn, moves-append, in-dispatch_moves, in-out_of, placed-cores, placed-queue}
use Rattle.tick_plan.proofs.Reading.{priorities_of, priority-moved, front_long, moves-at, few-takes, behind_more, lane-same}
use Rattle.force_plan.specs.Plan.{ForcePending, ForceFits, ForcedOf, state_at, force_refusal}

-- the thread at a place of a queue of known threads is known
queue-at : (N : ℕ) (q : List ℕ) (k : ℕ) → QueueIn N q → k < length q → get_or q k 0 < N
queue-at N [] k a l = absurd (omega arith)
queue-at N (x ∷ q) zero a l = a.0
queue-at N (x ∷ q) (suc k) a l = queue-at N q k a.1 (omega arith)

core_at_lem : (N : ℕ) (cs : List Core) (i : ℕ) → All (CoreIn N) cs → In N (core_at cs i).state
unfolding core_at
core_at_lem N [] i a = tt
core_at_lem N (c ∷ cs) zero a = a.0
core_at_lem N (c ∷ cs) (suc i) a = core_at_lem N cs i a.1

module _ (s : Sched) (ts : List ThreadInfo) (qs ps ls ws : List ℕ) (v : Valid s (memory ts qs ps ls ws)) (i : ℕ) (nm : Option ℕ) (at : ℕ) where
  abbrev M : State
  M = meant_at s ts qs ls ws

  module _ (pick : Picked (asked M.config.policy (rules M).prio nm M.queue) M.queue at) where
    queue_long : length M.queue ≡ s.queued
    unfolding meant_at
    queue_long = length-take-le s.queued qs (omega (arith, v.sizes.waiting, v.sizes.queue))

    state-at : leb s.cores i ≡ false → core_state_of M i ≡ state_at s i
    unfolding core_state_of meant_at core_from
    state-at e = ap (λ (c : Core). c.state) (core_at-firsts (board_of s) s.cores i (leb-false s.cores i e))

    takes-place : (r : Option ℕ) → cannot_take M i nm r ≡ check (absent nm) (leb s.queued at) r
    unfolding check
    takes-place r = go (leb s.queued at) refl
      where
        go : (b : Bool) → leb s.queued at ≡ b → cannot_take M i nm r ≡ check (absent nm) b r
        go true e = cannot-take M i at nm r pick (omega (arith, leb-true s.queued at e, queue_long))
        go false e = can-take M i at nm r pick (omega (arith, leb-false s.queued at e, queue_long))

    -- the ladder is the definition's refusal
    pub force-refusal : refusal M (force i nm) ≡ force_refusal s i nm at
    unfolding refusal force_refusal no_core meant_at check
    force-refusal =
        ap (λ (n : ℕ). check 4 (leb n i) (check 11 s.closed (check 12 (any_leaving M.cores) (check 14 (is_switching (core_state_of M i)) (cannot_take M i nm (check 19 (leb limit_switches s.context_switches) none)))))) (length-firsts (board_of s) s.cores)
        ∙ go (leb s.cores i) refl
      where
        go : (b : Bool) → leb s.cores i ≡ b
            → check 4 b (check 11 s.closed (check 12 (any_leaving M.cores) (check 14 (is_switching (core_state_of M i)) (cannot_take M i nm (check 19 (leb limit_switches s.context_switches) none)))))
            ≡ check 4 b (check 11 s.closed (check 12 (any_leaving M.cores) (check 14 (is_switching (state_at s i)) (check (absent nm) (leb s.queued at) (check 19 (leb limit_switches s.context_switches) none)))))
        go true e = refl
        go false e =
            ap (λ (c : CoreState). check 11 s.closed (check 12 (any_leaving M.cores) (check 14 (is_switching c) (cannot_take M i nm (check 19 (leb limit_switches s.context_switches) none))))) (state-at e)
            ∙ ap (λ (o : Option ℕ). check 11 s.closed (check 12 (any_leaving M.cores) (check 14 (is_switching (state_at s i)) o))) (takes-place (check 19 (leb limit_switches s.context_switches) none))

    ---- taken

    module _ (h : force_refusal s i nm at ≡ none) where
      there-is : leb s.cores i ≡ false
      unfolding force_refusal
      there-is = check-none 4 _ _ h

      still_open : s.closed ≡ false
      unfolding force_refusal
      still_open = check-none 11 _ _ (check-rest 4 _ _ h)

      waits : at < length M.queue
      unfolding force_refusal
      waits = omega (arith, queue_long, leb-false s.queued at (check-none (absent nm) _ _ (check-rest 14 _ _ (check-rest 12 _ _ (check-rest 11 _ _ (check-rest 4 _ _ h))))))

      settled : is_switching (state_at s i) ≡ false
      unfolding force_refusal
      settled = check-none 14 _ _ (check-rest 12 _ _ (check-rest 11 _ _ (check-rest 4 _ _ h)))

      -- what the parts ask
      pub plan-fits : ForceFits s i at qs ws
      unfolding meant_at
      plan-fits =
          record {
            cores = v.sizes.cores;
            there = leb-false s.cores i there-is;
            settled = settled;
            waits = omega (arith, waits, queue_long);
            queued = omega (arith, v.sizes.waiting, v.sizes.queue);
            words = omega (arith, v.sizes.lanes);
            pick = (asked M.config.policy (rules M).prio nm M.queue, pick);
          }

      pub write-fits : (ws' : List ℕ) (count now : ℕ) → length ws' ≡ length ws → count ≤ 3 → now ≡ s.now.0 → WriteFits s ls ws' count now
      unfolding meant_at limit_now
      write-fits ws' count now e l t =
          record { words = v.sizes.log; ring = v.rings.events; within = omega (arith, v.sizes.lanes); early = omega (arith, v.bounded.now) }

      pub switches-fit : (ws' : List ℕ) (count now : ℕ) (ls' : List ℕ) (w : Written) → count ≤ 3 → WriteFits s ls ws' count now → WrittenOf s now (moves_in ws' count) ls ls' w → s.context_switches + w.takes < 2 ^ 64
      unfolding meant_at
      switches-fit ws' count now ls' w l f g = omega (arith, few-takes ws' count f.within, g.takes, switches-figure M v.bounded)

      abbrev taken : ℕ
      taken = get_or (take s.queued qs) at 0

      is-taken : taken_by M i nm ≡ taken
      unfolding meant_at
      is-taken = taken_at M i at nm pick waits

      module _ (p : Planned) (w : Written) (qs' ls' ws' : List ℕ) (P : ForcedOf s i at qs qs' ws ws' p) (R : WrittenOf s s.now.0 (moves_in ws' p.moves) ls ls' w) where
        abbrev s' : Sched
        s' = planned_sched s p w

        abbrev made : List Move
        made = moves_in ws' p.moves

        abbrev wanted : List Move
        wanted = out_of i (core_state_of M i) ++ dispatch_moves s.config.switch_cost (taken_by M i nm) i

        moves-same : made ≡ wanted
        moves-same =
            P.moves ∙ ap (λ (c : CoreState). out_of i c ++ dispatch_moves s.config.switch_cost taken i) (sym (state-at there-is))
            ∙ ap (λ (t : ℕ). out_of i (core_state_of M i) ++ dispatch_moves s.config.switch_cost t i) (sym is-taken)

        records-long : s.threads ≤ length ts
        records-long = omega (arith, v.sizes.in_use, v.sizes.threads)

        count_long : p.moves ≤ length ws'
        count_long = omega (arith, P.few, P.long_lanes, v.sizes.lanes)

        known : (k : ℕ) → k < p.moves → tid_at ws' k < s.threads
        unfolding meant_at threads_in core_state_of
        known =
            let N = length M.accounts.threads in
            let a : MovesIn N (out_of i (core_state_of M i)) = in-out_of N i (core_state_of M i) (core_at_lem N M.cores i (placed-cores M v.bounded.placed still_open)) in
            let t : taken_by M i nm < N = subst (λ (x : ℕ). x < N) (sym is-taken) (queue-at N M.queue at (placed-queue M v.bounded.placed) waits) in
            let b : MovesIn N (dispatch_moves s.config.switch_cost (taken_by M i nm) i) = in-dispatch_moves N s.config.switch_cost (taken_by M i nm) i t in
            let c : MovesIn N made = subst (MovesIn N) (sym moves-same) (moves-append N (out_of i (core_state_of M i)) (dispatch_moves s.config.switch_cost (taken_by M i nm) i) a b) in
            moves-at s.threads ws' p.moves (subst (λ (n : ℕ). MovesIn n made) (length-threads ts s.threads records-long) c) count_long

        pub force-fits : MovesFit ts ws' p.moves
        unfolding meant_at threads_in
        force-fits =
            record {
              within = count_long;
              known = λ k l. omega (arith, known k l, records-long);
              room = λ k l. roomy (tid_at ws' k) (known k l);
            }
          where
            roomy : (x : ℕ) → x < s.threads → MoveRoom p.moves (thread_meant (get_or ts x blank))
            roomy x l =
                let r : ThreadIn s.now.0 (s.context_switches + 1) s.context_switches (thread_meant (get_or ts x blank)) =
                all-at (ThreadIn s.now.0 (s.context_switches + 1) s.context_switches) (threads_in ts s.threads) x (thread_meant (get_or ts x blank)) v.bounded.threads (thread-at ts s.threads x l (omega (arith, records-long))) in
                record { dispatches = omega (arith, r.dispatches, P.few, switches-figure M v.bounded); preemptions = omega (arith, r.preemptions, P.few, switches-figure M v.bounded) }

        module _ (ts' : List ThreadInfo) (g : MovedRecords s.now.0 ws' p.moves ts ts') where
          moved_front : Front s.threads (moved_threads s.now.0 made (threads_in ts s.threads)) ts ts'
          moved_front = g s.threads known

          moved-long : length ts' ≡ length ts
          moved-long = front_long s.threads _ ts ts' moved_front (priority-moved s.now.0 made (threads_in ts s.threads)) records-long

          priorities-kept : take s.threads ps ≡ priorities_of (threads_in ts' s.threads)
          unfolding meant_at threads_in
          priorities-kept = v.priorities ∙ sym (ap priorities_of moved_front.front ∙ priority-moved s.now.0 made (threads_in ts s.threads))

          accounts-same : (meant_at s' ts' qs' ls' ws').accounts ≡ apply_moves s.capacities.events s.now.0 made M.accounts
          unfolding meant_at threads_in
          accounts-same =
              λ k. record {
                threads = (moved_front.front ∙ sym (moved-threads s.capacities.events s.now.0 made M.accounts)) k;
                ticks = sym (applied-ticks s.capacities.events s.now.0 made M.accounts) k;
                timelines = (firsts_same _ _ s.cores (λ j l. ap (λ (b : List ℕ). segments_in b (get_or s.lanes j no_pos)) (lane-same s.capacities.segments j ws ws' P.behind)) ∙ sym (applied-timelines s.capacities.events s.now.0 made M.accounts)) k;
                log = (R.events ∙ sym (applied-log s.capacities.events s.now.0 made M.accounts)) k;
                context_switches = (ap (λ (n : ℕ). s.context_switches + n) R.takes ∙ sym (applied-switches s.capacities.events s.now.0 made M.accounts)) k;
              }

          queue-same : take p.queued qs' ≡ without (taken_by M i nm) (M.queue ++ back_of (core_state_of M i))
          unfolding meant_at
          queue-same =
              P.left ∙ ap (λ (c : CoreState). without taken (M.queue ++ back_of c)) (sym (state-at there-is))
              ∙ ap (λ (t : ℕ). without t (M.queue ++ back_of (core_state_of M i))) (sym is-taken)

          state-same : meant_at s' ts' qs' ls' ws' ≡ (accept M (force i nm)).state
          unfolding accept meant_at
          state-same =
              λ k. record {
                config = M.config;
                cores = (P.cores ∙ ap (λ (t : ℕ). update i (forced_core s.config.switch_cost t) M.cores) (sym is-taken)) k;
                queue = queue-same k;
                accounts = (accounts-same ∙ ap (λ (m : List Move). apply_moves s.capacities.events s.now.0 m M.accounts) moves-same) k;
                now = s.now.0;
                closed = s.closed;
              }

          pub force-done : (a : Result Unit Refusal) → a ≡ Ok tt → Done (force i nm) (answer_with a w.switches) s s' (memory ts qs ps ls ws) (memory ts' qs' ps ls' ws')
          unfolding accept meant_at threads_in
          force-done a e =
              let is : answer_with a w.switches ≡ answer_with (Ok tt) w.switches = ap (λ (b : Result Unit Refusal). answer_with b w.switches) e in
              let m : max s.queued p.queued ≡ s.queued = omega (arith, P.queue.fits) in
              let l : i < s.cores = leb-false s.cores i there-is in
              done-taken (force i nm) s ts qs ps ls ws v _ s' ts' qs' ps ls' ws' (force-refusal ∙ h) state-same
              (is ∙ ap switched (list-says _ _ R.list) ∙ ap (λ (x : List Move). switched (switch_list [] x)) moves-same)
              (λ n z. let y : ◌≡◌ {A = ℕ} 0 1 = cc in omega arith)
              (record {
                cores = v.sizes.cores;
                in_use = v.sizes.in_use;
                waiting = omega (arith, P.queue.fits, v.sizes.waiting);
                threads = omega (arith, moved-long, v.sizes.threads);
                queue = omega (arith, P.long_queue, v.sizes.queue);
                prios = v.sizes.prios;
                log = omega (arith, R.long, v.sizes.log);
                lanes = omega (arith, P.long_lanes, v.sizes.lanes);
              })
              (record { eight = v.rings.eight; events = R.ok; segments = λ j k. rw (lane-same s.capacities.segments j ws ws' P.behind) (v.rings.segments j k) })
              (record { exits = P.exits; blocks = P.blocks; yields = P.yields; progressed = P.progressed; unused = λ j k. P.others j (λ z. omega (arith, l, k, z)) ∙ v.marks.unused j k })
              P.words v.ticks priorities-kept
              (record { threads = moved_front.rest; queue = rw m P.queue.behind; prios = refl; log = R.after; lanes = behind_more 80 (s.cores * (2 * s.capacities.segments)) ws ws' P.behind; ticks = λ j k. refl; places = λ j k. refl })

        pub force-pending : (a : Result Unit Refusal) → a ≡ Ok tt → ForcePending i nm a w.switches s s' p.moves (memory ts qs ps ls ws) (memory ts qs' ps ls' ws')
        force-pending a e = record { fits = force-fits; done = λ ts' g. record { done = force-done ts' g a e; list = list-taken _ _ R.list a e } }
