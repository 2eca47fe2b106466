-- What one call prints: at most 288 bytes for a tick, 36 for any other (R-13).
use Prim.Native.Nat.{ℕ, zero, suc, ◌+◌, ◌*◌, ◌^◌, ◌≤◌, ◌<◌}
use mathlib.Core.Path.{◌≡◌, refl, sym, ap, ◌∙◌}
use mathlib.Core.Bool.{Bool, true, false}
use mathlib.Core.Option.{Option, none, some}
use mathlib.Core.List.{List, [], ◌∷◌, ◌++◌}
use native.Mathlib.Omega.{arith}
use borrow.Author.Tests.{leb-false}
use lib.ListN.{length, length-append, get_elem?}
use Rattle.script.specs.Invariants.{Consistent}
use Rattle.model.specs.Invariants.{AllO}
use Rattle.model.specs.Types.{CoreState, Idle, Switching, Running, Move, State}
use Rattle.model.specs.Phases.{dispatch_moves, decide}
use Rattle.model.specs.Accounting.{switch_list}
use Rattle.model.specs.Calls.{Call, spawn, exit, join, retired, yield, priority, timing, force, tick, close, Answer, check, refusal, cannot_take, no_core, rules, core_state_of, tid_on, outcome, thread_state_of, out_of, taken_by, accept, stepped, step}
use Rattle.model.proofs.Refusals.{check-none, check-rest}
use Rattle.script.specs.Report.{answer_text}
use Rattle.script.proofs.Lengths.{refused-length, joined_length, switches-length}
use Rattle.script.proofs.Range.{MovesIn, moves-append, in-dispatch_moves, few-dispatch_moves, decide-in}
use Rattle.script.proofs.Switches.{switch_list-short, switch_list-count, forced-count}
use Rattle.script.proofs.Consistency.{consistent-accept, taken_in_lem, core-in, out-in}

unfoldable pub allowance : Call → ℕ
allowance (spawn p e) = 36
allowance (exit i) = 36
allowance (join i t) = 36
allowance (retired i) = 36
allowance (yield i) = 36
allowance (priority t n) = 36
allowance (timing q w) = 36
allowance (force i t) = 36
allowance tick = 288
allowance (close i) = 36

pub allowance-least : (c : Call) → 36 ≤ allowance c
unfolding allowance
allowance-least (spawn p e) = omega arith
allowance-least (exit i) = omega arith
allowance-least (join i t) = omega arith
allowance-least (retired i) = omega arith
allowance-least (yield i) = omega arith
allowance-least (priority t n) = omega arith
allowance-least (timing q w) = omega arith
allowance-least (force i t) = omega arith
allowance-least tick = omega arith
allowance-least (close i) = omega arith

---- a refusal is a number of two digits

abbrev pub Small : Option ℕ → Type 0
Small r = AllO (λ (k : ℕ). k < 100) r

pub small-check : (k : ℕ) (b : Bool) (r : Option ℕ) → k < 100 → Small r → Small (check k b r)
unfolding check
small-check k true r h s = h
small-check k false r h s = s

small-refusal : (s : State) (c : Call) → Small (refusal s c)
unfolding refusal cannot_take
small-refusal s (spawn p e) = small-check 11 _ _ (omega arith) (small-check 17 _ _ (omega arith) tt)
small-refusal s tick = small-check 11 _ _ (omega arith) (small-check 18 _ _ (omega arith) tt)
small-refusal s (exit i) = small-check 4 _ _ (omega arith) (small-check 11 _ _ (omega arith) (small-check 12 _ _ (omega arith) (small-check 13 _ _ (omega arith) tt)))
small-refusal s (join i t) = small-check 4 _ _ (omega arith) (small-check 11 _ _ (omega arith) (small-check 12 _ _ (omega arith) (small-check 13 _ _ (omega arith) tt)))
small-refusal s (yield i) = small-check 4 _ _ (omega arith) (small-check 11 _ _ (omega arith) (small-check 12 _ _ (omega arith) (small-check 13 _ _ (omega arith) (small-check 19 _ _ (omega arith) tt))))
small-refusal s (retired i) = small-check 4 _ _ (omega arith) (small-check 11 _ _ (omega arith) tt)
small-refusal s (priority t n) = small-check 5 _ _ (omega arith) (small-check 11 _ _ (omega arith) tt)
small-refusal s (force i none) =
    small-check 4 _ _ (omega arith) (small-check 11 _ _ (omega arith) (small-check 12 _ _ (omega arith) (small-check 14 _ _ (omega arith) (small-check 16 _ _ (omega arith) (small-check 19 _ _ (omega arith) tt)))))
small-refusal s (force i (some t)) =
    small-check 4 _ _ (omega arith) (small-check 11 _ _ (omega arith) (small-check 12 _ _ (omega arith) (small-check 14 _ _ (omega arith) (small-check 15 _ _ (omega arith) (small-check 19 _ _ (omega arith) tt)))))
small-refusal s (close i) = small-check 4 _ _ (omega arith) (small-check 11 _ _ (omega arith) (small-check 12 _ _ (omega arith) (small-check 13 _ _ (omega arith) (small-check 18 _ _ (omega arith) tt))))
small-refusal s (timing q w) = small-check 1 _ _ (omega arith) (small-check 11 _ _ (omega arith) tt)

---- the moves of a call

abbrev pub forced_moves : State → ℕ → Option ℕ → List Move
forced_moves s i n = out_of i (core_state_of s i) ++ dispatch_moves s.config.cost (taken_by s i n) i

forced-in : (s : State) (i : ℕ) (n : Option ℕ) → refusal s (force i n) ≡ none → Consistent s → MovesIn (length s.cores) (length s.accounts.threads) (forced_moves s i n)
unfolding refusal no_core core_state_of
forced-in s i n r v =
    let l = leb-false (length s.cores) i (check-none 4 _ _ r) in
    let h = taken_in_lem s i n _ v (check-rest 14 _ _ (check-rest 12 _ _ (check-rest 11 _ _ (check-rest 4 _ _ r)))) in
    moves-append _ _ (out_of i (core_state_of s i)) _ (out-in _ _ i (core_state_of s i) l (core-in _ s.cores i v.cores)) (in-dispatch_moves _ _ s.config.cost (taken_by s i n) i h l)

few-out : (i : ℕ) (c : CoreState) → length (out_of i c) ≤ 1
unfolding out_of
few-out i Idle = omega arith
few-out i (Switching t l) = omega arith
few-out i (Running t l) = omega arith

pub few-moves : (s : State) (c : Call) → refusal s c ≡ none → Consistent s → length (accept s c).moves ≤ 144
unfolding accept
few-moves s (spawn p e) r v = omega arith
few-moves s (exit i) r v = omega arith
few-moves s (join i t) r v = omega arith
few-moves s (retired i) r v = omega arith
few-moves s (yield i) r v = omega arith
few-moves s (priority t n) r v = omega arith
few-moves s (timing q w) r v = omega arith
few-moves s (force i n) r v = omega (arith, length-append (out_of i (core_state_of s i)) (dispatch_moves s.config.cost (taken_by s i n) i), few-out i (core_state_of s i), few-dispatch_moves s.config.cost (taken_by s i n) i)
few-moves s tick r v = let p = decide-in (length s.cores) (length s.accounts.threads) (rules s) s.cores s.queue refl v.cores v.queue in omega (arith, p.few, v.size)
few-moves s (close i) r v = omega arith

---- what is printed

pub room_of : (s : State) → Consistent s → length s.accounts.threads ≤ 256
room_of s v = omega (arith, v.room, v.cap)

prints-accepted : (n : ℕ) (s : State) (c : Call) → n < 10 ^ 13 → refusal s c ≡ none → Consistent s → length (answer_text n (accept s c).state.now (accept s c).answer) ≤ allowance c
unfolding accept answer_text allowance
prints-accepted n s (spawn p e) h r v = omega arith
prints-accepted n s (exit i) h r v = omega arith
prints-accepted n s (join i t) h r v = joined_length n (outcome (tid_on s i) t (thread_state_of (get_elem? s.accounts.threads t))) h
prints-accepted n s (retired i) h r v = omega arith
prints-accepted n s (yield i) h r v = omega arith
prints-accepted n s (priority t k) h r v = omega arith
prints-accepted n s (timing q w) h r v = omega arith
prints-accepted n s (force i k) h r v =
    let es = switch_list [] (forced_moves s i k) in
    omega (
      arith,
      switches-length s.now es (omega (arith, v.now)) (switch_list-short (length s.cores) (length s.accounts.threads) (omega (arith, v.size)) (omega (arith, room_of s v)) (forced_moves s i k) [] (forced-in s i k r v) tt),
      forced-count i (taken_by s i k) s.config.cost (core_state_of s i),
    )
prints-accepted n s tick h r v =
    let ms = (decide (rules s) s.cores s.queue).moves in
    let p = decide-in (length s.cores) (length s.accounts.threads) (rules s) s.cores s.queue refl v.cores v.queue in
    let later = consistent-accept s tick r v in
    omega (
      arith,
      switches-length (s.now + 1) (switch_list [] ms) (omega (arith, v.now)) (switch_list-short (length s.cores) (length s.accounts.threads) (omega (arith, v.size)) (omega (arith, room_of s v)) ms [] p.moves tt),
      switch_list-count (length s.cores) (length s.accounts.threads) ms p.moves,
      v.size,
    )
prints-accepted n s (close i) h r v = omega arith

pub prints-step : (n : ℕ) (s : State) (c : Call) → n < 10 ^ 13 → Consistent s → length (answer_text n (step s c).state.now (step s c).answer) ≤ allowance c
unfolding step stepped answer_text
prints-step n s c h v = go (refusal s c) refl (small-refusal s c)
  where
    go : (r : Option ℕ) → refusal s c ≡ r → Small r → length (answer_text n (stepped s c r).state.now (stepped s c r).answer) ≤ allowance c
    go (some k) e b = omega (arith, refused-length n k h b, allowance-least c)
    go none e b = prints-accepted n s c h e v
