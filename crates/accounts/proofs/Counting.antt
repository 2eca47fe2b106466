-- Dispatches among moves in words, one word further; and the counters, one core further.
-- Assumes nothing.
use Prim.Native.Nat.{ℕ, zero, suc, ◌+◌, ◌≤◌, ◌<◌}
use mathlib.Core.Path.{◌≡◌, refl, ap, subst, ◌∙◌}
use mathlib.Core.List.{List, [], ◌∷◌, ◌++◌, map-append}
use native.Mathlib.Nat.{not-suc-le-zero}
use native.Mathlib.Numerals.{add-one}
use native.Mathlib.Omega.{arith}
use borrow.Author.Count.{below_more}
use lib.ListN.{length, take, get_or, set}
use lib.Seq.{take-suc, take-take, length-take-le, get_or-set_same, get_or-set_other}
use Rattle.model.specs.Types.{Move, starts, leaves, takes}
use Rattle.model.specs.Accounting.{charge_core, takes_in}
use Rattle.model.specs.Reading.{core_state_meant, core_ticks_meant}
use Rattle.model.specs.declared.CoreState as Program
use Rattle.model.specs.declared.CoreState.TheVariants as CoreStateCases
use Rattle.model.specs.declared.CoreTicks as Counters
use Rattle.queue.specs.Words.{move_of, decode, moves_in}
use Rattle.state.specs.State.{no_ticks}
use Rattle.accounts.specs.Charging.{TickCharged, TicksCharged}

---- moves

-- one word further
pub moves_next : (out : List ℕ) (k : ℕ) → k < length out → moves_in out (k + 1) ≡ moves_in out k ++ (decode (get_or out k 0) ∷ [])
unfolding moves_in
moves_next out k h = rw (add-one, take-suc out k 0 h) (map-append decode (take k out) _)

takes-append : (ms : List Move) (m : Move) → takes_in (ms ++ (m ∷ [])) ≡ takes_in ms + takes_in (m ∷ [])
unfolding takes_in
takes-append [] m = omega arith
takes-append (starts t ∷ ms) m = takes-append ms m
takes-append (leaves t i r ∷ ms) m = takes-append ms m
takes-append (takes t i ∷ ms) m = omega (arith, takes-append ms m)

pub is-dispatch : (code core tid : ℕ) → code ≡ 6 → 1 ≡ takes_in (move_of code core tid ∷ [])
unfolding takes_in
is-dispatch code core tid e = rw e

pub no-dispatch : (code core tid : ℕ) → (code ≡ 6 → ⊥) → 0 ≡ takes_in (move_of code core tid ∷ [])
unfolding takes_in
no-dispatch zero core tid n = refl
no-dispatch (suc zero) core tid n = refl
no-dispatch (suc (suc zero)) core tid n = refl
no-dispatch (suc (suc (suc zero))) core tid n = refl
no-dispatch (suc (suc (suc (suc zero)))) core tid n = refl
no-dispatch (suc (suc (suc (suc (suc zero))))) core tid n = refl
no-dispatch (suc (suc (suc (suc (suc (suc zero)))))) core tid n = absurd (n refl)
no-dispatch (suc (suc (suc (suc (suc (suc (suc k))))))) core tid n = refl

pub takes_none : (out : List ℕ) → 0 ≡ takes_in (moves_in out 0)
unfolding takes_in moves_in
takes_none out = refl

pub takes_next : (out : List ℕ) (k n w : ℕ) → k < length out → n ≡ takes_in (moves_in out k) → w ≡ takes_in (decode (get_or out k 0) ∷ []) → n + w ≡ takes_in (moves_in out (k + 1))
takes_next out k n w h a b = rw (moves_next out k h, takes-append, ← a, ← b)

-- a part of the words is gone through to its end
pub takes_all : (out : List ℕ) (count k : ℕ) → k ≡ length (take count out) → count ≤ length out → takes_in (moves_in (take count out) k) ≡ takes_in (moves_in out count)
unfolding moves_in
takes_all out count k e h =
    let z : k ≡ count = e ∙ length-take-le count out h in
    rw (z, take-take count count out (omega arith))

---- counters

pub ticks-none : (states : List Program.CoreState) (ticks : List Counters.CoreTicks) → TicksCharged 0 states ticks ticks
ticks-none states ticks = record { charged = λ i l. absurd (not-suc-le-zero l); rest = λ i l. refl }

pub ticks-next :
    (i : ℕ) (states : List Program.CoreState) (old new : List Counters.CoreTicks) (u : Counters.CoreTicks) → TicksCharged i states old new → i < length new
    → core_ticks_meant u ≡ charge_core (core_state_meant (get_or states i CoreStateCases.Idle)) (core_ticks_meant (get_or new i no_ticks)) → TicksCharged (i + 1) states old (set new i u)
ticks-next i states old new u h l e =
    record {
      charged = below_more (λ j. TickCharged j states old (set new i u)) i
          (λ j b. ap core_ticks_meant (get_or-set_other new i j u no_ticks (λ q. omega (arith, b, q))) ∙ h.charged j b)
          (ap core_ticks_meant (get_or-set_same new i u no_ticks l) ∙ e ∙ ap (λ (t : Counters.CoreTicks). charge_core (core_state_meant (get_or states i CoreStateCases.Idle)) (core_ticks_meant t)) (h.rest i (omega arith)));
      rest = λ j b. get_or-set_other new i j u no_ticks (λ q. omega (arith, b, q)) ∙ h.rest j (omega (arith, b));
    }

pub ticks_end : {i : ℕ} {states : List Program.CoreState} {old new : List Counters.CoreTicks} (n : ℕ) → TicksCharged i states old new → i ≤ n → n ≤ i → TicksCharged n states old new
ticks_end {i} {states} {old} {new} n h a b = subst (λ (m : ℕ). TicksCharged m states old new) (omega arith) h
