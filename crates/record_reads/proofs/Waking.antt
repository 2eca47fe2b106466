-- One record's part in waking the waiters.
use Prim.Native.Nat.{ℕ, ◌+◌, ◌<◌, ◌≤◌}
use mathlib.Core.Path.{◌≡◌, refl, sym, ap, ◌∙◌}
use mathlib.Core.Bool.{Bool, true, false}
use mathlib.Core.List.{List, [], ◌∷◌, append-nil}
use native.Mathlib.Nat.{add-zero}
use native.Mathlib.Numerals.{add-one}
use native.Mathlib.Omega.{arith}
use lib.ListN.{length, take, set}
use lib.Seq.{take-suc-set, drop-set-lt}
use Rattle.model.specs.Types.{ThreadRecord}
use Rattle.model.specs.Calls.{blocked_on}
use Rattle.records.specs.Waking.{waiter_at, Pushed}

module _ (on : ℕ) (t : ThreadRecord) (b : Bool) (e : b ≡ blocked_on on t.state) where
  waiter-is : b ≡ true → (i : ℕ) → waiter_at on i t ≡ i ∷ []
  unfolding waiter_at
  waiter-is k i = rw (sym e ∙ k)

  waiter-not : b ≡ false → (i : ℕ) → waiter_at on i t ≡ []
  unfolding waiter_at
  waiter-not k i = rw (sym e ∙ k)

  pub push-room : b ≡ true → (i len : ℕ) (q : List ℕ) → len + length (waiter_at on i t) ≤ length q → len < length q
  push-room k i len q h =
      let w : length (waiter_at on i t) ≡ 1 = ap length (waiter-is k i) in
      omega arith

  pub push-hit : b ≡ true → (i len : ℕ) (q : List ℕ) → len < length q → Pushed (waiter_at on i t) len q (len + 1) (set q len i)
  push-hit k i len q h =
      rw (waiter-is k i) (record { count = refl; front = rw add-one (take-suc-set q len i h); rest = drop-set-lt (len + 1) q len i (omega arith) })

  pub push-miss : b ≡ false → (i len : ℕ) (q : List ℕ) → Pushed (waiter_at on i t) len q len q
  push-miss k i len q = rw (waiter-not k i) (record { count = sym (add-zero len); front = sym (append-nil (take len q)); rest = refl })
