-- What one word says where no core but the first is held.
use Prim.Native.Nat.{ℕ, ◌<◌}
use mathlib.Core.Path.{◌≡◌, refl, sym, ap, ◌∙◌}
use mathlib.Core.Bool.{Bool, true, false, not, ◌&&◌}
use mathlib.Core.List.{List, [], ◌∷◌}
use native.Mathlib.Omega.{arith}
use lib.Dec.{eqb}
use lib.ListN.{length, get_or}
use Rattle.std.specs.List.{list_any}
use borrow.Author.Tests.{eq-eqb, ne_eqb, eqb-true, not-false}
use Rattle.model.specs.declared.CoreState as CoreStates
use Rattle.model.specs.Calls.{elem}
use Rattle.model.proofs.PhaseLaws.{or-false-l, or-false-r, or-true-l}
use Rattle.charges.specs.declared.charge.CoreThreads.{CoreThreads}
use Rattle.charges.specs.Charging.{nobody, has_others, core_threads_of, runs_held}
use Rattle.charges.proofs.Charging.{or-none}

abbrev pub is_held : ℕ → Bool
is_held w = not (eqb w nobody)

module _ (t : ℕ) (k : t < nobody) where
  nobody-word : (w : ℕ) → not (eqb w nobody) ≡ false → eqb w t ≡ false
  nobody-word w e = rw (eqb-true w nobody (not-false (eqb w nobody) e)) (ne_eqb nobody t (λ z. omega (arith, k, z)))

  none-holds : (ws : List ℕ) → list_any is_held ws ≡ false → elem t ws ≡ false
  unfolding elem
  none-holds [] o = refl
  none-holds (w ∷ ws) o = rw (nobody-word w (or-false-l (is_held w) (list_any is_held ws) o)) (none-holds ws (or-false-r (is_held w) (list_any is_held ws) o))

  none-runs : (ws : List ℕ) (rs : List Bool) → list_any is_held ws ≡ false → runs_held t ws rs ≡ false
  unfolding runs_held
  none-runs [] rs o = refl
  none-runs (w ∷ ws) [] o = refl
  none-runs (w ∷ ws) (r ∷ rs) o = rw (nobody-word w (or-false-l (is_held w) (list_any is_held ws) o)) (none-runs ws rs (or-false-r (is_held w) (list_any is_held ws) o))

  pub only-first : (held : List ℕ) → 0 < length held → has_others held ≡ false → elem t held ≡ eqb (get_or held 0 0) t
  unfolding elem has_others
  only-first [] l o = absurd (omega (arith, l))
  only-first (w ∷ ws) l o = rw (none-holds ws o) (or-none (eqb w t))

  pub only-first-runs : (held : List ℕ) (running : List Bool) → 0 < length held → 0 < length running → has_others held ≡ false → runs_held t held running ≡ (eqb (get_or held 0 0) t && get_or running 0 false)
  unfolding runs_held has_others
  only-first-runs [] rs l r o = absurd (omega (arith, l))
  only-first-runs (w ∷ ws) [] l r o = absurd (omega (arith, r))
  only-first-runs (w ∷ ws) (b ∷ rs) l r o = rw (none-runs ws rs o) (or-none (eqb w t && b))

-- the first word is the thread's
pub first_holds : (t : ℕ) (held : List ℕ) → 0 < length held → get_or held 0 0 ≡ t → elem t held ≡ true
unfolding elem
first_holds t [] l e = absurd (omega (arith, l))
first_holds t (a ∷ hs) l e = or-true-l (eqb a t) (elem t hs) (eq-eqb a t e)

pub others-is : (on : CoreThreads) (cores : List CoreStates.CoreState) → on ≡ core_threads_of cores → on.others ≡ has_others on.held
unfolding core_threads_of
others-is on cores e = ap (λ (o : CoreThreads). o.others) e ∙ sym (ap (λ (o : CoreThreads). has_others o.held) e)
