-- A scan for a core that is left in this tick.
use Prim.Native.Nat.{ℕ, zero, suc, ◌<◌}
use mathlib.Core.Path.{◌≡◌, refl, sym, ap, ◌∙◌}
use mathlib.Core.Bool.{Bool, true, false, ◌||◌}
use mathlib.Core.Logic.{◌≢◌}
use mathlib.Core.List.{List, [], ◌∷◌, ◌++◌}
use native.Mathlib.Omega.{arith}
use lib.Dec.{eqb}
use lib.ListN.{get_or}
use borrow.Author.Tests.{eqb-true, eqb-false}
use Rattle.model.specs.Types.{Core}
use Rattle.model.specs.Calls.{leaving, any_leaving}
use Rattle.state.specs.declared.Sched.{Sched}
use Rattle.state.specs.State.{firsts, board_of, core_from}

any_snoc : (cs : List Core) (c : Core) → any_leaving (cs ++ (c ∷ [])) ≡ any_leaving cs || leaving c
unfolding any_leaving
any_snoc [] c = or-none (leaving c)
  where
    or-none : (b : Bool) → b || false ≡ b
    or-none true = refl
    or-none false = refl
any_snoc (x ∷ cs) c = ap (λ (b : Bool). leaving x || b) (any_snoc cs c) ∙ sym (or_assoc (leaving x) (any_leaving cs) (leaving c))
  where
    or_assoc : (a b d : Bool) → (a || b) || d ≡ a || (b || d)
    or_assoc true b d = refl
    or_assoc false b d = refl

module _ (g : ℕ → Core) where
  pub none-all : (n : ℕ) → ((j : ℕ) → j < n → leaving (g j) ≡ false) → any_leaving (firsts g n) ≡ false
  unfolding any_leaving firsts
  none-all zero h = refl
  none-all (suc n) h = any_snoc (firsts g n) (g n) ∙ rw (none-all n (λ j l. h j (omega arith)), h n (omega arith))

  pub some-there : (n i : ℕ) → i < n → leaving (g i) ≡ true → any_leaving (firsts g n) ≡ true
  unfolding firsts
  some-there zero i l e = absurd (omega arith)
  some-there (suc n) i l e = any_snoc (firsts g n) (g n) ∙ go (eqb i n) refl (λ k. some-there n i k e)
    where
      or-true : (b : Bool) → b || true ≡ true
      or-true true = refl
      or-true false = refl

      go : (b : Bool) → eqb i n ≡ b → (i < n → any_leaving (firsts g n) ≡ true) → any_leaving (firsts g n) || leaving (g n) ≡ true
      go true q r = rw (← eqb-true i n q, e) (or-true (any_leaving (firsts g i)))
      go false q r = rw (r (let z : i ≢ n = eqb-false i n q in omega arith))

module _ (s : Sched) (i : ℕ) where
  pub exit-leaves : get_or s.marks.exits i false ≡ true → leaving (board_of s i) ≡ true
  unfolding leaving core_from
  exit-leaves e = rw e

  pub block-leaves : get_or s.marks.exits i false ≡ false → get_or s.marks.blocks i false ≡ true → leaving (board_of s i) ≡ true
  unfolding leaving core_from
  block-leaves e f = rw (e, f)

  pub stays : get_or s.marks.exits i false ≡ false → get_or s.marks.blocks i false ≡ false → leaving (board_of s i) ≡ false
  unfolding leaving core_from
  stays e f = rw (e, f)
