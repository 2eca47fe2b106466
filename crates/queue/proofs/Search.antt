-- The first place of a thread in a queue; the queue's length where it is not there.
-- Assumes nothing.
use Prim.Native.Nat.{ℕ, ◌≤◌, ◌<◌}
use mathlib.Core.Path.{◌≡◌, refl, sym, ap, ◌∙◌}
use mathlib.Core.Bool.{Bool, true, false, cond}
use mathlib.Core.Option.{Option, none, some}
use mathlib.Core.List.{List, [], ◌∷◌, ◌++◌}
use native.Mathlib.Numerals.{one-add}
use native.Mathlib.Omega.{arith}
use lib.Dec.{eqb, ltb}
use lib.ListN.{length, get_or, get_elem?}
use borrow.Author.Tests.{eqb-true, ltb-true, ltb-false}
use Rattle.std.proofs.lemmas.List.Sums.{passes_at_first}
use Rattle.std.specs.Prelude as Std
use Rattle.std.specs.Prelude.{Some, None}
use borrow.Author.Rules.{rules}
use Rattle.std.specs.List.{position, position_or_len}
use Rattle.model.specs.Phases.{without}
use Rattle.model.specs.Calls.{elem}
use Rattle.queue.specs.Ready.{remove_at, Picked, Chosen, named}
use Rattle.queue.proofs.Scan.{behind, there}

module _ (t : ℕ) where
  abbrev place : List ℕ → ℕ
  place d = position_or_len (λ x. eqb x t) d

  place-next : (d : List ℕ) → named t d ≡ get_elem? d (place d)
  unfolding elem
  place-next [] = refl
  place-next (x ∷ d) = go (eqb x t) refl (place-next d)
    where
      go : (b : Bool) → eqb x t ≡ b → named t d ≡ get_elem? d (place d) → named t (x ∷ d) ≡ get_elem? (x ∷ d) (place (x ∷ d))
      go true e h = rw e (ap some (sym (eqb-true x t e)))
      go false e h = rw (e, one-add) h

  place-first : (d s : List ℕ) → place d < length d → without t (d ++ s) ≡ remove_at (place d) d ++ s
  unfolding without
  place-first [] s l = absurd (omega arith)
  place-first (x ∷ d) s l = go (eqb x t) refl (place-first d s)
    where
      go : (b : Bool) → eqb x t ≡ b → (place d < length d → without t (d ++ s) ≡ remove_at (place d) d ++ s) → without t (x ∷ d ++ s) ≡ remove_at (place (x ∷ d)) (x ∷ d) ++ s
      go true e h = rw e
      go false e h =
          let l' = rw (e, one-add) at l in
          rw (e, one-add) (ap (λ (r : List ℕ). x ∷ r) (h (omega (arith, l'))))

  pub place_chosen : (d : List ℕ) (o : Std.Option ℕ) → o ≡ position (λ x. eqb x t) d → Chosen (named t d) d o
  place_chosen d o p = go (ltb (place d) (length d)) refl
    where
      go : (b : Bool) → ltb (place d) (length d) ≡ b → Chosen (named t d) d o
      go true f =
          let e : o ≡ Some (place d) = rw f at p in
          let at : get_or d (place d) 0 ≡ t = eqb-true _ _ (passes_at_first (λ x. eqb x t) d 0 (ltb-true _ _ f)) in
          rw e (record { picked = record { next = place-next d; first = λ k s. rw at (place-first d s (ltb-true _ _ f)) }; within = ltb-true _ _ f })
      go false f =
          let e : o ≡ None = rw f at p in
          rw e (record {
            picked = record { next = place-next d ∙ (behind d (place d) (ltb-false _ _ f) ∙ sym (behind d (length d) (omega arith))); first = λ k s. absurd (omega arith) };
            within = search rules;
          })

---- what a place that is found says of the thread that was asked for

pub named-waits : (t : ℕ) (q : List ℕ) (at : ℕ) → Picked (named t q) q at → at < length q → (elem t q ≡ true) × (get_or q at 0 ≡ t)
named-waits t q at p l = go (elem t q) (p.next ∙ there q at l)
  where
    go : (b : Bool) → cond b (some t) none ≡ some (get_or q at 0) → (b ≡ true) × (get_or q at 0 ≡ t)
    go true e = (refl, cc)
    go false e = (cc, cc)

pub named-absent : (t : ℕ) (q : List ℕ) (at : ℕ) → Picked (named t q) q at → length q ≤ at → elem t q ≡ false
named-absent t q at p l = go (elem t q) (p.next ∙ behind q at l)
  where
    go : (b : Bool) → ◌≡◌ {A = Option ℕ} (cond b (some t) none) none → b ≡ false
    go true e = cc
    go false e = refl
