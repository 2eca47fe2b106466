-- A move's entry is stored in the front of an array: that makes the definition's list of it.
-- Assumes nothing.
use Prim.Native.Nat.{ℕ, zero, suc, ◌+◌, ◌-◌, ◌≤◌, ◌<◌, min, max, suc-le-suc}
use mathlib.Core.Path.{◌≡◌, refl, sym, ap, ap₂, subst, ◌∙◌}
use mathlib.Core.Bool.{Bool, true, false, cond}
use mathlib.Core.Logic.{◌≢◌}
use mathlib.Core.Option.{none, some}
use mathlib.Core.List.{List, [], ◌∷◌, ◌++◌, map, map-append}
use native.Mathlib.Nat.{le_of_suc-le-suc, not-suc-le-zero, suc-max-suc, max-zero}
use native.Mathlib.Numerals.{add-one}
use native.Mathlib.Omega.{arith}
use borrow.Author.Tests.{eqb-true, eqb-false}
use lib.Dec.{eqb}
use lib.ListN.{length, get_or, set, take, replicate, length-set, length-map, get_or-replicate}
use lib.Seq.{take-suc, get_or-set_same, get_or-set_other, length-take-le}
use Rattle.model.specs.Types.{Move, starts, leaves, takes, SwitchEntry}
use Rattle.model.specs.Accounting.{touched, switch_list}
use Rattle.model.specs.Reading.{switch_meant, switches_meant, switch_of}
use Rattle.model.specs.declared.Switch.{Switch}
use Rattle.model.specs.declared.CoreId.{CoreId}
use Rattle.std.specs.Prelude as Std
use Rattle.model.specs.Calls.{switched}
use Rattle.model.proofs.LoopLaws.{switch_list-append}
use Rattle.model.proofs.Back.{switch-back}
use Rattle.queue.specs.Words.{decode, moves_in}
use Rattle.switches.specs.declared.SwitchList.{SwitchList}
use Rattle.switches.specs.Entries.{core_meant, core_touched, entry_after, no_switch, list_of, ListFor}
use Rattle.switches.proofs.Cores.{cores, added, touch-cores, slot, placed, slot_placed, slot-within, placed-here, placed-other}
use Rattle.switches.proofs.Few.{CoreBelow, word_below, few}

-- a move that touches no core
pub none_touched : (o : Std.Option CoreId) → ((c : CoreId) → o ≡ Std.Some c → ⊥) → 8 ≤ core_meant o
none_touched Std.None n = omega arith
none_touched (Std.Some c) n = absurd (n c refl)

abbrev untouched : ℕ → SwitchEntry
untouched i = record { core = i; out = none; inn = none }

abbrev BlankFrom : ℕ → List Switch → Type 0
BlankFrom n l = (j : ℕ) → n ≤ j → get_or l j no_switch ≡ no_switch

-- f is what the definition does to core i's entry, g what the program does to the array's
module _ (i : ℕ) (f g : SwitchEntry → SwitchEntry) (same : (e : SwitchEntry) → e.core ≡ i → g e ≡ f e) (new : g (untouched 0) ≡ f (untouched i)) where
  touch-stored :
      (l : List Switch) (n : ℕ) (x : Switch) → BlankFrom n l → slot i (cores (switches_meant l n)) < length l
      → switch_meant x ≡ g (switch_meant (get_or l (slot i (cores (switches_meant l n))) no_switch))
      → switches_meant (set l (slot i (cores (switches_meant l n))) x) (max n (suc (slot i (cores (switches_meant l n))))) ≡ touched i f (switches_meant l n)
  unfolding touched slot
  touch-stored [] n x b s e = absurd (not-suc-le-zero s)
  touch-stored (y ∷ l) zero x b s e = ap (λ (z : SwitchEntry). z ∷ []) (e ∙ ap (λ (z : Switch). g (switch_meant z)) (b 0 (omega arith)) ∙ new)
  touch-stored (y ∷ l) (suc n) x b s e = go (eqb y.core.0 i) refl (touch-stored l n x (λ j h. b (suc j) (suc-le-suc h))) s e
    where
      at : ℕ
      at = slot i (cores (switches_meant l n))

      go : (t : Bool) → eqb y.core.0 i ≡ t
          → (at < length l → switch_meant x ≡ g (switch_meant (get_or l at no_switch)) → switches_meant (set l at x) (max n (suc at)) ≡ touched i f (switches_meant l n))
          → cond t 0 (suc at) < suc (length l) → switch_meant x ≡ g (switch_meant (get_or (y ∷ l) (cond t 0 (suc at)) no_switch))
          → switches_meant (set (y ∷ l) (cond t 0 (suc at)) x) (max (suc n) (suc (cond t 0 (suc at)))) ≡ cond t (f (switch_meant y) ∷ switches_meant l n) (switch_meant y ∷ touched i f (switches_meant l n))
      go true q r s e = rw (suc-max-suc, max-zero) (ap (λ (z : SwitchEntry). z ∷ switches_meant l n) (e ∙ same (switch_meant y) (eqb-true y.core.0 i q)))
      go false q r s e = rw suc-max-suc (ap (λ (z : List SwitchEntry). switch_meant y ∷ z) (r (le_of_suc-le-suc s) e))

---- one move

no_switch_lem : (m : Move) (es : List SwitchEntry) → CoreBelow 8 m → 8 ≤ core_touched m → switch_list es (m ∷ []) ≡ es
unfolding switch_list
no_switch_lem (starts t) es b h = refl
no_switch_lem (leaves t i r) es b h = absurd (omega arith)
no_switch_lem (takes t i) es b h = absurd (omega arith)

switch-cores : (m : Move) (es : List SwitchEntry) → core_touched m < 8 → cores (switch_list es (m ∷ [])) ≡ added (core_touched m) (cores es)
unfolding switch_list
switch-cores (starts t) es h = absurd (omega arith)
switch-cores (leaves t i r) es h = touch-cores i _ (λ e. refl) es
switch-cores (takes t i) es h = touch-cores i _ (λ e. refl) es

move-stored :
    (m : Move) → core_touched m < 8 → (l : List Switch) (n at : ℕ) (x : Switch) → BlankFrom n l → at ≡ slot (core_touched m) (cores (switches_meant l n)) → at < length l
    → switch_meant x ≡ entry_after m (switch_meant (get_or l at no_switch)) → switches_meant (set l at x) (max n (suc at)) ≡ switch_list (switches_meant l n) (m ∷ [])
unfolding switch_list
move-stored (starts t) h l n at x b p s e = absurd (omega arith)
move-stored (leaves t i r) h l n at x b p s e =
    rw p (touch-stored i _ (entry_after (leaves t i r)) (λ (u : SwitchEntry) q. ap (λ (c : ℕ). record { core = c; out = some (record { tid = t; reason = r }); inn = u.inn }) (sym q)) refl l n x b (rw p at s) (rw p at e))
move-stored (takes t i) h l n at x b p s e =
    rw p (touch-stored i _ (entry_after (takes t i)) (λ (u : SwitchEntry) q. ap (λ (c : ℕ). record { core = c; out = u.out; inn = some t }) (sym q)) refl l n x b (rw p at s) (rw p at e))

---- the arrays of the loop

-- a list in the front of an array of eight, and each core's place in it; 8: nowhere yet
pub record Listed (l : List Switch) (places : List ℕ) (n : ℕ) (es : List SwitchEntry) : Type 0 where
  pub fits : n ≤ 8
  pub eight : length l ≡ 8
  pub cells : length places ≡ 8
  pub meant : switches_meant l n ≡ es
  pub rest : BlankFrom n l
  pub place : (i : ℕ) → i < 8 → get_or places i 0 ≡ placed i (cores es) 0

pub listed-none : Listed (replicate 8 no_switch) (replicate 8 8) 0 []
unfolding placed
listed-none = record { fits = omega arith; eight = refl; cells = refl; meant = refl; rest = λ j h. blanks 8 j; place = λ i h. get_or-replicate 8 i 8 0 h }
  where
    blanks : (n j : ℕ) → get_or (replicate n no_switch) j no_switch ≡ no_switch
    blanks zero j = refl
    blanks (suc n) zero = refl
    blanks (suc n) (suc j) = blanks n j

module _ (l : List Switch) (places : List ℕ) (n : ℕ) (es : List SwitchEntry) (a : Listed l places n es) (m : Move) where
  pub listed_same : CoreBelow 8 m → 8 ≤ core_touched m → Listed l places n (switch_list es (m ∷ []))
  listed_same b h = subst (Listed l places n) (sym (no_switch_lem m es b h)) a

  module _ (h : core_touched m < 8) (at : ℕ) (p : at ≡ min (get_or places (core_touched m) 0) n) where
    length-cores : length (cores es) ≡ n
    length-cores = length-map es (λ (e : SwitchEntry). e.core) ∙ ap length (sym a.meant) ∙ length-map (take n l) switch_meant ∙ length-take-le n l (omega (arith, a.fits, a.eight))

    at_slot : at ≡ slot (core_touched m) (cores es)
    at_slot = omega (arith, p, a.place (core_touched m) h, slot_placed (core_touched m) (cores es) 0 (omega (arith, length-cores, a.fits)), length-cores)

    pub listed-room : length (switch_list es (m ∷ [])) ≤ 8 → at < 8
    listed-room f =
        omega (arith, at_slot, slot-within (core_touched m) (cores es), ap length (switch-cores m es h), length-map (switch_list es (m ∷ [])) (λ (e : SwitchEntry). e.core))

    pub listed_more :
        at < 8 → (x : Switch) → switch_meant x ≡ entry_after m (switch_meant (get_or l at no_switch)) → (n' : ℕ) → n' ≡ max n (at + 1)
        → Listed (set l at x) (set places (core_touched m) at) n' (switch_list es (m ∷ []))
    listed_more r x e n' k =
        record {
          fits = omega (arith, a.fits);
          eight = length-set l at x ∙ a.eight;
          cells = length-set places (core_touched m) at ∙ a.cells;
          meant = rw (k, add-one, ← a.meant) (move-stored m h l n at x a.rest (rw a.meant at_slot) (omega (arith, a.eight)) e);
          rest = λ j g. get_or-set_other l at j x no_switch (before j g) ∙ a.rest j (omega arith);
          place = λ i g. placed-after i g (eqb i (core_touched m)) refl;
        }
      where
        before : (j : ℕ) → n' ≤ j → j ≢ at
        before j g = λ z. omega arith

        placed-after : (i : ℕ) → i < 8 → (b : Bool) → eqb i (core_touched m) ≡ b → get_or (set places (core_touched m) at) i 0 ≡ placed i (cores (switch_list es (m ∷ []))) 0
        placed-after i g true q =
            rw (eqb-true i (core_touched m) q, switch-cores m es h) (get_or-set_same places (core_touched m) at 0 (omega (arith, a.cells)) ∙ omega (arith, at_slot, placed-here (core_touched m) (cores es) 0))
        placed-after i g false q =
            rw (switch-cores m es h)
            (get_or-set_other places (core_touched m) i at 0 (eqb-false i (core_touched m) q) ∙ a.place i g ∙ sym (placed-other (core_touched m) i (λ w. eqb-false i (core_touched m) q (sym w)) (cores es) 0))

---- a turn of the loop

next-move : (out : List ℕ) (k : ℕ) (m : Move) → k < length out → m ≡ decode (get_or out k 0) → switch_list (switch_list [] (moves_in out k)) (m ∷ []) ≡ switch_list [] (moves_in out (k + 1))
unfolding moves_in
next-move out k m h e =
    rw (e, add-one, take-suc out k 0 h, map-append decode (take k out) (get_or out k 0 ∷ [])) (sym (switch_list-append [] (map decode (take k out)) (decode (get_or out k 0) ∷ [])))

module _ (out : List ℕ) (k : ℕ) (h : k < length out) (l : List Switch) (places : List ℕ) (n : ℕ) (a : Listed l places n (switch_list [] (moves_in out k))) (m : Move) (e : m ≡ decode (get_or out k 0)) (c : ℕ) (ec : c ≡ core_touched m) where
  pub turn-same : 8 ≤ c → Listed l places n (switch_list [] (moves_in out (k + 1)))
  turn-same g = rw (next-move out k m h e) at (listed_same l places n _ a m (rw e (word_below (get_or out k 0))) (omega arith))

  module _ (g : c < 8) (at : ℕ) (p : at ≡ min (get_or places c 0) n) where
    pub turn-room : at < 8
    turn-room = listed-room l places n _ a m (omega arith) at (rw ec at p) (rw (next-move out k m h e) (few out (k + 1)))

    pub turn_more : (x : Switch) → switch_meant x ≡ entry_after m (switch_meant (get_or l at no_switch)) → (n' : ℕ) → n' ≡ max n (at + 1) → Listed (set l at x) (set places c at) n' (switch_list [] (moves_in out (k + 1)))
    turn_more x q n' r = rw (ec, ← next-move out k m h e) (listed_more l places n _ a m (omega arith) at (rw ec at p) turn-room x q n' r)

---- the loop's end: the array is the list as the program has it

shaped : (l : List Switch) (n k : ℕ) → n + k ≡ length l → BlankFrom n l → l ≡ map switch_of (switches_meant l n) ++ replicate k no_switch
shaped [] zero zero h b = refl
shaped [] zero (suc k) h b = absurd (omega arith)
shaped [] (suc n) k h b = absurd (omega arith)
shaped (y ∷ l) zero zero h b = absurd (omega arith)
shaped (y ∷ l) zero (suc k) h b = ap₂ (λ (x : Switch) (r : List Switch). x ∷ r) (b 0 (omega arith)) (shaped l zero k (omega arith) (λ j g. b (suc j) (omega arith)))
shaped (y ∷ l) (suc n) k h b = ap₂ (λ (x : Switch) (r : List Switch). x ∷ r) (sym (switch-back y)) (shaped l n k (omega arith) (λ j g. b (suc j) (suc-le-suc g)))

pub listed-is : (l : List Switch) (places : List ℕ) (n : ℕ) (es : List SwitchEntry) → Listed l places n es → ListFor (switched es) (record { entries = l; count = n })
unfolding list_of
listed-is l places n es a = record { list = whole; few = a.fits }
  where
    long : n ≡ length es
    long = sym (ap length (sym a.meant) ∙ length-map (take n l) switch_meant ∙ length-take-le n l (omega (arith, a.fits, a.eight)))

    entries : l ≡ map switch_of es ++ replicate (8 - length es) no_switch
    entries = rw a.meant at (shaped l n (8 - length es) (omega (arith, a.fits, a.eight, long)) a.rest)

    whole : ◌≡◌ {A = SwitchList} (record { entries = l; count = n }) (record { entries = map switch_of es ++ replicate (8 - length es) no_switch; count = length es })
    whole = λ i. record { entries = entries i; count = long i }
