-- A scan of a list from its end that keeps the place of the smallest number up to m, the earliest among equals: what it knows of the part d that it has
-- passed, of which k is the place and low the number; nobody yet: k is d's length and low is m.
-- Assumes nothing.
use Prim.Native.Nat.{ℕ, zero, suc, ◌-◌, ◌≤◌, ◌<◌, suc-le-suc}
use mathlib.Core.Path.{◌≡◌, refl, sym, ap, ◌∙◌}
use mathlib.Core.Bool.{Bool, true, false, cond}
use mathlib.Core.Option.{Option, none, some}
use mathlib.Core.List.{List, [], ◌∷◌, ◌++◌}
use native.Mathlib.Nat.{le_of_suc-le-suc, not-suc-le-zero}
use native.Mathlib.Omega.{arith}
use lib.Dec.{leb}
use lib.ListN.{length, get_or, get_elem?, drop, drop_of_length-le}
use lib.Seq.{drop-cons}
use borrow.Author.Tests.{eq-eqb, ne_eqb, lt-ltb, le-ltb, le-leb, lt-leb}
use Rattle.model.specs.Phases.{without, more_urgent, most_urgent, eligible}
use Rattle.queue.specs.Ready.{remove_at, Picked, Chosen, front}
use Rattle.std.specs.Prelude as Std
use Rattle.std.specs.Prelude.{Some, None}
use borrow.Author.Rules.{rules}

-- a place behind the last
pub behind : (d : List ℕ) (k : ℕ) → length d ≤ k → get_elem? d k ≡ none
behind [] k l = refl
behind (x ∷ d) zero l = absurd (not-suc-le-zero l)
behind (x ∷ d) (suc k) l = behind d k (le_of_suc-le-suc l)

-- an entry within
pub there : (d : List ℕ) (k : ℕ) → k < length d → get_elem? d k ≡ some (get_or d k 0)
there [] k l = absurd (not-suc-le-zero l)
there (x ∷ d) zero l = refl
there (x ∷ d) (suc k) l = there d k (le_of_suc-le-suc l)

module _ (pr : ℕ → ℕ) (m : ℕ) where
  abbrev pub best : List ℕ → Option ℕ
  best d = most_urgent pr (eligible pr (some m) d)

  pub record One (d : List ℕ) (k low : ℕ) : Type 0 where
    pub within : k < length d
    pub num : low ≡ pr (get_or d k 0)
    pub ok : low ≤ m
    pub best : best d ≡ some (get_or d k 0)
    pub first : (s : List ℕ) → without (get_or d k 0) (d ++ s) ≡ remove_at k d ++ s

  pub data Scan (d : List ℕ) (k low : ℕ) : Type 0 where
    nobody : k ≡ length d → low ≡ m → best d ≡ none → Scan d k low
    one : One d k low → Scan d k low

  pub scan-none : (k : ℕ) → k ≡ 0 → Scan [] k m
  unfolding most_urgent eligible
  scan-none k e = nobody e refl refl

  -- the head's number is at most the lowest: it is the place now
  pub scan-take : (x : ℕ) (d : List ℕ) (k low : ℕ) → pr x ≤ low → Scan d k low → Scan (x ∷ d) 0 (pr x)
  unfolding most_urgent eligible more_urgent without
  scan-take x d k low l (nobody e f g) =
      one (record { within = omega arith; num = refl; ok = omega arith; best = rw (le-leb (pr x) m (omega arith), g); first = λ s. rw (eq-eqb x x refl) })
  scan-take x d k low l (one o) =
      one (record {
        within = omega arith;
        num = refl;
        ok = omega (arith, o.ok);
        best = rw (le-leb (pr x) m (omega (arith, o.ok)), o.best, le-ltb (pr (get_or d k 0)) (pr x) (omega (arith, o.num)));
        first = λ s. rw (eq-eqb x x refl);
      })

  -- it is above: the place stays
  pub scan-keep : (x : ℕ) (d : List ℕ) (k low : ℕ) → low < pr x → Scan d k low → Scan (x ∷ d) (suc k) low
  unfolding most_urgent eligible more_urgent without
  scan-keep x d k low l (nobody e f g) = nobody (ap suc e) f (rw (lt-leb (pr x) m (omega arith)) g)
  scan-keep x d k low l (one o) =
      one (record {
        within = suc-le-suc o.within;
        num = o.num;
        ok = o.ok;
        best = go (leb (pr x) m) refl;
        first = λ s. rw (ne_eqb x (get_or d k 0) (λ e. omega (arith, o.num, ap pr e))) (ap (λ (r : List ℕ). x ∷ r) (o.first s));
      })
    where
      go : (b : Bool) → leb (pr x) m ≡ b → most_urgent pr (cond b (x ∷ eligible pr (some m) d) (eligible pr (some m) d)) ≡ some (get_or d k 0)
      go true e = rw (o.best, lt-ltb (pr (get_or d k 0)) (pr x) (omega (arith, o.num)))
      go false e = o.best

  pub scan-end : (d : List ℕ) (k low : ℕ) → Scan d k low → Picked (best d) d k
  scan-end d k low (nobody e f g) = record { next = g ∙ sym (behind d k (omega arith)); first = λ l s. absurd (omega arith) }
  scan-end d k low (one o) = record { next = o.best ∙ sym (there d k o.within); first = λ l s. o.first s }

-- nobody is above m
pub eligible-all : (pr : ℕ → ℕ) (m : ℕ) → ((t : ℕ) → pr t ≤ m) → (d : List ℕ) → eligible pr (some m) d ≡ d
unfolding eligible
eligible-all pr m all [] = refl
eligible-all pr m all (x ∷ d) = rw (le-leb (pr x) m (all x)) (ap (λ (r : List ℕ). x ∷ r) (eligible-all pr m all d))

pub eligible-none : (pr : ℕ → ℕ) (d : List ℕ) → eligible pr none d ≡ d
unfolding eligible
eligible-none pr d = refl

-- the front
pub front_picked : (d : List ℕ) → Picked (front d) d 0
unfolding without
front_picked [] = record { next = refl; first = λ l s. absurd (omega arith) }
front_picked (x ∷ d) = record { next = refl; first = λ l s. rw (eq-eqb x x refl) }

pub nobody_waits : (d : List ℕ) → length d ≡ 0 → Picked (front d) d (length d)
nobody_waits d e = rw e (front_picked d)

---- the same as the loop has it: it has come down to place i of q

module _ (pr : ℕ → ℕ) (m : ℕ) (q : List ℕ) where
  pub record Down (i at low : ℕ) : Type 0 where
    pub from : i ≤ at
    pub scan : Scan pr m (drop i q) (at - i) low

  pub down_start : Down (length q) (length q) m
  down_start =
      let e : drop (length q) q ≡ [] = drop_of_length-le q {i = length q} (omega arith) in
      record { from = omega arith; scan = rw e (scan-none pr m (length q - length q) (omega arith)) }

  -- the entry at i - 1, and those behind it
  under : (i : ℕ) → 0 < i → i ≤ length q → drop (i - 1) q ≡ get_or q (i - 1) 0 ∷ drop i q
  under i l g =
      let e : suc (i - 1) ≡ i = omega arith in
      drop-cons q (i - 1) 0 (omega arith) ∙ rw e

  pub down_take : (i at low p : ℕ) → 0 < i → i ≤ length q → p ≡ pr (get_or q (i - 1) 0) → p ≤ low → Down i at low → Down (i - 1) (i - 1) p
  down_take i at low p l g e t d =
      let z : (i - 1) - (i - 1) ≡ 0 = omega arith in
      record { from = omega arith; scan = rw (under i l g, z, e) (scan-take pr m (get_or q (i - 1) 0) (drop i q) (at - i) low (omega arith) d.scan) }

  pub down_keep : (i at low p : ℕ) → 0 < i → i ≤ length q → p ≡ pr (get_or q (i - 1) 0) → low < p → Down i at low → Down (i - 1) at low
  down_keep i at low p l g e t d =
      let z : at - (i - 1) ≡ suc (at - i) = omega (arith, d.from) in
      record { from = omega (arith, d.from); scan = rw (under i l g, z) (scan-keep pr m (get_or q (i - 1) 0) (drop i q) (at - i) low (omega arith) d.scan) }

  down_end : (i at low : ℕ) → i ≤ 0 → Down i at low → Picked (best pr m q) q at
  down_end i at low l d =
      let z : i ≡ 0 = omega arith in
      let y : at - 0 ≡ at = omega arith in
      scan-end pr m q at low (rw y at (rw z at d.scan))

  pub down_some : (i at low : ℕ) → i ≤ 0 → Down i at low → at < length q → Chosen (best pr m q) q (Some at)
  down_some i at low l d h = record { picked = down_end i at low l d; within = h }

  pub down_none : (i at low : ℕ) → i ≤ 0 → Down i at low → length q ≤ at → Chosen (best pr m q) q None
  down_none i at low l d h =
      record {
        picked = record { next = (down_end i at low l d).next ∙ (behind q at h ∙ sym (behind q (length q) (omega arith))); first = λ k s. absurd (omega arith) };
        within = search rules;
      }

  pub down_any : ((t : ℕ) → pr t ≤ m) → (at : Std.Option ℕ) → Chosen (best pr m q) q at → Chosen (most_urgent pr q) q at
  down_any all at p = rw (eligible-all pr m all q) at p
