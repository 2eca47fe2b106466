-- The pieces of a text of settings, one after the other.
use Prim.Native.Nat.{ℕ, zero, suc, ◌+◌, ◌<◌}
use mathlib.Core.Path.{◌≡◌, refl, ap, ◌∙◌}
use mathlib.Core.Bool.{Bool, true, false, cond}
use mathlib.Core.List.{List, [], ◌∷◌, ◌++◌}
use native.Mathlib.Numerals.{add-one}
use native.Mathlib.Omega.{arith}
use lib.Dec.{eqb}
use lib.ListN.{length, take, drop}
use Rattle.std.specs.Prelude.{min}
use Rattle.std.specs.List.{IsFirstMatchOrLen}
use Rattle.std.proofs.lemmas.Grind.{common_steps}
use Rattle.text.specs.Lines.{bad, good, cut, onto, line_of}
use Rattle.text.proofs.Pieces.{cut-nil}
use Rattle.settings.specs.Settings.{Head, unsettled, settled, setting_piece, settle}
use Rattle.rcfg.proofs.RoundTrip.{settle_step, settle-nil}

---- the first piece ends behind the first byte 10

same_both : (b : Bool) (x : List (List ℕ)) → cond b x x ≡ x
same_both true x = refl
same_both false x = refl

cut_first : (l : List ℕ) (i : ℕ) → 0 < length l → IsFirstMatchOrLen (λ b. eqb b 10) l i → cut l ≡ take (suc i) l ∷ cut (drop (suc i) l)
unfolding cut onto
cut_first [] i h m = absurd (omega arith)
cut_first (x ∷ []) zero h m = same_both (eqb x 10) ((x ∷ []) ∷ [])
cut_first (x ∷ []) (suc i) h m = same_both (eqb x 10) ((x ∷ []) ∷ [])
cut_first (x ∷ (y ∷ l)) zero h m = let e : eqb x 10 ≡ true = m.1 (omega arith) 0 in rw e
cut_first (x ∷ (y ∷ l)) (suc i) h m =
    let e : eqb x 10 ≡ false = m.0 0 0 (omega arith) (omega arith) in
    let rest : IsFirstMatchOrLen (λ b. eqb b 10) (y ∷ l) i = (λ k d a b. m.0 (suc k) d (omega arith) (omega arith), λ a d. m.1 (omega arith) d) in
    ap (λ (b : Bool). cond b ((x ∷ []) ∷ cut (y ∷ l)) (onto x (cut (y ∷ l)))) e ∙ ap (onto x) (cut_first (y ∷ l) i (omega arith) rest)

module _ (left piece rest : List ℕ) (i : ℕ) (e : left ≡ piece ++ rest) (n : length piece ≡ min (i + 1) (length left)) (h : 0 < length left) (m : IsFirstMatchOrLen (λ b. eqb b 10) left i) where
  front : take (suc i) left ≡ piece
  front = grind (arith, common_steps)

  behind : drop (suc i) left ≡ rest
  behind = grind (arith, common_steps)

  pub cut_piece : cut left ≡ piece ∷ cut rest
  cut_piece = rw (front, behind) at (cut_first left i h m)

---- the lines that are left

module _ (left piece rest : List ℕ) (n : ℕ) (h : Head) (e : cut left ≡ piece ∷ cut rest) where
  pub lines-bad : (k : ℕ) → setting_piece h (line_of piece) ≡ bad k → settle n h (cut left) ≡ unsettled n k
  unfolding settle
  lines-bad k q = ap (settle n h) e ∙ rw (q, settle)

  pub lines_step : (h' : Head) → setting_piece h (line_of piece) ≡ good h' → settle n h (cut left) ≡ settle (n + 1) h' (cut rest)
  lines_step h' q = ap (settle n h) e ∙ rw (add-one n) (settle_step n h h' piece (cut rest) q)

pub lines_end : (left : List ℕ) (n : ℕ) (h : Head) → length left ≡ 0 → settle n h (cut left) ≡ settled h.settings
lines_end [] n h e = ap (settle n h) cut-nil ∙ settle-nil n h
lines_end (x ∷ l) n h e = absurd (omega arith)
