-- The table of policy words by its rows.
use Rattle.std.proofs.Common.{ℕ, zero, suc, ◌+◌, ◌<◌, ◌≡◌, refl, sym, ◌∙◌, Bool, true, false, cond, ◌&&◌, List, [], ◌∷◌, map, length, get_or, drop, IsTrue, ◌↔◌, ◌≤◌, arith, ltb, leb, add-one}
use borrow.Author.Tests.{le-leb, lt-leb, ltb-true, ltb-false}
use Rattle.std.specs.Char.{to_ascii_lowercase}
use Rattle.std.proofs.Math.Option.{none, some}
use Rattle.settings.specs.declared.policy.PolicyWord.{PolicyWord}
use Rattle.settings.specs.Policy.{Policy}
use Rattle.settings.specs.Reading.{policy_meant}
use Rattle.text.specs.Bytes.{same, lower_of, lookup}
use Rattle.settings.specs.Settings.{policy_of}
use lib.ListN.{drop_of_length-le}
use Rattle.text.proofs.Places.{same-eq, same_refl}
use Rattle.text.proofs.Decimal.{and-fst, and-snd}

-- a row of the program's table as an entry of the definition's
abbrev pub entry : PolicyWord → List ℕ × Policy
entry r = (r.word.now, policy_meant r.policy)

-- no word has a capital: one test that antt computes
abbrev pub is_small : List PolicyWord → Bool
is_small [] = true
is_small (r ∷ t) = same (map lower_of r.word.now) r.word.now && is_small t

lower-is : (b : ℕ) → to_ascii_lowercase b ≡ lower_of b
lower-is b = go (ltb b 65) refl
  where
    go : (t : Bool) → ltb b 65 ≡ t → to_ascii_lowercase b ≡ lower_of b
    go true e = rw (e, lt-leb 65 b (ltb-true b 65 e))
    go false e = let h : 65 ≤ b = ltb-false b 65 e in rw (e, le-leb 65 b h) (high h (ltb b 91) refl)
      where
        high : 65 ≤ b → (t : Bool) → ltb b 91 ≡ t → cond (ltb b 91) (b + 32) b ≡ cond (leb b 90) (b + 32) b
        high h true k = let q : b ≤ 90 = let r = ltb-true b 91 k in omega arith in rw (k, le-leb b 90 q)
        high h false k = let q : 90 < b = let r = ltb-false b 91 k in omega arith in rw (k, lt-leb b 90 q)

lowers-are : (w : List ℕ) → map to_ascii_lowercase w ≡ map lower_of w
lowers-are [] = refl
lowers-are (b ∷ w) = rw (lower-is b, lowers-are w)

-- the program's test of a word w against a row's word v
told : (w v : List ℕ) (r : Bool) → (IsTrue r ↔ (map to_ascii_lowercase w ≡ map to_ascii_lowercase v)) → same (map lower_of v) v ≡ true → same (map lower_of w) v ≡ r
told w v r h s = go r (same (map lower_of w) v) refl h
  where
    low : map to_ascii_lowercase v ≡ v
    low = lowers-are v ∙ same-eq (map lower_of v) v s

    go : (r t : Bool) → same (map lower_of w) v ≡ t → (IsTrue r ↔ (map to_ascii_lowercase w ≡ map to_ascii_lowercase v)) → same (map lower_of w) v ≡ r
    go true t e h = rw (sym (lowers-are w) ∙ h.0 refl ∙ low) (same_refl v)
    go false true e h = e ∙ sym (h.1 (lowers-are w ∙ same-eq (map lower_of w) v e ∙ sym low))
    go false false e h = e

-- what the rows from k on say of a word is what the definition's table says
pub record Rest (w : List ℕ) (t : List PolicyWord) (k : ℕ) : Type 0 where
  pub small : is_small t ≡ true
  pub says : lookup (map lower_of w) (map entry (drop k t)) ≡ policy_of w

module _ (w : List ℕ) (d : PolicyWord) (r : Bool) where
  here : (t : List PolicyWord) (k : ℕ) → k < length t → is_small t ≡ true → (IsTrue r ↔ (map to_ascii_lowercase w ≡ map to_ascii_lowercase (get_or t k d).word.now)) → r ≡ true
      → lookup (map lower_of w) (map entry (drop k t)) ≡ some (policy_meant (get_or t k d).policy)
  here [] k h s e q = absurd (omega arith)
  here (x ∷ t) zero h s e q = rw (told w x.word.now r e (and-fst (same (map lower_of x.word.now) x.word.now) (is_small t) s), q)
  here (x ∷ t) (suc k) h s e q = here t k (omega arith) (and-snd (same (map lower_of x.word.now) x.word.now) (is_small t) s) e q

  next : (t : List PolicyWord) (k : ℕ) → k < length t → is_small t ≡ true → (IsTrue r ↔ (map to_ascii_lowercase w ≡ map to_ascii_lowercase (get_or t k d).word.now)) → r ≡ false
      → lookup (map lower_of w) (map entry (drop k t)) ≡ lookup (map lower_of w) (map entry (drop (suc k) t))
  next [] k h s e q = absurd (omega arith)
  next (x ∷ t) zero h s e q = rw (told w x.word.now r e (and-fst (same (map lower_of x.word.now) x.word.now) (is_small t) s), q)
  next (x ∷ t) (suc k) h s e q = next t k (omega arith) (and-snd (same (map lower_of x.word.now) x.word.now) (is_small t) s) e q

pub row-here : {w : List ℕ} {t : List PolicyWord} {k : ℕ} (d : PolicyWord) (r : Bool) → Rest w t k → k < length t → (IsTrue r ↔ (map to_ascii_lowercase w ≡ map to_ascii_lowercase (get_or t k d).word.now)) → r ≡ true → some (policy_meant (get_or t k d).policy) ≡ policy_of w
row-here {w} {t} {k} d r p h e q = sym (here w d r t k h p.small e q) ∙ p.says

pub row-pass : {w : List ℕ} {t : List PolicyWord} {k : ℕ} (d : PolicyWord) (r : Bool) → Rest w t k → k < length t → (IsTrue r ↔ (map to_ascii_lowercase w ≡ map to_ascii_lowercase (get_or t k d).word.now)) → r ≡ false → Rest w t (k + 1)
row-pass {w} {t} {k} d r p h e q = record {
  small = p.small;
  says = rw add-one (sym (next w d r t k h p.small e q) ∙ p.says);
}

pub row-none : {w : List ℕ} {t : List PolicyWord} {k : ℕ} → Rest w t k → length t ≤ k → none ≡ policy_of w
row-none {w} {t} {k} p h =
    let past : drop k t ≡ [] = drop_of_length-le t {i = k} h in
    rw past at p.says
