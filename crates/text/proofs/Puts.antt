-- Texts put one behind the other into a buffer.
use Prim.Native.Nat.{ℕ, ◌+◌, ◌≤◌}
use mathlib.Core.Path.{◌≡◌, refl, sym, ap, ◌∙◌, subst}
use mathlib.Core.List.{List, [], ◌++◌, append_assoc}
use native.Mathlib.Omega.{arith}
use lib.ListN.{length, take, drop, length-append}
use lib.Seq.{paste, paste-zero, take-paste, drop-paste, take-length, drop-drop, length-paste}
use Rattle.text.specs.declared.put.Writer.{Writer}
use Rattle.text.specs.Buffers.{Put, Wrote}

module _ (b : List ℕ) (at : ℕ) (s : List ℕ) (b₁ : List ℕ) (r₁ : ℕ) (p : Put b at s b₁ r₁) (h : at + length s ≤ length b) where
  -- what stands in front of the end, and behind it
  pub put_front : take r₁ b₁ ≡ take at b ++ s
  put_front = rw (p.end, p.bytes) (take-paste b at s (length s) (omega arith) (omega arith) ∙ ap (λ (l : List ℕ). take at b ++ l) (take-length s))

  pub put-behind : drop r₁ b₁ ≡ drop (at + length s) b
  put-behind = rw (p.end, p.bytes) (drop-paste b at s (length s) (omega arith) (omega arith))

  pub put-length : length b₁ ≡ length b
  put-length = ap length p.bytes ∙ length-paste b at s (length s) h (omega arith)

  -- and then t
  pub put_then : (t b₂ : List ℕ) (r₂ : ℕ) → Put b₁ r₁ t b₂ r₂ → at + length s + length t ≤ length b → Put b at (s ++ t) b₂ r₂
  put_then t b₂ r₂ q g = record {
    bytes =
        let n : length (s ++ t) ≡ length s + length t = length-append s t in
        let e : r₁ ≡ at + length s = p.end in
        let k : at + length s + length t ≡ at + length (s ++ t) = omega arith in
        let tail : drop (r₁ + length t) b₁ ≡ drop (at + length (s ++ t)) b =
        sym (drop-drop (length t) r₁ b₁) ∙ ap (drop (length t)) put-behind ∙ drop-drop (length t) (at + length s) b ∙ ap (λ (n : ℕ). drop n b) k in
        q.bytes ∙ rw (put_front, take-length t, tail, take-length (s ++ t)) (simp append_assoc);
    end = omega (arith, q.end, p.end, length-append s t);
  }

pub put_same : (b : List ℕ) (at : ℕ) (t t' b' : List ℕ) (r : ℕ) → t ≡ t' → Put b at t b' r → Put b at t' b' r
put_same b at t t' b' r e p = record {
  bytes = p.bytes ∙ ap (λ (x : List ℕ). paste b at x (length x)) e;
  end = p.end ∙ ap (λ (x : List ℕ). at + length x) e;
}

---- the same through a writer

pub wrote_same : {w : Writer} {t t' : List ℕ} {w' : Writer} → t ≡ t' → Wrote w t w' → Wrote w t' w'
wrote_same {w} {t} {t'} {w'} e p = subst (λ (x : List ℕ). Wrote w x w') e p

-- where each text had room, the whole has
pub wrote_then : {w : Writer} {s : List ℕ} {w₁ : Writer} {t : List ℕ} {w₂ : Writer} → Wrote w s w₁ → Wrote w₁ t w₂ → Wrote w (s ++ t) w₂
wrote_then {w} {s} {w₁} {t} {w₂} p q =
    let both : w.at + length s + length t ≤ length w.out.now = omega (arith, p.fits, q.fits, p.put.end, p.lent.long) in
    record {
      fits = omega (arith, both, length-append s t);
      put = put_then w.out.now w.at s w₁.out.now w₁.at p.put p.fits t w₂.out.now w₂.at q.put both;
      lent = record { same = q.lent.same ∙ p.lent.same; long = q.lent.long ∙ p.lent.long };
    }

pub wrote_none : (w : Writer) → w.at ≤ length w.out.now → Wrote w [] w
wrote_none w h = record {
  fits = omega arith;
  put = record { bytes = paste-zero w.out.now w.at []; end = omega arith };
  lent = record { same = refl; long = refl };
}
