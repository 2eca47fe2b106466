-- The laws of `Streamed`: a text that fits; two texts one after the other (`then`); a loop's texts; and how a single text is put.
use Prim.Native.Nat.{ℕ, ◌+◌, ◌≤◌, ◌<◌}
use mathlib.Core.Path.{◌≡◌, refl, sym, ap, ◌∙◌}
use mathlib.Core.List.{List, [], ◌++◌, append_assoc, append-nil}
use native.Mathlib.Omega.{arith}
use native.Mathlib.Numerals.{add-one}
use lib.ListN.{length, take, length-append}
use lib.Seq.{paste-zero}
use Rattle.std.specs.Borrow.{MutBor}
use Rattle.text.specs.Buffers.{Put, StillLent}
use Rattle.text.proofs.Puts.{put_front, put-length, put_then}
use Rattle.trace_text.specs.Texts.{texts_below}
use Rattle.trace_text.specs.Streams.{Streamed, Placed, Within, Written, WrittenWhole}
use Rattle.trace_text.specs.declared.out.Stream.{Stream}

pub streamed-put : {b : List ℕ} {at : ℕ} {t b' : List ℕ} {r : ℕ} → at + length t ≤ length b → Put b at t b' r → Streamed b at t b' r
streamed-put {b} {at} {t} {b'} {r} h p = record {
  within = omega (arith, p.end);
  long = put-length b at t b' r p h;
  gone = [];
  whole = put_front b at t b' r p h;
  fits = λ k. p;
}

-- nothing yet
pub streamed-none : (b : List ℕ) (at : ℕ) → at ≤ length b → Streamed b at [] b at
streamed-none b at h =
    let z : at + 0 ≡ at = omega arith in
    streamed-put (omega arith) (record { bytes = paste-zero b at []; end = sym z })

-- one text, and then another
infixl 60 ◌then◌
pub ◌then◌ : {b : List ℕ} {at : ℕ} {t b₁ : List ℕ} {r₁ : ℕ} {u b₂ : List ℕ} {r₂ : ℕ} → Streamed b at t b₁ r₁ → Streamed b₁ r₁ u b₂ r₂ → Streamed b at (t ++ u) b₂ r₂
◌then◌ {b} {at} {t} {b₁} {r₁} {u} {b₂} {r₂} s w = record {
  within = omega arith;
  long = w.long ∙ s.long;
  gone = s.gone ++ w.gone;
  whole =
      append_assoc s.gone w.gone (take r₂ b₂) ∙
      ap (λ (l : List ℕ). s.gone ++ l) w.whole ∙
      sym (append_assoc s.gone (take r₁ b₁) u) ∙
      ap (λ (l : List ℕ). l ++ u) s.whole ∙
      append_assoc (take at b) t u;
  fits = λ k.
      let n : length (t ++ u) ≡ length t + length u = length-append t u in
      let p = s.fits (omega arith) in
      put_then b at t b₁ r₁ p (omega arith) u b₂ r₂ (w.fits (omega (arith, p.end, s.long))) (omega arith);
}

-- one more of a loop's texts
pub streamed-next : {b : List ℕ} {at : ℕ} {b₁ : List ℕ} {r₁ : ℕ} {b₂ : List ℕ} {r₂ : ℕ} (f : ℕ → List ℕ) (i : ℕ)
    → Streamed b at (texts_below f i) b₁ r₁ → Streamed b₁ r₁ (f i) b₂ r₂ → Streamed b at (texts_below f (i + 1)) b₂ r₂
unfolding texts_below
streamed-next f i s w = rw (add-one i) (s then w)

---- one text, put as a whole

-- into the empty buffer
pub placed-put : {b t b' : List ℕ} {r : ℕ} → length t ≤ length b → Put b 0 t b' r → Placed b 0 t b' r
placed-put h p = record { streamed = streamed-put (omega arith) p; first = λ k n. p }

-- longer than the buffer
pub placed-long : (b t : List ℕ) → length b < length t → Placed b 0 t b 0
placed-long b t h = record {
  streamed = record { within = omega arith; long = refl; gone = t; whole = append-nil t; fits = λ k. absurd (omega arith) };
  first = λ k n. absurd (omega arith);
}

-- it does not fit behind the others, which are handed over; then it comes first
pub placed_first : {b : List ℕ} {at : ℕ} {t b' : List ℕ} {r : ℕ} → length b < at + length t → Placed b 0 t b' r → Placed b at t b' r
placed_first {b} {at} {t} {b'} {r} k p =
    let s = p.streamed in
    record {
      streamed = record {
        within = s.within;
        long = s.long;
        gone = take at b ++ s.gone;
        whole = append_assoc (take at b) s.gone (take r b') ∙ ap (λ (l : List ℕ). take at b ++ l) s.whole;
        fits = λ g. absurd (omega arith);
      };
      first = λ g n. s.fits (omega arith);
    }

---- the same of a stream

still-lent-both : {a b c : MutBor (List ℕ)} → StillLent a b → StillLent b c → StillLent a c
still-lent-both s t = record { same = t.same ∙ s.same; long = t.long ∙ s.long }

pub whole : {old new : Stream} {t : List ℕ} → WrittenWhole old t new → Written old t new
whole w = record { streamed = w.placed.streamed; lent = w.lent }

-- nothing yet
pub written-none : (s : Stream) → Within s → Written s [] s
written-none s h = record { streamed = streamed-none _ _ h; lent = record { same = refl; long = refl } }

-- the same text, said otherwise
pub written-same : {old new : Stream} {t t' : List ℕ} → t ≡ t' → Written old t new → Written old t' new
written-same e w = rw e at w

-- one text, and then another
infixl 60 ◌and◌
pub ◌and◌ : {a b c : Stream} {t u : List ℕ} → Written a t b → Written b u c → Written a (t ++ u) c
◌and◌ s w = record { streamed = s.streamed then w.streamed; lent = still-lent-both s.lent w.lent }

-- one more of a loop's texts
pub written-next : {a b c : Stream} (f : ℕ → List ℕ) (i : ℕ) → Written a (texts_below f i) b → Written b (f i) c → Written a (texts_below f (i + 1)) c
written-next f i s w = record { streamed = streamed-next f i s.streamed w.streamed; lent = still-lent-both s.lent w.lent }
