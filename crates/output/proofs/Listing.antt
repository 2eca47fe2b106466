-- The lines of a switch list, one after the other.
use Prim.Native.Nat.{ℕ, zero, suc, ◌+◌, ◌≤◌, ◌<◌}
use mathlib.Core.Path.{◌≡◌, sym, ap, ◌∙◌}
use mathlib.Core.List.{List, [], ◌∷◌, ◌++◌, append_assoc, append-nil}
use native.Mathlib.Omega.{arith}
use native.Mathlib.Numerals.{add-one}
use lib.ListN.{length, get_or, length-append}
use lib.Seq.{get_or-take}
use lib.ListN.{take}
use Rattle.text.specs.declared.put.Writer.{Writer}
use Rattle.text.specs.Buffers.{HasRoom, Wrote}
use Rattle.text.proofs.Puts.{wrote_same, wrote_then}
use Rattle.model.specs.declared.Switch.{Switch}
use Rattle.model.specs.Reading.{switch_meant, switches_meant}
use Rattle.model.specs.Types.{SwitchEntry}
use Rattle.script.specs.Report.{switch_text, switch_texts}

texts-next : (now : ℕ) (es : List Switch) (i : ℕ) (d : Switch) → i < length es → switch_texts now (switches_meant es i) ++ switch_text now (switch_meant (get_or es i d)) ≡ switch_texts now (switches_meant es (suc i))
unfolding switch_texts
texts-next now [] i d h = absurd (omega arith)
texts-next now (e ∷ es) zero d h = sym (append-nil (switch_text now (switch_meant e)))
texts-next now (e ∷ es) (suc i) d h = append_assoc (switch_text now (switch_meant e)) (switch_texts now (switches_meant es i)) _ ∙ ap (λ (t : List ℕ). switch_text now (switch_meant e) ++ t) (texts-next now es i d (omega arith))

texts-more : (now : ℕ) (es : List Switch) (i n : ℕ) → i ≤ n → length (switch_texts now (switches_meant es i)) ≤ length (switch_texts now (switches_meant es n))
unfolding switch_texts
texts-more now [] zero n h = omega arith
texts-more now [] (suc i) zero h = omega arith
texts-more now [] (suc i) (suc n) h = omega arith
texts-more now (e ∷ es) zero n h = omega arith
texts-more now (e ∷ es) (suc i) zero h = absurd (omega arith)
texts-more now (e ∷ es) (suc i) (suc n) h =
    let t = switch_text now (switch_meant e) in
    omega (arith, length-append t (switch_texts now (switches_meant es i)), length-append t (switch_texts now (switches_meant es n)), texts-more now es i n (omega arith))

-- entry i is read from the first n; e is what it says
same : (now : ℕ) (es : List Switch) (i n : ℕ) (d : Switch) (e : SwitchEntry) → i < n → e ≡ switch_meant (get_or (take n es) i d) → switch_text now e ≡ switch_text now (switch_meant (get_or es i d))
same now es i n d e l is = ap (switch_text now) (is ∙ ap switch_meant (get_or-take n es i d l))

module _ {w : Writer} (now : ℕ) (es : List Switch) (i n : ℕ) (d : Switch) {w₁ : Writer} {e : SwitchEntry} (l : i < n) (h : n ≤ length es) (is : e ≡ switch_meant (get_or (take n es) i d)) (p : Wrote w (switch_texts now (switches_meant es i)) w₁) where
  pub next_room : HasRoom w (switch_texts now (switches_meant es n)) → HasRoom w₁ (switch_text now e)
  next_room f =
      let t = switch_text now (switch_meant (get_or es i d)) in
      let long = ap length (same now es i n d e l is) in
      omega (arith, long, ap length (texts-next now es i d (omega arith)), length-append (switch_texts now (switches_meant es i)) t, texts-more now es (suc i) n (omega arith), p.put.end, p.lent.long)

  pub next_put : {w₂ : Writer} → Wrote w₁ (switch_text now e) w₂ → Wrote w (switch_texts now (switches_meant es (i + 1))) w₂
  next_put q = rw add-one (wrote_same (texts-next now es i d (omega arith)) (wrote_then p (wrote_same (same now es i n d e l is) q)))
