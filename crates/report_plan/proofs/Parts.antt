-- What the parts of a run over a script return, arm by arm.
use Prim.Native.Nat.{ℕ, suc, ◌+◌, ◌*◌, ◌-◌, ◌/◌, ◌≤◌, ◌<◌}
use mathlib.Core.Path.{◌≡◌, refl, sym, ap, ◌∙◌, subst}
use mathlib.Core.Bool.{Bool, true, false}
use mathlib.Core.List.{List, ◌∷◌, ◌++◌, append-nil, append_assoc}
use native.Mathlib.Omega.{arith}
use borrow.Author.Tests.{lt-ltb, le-ltb, ltb-true, ltb-false}
use borrow.Rule.Slice.PartMut.{mid_of, put_mid, Post-is}
use lib.Dec.{ltb}
use lib.ListN.{length, take, drop, length-drop, drop_of_length-le}
use lib.Seq.{take-length, drop-drop}
use Rattle.text.specs.Lines.{cut}
use Rattle.text.specs.Buffers.{Put}
use Rattle.text.proofs.Pieces.{cut-nil}
use Rattle.script.specs.Invariants.{Kept}
use Rattle.state.specs.Memory.{Memory}
use Rattle.feed_plan.specs.declared.Stage.{Stage}
use Rattle.feed_plan.specs.declared.Stage.TheVariants as StageCases
use Rattle.feed_plan.specs.declared.Report.{Report}
use Rattle.feed_plan.specs.Meant.{report_meant}
use Rattle.record_reads.specs.declared.totals.Totals.{Totals}
use Rattle.script.specs.Report.{finish}
use Rattle.script.proofs.Room.{finish-well}
use Rattle.feed_plan.specs.declared.Next.{Next}
use Rattle.feed_plan.specs.Steps.{Prints, next_text}
use Rattle.feed_plan.specs.Feeding.{Starts, Sayable, EndFits, EndAsked}
use Rattle.feed_plan.proofs.Making.{end-over}
use Rattle.report_plan.specs.Running.{Begins}

---- the number of lines

pub counted_start : (t : List ℕ) → 0 + length (cut t) ≡ length (cut t)
counted_start t = omega arith

module _ (t : List ℕ) (at n m : ℕ) (k : n + length (cut (drop at t)) ≡ m) where
  pub counted_step : (end : ℕ) (x : List ℕ) → cut (drop at t) ≡ x ∷ cut (drop end t) → n + 1 + length (cut (drop end t)) ≡ m
  counted_step end x e = let l : length (cut (drop at t)) ≡ suc (length (cut (drop end t))) = ap length e in omega arith

  pub counted-end : length t ≤ at → n ≡ m
  counted-end h =
      let e : length (cut (drop at t)) ≡ 0 = ap (λ (l : List ℕ). length (cut l)) (drop_of_length-le t h) ∙ ap length cut-nil in
      omega arith

---- the room

pub short_small : (n r : ℕ) → r < 400 → true ≡ ltb r (288 * n + 400)
short_small n r h = sym (lt-ltb r (288 * n + 400) (omega arith))

pub short_is : (n r : ℕ) → 400 ≤ r → ltb ((r - 400) / 288) n ≡ ltb r (288 * n + 400)
short_is n r h = go (ltb ((r - 400) / 288) n) refl
  where
    go : (t : Bool) → ltb ((r - 400) / 288) n ≡ t → t ≡ ltb r (288 * n + 400)
    go true e = let k : (r - 400) / 288 < n = ltb-true ((r - 400) / 288) n e in sym (lt-ltb r (288 * n + 400) (omega arith))
    go false e = let k : n ≤ (r - 400) / 288 = ltb-false ((r - 400) / 288) n e in sym (le-ltb r (288 * n + 400) (omega arith))

---- before the first line

pub begins : (r : Report) → Starts r → Begins (record { report = r; from = 0; at = 0 })
begins r k = record { from = refl; at = refl; report = k.report; valid = k.valid }

---- a part of the buffer

module _ (b : List ℕ) (at : ℕ) (h : at ≤ length b) where
  pub part-is : mid_of at (length b - at) b ≡ drop at b
  part-is = ap (λ (n : ℕ). take n (drop at b)) (sym (length-drop at b)) ∙ take-length (drop at b)

  -- a text put at the front of the part stands at the part's place
  pub put-part : (t c : List ℕ) (n : ℕ) → Put (drop at b) 0 t c n → Put b at t (put_mid at (length b - at) b c) (at + n)
  put-part t c n p =
      let z : 0 + length t ≡ length t = omega arith in
      record {
        bytes =
            ap (λ (x : List ℕ). take at b ++ (c ++ x)) (Post-is at (length b) b h ∙ drop_of_length-le b {i = length b} (omega arith)) ∙
            ap (λ (x : List ℕ). take at b ++ x) (append-nil c ∙ (p.bytes ∙ (ap (λ (k : ℕ). take (length t) t ++ drop k (drop at b)) z ∙ ap (λ (x : List ℕ). take (length t) t ++ x) (drop-drop (length t) at b)))) ∙
            sym (append_assoc (take at b) (take (length t) t) (drop (at + length t) b));
        end = ap (λ (m : ℕ). at + m) (p.end ∙ z);
      }

  pub part-long : length (mid_of at (length b - at) b) ≡ length b - at
  part-long = ap length part-is ∙ length-drop at b

---- what is put

module _ (x : Next) (b : List ℕ) (at : ℕ) (h : at ≤ length b) (k : Sayable x (drop at b)) where
  pub part-sayable : Sayable x (mid_of at (length b - at) b)
  part-sayable = subst (λ (l : List ℕ). Sayable x l) (sym (part-is b at h)) k

  module _ (c : List ℕ) (n : ℕ) (p : Put (mid_of at (length b - at) b) 0 (next_text x) c n) where
    pub progress-fits : at + n ≤ length b
    progress-fits = omega (arith, p.end, k.long, length-drop at b)

    pub progress-put : Put b at (next_text x) (put_mid at (length b - at) b c) (at + n)
    progress-put = put-part b at h (next_text x) c n (subst (λ (l : List ℕ). Put l 0 (next_text x) c n) (part-is b at h) p)

pub end-room : (r : Report) (m : Memory) (b : List ℕ) → Kept (report_meant r m).lines (report_meant r m).stage → (Prints r.stage → 400 ≤ length b) → length (finish (report_meant r m)) ≤ length b
end-room r m b k h = go r.stage refl
  where
    go : (g : Stage) → r.stage ≡ g → length (finish (report_meant r m)) ≤ length b
    go StageCases.Heads e = omega (arith, finish-well (report_meant r m) k, h (subst Prints (sym e) tt))
    go StageCases.Calls e = omega (arith, finish-well (report_meant r m) k, h (subst Prints (sym e) tt))
    go StageCases.Ended e = omega (arith, finish-well (report_meant r m) k, h (subst Prints (sym e) tt))
    go StageCases.Over e = rw (sym (end-over r m e)) (omega arith)

module _ (r : Report) (sums : Totals) (b : List ℕ) (at : ℕ) (h : at ≤ length b) (k : EndAsked r sums (drop at b)) where
  pub part-asked : EndAsked r sums (mid_of at (length b - at) b)
  part-asked = subst (λ (l : List ℕ). EndAsked r sums l) (sym (part-is b at h)) k

  module _ (c : List ℕ) (n : ℕ) (p : (m : Memory) → EndFits r sums m → Put (mid_of at (length b - at) b) 0 (finish (report_meant r m)) c n) where
    pub end_fits : at + n ≤ length b
    end_fits =
        let q = p k.memory k.fits in
        omega (arith, q.end, end-room r k.memory (drop at b) k.fits.valid.kept k.room, length-drop at b)

    pub end-put : (m : Memory) → EndFits r sums m → Put b at (finish (report_meant r m)) (put_mid at (length b - at) b c) (at + n)
    end-put m f = put-part b at h (finish (report_meant r m)) c n (subst (λ (l : List ℕ). Put l 0 (finish (report_meant r m)) c n) (part-is b at h) (p m f))
