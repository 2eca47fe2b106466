-- A turn of the report program, without its memory: the next line may be taken, what it prints fits, and what is known before the next turn.
use mathlib.Core.Path.{◌≡◌, refl, sym, subst}
use Prim.Native.Nat.{ℕ, ◌+◌, ◌<◌, ◌≤◌}
use native.Mathlib.Omega.{arith}
use mathlib.Core.List.{List, [], append-nil}
use lib.ListN.{length, replicate, length-replicate}
use lib.Seq.{paste}
use Rattle.model.specs.declared.ThreadInfo.{ThreadInfo}
use Rattle.text.specs.Buffers.{Put}
use Rattle.text.specs.Lines.{cut}
use Rattle.state.specs.Memory.{Memory, memory}
use Rattle.state.specs.State.{meant}
use Rattle.script.specs.Report as Definition
use Rattle.script.proofs.Room.{finish-well}
use Rattle.feed_plan.specs.declared.Report.{Report}
use Rattle.feed_plan.specs.declared.Next.{Next}
use Rattle.feed_plan.specs.declared.Fed.{Fed}
use Rattle.feed_plan.specs.Meant as Meant
use Rattle.feed_plan.specs.Meant.{report_meant, ReportValid}
use Rattle.feed_plan.specs.Steps.{fed_of, next_text}
use Rattle.feed_plan.specs.Feeding.{Starts, LineRead, LineAsked, LineDone, Sayable}
use Rattle.feed_plan.proofs.Feeding.{lines-few, line-asked, sayable, feed-done}
use Rattle.report_io.specs.declared.Upcoming.{Upcoming}
use Rattle.report_io.specs.Marks.{marked_report}
use Rattle.report_io.specs.Blocks.{Roomy, last_turn, first_of, Standing, Awaits, Printable, Passed}
use Rattle.report.specs.Running.{SoFar, Runnable}
use Rattle.report.proofs.Keeping.{kept, marked-valid}

abbrev limit : ℕ
limit = last_turn

module _ (r : Report) (u : Upcoming) (m : Memory) (bs : List ℕ) (less : u.place.turn < limit) (runs : Runnable r u m bs) where
  standing : Standing r runs.awaits.ahead bs u
  standing = runs.awaits.line less

  abbrev piece : List ℕ
  piece = first_of (cut runs.awaits.ahead)

  reads : LineRead r piece u.line
  reads = subst (λ (l : List ℕ). LineRead r (first_of (cut l)) u.line) (append-nil runs.awaits.ahead) (standing.reads [] (λ h. refl))

  -- the line may be taken
  pub asked : LineAsked r u.line m
  asked = line-asked r piece m runs.valid u.line reads.fits

  module _ (x : Next) (z : Memory) (claim : LineDone r u.line m z x) (roomy : Meant.Roomy z) where
    says-it : Definition.feed (report_meant r m) piece ≡ fed_of (report_meant r m) u.line
    unfolding report_meant
    says-it = reads.says (meant r.sched m)

    fits_in : Sayable x (replicate 288 0)
    fits_in = sayable r piece m runs.valid u.line z x says-it claim (replicate 288 0) (subst (λ (k : ℕ). 288 ≤ k) (sym (length-replicate {A = ℕ} 288 0)) (omega arith))

    abbrev said : Fed
    said = record { report = x.report; written = 0 + length (next_text x) }

    -- the report after it
    valid-next : ReportValid x.report z
    valid-next =
        (feed-done r piece m runs.valid u.line z x says-it claim [] (paste [] 0 (next_text x) (length (next_text x))) said roomy
        (record { report = refl; text = record { bytes = refl; end = refl } })).valid

    -- what it prints fits
    pub printable : Roomy u.place × (u.place.turn < limit) × Printable x × (131_072 ≤ length bs)
    printable = (
      runs.awaits.roomy,
      less,
      record { number = fits_in.number; listed = fits_in.listed; short = subst (λ (k : ℕ). length (next_text x) ≤ k) (length-replicate {A = ℕ} 288 0) fits_in.long; few = lines-few x.report [] z valid-next },
      runs.room,
    )

    -- and what is known before the next turn
    pub goes_on : (v : Upcoming) (bs' : List ℕ) (r' : Report) → Passed u x bs bs' v → length bs' ≡ length bs → r' ≡ marked_report x.report v.marked → Runnable r' v z bs'
    goes_on v bs' r' p long' e' = record {
      valid = subst (λ (y : Report). ReportValid y z) (sym e') (marked-valid r u m bs runs.so_far less runs.awaits.ahead standing.some u.line says-it x z claim valid-next v bs' p);
      awaits = subst (λ (y : Report). Awaits y bs' v) (sym e') p.awaits;
      room = subst (λ (k : ℕ). 131_072 ≤ k) (sym long') runs.room;
      so_far = subst (λ (y : Report). SoFar y v z bs') (sym e') (kept r u m bs runs.so_far less runs.awaits.ahead standing.some u.line says-it x z claim valid-next v bs' p);
    }

-- what stands at the end is short
pub count_fits : (r : Report) (m : Memory) (bs : List ℕ) (n : ℕ) (bs' : List ℕ) → ReportValid r m → Put bs 0 (Definition.finish (report_meant r m)) bs' n → n ≤ 400
count_fits r m bs n bs' v p =
    let w : length (Definition.finish (report_meant r m)) ≤ 400 = finish-well (report_meant r m) v.kept in
    let e : n ≡ 0 + length (Definition.finish (report_meant r m)) = p.end in
    omega (arith, w, e)

-- before the first line
pub sized : (ts : List ThreadInfo) (qs ps ls ws : List ℕ) → 256 ≡ length ts → 256 ≡ length qs → 256 ≡ length ps → 1_024 ≡ length ls → 4_176 ≡ length ws → Meant.Roomy (memory ts qs ps ls ws)
sized ts qs ps ls ws t q p l w = record { threads = omega (arith, t); queue = omega (arith, q); prios = omega (arith, p); log = omega (arith, l); lanes = omega (arith, w) }

-- as `main` writes them
pub sized-first : (t : ThreadInfo) → Meant.Roomy (memory (replicate 256 t) (replicate 256 0) (replicate 256 0) (replicate 1_024 0) (replicate 4_176 0))
sized-first t =
    sized _ _ _ _ _
    (sym (length-replicate 256 t))
    (sym (length-replicate {A = ℕ} 256 0))
    (sym (length-replicate {A = ℕ} 256 0))
    (sym (length-replicate {A = ℕ} 1_024 0))
    (sym (length-replicate {A = ℕ} 4_176 0))

pub first-few : (r : Report) (m : Memory) → Starts r → Meant.Roomy m → Meant.Few r.stage r.lines
first-few r m s roomy = lines-few r [] m (s.valid m roomy)
