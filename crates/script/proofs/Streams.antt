-- The report in parts: lines one after the other, bytes one after the other, and where nothing more is read.
use Prim.Native.Nat.{ℕ, zero, suc, ◌≤◌, ◌<◌}
use mathlib.Core.Path.{◌≡◌, refl, sym, ap, ◌∙◌}
use mathlib.Core.Bool.{Bool, true, false, cond, not, ◌&&◌}
use mathlib.Core.Option.{Option, none, some}
use mathlib.Core.List.{List, [], ◌∷◌, ◌++◌, append_assoc, append-nil}
use native.Mathlib.Omega.{arith}
use borrow.Author.Tests.{lt-leb, not-true}
use lib.Dec.{leb, eqb}
use lib.ListN.{length}
use Rattle.model.specs.Types.{State}
use Rattle.text.specs.Bytes.{all}
use Rattle.text.specs.Lines.{onto, cut, line_of}
use Rattle.script.specs.Report.{Stage, heads, calls, ended, over, Report, Fed, start, at, summary, fed, line_at, feed, feeds, finishing, finish, whole, report}
use Rattle.script.specs.Stream.{StreamState, Consumed, ending, consume, consume_all, end_part, end_stream, fresh}
use Rattle.text.proofs.Decimal.{and-fst, and-snd, and_both, all_append}
use Rattle.text.proofs.Pieces.{isnt, cut-nil, cut-here, cut-open}

---- lines one after the other

pub feeds-report : (r : Report) (ls ms : List (List ℕ)) → (feeds r (ls ++ ms)).report ≡ (feeds (feeds r ls).report ms).report
unfolding feeds
feeds-report r [] ms = refl
feeds-report r (l ∷ ls) ms = feeds-report (feed r l).report ls ms

pub feeds-out : (r : Report) (ls ms : List (List ℕ)) → (feeds r (ls ++ ms)).out ≡ (feeds r ls).out ++ (feeds (feeds r ls).report ms).out
unfolding feeds
feeds-out r [] ms = refl
feeds-out r (l ∷ ls) ms = ap (λ (t : List ℕ). (feed r l).out ++ t) (feeds-out (feed r l).report ls ms) ∙ sym (append_assoc (feed r l).out _ _)

-- one line more, and the end: what a loop over lines holds on to
pub whole-step : (r : Report) (l : List ℕ) (ls : List (List ℕ)) → whole (feeds r (l ∷ ls)) ≡ (feed r l).out ++ whole (feeds (feed r l).report ls)
unfolding feeds whole
whole-step r l ls = append_assoc (feed r l).out _ _

pub whole-end : (r : Report) → whole (feeds r []) ≡ finish r
unfolding feeds whole
whole-end r = refl

---- where nothing more is read

-- no line ended that is longer than 256 bytes
pub too_long : (l : List ℕ) → 256 < length l → line_of l ≡ none
unfolding line_of
too_long l h = rw (lt-leb (length l) 256 h)

-- after a refusal in the settings or at `cores=` nothing is printed; after a bad call line only the summary is
pub whole-over : (n : ℕ) (ls : List (List ℕ)) → whole (feeds (record { lines = n; stage = over }) ls) ≡ []
unfolding finish finishing feed fed
whole-over n [] = whole-end (record { lines = n; stage = over })
whole-over n (l ∷ ls) = whole-step (record { lines = n; stage = over }) l ls ∙ whole-over (suc n) ls

pub whole-ended : (n : ℕ) (s : State) (ls : List (List ℕ)) → whole (feeds (record { lines = n; stage = ended s }) ls) ≡ summary s
unfolding finish finishing feed fed
whole-ended n s [] = whole-end (record { lines = n; stage = ended s })
whole-ended n s (l ∷ ls) = whole-step (record { lines = n; stage = ended s }) l ls ∙ whole-ended (suc n) s ls

---- bytes one after the other

-- what is printed from here on
abbrev pub rest : StreamState → List ℕ → List ℕ
rest t l = (consume_all t l).out ++ end_stream (consume_all t l).stream

pub rest-step : (t : StreamState) (x : ℕ) (l : List ℕ) → rest t (x ∷ l) ≡ (consume t x).out ++ rest (consume t x).stream l
unfolding consume_all
rest-step t x l = append_assoc (consume t x).out _ _

pub consume_all-tape : (t : StreamState) (l m : List ℕ) → (consume_all t (l ++ m)).stream ≡ (consume_all (consume_all t l).stream m).stream
unfolding consume_all
consume_all-tape t [] m = refl
consume_all-tape t (x ∷ l) m = consume_all-tape (consume t x).stream l m

pub consume_all-out : (t : StreamState) (l m : List ℕ) → (consume_all t (l ++ m)).out ≡ (consume_all t l).out ++ (consume_all (consume_all t l).stream m).out
unfolding consume_all
consume_all-out t [] m = refl
consume_all-out t (x ∷ l) m = ap (λ (o : List ℕ). (consume t x).out ++ o) (consume_all-out (consume t x).stream l m) ∙ sym (append_assoc (consume t x).out _ _)

rest-nil : (r : Report) (p : List ℕ) → all (isnt 10) p ≡ true → rest (record { report = r; part = p }) [] ≡ whole (feeds r (cut p))
unfolding consume_all end_stream end_part
rest-nil r [] h = sym (ap (λ (c : List (List ℕ)). whole (feeds r c)) cut-nil ∙ whole-end r)
rest-nil r (x ∷ p) h =
    sym (ap (λ (c : List (List ℕ)). whole (feeds r c)) (cut-open x p h) ∙ whole-step r (x ∷ p) [] ∙ ap (λ (o : List ℕ). (feed r (x ∷ p)).out ++ o) (whole-end (feed r (x ∷ p)).report))

pub consume-end : (r : Report) (p : List ℕ) (x : ℕ) → eqb x 10 ≡ true → consume (record { report = r; part = p }) x ≡ ending (feed r (p ++ (x ∷ [])))
unfolding consume
consume-end r p x e = rw e

pub consume-on : (r : Report) (p : List ℕ) (x : ℕ) → eqb x 10 ≡ false → consume (record { report = r; part = p }) x ≡ record { stream = record { report = r; part = p ++ (x ∷ []) }; out = [] }
unfolding consume
consume-on r p x e = rw e

-- from anywhere in a line: the bytes print what the lines do
pub rest_lines : (l : List ℕ) (r : Report) (p : List ℕ) → all (isnt 10) p ≡ true → rest (record { report = r; part = p }) l ≡ whole (feeds r (cut (p ++ l)))
rest_lines [] r p h = rest-nil r p h ∙ ap (λ (q : List ℕ). whole (feeds r (cut q))) (sym (append-nil p))
rest_lines (x ∷ l) r p h = rest-step (record { report = r; part = p }) x l ∙ go (eqb x 10) refl (λ q k t. rest_lines l q k t)
  where
    go : (b : Bool) → eqb x 10 ≡ b → ((q : Report) (k : List ℕ) → all (isnt 10) k ≡ true → rest (record { report = q; part = k }) l ≡ whole (feeds q (cut (k ++ l))))
        → (consume (record { report = r; part = p }) x).out ++ rest (consume (record { report = r; part = p }) x).stream l ≡ whole (feeds r (cut (p ++ (x ∷ l))))
    go true e ih =
        let f : Fed = feed r (p ++ (x ∷ [])) in
        ap (λ (a : Consumed). a.out ++ rest a.stream l) (consume-end r p x e) ∙
        ap (λ (o : List ℕ). f.out ++ o) (ih f.report [] refl) ∙
        sym (ap (λ (c : List (List ℕ)). whole (feeds r c)) (cut-here p x l h e) ∙ whole-step r (p ++ (x ∷ [])) (cut l))
    go false e ih =
        ap (λ (a : Consumed). a.out ++ rest a.stream l) (consume-on r p x e) ∙
        ih r (p ++ (x ∷ [])) (all_append (isnt 10) p (x ∷ []) h (rw e)) ∙
        ap (λ (q : List ℕ). whole (feeds r (cut q))) (append_assoc p (x ∷ []) l)

pub report-bytes : (script : List ℕ) → rest fresh script ≡ report script
unfolding report
report-bytes script = rest_lines script start [] refl
