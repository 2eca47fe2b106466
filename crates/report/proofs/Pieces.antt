-- The first piece of a text: alone it is one piece, and where it is ended the pieces of what follows come behind it.
use Prim.Native.Nat.{ℕ, suc, ◌<◌}
use mathlib.Core.Path.{◌≡◌, refl, sym, ap, subst, ◌∙◌}
use mathlib.Core.Bool.{Bool, true, false, cond, ◌&&◌}
use mathlib.Core.Option.{Option, none, some}
use mathlib.Core.List.{List, [], ◌∷◌, ◌++◌}
use native.Mathlib.Omega.{arith}
use lib.Dec.{eqb, leb}
use lib.ListN.{length}
use Rattle.text.specs.Bytes.{all}
use Rattle.text.specs.Lines.{onto, cut, before, unended, line_of}
use Rattle.script.specs.Report as Definition
use Rattle.script.specs.Report.{heads, calls, ended, over}
use Rattle.model.specs.Types.{State}
use Rattle.rcfg.specs.declared.Head as Heads
use Rattle.feed_plan.specs.declared.Stage.{Stage}
use Rattle.feed_plan.specs.declared.Stage.TheVariants as StageCases
use Rattle.feed_plan.specs.Meant.{stage_meant}
use Rattle.report_io.specs.Blocks.{first_of, takes_lines}

no-some : {A : Type 0} (p : List ℕ) → none ≡ some p → A
no-some p e = let z : ◌≡◌ {A = ℕ} 0 1 = cc in absurd (omega arith)

cond-some : (t : Bool) (o : Option (List ℕ)) (p : List ℕ) → cond t o none ≡ some p → o ≡ some p
cond-some true o p e = e
cond-some false o p e = no-some p e

before-some : (x : ℕ) (o : Option (List ℕ)) (p : List ℕ) → before x o ≡ some p → ((q : List ℕ) × (o ≡ some q))
unfolding before
before-some x none p e = no-some p e
before-some x (some q) p e = (q, refl)

cut-cons : (x : ℕ) (l : List ℕ) (t : Bool) → eqb x 10 ≡ t → cut (x ∷ l) ≡ cond t ((x ∷ []) ∷ cut l) (onto x (cut l))
unfolding cut
cut-cons x l t e = ap (λ (b : Bool). cond b ((x ∷ []) ∷ cut l) (onto x (cut l))) e

onto-one : (x : ℕ) (l : List ℕ) (ls : List (List ℕ)) → onto x (l ∷ ls) ≡ (x ∷ l) ∷ ls
unfolding onto
onto-one x l ls = refl

first_head : (x : ℕ) (s : List ℕ) (t : Bool) → eqb x 10 ≡ t → first_of (cut (x ∷ s)) ≡ x ∷ cond t [] (first_of (cut s))
unfolding first_of onto
first_head x s t e = ap first_of (cut-cons x s t e) ∙ go t (cut s)
  where
    go : (t : Bool) (ls : List (List ℕ)) → first_of (cond t ((x ∷ []) ∷ ls) (onto x ls)) ≡ x ∷ cond t [] (first_of ls)
    go true ls = refl
    go false [] = refl
    go false (l ∷ ls) = refl

first-none : first_of (cut []) ≡ []
unfolding first_of cut
first-none = refl

-- a single byte
cut-byte : (x : ℕ) → cut (x ∷ []) ≡ (x ∷ []) ∷ []
unfolding cut onto
cut-byte x = go (eqb x 10)
  where
    go : (t : Bool) → cond t ((x ∷ []) ∷ []) ((x ∷ []) ∷ []) ≡ (x ∷ []) ∷ []
    go true = refl
    go false = refl

first_byte : (x : ℕ) → first_of (cut (x ∷ [])) ≡ x ∷ []
unfolding first_of
first_byte x = ap first_of (cut-byte x)

first_some : (x : ℕ) (s : List ℕ) → 0 < length (first_of (cut (x ∷ s)))
first_some x s = let e : length (first_of (cut (x ∷ s))) ≡ suc (length (cond (eqb x 10) [] (first_of (cut s)))) = ap length (first_head x s (eqb x 10) refl) in omega arith

pub first_alone : (s : List ℕ) → 0 < length s → cut (first_of (cut s)) ≡ first_of (cut s) ∷ []
first_alone [] h = absurd (omega arith)
first_alone (x ∷ []) h = ap cut (first_byte x) ∙ cut-byte x ∙ ap (λ (l : List ℕ). l ∷ []) (sym (first_byte x))
first_alone (x ∷ (y ∷ s)) h = go (eqb x 10) refl (first_alone (y ∷ s) (omega arith))
  where
    go : (t : Bool) → eqb x 10 ≡ t → cut (first_of (cut (y ∷ s))) ≡ first_of (cut (y ∷ s)) ∷ [] → cut (first_of (cut (x ∷ (y ∷ s)))) ≡ first_of (cut (x ∷ (y ∷ s))) ∷ []
    go true e k = subst (λ (l : List ℕ). cut l ≡ l ∷ []) (sym (first_head x (y ∷ s) true e)) (cut-byte x)
    go false e k =
        let f : List ℕ = first_of (cut (y ∷ s)) in
        subst (λ (l : List ℕ). cut l ≡ l ∷ []) (sym (first_head x (y ∷ s) false e)) (cut-cons x f false e ∙ ap (onto x) k ∙ onto-one x f [])

---- a piece that is ended

Followed : (f l : List ℕ) → Type 0
Followed f l = cut (f ++ l) ≡ f ∷ cut l

followed-more : (x : ℕ) (f l p : List ℕ) → eqb x 10 ≡ false → 0 < length f → unended (x ∷ f) ≡ some p → ((q : List ℕ) → unended f ≡ some q → Followed f l) → Followed (x ∷ f) l
unfolding unended Followed
followed-more x [] l p e h u k = absurd (omega arith)
followed-more x (y ∷ f) l p e h u k = let b = before-some x (unended (y ∷ f)) p u in cut-cons x ((y ∷ f) ++ l) false e ∙ ap (onto x) (k b.0 b.1) ∙ onto-one x (y ∷ f) (cut l)

byte-ended : {A : Type 0} (x : ℕ) (p : List ℕ) → eqb x 10 ≡ false → unended (x ∷ []) ≡ some p → A
unfolding unended
byte-ended x p e u = no-some p (sym (ap (λ (b : Bool). cond b (some []) none) e) ∙ u)

followed-rest : (x : ℕ) (s l p : List ℕ) → eqb x 10 ≡ false → unended (x ∷ first_of (cut s)) ≡ some p → ((q : List ℕ) → unended (first_of (cut s)) ≡ some q → Followed (first_of (cut s)) l) → Followed (x ∷ first_of (cut s)) l
followed-rest x [] l p e u k = byte-ended x p e (ap (λ (f : List ℕ). unended (x ∷ f)) (sym first-none) ∙ u)
followed-rest x (y ∷ s) l p e u k = followed-more x (first_of (cut (y ∷ s))) l p e (first_some y s) u k

empty-ended : {A : Type 0} (p : List ℕ) → unended [] ≡ some p → A
unfolding unended
empty-ended p u = no-some p u

first-followed : (s l p : List ℕ) → unended (first_of (cut s)) ≡ some p → Followed (first_of (cut s)) l
unfolding Followed
first-followed [] l p u = empty-ended p (ap unended (sym first-none) ∙ u)
first-followed (x ∷ s) l p u = go (eqb x 10) refl (λ q k. first-followed s l q k)
  where
    go : (t : Bool) → eqb x 10 ≡ t → ((q : List ℕ) → unended (first_of (cut s)) ≡ some q → Followed (first_of (cut s)) l) → Followed (first_of (cut (x ∷ s))) l
    go true e k = subst (λ (f : List ℕ). Followed f l) (sym (first_head x s true e)) (cut-cons x l true e)
    go false e k = subst (λ (f : List ℕ). Followed f l) (sym (first_head x s false e)) (followed-rest x s l p e (ap unended (sym (first_head x s false e)) ∙ u) k)

---- where lines are still taken, the last one was ended

abbrev pub takes : Definition.Stage → Bool
takes (heads h) = true
takes (calls s) = true
takes (ended s) = false
takes over = false

pub takes-meant : (g : Stage) (h : Heads.Head) (s : State) → takes_lines g ≡ takes (stage_meant g h s)
unfolding takes_lines
takes-meant StageCases.Heads h s = refl
takes-meant StageCases.Calls h s = refl
takes-meant StageCases.Ended h s = refl
takes-meant StageCases.Over h s = refl

no_line_lem : (n : ℕ) (g : Definition.Stage) → takes (Definition.fed n g none).report.stage ≡ false
unfolding Definition.fed Definition.headed Definition.called
no_line_lem n (heads h) = refl
no_line_lem n (calls s) = refl
no_line_lem n (ended s) = refl
no_line_lem n over = refl

line-at : (n : ℕ) (piece p : List ℕ) → Definition.line_at n piece ≡ some p → line_of piece ≡ some p
unfolding Definition.line_at
line-at n piece p e = cond-some (leb n Definition.limit_lines) (line_of piece) p e

line-of : (piece p : List ℕ) → line_of piece ≡ some p → unended piece ≡ some p
unfolding line_of
line-of piece p e = cond-some (leb (length piece) 256 && all (λ b. leb b 127) piece) (unended piece) p e

line-ended : (d : Definition.Report) (piece : List ℕ) → takes (Definition.feed d piece).report.stage ≡ true → ((p : List ℕ) × (unended piece ≡ some p))
unfolding Definition.feed
line-ended d piece k = go (Definition.line_at (suc d.lines) piece) refl k
  where
    go : (o : Option (List ℕ)) → Definition.line_at (suc d.lines) piece ≡ o → takes (Definition.fed (suc d.lines) d.stage o).report.stage ≡ true → ((p : List ℕ) × (unended piece ≡ some p))
    go none e t = let z : ◌≡◌ {A = ℕ} 0 1 = cc (no_line_lem (suc d.lines) d.stage) in absurd (omega arith)
    go (some p) e t = (p, line-of piece p (line-at (suc d.lines) piece p e))

pub first_ended : (d : Definition.Report) (s : List ℕ) → takes (Definition.feed d (first_of (cut s))).report.stage ≡ true → (l : List ℕ) → cut (first_of (cut s) ++ l) ≡ first_of (cut s) ∷ cut l
unfolding Followed
first_ended d s k l = let p = line-ended d (first_of (cut s)) k in first-followed s l p.0 p.1
