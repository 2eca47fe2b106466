-- The two most frequent lines, `tick=` and `retired=` with a core's digit, as the definition reads them.
-- Assumes nothing.
use Rattle.std.specs.Prelude.{Ok}
use Prim.Native.Nat.{ℕ, zero, suc, ◌+◌, ◌-◌, ◌≤◌, ◌<◌}
use mathlib.Core.Path.{◌≡◌, refl, sym, ap, subst, ◌∙◌}
use mathlib.Core.Bool.{Bool, cond}
use mathlib.Core.Option.{Option, none, some}
use mathlib.Core.List.{List, [], ◌∷◌, ◌++◌}
use native.Mathlib.Omega.{arith}
use borrow.Author.Tests.{le-leb}
use lib.ListN.{take, drop, take-append-drop}
use lib.Seq.{take-take}
use Rattle.text.specs.Bytes.{value_from, spelled, unsigned, at_most, number}
use Rattle.text.specs.Lines.{Read, good, or_bad, map_read, onto, cut, before, unended, line_of, before_eq, value, named, key_in, fields, needed, one}
use Rattle.model.specs.Calls.{Call, tick, retired, step}
use Rattle.model.specs.Types.{State}
use Rattle.rcfg.specs.declared.Head.{Head}
use Rattle.state.specs.declared.Sched.{Sched}
use Rattle.script.specs.Script.{bare_tick, call_of, calling, call_line}
use Rattle.script.specs.Report as Definition
use Rattle.sched.specs.declared.Call.TheVariants as CallCases
use Rattle.feed_plan.specs.declared.Stage.{Stage}
use Rattle.feed_plan.specs.declared.Stage.TheVariants as StageCases
use Rattle.feed_plan.specs.declared.Reader.{Reader}
use Rattle.feed_plan.specs.declared.Line.TheVariants as LineCases
use Rattle.feed_plan.specs.Feeding.{LineRead, report_of}
use Rattle.report_io.specs.declared.Place.{Place}
use Rattle.report_io.specs.Marks.{retired_line}
use Rattle.report_io.specs.Blocks.{between, first_of, line_ahead, LineEnd, tick_bytes, TickAhead}

---- what a call line makes of the report

called-by : (n : ℕ) (s : State) (l text : List ℕ) (c : Call) → suc n ≤ 1_000_000_000_000 → line_of l ≡ some text → call_line text ≡ good c → Definition.feed (record { lines = n; stage = Definition.calls s }) l ≡ Definition.said (suc n) (step s c)
unfolding Definition.feed Definition.fed Definition.line_at Definition.limit_lines Definition.called
called-by n s l text c h e f =
    ap (λ (t : Bool). Definition.fed (suc n) (Definition.calls s) (cond t (line_of l) none)) (le-leb (suc n) 1_000_000_000_000 h) ∙
    ap (λ (o : Option (List ℕ)). Definition.fed (suc n) (Definition.calls s) o) e ∙
    ap (λ (r : Read Call). Definition.called (suc n) s r) f

---- `tick=`

tick-line : line_of tick_bytes ≡ some (116 ∷ 105 ∷ 99 ∷ 107 ∷ 61 ∷ [])
unfolding line_of unended before
tick-line = refl

tick-call : call_line (116 ∷ 105 ∷ 99 ∷ 107 ∷ 61 ∷ []) ≡ good tick
unfolding call_line calling call_of bare_tick key_in named value before_eq before
tick-call = refl

tick-first : (l : List ℕ) → tick_bytes ≡ line_ahead (tick_bytes ++ l)
unfolding line_ahead first_of cut onto
tick-first l = refl

tick-in-calls : (n : ℕ) (h : Head) (s : Sched) → n < 1_000_000_000_000 → LineRead (record { lines = n; stage = StageCases.Calls; head = h; sched = s }) tick_bytes (Ok (LineCases.Call CallCases.EndTick))
tick-in-calls n h s k = record { says = λ t. called-by n t tick_bytes _ tick (omega arith) tick-line tick-call; fits = (refl, omega arith) }

module _ (k : Reader) (p : Place) (b : List ℕ) (t : TickAhead k p b) where
  pub tick-reads : (s : Sched) → LineRead (report_of k s) (between p.at (p.at + 6) b) (Ok (LineCases.Call CallCases.EndTick))
  tick-reads s =
      subst (λ (l : List ℕ). LineRead (report_of k s) l (Ok (LineCases.Call CallCases.EndTick))) (sym t.line)
      (subst (λ (g : Stage). LineRead (record { lines = k.lines; stage = g; head = k.head; sched = s }) tick_bytes (Ok (LineCases.Call CallCases.EndTick))) (sym t.calls) (tick-in-calls k.lines k.head s t.few))

  six : p.at + 6 - p.at ≡ 6
  six = omega arith

  stands : between p.at p.end b ≡ tick_bytes ++ drop 6 (between p.at p.end b)
  stands =
      let h = t.enough in
      sym (take-append-drop 6 (between p.at p.end b)) ∙
      ap (λ (l : List ℕ). l ++ drop 6 (between p.at p.end b)) (take-take 6 (p.end - p.at) (drop p.at b) (omega arith) ∙ ap (λ (n : ℕ). take n (drop p.at b)) (sym six) ∙ t.line)

  pub tick-ends : LineEnd p.at p.end b (p.at + 6)
  tick-ends = let h = t.enough in record { on = omega arith; within = omega arith; line = t.line ∙ tick-first (drop 6 (between p.at p.end b)) ∙ ap line_ahead (sym stands) }

---- `retired=`

-- one of the digits 0 to 7
below-eight : (P : ℕ → Type 0) → P 0 → P 1 → P 2 → P 3 → P 4 → P 5 → P 6 → P 7 → (c : ℕ) → c < 8 → P c
below-eight P a0 a1 a2 a3 a4 a5 a6 a7 zero h = a0
below-eight P a0 a1 a2 a3 a4 a5 a6 a7 (suc zero) h = a1
below-eight P a0 a1 a2 a3 a4 a5 a6 a7 (suc (suc zero)) h = a2
below-eight P a0 a1 a2 a3 a4 a5 a6 a7 (suc (suc (suc zero))) h = a3
below-eight P a0 a1 a2 a3 a4 a5 a6 a7 (suc (suc (suc (suc zero)))) h = a4
below-eight P a0 a1 a2 a3 a4 a5 a6 a7 (suc (suc (suc (suc (suc zero))))) h = a5
below-eight P a0 a1 a2 a3 a4 a5 a6 a7 (suc (suc (suc (suc (suc (suc zero)))))) h = a6
below-eight P a0 a1 a2 a3 a4 a5 a6 a7 (suc (suc (suc (suc (suc (suc (suc zero))))))) h = a7
below-eight P a0 a1 a2 a3 a4 a5 a6 a7 (suc (suc (suc (suc (suc (suc (suc (suc c)))))))) h = absurd (omega arith)

pub retired-cut : (c : ℕ) (l : List ℕ) → c < 8 → cut (retired_line c ++ l) ≡ retired_line c ∷ cut l
unfolding cut onto
retired-cut c l h = below-eight (λ c. cut (retired_line c ++ l) ≡ retired_line c ∷ cut l) refl refl refl refl refl refl refl refl c h

retired-text : ℕ → List ℕ
retired-text c = 114 ∷ 101 ∷ 116 ∷ 105 ∷ 114 ∷ 101 ∷ 100 ∷ 61 ∷ (48 + c) ∷ []

retired-line : (c : ℕ) → c < 8 → line_of (retired_line c) ≡ some (retired-text c)
unfolding line_of unended before retired-text
retired-line c h = below-eight (λ c. line_of (retired_line c) ≡ some (retired-text c)) refl refl refl refl refl refl refl refl c h

retired-call : (c : ℕ) → c < 8 → call_line (retired-text c) ≡ good (retired c)
unfolding call_line calling call_of key_in named value before_eq before fields onto one needed or_bad map_read number spelled unsigned value_from at_most retired-text
retired-call c h = below-eight (λ c. call_line (retired-text c) ≡ good (retired c)) refl refl refl refl refl refl refl refl c h

pub retired-feed : (n : ℕ) (s : State) (c : ℕ) → c < 8 → suc n ≤ 1_000_000_000_000 → Definition.feed (record { lines = n; stage = Definition.calls s }) (retired_line c) ≡ Definition.said (suc n) (step s (retired c))
retired-feed n s c h k = called-by n s (retired_line c) (retired-text c) (retired c) k (retired-line c h) (retired-call c h)
