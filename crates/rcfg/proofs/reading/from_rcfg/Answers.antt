use borrow.Author.Rules.{rules}
use Rattle.std.proofs.Common.{◌≡◌, ℕ, Ok, ap, sym, ◌∙◌, arith, of_calls, length, length-append}
use Rattle.std.proofs.lemmas.Grind.{common_steps}
use Rattle.std.proofs.lemmas.List.Sorted.{answers_always}
use lib.Dec.{eqb}
use Rattle.settings.specs.Settings.{from_rcfg}
use Rattle.rcfg.specs.Reading.{head_meant, head_read_meant}
use Rattle.rcfg.proofs.Settling.{cut_piece, lines-bad, lines_step, lines_end}
use Rattle.rcfg.proofs.reading.from_rcfg.Goals as goal

pub loop-piece-init : goal.loop-piece-init
unfolding from_rcfg
loop-piece-init c = (search rules, rw (c.into_iter-piece-iterator.ensures.into_iter_gives, c.split_inclusive-piece-items.ensures.rest, c.new-h.ensures), search of_calls, search rules)

pub returns-in_err-h : goal.returns-in_err-h
returns-in_err-h c =
    let s = c.in-Some.ensures.steps in
    let m = s.1.2 (λ b. eqb b 10) (answers_always _ _ _ (λ f a r f' k. search rules)) in
    let first = cut_piece _ c.in-Some.piece.now _ s.1.0 s.0 s.1.1 s.2 m.1 in
    let bad = lines-bad _ c.in-Some.piece.now _ c.loop-piece.line (head_meant c.loop-piece.h) first in
    grind (arith, common_steps)

pub loop-piece-preserved : goal.loop-piece-preserved
loop-piece-preserved c =
    let s = c.in-Some.ensures.steps in
    let m = s.1.2 (λ b. eqb b 10) (answers_always _ _ _ (λ f a r f' k. search rules)) in
    let first = cut_piece _ c.in-Some.piece.now _ s.1.0 s.0 s.1.1 s.2 m.1 in
    let good : c.read_setting.result ≡ Ok c.in_ok-h.h = grind (arith, common_steps) in
    let step = lines_step _ c.in-Some.piece.now _ c.loop-piece.line (head_meant c.loop-piece.h) first (head_meant c.in_ok-h.h) (sym c.read_setting.ensures ∙ ap head_read_meant good) in (
      omega (arith, s.1.1, s.2, ap length s.0, length-append {A = ℕ}),
      sym step ∙ c.loop-piece.invariant.1,
      search of_calls,
      search rules,
    )

pub returns : goal.returns
returns c = sym (lines_end _ c.loop-piece.line (head_meant c.loop-piece.h) c.in-None.ensures.steps.0) ∙ c.loop-piece.invariant.1
