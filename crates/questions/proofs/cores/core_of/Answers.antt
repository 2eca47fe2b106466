use native.Mathlib.Omega.{arith}
use mathlib.Core.Path.{◌≡◌, refl, sym, ◌∙◌, subst}
use mathlib.Core.List.{List}
use native.Mathlib.Numerals.{add-one}
use Rattle.model.specs.declared.CoreState as Program
use Rattle.state.specs.declared.Sched.{Sched}
use Rattle.state.specs.Memory.{Memory}
use Rattle.state.specs.State.{core_from, states_of, Valid}
use Rattle.questions.proofs.CoreLaws.{find-pass, find-here, find_none, core-found}
use Rattle.questions.proofs.cores.core_of.Invariants.{Board}
use Rattle.questions.proofs.cores.core_of.Goals as goal

-- the array holds the struct's states
board : (s : Sched) (m : Memory) (v : Valid s m) (a : List Program.CoreState) → a ≡ states_of s.states → Board a s.marks.exits s.marks.blocks s.marks.yields s.marks.progressed s.cores
board s m v a e = subst (λ (l : List Program.CoreState). Board l s.marks.exits s.marks.blocks s.marks.yields s.marks.progressed s.cores) (sym e) v.marks.unused

pub loop-i-init : goal.loop-i-init
loop-i-init c = λ ex bl yi pr n b. refl

pub returns-then-is_held_by : goal.returns-then-is_held_by
unfolding core_from
returns-then-is_held_by c =
    λ m v r.
    let d = board c.args.s m v _ c.unpack.ensures in
    sym (core-found c.args.s m _ _ c.unpack.ensures ∙ c.loop-i.invariant _ _ _ _ c.args.s.cores d ∙ find-here _ _ _ d _ (sym c.is_held_by.ensures ∙ c.if-is_held_by.true))

pub loop-i-preserved : goal.loop-i-preserved
unfolding core_from
loop-i-preserved c =
    λ ex bl yi pr n b. c.loop-i.invariant ex bl yi pr n b ∙ rw add-one (find-pass _ (core_from c.unpack.result ex bl yi pr) n b _ (sym c.is_held_by.ensures ∙ c.if-is_held_by.false))

pub returns : goal.returns
returns c =
    λ m v r.
    sym (core-found c.args.s m _ _ c.unpack.ensures ∙ c.loop-i.invariant _ _ _ _ c.args.s.cores (board c.args.s m v _ c.unpack.ensures) ∙ find_none _ _ _ _ (omega (arith, v.sizes.cores, c.loop-i-test.false)))
