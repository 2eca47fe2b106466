use Prim.Native.Nat.{ℕ}
use mathlib.Core.Path.{◌≡◌, sym, subst}
use Rattle.state.specs.declared.Eight.{Eight}
use Rattle.state.specs.State.{packed, states_of}
use Rattle.quiet.specs.Quiet.{sliced_below, state_at}
use Rattle.tick_plan.proofs.Quiet.{quiet-planned}
use Rattle.tick_plan.proofs.tick.plan_quiet.Goals as goal

pub returns : goal.returns
returns c =
    let s = c.args.s in
    let p = c.new.ensures.parts in
    let sliced = subst (λ (e : Eight). (j : ℕ) → state_at e j ≡ sliced_below s.cores j (state_at s.states j)) (sym p.0) c.sliced_states.ensures.states in
    let words = subst (λ (e : Eight). s.states ≡ packed (states_of s.states) → e ≡ packed (states_of e)) (sym p.0) c.sliced_states.ensures.words in
    (p.3, quiet-planned s c.requires.1 c.new.result sliced p.1 p.2 p.3 c.new.ensures.eight words)
