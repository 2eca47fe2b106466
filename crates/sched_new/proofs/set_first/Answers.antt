use Rattle.std.proofs.Common.{◌≡◌, ℕ, zero, suc, ◌≤◌, List, [], ◌∷◌, ◌++◌, length, drop, refl, ap, arith, rules}
use Rattle.std.proofs.Math.ListN.{replicate}
use Rattle.std.proofs.lemmas.List.{length-take-le}
use Rattle.model.specs.declared.ThreadInfo.{ThreadInfo}
use Rattle.walkkit.specs.Firsts.{firsts}
use Rattle.new_plan.specs.Made.{same_at}
use Rattle.sched_new.proofs.set_first.Goals as goal

filled : (t : ThreadInfo) (n : ℕ) (l : List ThreadInfo) → n ≤ length l → replicate n t ++ drop n l ≡ firsts (same_at t) n l
unfolding firsts same_at
filled t zero l h = refl
filled t (suc n) [] h = absurd (omega arith)
filled t (suc n) (x ∷ l) h = ap (λ (k : List ThreadInfo). t ∷ k) (filled t n l (omega arith))

pub returns : goal.returns
returns c =
    let n = length-take-le c.args.n c.args.threads.now c.requires in
    let e = c.fill.ensures.after (λ y e. search (rules, e)) in
    rw (e, n) (filled c.args.t c.args.n c.args.threads.now c.requires)
