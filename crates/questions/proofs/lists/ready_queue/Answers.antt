use native.Mathlib.Omega.{arith}
use Prim.Native.Nat.{ℕ, ◌≤◌}
use mathlib.Core.Path.{sym, ap}
use mathlib.Core.List.{List}
use lib.ListN.{length, take}
use lib.Seq.{length-take-le}
use Rattle.state.specs.State.{meant_at}
use Rattle.questions.proofs.lists.ready_queue.Goals as goal

pub slice_bounds-result-end : goal.slice_bounds-result-end
slice_bounds-result-end c =
    let h : c.args.s.queued ≤ length c.args.queue.now = omega (arith, c.requires.1.sizes.waiting, c.requires.1.sizes.queue, ap length c.requires.2) in
    sym (length-take-le c.args.s.queued c.args.queue.now h)

pub returns : goal.returns
unfolding meant_at
returns c = λ m v r. ap (λ (l : List ℕ). take c.args.s.queued l) (sym r)
