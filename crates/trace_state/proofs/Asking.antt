-- How many cores and threads there are to ask about.
use Prim.Native.Nat.{◌≤◌}
use mathlib.Core.Path.{◌≡◌, ◌∙◌}
use native.Mathlib.Omega.{arith}
use lib.ListN.{length, take, length-map}
use lib.Seq.{length-take-le}
use Rattle.model.specs.Reading.{thread_meant}
use Rattle.model.specs.Questions.{next_tid}
use Rattle.state.specs.declared.Sched.{Sched}
use Rattle.state.specs.Memory.{Memory}
use Rattle.state.specs.State.{meant_at, meant, Valid}
use Rattle.state.proofs.Firsts.{length-firsts}

module _ (s : Sched) (m : Memory) where
  pub cores-long : length (meant s m).cores ≡ s.cores
  unfolding meant_at
  cores-long = length-firsts _ s.cores

  pub threads-long : Valid s m → next_tid (meant s m) ≡ s.threads
  unfolding next_tid meant_at
  threads-long v = length-map (take s.threads m.threads) thread_meant ∙ length-take-le s.threads m.threads (omega (arith, v.sizes.in_use, v.sizes.threads))

  pub few-threads : Valid s m → s.threads ≤ 256
  unfolding meant_at
  few-threads v = omega (arith, v.sizes.in_use, v.bounded.settings.cap_t')
