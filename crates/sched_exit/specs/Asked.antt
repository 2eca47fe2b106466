-- What `exit` asks: the state is valid with the memory that it takes, and some priorities and timelines.
use Rattle.std.specs.Prelude.{ℕ, List}
use Rattle.model.specs.declared.ThreadInfo.{ThreadInfo}
use Rattle.state.specs.declared.Sched.{Sched}
use Rattle.state.specs.Memory.{memory}
use Rattle.state.specs.State.{Valid}

pub record ExitAsked (s : Sched) (ts : List ThreadInfo) (qs ls : List ℕ) : Type 0 where
  pub prios : List ℕ
  pub lanes : List ℕ
  pub valid : Valid s (memory ts qs prios ls lanes)
