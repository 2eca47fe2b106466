-- What a read-only question asks and promises. It is given the state and, of the lent memory, only what it reads; `reads` says which part of a memory that is.
--     Askable s reads        all that a question asks: `new` and every call leave it, since they leave `Valid`
--     Answers s reads says   what it promises of the definition's state, whatever stands in the memory that it does not read
use Rattle.std.specs.Prelude.{ℕ, ◌≡◌, List}
use Rattle.model.specs.declared.ThreadInfo.{ThreadInfo}
use Rattle.model.specs.Types.{State}
use Rattle.state.specs.declared.Sched.{Sched}
use Rattle.state.specs.Memory.{Memory}
use Rattle.state.specs.State.{meant, Valid}

abbrev pub Askable : Sched → (Memory → Type 0) → Type 0
Askable s reads = (m : Memory) × Valid s m × reads m

abbrev pub Answers : Sched → (Memory → Type 0) → (State → Type 0) → Type 0
Answers s reads says = (m : Memory) → Valid s m → reads m → says (meant s m)

---- what is read

abbrev pub nothing : Memory → Type 0
nothing m = Unit {0}

abbrev pub the_threads : List ThreadInfo → Memory → Type 0
the_threads ts m = m.threads ≡ ts

abbrev pub the_queue : List ℕ → Memory → Type 0
the_queue qs m = m.queue ≡ qs

abbrev pub the_log : List ℕ → Memory → Type 0
the_log ls m = m.log ≡ ls

abbrev pub the_lanes : List ℕ → Memory → Type 0
the_lanes ws m = m.lanes ≡ ws
