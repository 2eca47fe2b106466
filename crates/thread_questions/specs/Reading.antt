-- Which record of the definition an answer of `thread` stands for, and what the definition answers to the questions that `asked_in` puts together.
use Rattle.std.specs.Prelude.{Some, None}
use Rattle.model.specs.declared.ThreadInfo.{ThreadInfo}
use Rattle.std.specs.Prelude as Std
use Rattle.std.proofs.Math.Option.{Option, none, some}
use Rattle.model.specs.Types.{ThreadRecord, State}
use Rattle.model.specs.Reading.{thread_meant}
use Rattle.model.specs.Accounting.{sums}
use Rattle.model.specs.Questions.{has_live, has_runnable, is_deadlocked, figures}
use Rattle.summary.specs.Reading.{figure_bits}
use Rattle.thread_questions.specs.declared.Asked.{Asked}

abbrev pub option_thread_meant : Std.Option ThreadInfo → Option ThreadRecord
option_thread_meant None = none
option_thread_meant (Some t) = some (thread_meant t)

abbrev pub asked_of : State → Asked
asked_of d = record { live = has_live d; runnable = has_runnable d; deadlocked = is_deadlocked d; bits = figure_bits (figures (sums d.accounts)) }
