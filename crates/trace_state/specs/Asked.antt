-- The line of a trace with the questions that are no field of the state: the definition's answers (`Questions` of crates/model), in the order in which the
-- Rust's are written (differential/program).
use Rattle.std.specs.Prelude.{ℕ, suc, Bool, List, ◌++◌, length}
use Rattle.text.specs.Bytes.{ascii}
use Rattle.model.specs.Types.{State}
use Rattle.model.specs.Questions.{next_tid, running_on, thread_on, core_of}
use Rattle.trace_text.specs.Texts.{spaced, spaced_maybe, bit_text, texts_below}

unfoldable pub left_text : (live runnable deadlocked : Bool) → List ℕ
left_text live runnable deadlocked = ascii " " ++ bit_text live ++ bit_text runnable ++ bit_text deadlocked

abbrev pub core_text : State → (core : ℕ) → List ℕ
core_text d core = spaced_maybe (running_on d core) ++ spaced_maybe (thread_on d core)

-- of each core, and of one more, which there is not
unfoldable pub running_text : State → List ℕ
running_text d = texts_below (core_text d) (suc (length d.cores))

abbrev pub place_text : State → (tid : ℕ) → List ℕ
place_text d tid = spaced_maybe (core_of d tid)

-- of each thread, and of one more, which there is not
unfoldable pub places_text : State → List ℕ
places_text d = texts_below (place_text d) (suc (next_tid d))

unfoldable pub asked_text : State → (live runnable deadlocked : Bool) → List ℕ
asked_text d live runnable deadlocked =
    ascii "asked" ++ spaced (next_tid d) ++ left_text live runnable deadlocked ++ running_text d ++ places_text d ++ ascii "\n"
