-- Each answer is the question's own, in its field.
use Rattle.thread_questions.proofs.asked_in.Goals as goal

pub returns : goal.returns
returns c = λ m v r i.
    record {
      live = c.has_live_threads-live.ensures m v r i;
      runnable = c.has_runnable_threads-runnable.ensures m v r i;
      deadlocked = c.is_deadlocked-deadlocked.ensures m v r i;
      bits = c.bits_of-bits.ensures m v r i;
    }
