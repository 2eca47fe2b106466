-- What the contracts over the lent slice of thread records cite.
use Rattle.std.specs.Prelude.{ℕ, ◌+◌, ◌<◌, ◌≤◌, ◌≡◌, List, [], ◌∷◌, map, length, get_or, take, drop, None}
use Rattle.model.specs.declared.ThreadInfo.{ThreadInfo}
use Rattle.model.specs.declared.ThreadState.TheVariants as thread_states
use Rattle.model.specs.Types.{ThreadRecord, Ready}
use Rattle.model.specs.Phases
use Rattle.model.specs.Accounting.{set_state}
use Rattle.model.specs.Calls.{waiters}
use Rattle.model.specs.Reading.{thread_meant}
use Rattle.charges.specs.Charging.{Chargeable}
use Rattle.record_moves.specs.Moves.{decode, move_tid, MoveRoom}
use Rattle.records.specs.Waking.{Pushed}

-- the record that stands past the end of a list
pub blank : ThreadInfo
blank = record {
  tid = record { 0 = 0 };
  parent = None;
  entry_pc = 0;
  priority = 0;
  state = thread_states.Exited;
  last_core = None;
  last_dispatch = None;
  last_leave = None;
  stats = record {
    arrival = record { 0 = 0 };
    first_run = None;
    finish = None;
    run_ticks = 0;
    ready_ticks = 0;
    blocked_ticks = 0;
    dispatches = 0;
    preemptions = 0;
    yields = 0;
  };
}

-- the records of the first n threads, as the definition has them
unfoldable pub threads_in : List ThreadInfo → ℕ → List ThreadRecord
threads_in threads n = map thread_meant (take n threads)

-- what the first n records are after a call; those behind them are as they were
pub record Front (n : ℕ) (wanted : List ThreadRecord) (before after : List ThreadInfo) : Type 0 where
  pub front : threads_in after n ≡ wanted
  pub rest : drop n after ≡ drop n before

abbrev pub AllChargeable : ℕ → List ThreadInfo → Type 0
AllChargeable n threads = (k : ℕ) → k < n → Chargeable k (thread_meant (get_or threads k blank))

-- the thread of a move
abbrev pub tid_at : List ℕ → ℕ → ℕ
tid_at moves k = move_tid (decode (get_or moves k 0))

-- each move is about a thread that is there, and its counters have room for all the moves
pub record MovesFit (threads : List ThreadInfo) (moves : List ℕ) (count : ℕ) : Type 0 where
  pub within : count ≤ length moves
  pub known : (k : ℕ) → k < count → tid_at moves k < length threads
  pub room : (k : ℕ) → k < count → MoveRoom count (thread_meant (get_or threads (tid_at moves k) blank))

-- the thread numbers fit the queue's words, and the queue has room for the threads that are woken
pub record WakeFit (n on : ℕ) (threads : List ThreadInfo) (queue : List ℕ) (len : ℕ) : Type 0 where
  pub within : n ≤ length threads
  pub few : n ≤ 4294967296
  pub room : len + length (waiters on 0 (threads_in threads n)) ≤ length queue

-- what the definition's `wake` does to the records (proofs/Waking): each thread of the list is ready
unfoldable pub woken_threads : List ℕ → List ThreadRecord → List ThreadRecord
woken_threads [] ts = ts
woken_threads (t ∷ w) ts = woken_threads w (Phases.update t (set_state Ready) ts)

-- the waiters are ready, and stand at the queue's back
pub record Woken (n on : ℕ) (before after : List ThreadInfo) (len : ℕ) (queue : List ℕ) (len' : ℕ) (queue' : List ℕ) : Type 0 where
  pub threads : Front n (woken_threads (waiters on 0 (threads_in before n)) (threads_in before n)) before after
  pub queued : Pushed (waiters on 0 (threads_in before n)) len queue len' queue'
