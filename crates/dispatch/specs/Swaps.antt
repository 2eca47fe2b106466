-- What a core's change of threads does.
use Rattle.std.specs.Prelude.{ℕ, ◌≡◌, Bool, true, false, cond, List, [], ◌∷◌, ◌++◌, get_or, set}
use Rattle.model.specs.Types.{CoreState, LeaveReason, Exit, Block, Yield, Quantum, Preempt, Forced, Move, leaves}
use Rattle.model.specs.Phases.{dispatched_state, dispatch_moves}
use Rattle.queue.specs.Ready.{remove_at}

-- 01: "Quantum, preempt and forced leaves count as preemptions and go to the back; so does yield, uncounted."
abbrev pub goes_back : LeaveReason → Bool
goes_back Exit = false
goes_back Block = false
goes_back Yield = true
goes_back Quantum = true
goes_back Preempt = true
goes_back Forced = true

abbrev pub requeued : LeaveReason → ℕ → List ℕ
requeued r t = cond (goes_back r) (t ∷ []) []

-- thread t leaves core i for the back of the queue, and the thread at place k there takes it
pub record Swapped (t : ℕ) (reason : LeaveReason) (i k cost : ℕ) (pr pr' : List Bool) (q q' : List ℕ) (m m' : List Move) (x : CoreState) : Type 0 where
  pub state : x ≡ dispatched_state cost (get_or q k 0)
  pub mark : pr' ≡ set pr i false
  pub queue : q' ≡ remove_at k q ++ (t ∷ [])
  pub moves : m' ≡ m ++ (leaves t i reason ∷ dispatch_moves cost (get_or q k 0) i)
