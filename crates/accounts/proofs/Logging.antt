-- The log, one move or one wake further; and that the definition's log is what these functions leave.
-- Assumes nothing.
use Prim.Native.Nat.{ℕ, ◌+◌, ◌/◌, ◌<◌}
use mathlib.Core.Path.{◌≡◌, refl, sym, ◌∙◌}
use mathlib.Core.List.{List, [], ◌∷◌, ◌++◌}
use native.Mathlib.Numerals.{add-one}
use lib.ListN.{length, take, get_or}
use lib.Seq.{take-suc}
use Rattle.model.specs.Types.{Move, Event}
use Rattle.queue.specs.Words.{decode, moves_in}
use Rattle.accounts.specs.Log.{log_move, moved_log, log_wake, woken_log}
use Rattle.accounts.proofs.Counting.{moves_next}

---- moves

moved-append : (e now : ℕ) (ms : List Move) (m : Move) (l : List Event) → moved_log e now (ms ++ (m ∷ [])) l ≡ log_move e now m (moved_log e now ms l)
unfolding moved_log
moved-append e now [] m l = refl
moved-append e now (x ∷ ms) m l = moved-append e now ms m (log_move e now x l)

pub moved_none : (e now : ℕ) (out : List ℕ) (l : List Event) → l ≡ moved_log e now (moves_in out 0) l
unfolding moved_log moves_in
moved_none e now out l = refl

-- of a ring of `words` words
pub moved-next :
    (words words' now : ℕ) (out : List ℕ) (k : ℕ) (m : Move) (l l' l'' : List Event) → k < length out → words' ≡ words → m ≡ decode (get_or out k 0) → l' ≡ moved_log (words / 2) now (moves_in out k) l
    → l'' ≡ log_move (words' / 2) now m l' → l'' ≡ moved_log (words / 2) now (moves_in out (k + 1)) l
moved-next words words' now out k m l l' l'' h w e a b = b ∙ rw (w, e, a, moves_next out k h) (sym (moved-append (words / 2) now (moves_in out k) (decode (get_or out k 0)) l))

---- wakes

woken-append : (e now : ℕ) (ts : List ℕ) (t : ℕ) (l : List Event) → woken_log e now (ts ++ (t ∷ [])) l ≡ log_wake e now t (woken_log e now ts l)
unfolding woken_log
woken-append e now [] t l = refl
woken-append e now (x ∷ ts) t l = woken-append e now ts t (log_wake e now x l)

pub woken_none : (e now : ℕ) (l : List Event) → l ≡ woken_log e now [] l
unfolding woken_log
woken_none e now l = refl

-- one thread further
pub woken-next :
    (words words' now : ℕ) (ts : List ℕ) (k : ℕ) (l l' l'' : List Event) → k < length ts → words' ≡ words → l' ≡ woken_log (words / 2) now (take k ts) l
    → l'' ≡ log_wake (words' / 2) now (get_or ts k 0) l' → l'' ≡ woken_log (words / 2) now (take (k + 1) ts) l
woken-next words words' now ts k l l' l'' h w a b = b ∙ rw (w, a, add-one, take-suc ts k 0 h) (sym (woken-append (words / 2) now (take k ts) (get_or ts k 0) l))
