-- A list of calls as a list of words, three a call: kind, first, second.
use Rattle.std.specs.Prelude.{ℕ, ◌+◌, ◌*◌, cond, List, [], ◌∷◌, eqb, get_or}
use Rattle.std.proofs.Math.Option.{none, some}
use Rattle.model.specs.Calls.{Call, spawn, exit, join, retired, yield, priority, timing, force, tick, close}

-- Every three words are a call: 9, and each kind that is not named, is a tick end.
unfoldable pub call_of : (kind first second : ℕ) → Call
call_of kind a b =
    cond (eqb kind 1) (spawn (some a) b)
    (cond (eqb kind 2) (exit a)
    (cond (eqb kind 3) (join a b)
    (cond (eqb kind 4) (retired a)
    (cond (eqb kind 5) (yield a)
    (cond (eqb kind 6) (priority a b)
    (cond (eqb kind 7) (timing a b)
    (cond (eqb kind 8) (force a (some b))
    (cond (eqb kind 10) (close a)
    (cond (eqb kind 11) (spawn none b)
    (cond (eqb kind 12) (force a none)
    tick))))))))))

-- One or two words left over at the end are no call.
unfoldable pub calls_of : (words : List ℕ) → List Call
calls_of [] = []
calls_of (k ∷ []) = []
calls_of (k ∷ (a ∷ [])) = []
calls_of (k ∷ (a ∷ (b ∷ ws))) = call_of k a b ∷ calls_of ws

-- the call at place i
unfoldable pub call_at : (words : List ℕ) (i : ℕ) → Call
call_at ws i = call_of (get_or ws (3 * i) 0) (get_or ws (3 * i + 1) 0) (get_or ws (3 * i + 2) 0)

-- Each list of calls is some list of words: `every-list` in proofs/Encoded.antt.
unfoldable pub words_of : List Call → List ℕ
words_of [] = []
words_of (spawn (some p) e ∷ cs) = 1 ∷ (p ∷ (e ∷ words_of cs))
words_of (exit i ∷ cs) = 2 ∷ (i ∷ (0 ∷ words_of cs))
words_of (join i t ∷ cs) = 3 ∷ (i ∷ (t ∷ words_of cs))
words_of (retired i ∷ cs) = 4 ∷ (i ∷ (0 ∷ words_of cs))
words_of (yield i ∷ cs) = 5 ∷ (i ∷ (0 ∷ words_of cs))
words_of (priority t n ∷ cs) = 6 ∷ (t ∷ (n ∷ words_of cs))
words_of (timing q w ∷ cs) = 7 ∷ (q ∷ (w ∷ words_of cs))
words_of (force i (some t) ∷ cs) = 8 ∷ (i ∷ (t ∷ words_of cs))
words_of (tick ∷ cs) = 9 ∷ (0 ∷ (0 ∷ words_of cs))
words_of (close i ∷ cs) = 10 ∷ (i ∷ (0 ∷ words_of cs))
words_of (spawn none e ∷ cs) = 11 ∷ (0 ∷ (e ∷ words_of cs))
words_of (force i none ∷ cs) = 12 ∷ (i ∷ (0 ∷ words_of cs))
