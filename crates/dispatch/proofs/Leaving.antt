-- What a thread's dispatch writes, put together.
-- Assumes nothing.
use Prim.Native.Nat.{ℕ, zero, suc}
use mathlib.Core.Path.{◌≡◌, refl}
use mathlib.Core.List.{List, [], ◌∷◌, ◌++◌, append_assoc}
use Rattle.model.specs.Types.{Switching, Running, Move, starts, takes}
use Rattle.model.specs.Phases.{dispatched_state, dispatch_moves}

pub two : (m m' m'' : List Move) (a b : Move) → m' ≡ m ++ (a ∷ []) → m'' ≡ m' ++ (b ∷ []) → m'' ≡ m ++ (a ∷ b ∷ [])
two m m' m'' a b e f = rw (f, e) (append_assoc m (a ∷ []) (b ∷ []))

pub free : (cost t i : ℕ) → cost ≡ 0 → (Running t 0 ≡ dispatched_state cost t) × ((takes t i ∷ starts t ∷ []) ≡ dispatch_moves cost t i)
unfolding dispatched_state dispatch_moves
free cost t i e = rw e (refl, refl)

pub dear : (cost t i : ℕ) → (cost ≡ 0 → ⊥) → (Switching t cost ≡ dispatched_state cost t) × ((takes t i ∷ []) ≡ dispatch_moves cost t i)
unfolding dispatched_state dispatch_moves
dear zero t i n = absurd (n refl)
dear (suc w) t i n = (refl, refl)
