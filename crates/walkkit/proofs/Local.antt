-- A local is lent by `&mut` for a lifetime κ of a call, and comes back: `Denote/Lend.antt`'s `lends_ref` and `ref_back`, between the local's own cell and what a reference borrows..
--     lends_local      the local at (b, 0) holds h's machine value ∗ what h owns  ⊢ ⇛ ∃ γ. own (the `&κ mut T` ((b, 0), γ, h)) ∗ the lender's part
--     local_back       [†κ] ∗ the lender's part ∗ res γ y  ⊢ ⇛ (the local at (b, 0) holds y's machine value ∗ what y owns)
--     lies_in, lies_out        a local's cell with what it owns is what lies in memory, and back
--     array-in         a local array's cell with what it owns is its elements side by side (`Denote/Index.antt`'s `row`), so that `elem_out`, `elem_put` and `elem_back` read and write it by the element;        array-out      and back, where there are n of them
-- Assumes `Logic`.
use Prim.Native.Nat.{ℕ}
use mathlib.Core.Path.{◌≡◌, refl}
use mathlib.Core.List.{List, [], ◌∷◌}
use lib.ListN.{length}
use seplogic.Ra.Ura.{Ura}
use base.Fraction.{full_share}
use mir.Syntax.{Lifetime, Ty, ty_array}
use mir.Val.{Val}
use base.Logic.{ent, sep, ex, via, never_e}
use base.Fml.{Lft, GName, feq, fsep, fat, fdead, fres, flent}
use types.Logic.{Logic, sem}
use types.Kit.{‵, later, ◌$◌, ◌∵◌, !, qed, by, move, drop, use1, use2, use3, feq_i, rewrite, fsplit, fjoin, fpick, fpack, await, updating, now as at_once, done}
use types.SemTy.{Body}
use denote.RattleType.{RattleType}
use denote.Laws.{Is, Tells, shows}
use denote.Memory.{mem, cell_at, lone, part_of, part_at}
use denote.ArrayMemory.{Single, Array-apart, Array-whole}
use denote.Array.{Array, array_vals, Array-Tells}
use denote.Index.{row}
use denote.Lend.{LentRef, lends_ref, ref_back}
use denote.Steps.{only, peeks}

module _ {M : Type 1} {𝓤 : Ura M} (𝓛 : Logic 𝓤) where
  open 𝓛 use {H, A}

  cell_in : (τs : List Ty) → Single τs → (u : Val) (b o : ℕ) → ent 𝓤 (H.at full_share (lone τs) b o u) (sem 𝓛 (cell_at full_share τs (u ∷ []) b o))
  cell_in [] s u b o = absurd s
  cell_in (τ ∷ []) s u b o = 𝓛.laws.at_raw full_share τ b o u
  cell_in (τ ∷ σ ∷ τs) s u b o = absurd s

  cell_out : (τs : List Ty) → (u : Val) (b o : ℕ) → ent 𝓤 (sem 𝓛 (cell_at full_share τs (u ∷ []) b o)) (H.at full_share (lone τs) b o u)
  cell_out [] u b o = never_e 𝓤 _
  cell_out (τ ∷ []) u b o = 𝓛.laws.raw_at full_share τ b o u
  cell_out (τ ∷ σ ∷ τs) u b o = never_e 𝓤 _

  module _ (R : RattleType) (val : R.Denot → Val) (tells : Tells R (Is R) (λ d. val d ∷ [])) (single : Single R.mir) where
    pub lies_in : (h : R.Denot) (v : Val) (b o : ℕ) → ent 𝓤 (sep 𝓤 (H.at full_share (lone R.mir) b o v) (sem 𝓛 (R.own_val h (v ∷ [])))) (sem 𝓛 (part_at R full_share h b o))
    unfolding part_of
    lies_in h v b o =
        qed 𝓛 (‵ (fat full_share (lone R.mir) b o v) ∷ ‵ (R.own_val h (v ∷ [])) ∷ []) ∵ use1 𝓛 (‵ (cell_at full_share R.mir (v ∷ []) b o)) (cell_in R.mir single v b o) $ fjoin ! $
        fpack ! (List Val) (λ us. fsep (cell_at full_share R.mir us b o) (R.own_val h us)) (v ∷ []) $ done !

    pub lies_out : (h : R.Denot) (b o : ℕ) → ent 𝓤 (sem 𝓛 (part_at R full_share h b o)) (sep 𝓤 (H.at full_share (lone R.mir) b o (val h)) (sem 𝓛 (R.own_val h (val h ∷ []))))
    unfolding part_of
    lies_out h b o =
        qed 𝓛 (‵ (part_at R full_share h b o) ∷ []) ∵ fpick ! (λ vs. fsplit ! $ move ! (1 ∷ []) $ peeks ! R (Is R) (shows 𝓛 R) h vs (λ p.
        rewrite ! 0 (λ (us : List Val). ‵ (R.own_val h us)) (tells h vs p) refl $ rewrite ! 1 (λ (us : List Val). ‵ (cell_at full_share R.mir us b o)) (tells h vs p) refl $ move ! (1 ∷ 0 ∷ []) $
        use1 𝓛 (‵ (fat full_share (lone R.mir) b o (val h))) (cell_out R.mir (val h) b o) $ done !))

    pub lends_local : (ℓ : Lifetime) (κ : Lft) (h : R.Denot) (b : ℕ)
        → ent 𝓤 (sep 𝓤 (H.at full_share (lone R.mir) b 0 (val h)) (sem 𝓛 (R.own_val h (val h ∷ [])))) (H.⇛ (ex 𝓤 (LentRef 𝓛 R ℓ κ h b 0)))
    lends_local ℓ κ h b = via 𝓤 _ (lies_in h (val h) b 0) (lends_ref 𝓛 R ℓ κ h b 0)

    pub local_back : (κ : Lft) (γ : GName) (y : R.Denot) (b : ℕ)
        → ent 𝓤 (sep 𝓤 (A.dead κ) (sep 𝓤 (A.lent κ (Body (mem R) b 0 γ)) (A.res γ (R.coded.code y)))) (H.⇛ (sep 𝓤 (H.at full_share (lone R.mir) b 0 (val y)) (sem 𝓛 (R.own_val y (val y ∷ [])))))
    local_back κ γ y b =
        qed 𝓛 (‵ (fdead κ) ∷ ‵ (flent κ (Body (mem R) b 0 γ)) ∷ ‵ (fres γ (R.coded.code y)) ∷ []) ∵ updating ! $ use3 𝓛 (later (‵ (part_at R full_share y b 0))) (ref_back 𝓛 R κ γ y b 0) $ await ! tt $ at_once ! $ by ! (lies_out y b 0)

  -- ---- a local array, of an element type R
  module _ (R : RattleType) (vals : R.Denot → List Val) (tells : Tells R (Is R) vals) (single : Single R.mir) (n : ℕ) where
    pub array-in : (xs : List R.Denot) (v : Val) (b : ℕ) → ent 𝓤 (sep 𝓤 (H.at full_share (ty_array (lone R.mir) n) b 0 v) (sem 𝓛 ((Array R n).own_val xs (v ∷ [])))) (sem 𝓛 (row R full_share xs b 0))
    array-in xs v b =
        qed 𝓛 (‵ (fat full_share (ty_array (lone R.mir) n) b 0 v) ∷ ‵ ((Array R n).own_val xs (v ∷ [])) ∷ []) ∵
        use2 𝓛 (‵ (part_at (Array R n) full_share xs b 0)) (lies_in (Array R n) (λ ys. only (array_vals vals ys)) (Array-Tells R vals tells n) tt xs v b 0) $
        use1 𝓛 (‵ (fsep (feq ℕ (length xs) n) (row R full_share xs b 0))) (Array-apart 𝓛 R full_share single n xs b 0) $ fsplit ! $ drop ! $ done !

    pub array-out : (xs : List R.Denot) (b : ℕ) → length xs ≡ n
        → ent 𝓤 (sem 𝓛 (row R full_share xs b 0)) (sep 𝓤 (H.at full_share (ty_array (lone R.mir) n) b 0 (only (array_vals vals xs))) (sem 𝓛 ((Array R n).own_val xs (array_vals vals xs))))
    array-out xs b e =
        qed 𝓛 (‵ (row R full_share xs b 0) ∷ []) ∵ feq_i ! ℕ (length xs) n e $ fjoin ! $
        use1 𝓛 (‵ (part_at (Array R n) full_share xs b 0)) (Array-whole 𝓛 R full_share n xs b 0) $ by ! (lies_out (Array R n) (λ ys. only (array_vals vals ys)) (Array-Tells R vals tells n) tt xs b 0)
