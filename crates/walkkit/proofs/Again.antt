-- A `&κ mut [T]` is lent again to a callee, as a `&mut [T]` or as a `&[T]`, for a lifetime that is made for the call, and comes back: steps of `Types/Kit.antt`'s calculus..
-- m is the count in the reference's machine value. It is the length of each list that the reference holds, so that the machine value stays as it was while the list changes.
--     relends      own (the `&κ mut [T]` γ at ys) ∗ [κ]_q  →  for some ν and δ: [ν] ∗ own (the `&ν mut [T]` δ at ys) ∗ LentAgain δ ys
--     regains      [ν] ∗ LentAgain δ ys ∗ finally δ zs  →  own (the `&κ mut [T]` γ at zs) ∗ [κ]_q
--     reshares     own (the `&κ mut [T]` γ at ys) ∗ [κ]_q  →  for some ν: [ν] ∗ own (the `&ν [T]` at ys) ∗ SharedAgain ys, given that T is shared out with no token but ν's (`Shares` at no lifetime), as plain data is
--     unshares     [ν] ∗ SharedAgain ys  →  own (the `&κ mut [T]` γ at ys) ∗ [κ]_q
-- Assumes `Logic`.
use mathlib.Core.Path.{◌≡◌, refl, sym, ap, subst, ◌∙◌}
use Prim.Native.Nat.{ℕ}
use mathlib.Core.List.{List, [], ◌∷◌, not-mem-nil}
use lib.ListN.{length}
use seplogic.Ra.Ura.{Ura}
use base.Fraction.{full_share}
use mir.Syntax.{Lifetime}
use mir.Val.{Val}
use base.Logic.{ent, sep, ex}
use base.Fml.{Lft, GName, Share, Fml, Incl-refl, fsep, flft, fdead, fobs, fauth, flent, fobor}
use types.Logic.{Logic, sem}
use types.Kit.{Item, Goal, Soaks, Seq, Step, step, ‵, ◌⊛◌, some, later, ◌$◌, ◌∵◌, !, qed, move, use1, use2, use3, drop, split, pick, rewrite, fsplit, fjoin, feq_i, frame, await, updating, now as at_once, show, done}
use types.Tokens.{lft_new, lft_end, lent_back}
use types.SemTy.{cells, Arr}
use types.Share.{arr_parts}
use denote.RattleType.{RattleType}
use denote.Shadow.{pure_l, pure_i}
use denote.Memory.{mem, shares}
use denote.Ref.{Bor, MutBor}
use denote.Shares.{Shares}
use denote.Slice.{slice_val, MutSlice, ShrSlice, heres, Room, finally, mut_slice_at, coded_holeys}
use denote.Lend.{Held, lends_slice, slice_back, lends_shr_slice}
use denote.Index.{row, whole_out, whole_in, opens_slice, closes_slice}

module _ (R : RattleType) (b o : ℕ) where
  -- the reference to the elements at (b, o), under the name δ, at the list ys
  abbrev pub at-list : GName → List R.Denot → MutBor (List R.Denot)
  at-list δ ys = record { ref_ptr = (b, o); ghost_name = δ; now = ys }

  -- the same of a `&`, which has no name
  abbrev pub seen-list : List R.Denot → Bor (List R.Denot)
  seen-list ys = record { ref_ptr = (b, o); now = ys }

module _ (R : RattleType) (κ κ' : Lft) (q : Share) (γ : GName) (b o : ℕ) where
  -- what the holder keeps while the slice is lent again under the name δ: the lender's part at κ', and its own borrow at κ, open, with both halves of its ghost variable
  abbrev pub LentAgain : GName → List R.Denot → Fml
  LentAgain δ ys = fsep (flent κ' (Held R (length ys) b o δ)) (fsep (fobor κ q (Held R (length ys) b o γ)) (fsep (fobs γ ((coded_holeys R).code (heres R ys))) (fauth γ ((coded_holeys R).code (heres R ys)))))

  abbrev pub SharedAgain : List R.Denot → Fml
  SharedAgain ys = fsep (flent κ' ((arr_parts (shares R) (length ys)).part full_share ys b o)) (fsep (fobor κ q (Held R (length ys) b o γ)) (fsep (fobs γ ((coded_holeys R).code (heres R ys))) (fauth γ ((coded_holeys R).code (heres R ys)))))

  module _ {M : Type 1} {𝓤 : Ura M} (𝓛 : Logic 𝓤) (ℓ ℓ' : Lifetime) (m : ℕ) where
    open 𝓛 use {H, A}

    abbrev vals : List Val
    vals = slice_val (b, o) m ∷ []

    count : (ys : List R.Denot) → m ≡ length ys → vals ≡ slice_val (b, o) (length ys) ∷ []
    count ys e = ap (λ (k : ℕ). slice_val (b, o) k ∷ []) e

    lends : (ys : List R.Denot) → m ≡ length ys → ent 𝓤 (sep 𝓤 (sem 𝓛 ((MutSlice ℓ κ R).own_val (at-list R b o γ ys) vals)) (A.lft κ q))
        (H.⇛ (ex 𝓤 (λ (δ : GName). sep 𝓤 (sem 𝓛 ((MutSlice ℓ' κ' R).own_val (at-list R b o δ ys) vals)) (sem 𝓛 (LentAgain δ ys)))))
    lends ys e =
        qed 𝓛 (‵ ((MutSlice ℓ κ R).own_val (at-list R b o γ ys) vals) ∷ ‵ (flft κ q) ∷ []) ∵ updating ! $ fsplit ! $ pure_l ! (mut_slice_at R (at-list R b o γ ys) vals) (λ p. fsplit ! $ opens_slice ! tt R ys b o $
        use1 𝓛 (‵ (cells (mem R) ys b o)) (whole_in 𝓛 R ys b o) $
        use1 𝓛 (later (some (λ (δ : GName). ‵ ((MutSlice ℓ' κ' R).own_val (at-list R b o δ ys) (slice_val (b, o) (length ys) ∷ [])) ⊛ ‵ (flent κ' (Held R (length ys) b o δ))))) (lends_slice 𝓛 R ℓ' κ' ys b o p.1) $ await ! tt $ pick ! (λ δ. split ! $
        rewrite ! 0 (λ (vs : List Val). ‵ ((MutSlice ℓ' κ' R).own_val (at-list R b o δ ys) vs)) (sym (count ys e)) refl $
        at_once ! $ show ! (λ (δ' : GName). sep 𝓤 (sem 𝓛 ((MutSlice ℓ' κ' R).own_val (at-list R b o δ' ys) vals)) (sem 𝓛 (LentAgain δ' ys))) δ $ frame ! $
        move ! (2 ∷ 3 ∷ []) $ fjoin ! $ move ! (2 ∷ 0 ∷ []) $ fjoin ! $ move ! (1 ∷ 0 ∷ []) $ fjoin ! $ done !))

    back : (δ : GName) (ys zs : List R.Denot) → m ≡ length ys → Room R (length ys) → length zs ≡ length ys
        → ent 𝓤 (sep 𝓤 (A.dead κ') (sep 𝓤 (sem 𝓛 (LentAgain δ ys)) (sem 𝓛 (finally R δ zs)))) (H.⇛ (sep 𝓤 (sem 𝓛 ((MutSlice ℓ κ R).own_val (at-list R b o γ zs) vals)) (A.lft κ q)))
    back δ ys zs e room l =
        qed 𝓛 (‵ (fdead κ') ∷ ‵ (LentAgain δ ys) ∷ ‵ (finally R δ zs) ∷ []) ∵ updating ! $ move ! (1 ∷ []) $ fsplit ! $ move ! (2 ∷ 0 ∷ 3 ∷ []) $
        use3 𝓛 (later (‵ ((Arr (mem R) (length ys)).own_at zs b o))) (slice_back 𝓛 R κ' δ zs (length ys) b o) $ await ! tt $ fsplit ! $ drop ! $ use1 𝓛 (‵ (row R full_share zs b o)) (whole_out 𝓛 R zs b o) $
        move ! (1 ∷ []) $ fsplit ! $ move ! (1 ∷ []) $ fsplit ! $ move ! (3 ∷ 2 ∷ 0 ∷ 1 ∷ []) $ closes_slice ! tt R ys zs l b o $ at_once ! $
        fjoin ! $ pure_i ! (mut_slice_at R (at-list R b o γ zs) vals) (tt, (tt, tt)) (count zs (e ∙ sym l), subst (Room R) (sym l) room) $ fjoin ! $ done !

    share-out : (ys : List R.Denot) → m ≡ length ys → Shares 𝓛 R [] → ent 𝓤 (sep 𝓤 (sem 𝓛 ((MutSlice ℓ κ R).own_val (at-list R b o γ ys) vals)) (sep 𝓤 (A.lft κ q) (A.lft κ' full_share)))
        (H.⇛ (sep 𝓤 (A.lft κ' full_share) (sep 𝓤 (sem 𝓛 ((ShrSlice ℓ' κ' R).own_val (seen-list R b o ys) vals)) (sem 𝓛 (SharedAgain ys)))))
    share-out ys e sh =
        qed 𝓛 (‵ ((MutSlice ℓ κ R).own_val (at-list R b o γ ys) vals) ∷ ‵ (flft κ q) ∷ ‵ (flft κ' full_share) ∷ []) ∵ updating ! $ fsplit ! $ pure_l ! (mut_slice_at R (at-list R b o γ ys) vals) (λ p. fsplit ! $ opens_slice ! tt R ys b o $
        feq_i ! ℕ (length ys) (length ys) refl $ fjoin ! $ move ! (0 ∷ 4 ∷ []) $
        use2 𝓛 (later ((‵ ((ShrSlice ℓ' κ' R).own_val (seen-list R b o ys) (slice_val (b, o) (length ys) ∷ [])) ⊛ ‵ (flent κ' ((arr_parts (shares R) (length ys)).part full_share ys b o))) ⊛ ‵ (flft κ' full_share)))
        (lends_shr_slice 𝓛 R ℓ' κ' full_share ys b o p.1 [] sh ((κ', full_share) ∷ []) (λ a z. absurd (not-mem-nil z)) (Incl-refl κ')) $ await ! tt $ split ! $ split ! $
        rewrite ! 0 (λ (vs : List Val). ‵ ((ShrSlice ℓ' κ' R).own_val (seen-list R b o ys) vs)) (sym (count ys e)) refl $
        -- [the slice lent; the lender's part; the token; the open borrow; obs; auth]
        at_once ! $ move ! (2 ∷ 0 ∷ []) $ frame ! $ frame ! $
        move ! (2 ∷ 3 ∷ []) $ fjoin ! $ move ! (2 ∷ 0 ∷ []) $ fjoin ! $ move ! (1 ∷ 0 ∷ []) $ fjoin ! $ done !)

    share_in : (ys : List R.Denot) → m ≡ length ys → Room R (length ys) → ent 𝓤 (sep 𝓤 (A.dead κ') (sem 𝓛 (SharedAgain ys))) (H.⇛ (sep 𝓤 (sem 𝓛 ((MutSlice ℓ κ R).own_val (at-list R b o γ ys) vals)) (A.lft κ q)))
    share_in ys e room =
        qed 𝓛 (‵ (fdead κ') ∷ ‵ (SharedAgain ys) ∷ []) ∵ updating ! $ move ! (1 ∷ []) $ fsplit ! $ move ! (2 ∷ 0 ∷ []) $ lent_back ! tt $ fsplit ! $ drop ! $
        move ! (1 ∷ []) $ fsplit ! $ move ! (1 ∷ []) $ fsplit ! $ move ! (3 ∷ 2 ∷ 0 ∷ 1 ∷ []) $ closes_slice ! tt R ys ys refl b o $ at_once ! $
        fjoin ! $ pure_i ! (mut_slice_at R (at-list R b o γ ys) vals) (tt, (tt, tt)) (count ys e, room) $ fjoin ! $ done !

-- ---- as steps
module _ {M : Type 1} {𝓤 : Ura M} {𝓛 : Logic 𝓤} {K : Type 0} {Γ : List (Item 𝓤)} {G : Goal 𝓤 𝓛.H} where
  pub relends : K → Soaks G → (R : RattleType) (ℓ ℓ' : Lifetime) (κ : Lft) (q : Share) (γ : GName) (b o m : ℕ) (ys : List R.Denot) → m ≡ length ys
      → ((ν : ℕ) (δ : GName) → Seq K 𝓛 (‵ (flft (ν ∷ []) full_share) ∷ ‵ ((MutSlice ℓ' (ν ∷ []) R).own_val (at-list R b o δ ys) (slice_val (b, o) m ∷ [])) ∷ ‵ (LentAgain R κ (ν ∷ []) q γ b o δ ys) ∷ Γ) G)
      → Seq K 𝓛 (‵ ((MutSlice ℓ κ R).own_val (at-list R b o γ ys) (slice_val (b, o) m ∷ [])) ∷ ‵ (flft κ q) ∷ Γ) G
  relends t z R ℓ ℓ' κ q γ b o m ys e k = lft_new t z (λ ν. move t (1 ∷ 2 ∷ []) $
      use2 𝓛 (later (some (λ (δ : GName). ‵ ((MutSlice ℓ' (ν ∷ []) R).own_val (at-list R b o δ ys) (slice_val (b, o) m ∷ [])) ⊛ ‵ (LentAgain R κ (ν ∷ []) q γ b o δ ys)))) (lends R κ (ν ∷ []) q γ b o 𝓛 ℓ ℓ' m ys e) $
      await t z $ pick t (λ δ. split t $ move t (2 ∷ 0 ∷ []) $ k ν δ))

  pub regains : K → Soaks G → (R : RattleType) (ℓ : Lifetime) (κ : Lft) (q : Share) (γ : GName) (b o m : ℕ) (ν : ℕ) (δ : GName) (ys zs : List R.Denot) → m ≡ length ys → Room R (length ys) → length zs ≡ length ys
      → Step K 𝓛 (‵ ((MutSlice ℓ κ R).own_val (at-list R b o γ zs) (slice_val (b, o) m ∷ [])) ∷ ‵ (flft κ q) ∷ Γ) G (‵ (flft (ν ∷ []) full_share) ∷ ‵ (LentAgain R κ (ν ∷ []) q γ b o δ ys) ∷ ‵ (finally R δ zs) ∷ Γ) G
  regains t z R ℓ κ q γ b o m ν δ ys zs e room l = step (λ s. lft_end t z $
      use3 𝓛 (later (‵ ((MutSlice ℓ κ R).own_val (at-list R b o γ zs) (slice_val (b, o) m ∷ [])) ⊛ ‵ (flft κ q))) (back R κ (ν ∷ []) q γ b o 𝓛 ℓ ℓ m δ ys zs e room l) $ await t z $ split t $ s)

  pub reshares : K → Soaks G → (R : RattleType) → Shares 𝓛 R [] → (ℓ ℓ' : Lifetime) (κ : Lft) (q : Share) (γ : GName) (b o m : ℕ) (ys : List R.Denot) → m ≡ length ys
      → ((ν : ℕ) → Seq K 𝓛 (‵ (flft (ν ∷ []) full_share) ∷ ‵ ((ShrSlice ℓ' (ν ∷ []) R).own_val (seen-list R b o ys) (slice_val (b, o) m ∷ [])) ∷ ‵ (SharedAgain R κ (ν ∷ []) q γ b o ys) ∷ Γ) G)
      → Seq K 𝓛 (‵ ((MutSlice ℓ κ R).own_val (at-list R b o γ ys) (slice_val (b, o) m ∷ [])) ∷ ‵ (flft κ q) ∷ Γ) G
  reshares t z R sh ℓ ℓ' κ q γ b o m ys e k = lft_new t z (λ ν. move t (1 ∷ 2 ∷ 0 ∷ []) $
      use3 𝓛 (later (‵ (flft (ν ∷ []) full_share) ⊛ (‵ ((ShrSlice ℓ' (ν ∷ []) R).own_val (seen-list R b o ys) (slice_val (b, o) m ∷ [])) ⊛ ‵ (SharedAgain R κ (ν ∷ []) q γ b o ys)))) (share-out R κ (ν ∷ []) q γ b o 𝓛 ℓ ℓ' m ys e sh) $
      await t z $ split t $ move t (1 ∷ []) $ split t $ move t (2 ∷ 0 ∷ 1 ∷ []) $ k ν)

  pub unshares : K → Soaks G → (R : RattleType) (ℓ : Lifetime) (κ : Lft) (q : Share) (γ : GName) (b o m : ℕ) (ν : ℕ) (ys : List R.Denot) → m ≡ length ys → Room R (length ys)
      → Step K 𝓛 (‵ ((MutSlice ℓ κ R).own_val (at-list R b o γ ys) (slice_val (b, o) m ∷ [])) ∷ ‵ (flft κ q) ∷ Γ) G (‵ (flft (ν ∷ []) full_share) ∷ ‵ (SharedAgain R κ (ν ∷ []) q γ b o ys) ∷ Γ) G
  unshares t z R ℓ κ q γ b o m ν ys e room = step (λ s. lft_end t z $
      use2 𝓛 (later (‵ ((MutSlice ℓ κ R).own_val (at-list R b o γ ys) (slice_val (b, o) m ∷ [])) ⊛ ‵ (flft κ q))) (share_in R κ (ν ∷ []) q γ b o 𝓛 ℓ ℓ m ys e room) $ await t z $ split t $ s)
