-- A call in a walk, derived: what a caller that holds references has of a callee, with the loans made and ended inside a lemma that knows nothing of the caller's context..
--     Gives X Φ k w        once the callee has returned w: for some x with Φ w x, k.
--     calls_by             the call rule for such a lemma: the head of the context gives the call, and the caller goes on with k in its place
--     call-value           the lemma for a callee whose parameters are plain data: it is handed nothing. Of what it returned there is the fact that its `ensures` states, and that it is of the result's type
--     tells-slice          what a callee leaves whose first parameter is a `&mut [T]`, and whose `ensures` gives its last list: the token and the list, and of the result as before
--     call-lent            the lemma for a callee that takes a `&mut [T]`: it is lent again for the call, and comes back at the list that the callee says
--     tells-ref            the same for a first parameter that is a `&mut T`
--     call-local           the lemma for a callee that takes a `&mut T`, of a caller that has a T in a local: the local is lent for the call, and is the caller's again, at the value that the callee says
--     free-cell, free-room a local is freed where it stands in the context, with what it holds or with nothing
-- Assumes `Logic`, and that the table of calls is monotone under a frame.
use mathlib.Core.Path.{◌≡◌, refl, subst}
use Prim.Native.Nat.{ℕ, zero}
use mathlib.Core.List.{List, [], ◌∷◌}
use lib.ListN.{length}
use seplogic.Ra.Ura.{Ura}
use base.Fraction.{full_share}
use mir.Syntax.{Callee, Ty, Lifetime, Opd as Operand, Place, Body, seq, call}
use mir.Val.{Val, vptr}
use base.Logic
use base.Logic.{SProp, ent, sep, guard, emp, via, mono_l, mono_r}
use base.Fml.{Lft, GName, Share, Fml, feq, fsep, ftrue, fat, froom, fdies, flft, fbor, flent, fres}
use prog.Wp.{Env, Calls, Loops}
use types.Logic.{Logic}
use contract.Monad.{fact}
use sound.WpLaws.{FmC}
use types.Kit.{Item, Post, Goal, Seq, Step, step, ‵, raw, some, later, given, ◌⊛◌, mean, ⋆, nth, del, pull, runs, lands, frees, ◌$◌, ◌∵◌, !, qed, by, move, keep, drop, use1, use2, use3, split, join, pick, learn, rewrite, fsplit, await, updating, now as at_once, show, check, done}
use types.Run.{Opds, calls}
use types.Tokens.{lft_new, lft_end}
use types.SemTy.{Body as MemBody}
use denote.RattleType.{RattleType}
use denote.Laws.{Is, Tells, shows}
use denote.Memory.{mem, lone}
use denote.ArrayMemory.{Single}
use denote.Steps.{peeks, heard, nothing}
use denote.Ref.{MutRef}
use denote.Slice.{slice_val, MutSlice, Room, finally}
use denote.Lend.{Held}
use denote.Triple.Statement.{Contract, Triple}
use Rattle.walkkit.proofs.Local.{lends_local, local_back}
use Rattle.walkkit.proofs.Again.{at-list, LentAgain, relends, regains}

abbrev pub Gives : {M : Type 1} (𝓤 : Ura M) (X : Type 0) → (Val → X → Type 0) → Item 𝓤 → Val → Item 𝓤
Gives 𝓤 X Φ k w = later (some (λ (x : X). given (Φ w x) k))

module _ {M : Type 1} {𝓤 : Ura M} {𝓛 : Logic 𝓤} {K : Type 0} {Γ : List (Item 𝓤)} where
  open 𝓛 use {H}

  pub calls_by : K → {E : Env 𝓤 H} {C : Calls 𝓤 H} {Λ : Loops 𝓤 H} {q : Post 𝓤 H} {f : Callee} {xs : List Operand} {d : Place} {rest : Body} → FmC 𝓤 H 𝓛.laws C → (X : Type 0) (Φ : Val → X → Type 0) (i k : Item 𝓤) (vs : List Val)
      → ent 𝓤 (mean 𝓛 i) (H.⇛ (C f vs (λ w. mean 𝓛 (Gives 𝓤 X Φ k w)))) → Opds K 𝓛 (raw (C f vs (λ w. mean 𝓛 (Gives 𝓤 X Φ k w))) ∷ Γ) E xs vs
      → ((w : Val) (x : X) → Φ w x → Seq K 𝓛 (k ∷ Γ) (lands C Λ E d w rest q)) → Seq K 𝓛 (i ∷ Γ) (runs C Λ E (seq (call f xs d) rest) q)
  calls_by t {C = C} {f = f} fm X Φ i k vs derived os go = use1 𝓛 (later (raw (C f vs (λ w. mean 𝓛 (Gives 𝓤 X Φ k w))))) derived $ await t tt $
      calls t fm (Gives 𝓤 X Φ k) os (λ w. await t tt $ pick t (λ x. learn t (λ φ. go w x φ)))

  -- ---- the end of a walk
  pub free-room : K → (n : ℕ) {τ : Ty} {b : ℕ} {E : Env 𝓤 H} {g : Goal 𝓤 H} → nth 𝓛 n Γ ≡ ‵ (froom τ b zero) → nth 𝓛 n (del 𝓛 n Γ) ≡ ‵ (fdies τ b)
      → Step K 𝓛 (del 𝓛 n (del 𝓛 n Γ)) (frees E g) Γ (frees ((τ, b) ∷ E) g)
  free-room t n {τ} {b} {E} {g} e e' = step (λ s. record {
    prf =
        via 𝓤 (sep 𝓤 (H.room τ b zero) (⋆ 𝓛 (del 𝓛 n Γ))) (subst (λ (j : Item 𝓤). ent 𝓤 (⋆ 𝓛 Γ) (sep 𝓤 (mean 𝓛 j) (⋆ 𝓛 (del 𝓛 n Γ)))) e (pull 𝓛 n Γ))
        (via 𝓤 (sep 𝓤 (H.room τ b zero) (sep 𝓤 (H.dies τ b) (⋆ 𝓛 (del 𝓛 n (del 𝓛 n Γ)))))
        (mono_r 𝓤 (H.room τ b zero) (subst (λ (j : Item 𝓤). ent 𝓤 (⋆ 𝓛 (del 𝓛 n Γ)) (sep 𝓤 (mean 𝓛 j) (⋆ 𝓛 (del 𝓛 n (del 𝓛 n Γ))))) e' (pull 𝓛 n (del 𝓛 n Γ))))
        (via 𝓤 (sep 𝓤 (sep 𝓤 (H.room τ b zero) (H.dies τ b)) (⋆ 𝓛 (del 𝓛 n (del 𝓛 n Γ)))) (Logic.assoc' 𝓤 (H.room τ b zero) (H.dies τ b) (⋆ 𝓛 (del 𝓛 n (del 𝓛 n Γ))))
        (mono_r 𝓤 (sep 𝓤 (H.room τ b zero) (H.dies τ b)) s.prf)));
  })

  pub free-cell : K → (n : ℕ) {τ : Ty} {b : ℕ} {v : Val} {E : Env 𝓤 H} {g : Goal 𝓤 H} → nth 𝓛 n Γ ≡ ‵ (fat full_share τ b zero v) → nth 𝓛 n (del 𝓛 n Γ) ≡ ‵ (fdies τ b)
      → Step K 𝓛 (del 𝓛 n (del 𝓛 n Γ)) (frees E g) Γ (frees ((τ, b) ∷ E) g)
  free-cell t n {τ} {b} {v} {E} {g} e e' = step (λ s. record {
    prf =
        via 𝓤 (sep 𝓤 (H.at full_share τ b zero v) (⋆ 𝓛 (del 𝓛 n Γ))) (subst (λ (j : Item 𝓤). ent 𝓤 (⋆ 𝓛 Γ) (sep 𝓤 (mean 𝓛 j) (⋆ 𝓛 (del 𝓛 n Γ)))) e (pull 𝓛 n Γ))
        (via 𝓤 (sep 𝓤 (H.room τ b zero) (⋆ 𝓛 (del 𝓛 n Γ))) (mono_l 𝓤 (⋆ 𝓛 (del 𝓛 n Γ)) (𝓛.laws.at_room τ b zero v))
        (via 𝓤 (sep 𝓤 (H.room τ b zero) (sep 𝓤 (H.dies τ b) (⋆ 𝓛 (del 𝓛 n (del 𝓛 n Γ)))))
        (mono_r 𝓤 (H.room τ b zero) (subst (λ (j : Item 𝓤). ent 𝓤 (⋆ 𝓛 (del 𝓛 n Γ)) (sep 𝓤 (mean 𝓛 j) (⋆ 𝓛 (del 𝓛 n (del 𝓛 n Γ))))) e' (pull 𝓛 n (del 𝓛 n Γ))))
        (via 𝓤 (sep 𝓤 (sep 𝓤 (H.room τ b zero) (H.dies τ b)) (⋆ 𝓛 (del 𝓛 n (del 𝓛 n Γ)))) (Logic.assoc' 𝓤 (H.room τ b zero) (H.dies τ b) (⋆ 𝓛 (del 𝓛 n (del 𝓛 n Γ))))
        (mono_r 𝓤 (sep 𝓤 (H.room τ b zero) (H.dies τ b)) s.prf))));
  })

-- ---- what a callee leaves
module _ {M : Type 1} {𝓤 : Ura M} (𝓛 : Logic 𝓤) (R : RattleType) (ν : ℕ) (δ : GName) (b o m : ℕ) (Res : RattleType) where
  -- φ is what the `ensures` states of the result and the last values, of which ψ says what is to be kept of the result, and the first is zs. F is what is said of the others' last values. `has` is `id⊢ 𝓤 _` at each callee
  pub tells-slice : (P : SProp 𝓤) (w : Val) {L : Type 0} (F : L → Fml) (φ : Res.Denot → List R.Denot × L → Type 0) (ψ : Res.Denot → Type 0) (zs : List R.Denot) → ((r : Res.Denot) (ws : List R.Denot × L) → φ r ws → ψ r × (ws.0 ≡ zs))
      → ent 𝓤 P (mean 𝓛 (later (some (λ (r : Res.Denot). ((‵ (flft (ν ∷ []) full_share) ⊛ ‵ ftrue) ⊛ ‵ (Res.own_val r (w ∷ []))) ⊛ some (λ (ws : List R.Denot × L). ‵ (fsep (fsep (fsep (finally R δ ws.0) (feq ℕ (length ws.0) m)) (fbor (ν ∷ []) (Held R m b o δ))) (F ws.1)) ⊛ raw (fact 𝓤 (φ r ws)))))))
      → ent 𝓤 P (mean 𝓛 (Gives 𝓤 Res.Denot (λ v r. ψ r × Is Res r (v ∷ [])) (‵ (flft (ν ∷ []) full_share) ⊛ ‵ (finally R δ zs)) w))
  tells-slice P w {L} F φ ψ zs says has =
      qed 𝓛 (raw P ∷ []) ∵ updating ! $
      use1 𝓛 (later (some (λ (r : Res.Denot). ((‵ (flft (ν ∷ []) full_share) ⊛ ‵ ftrue) ⊛ ‵ (Res.own_val r (w ∷ []))) ⊛ some (λ (ws : List R.Denot × L). ‵ (fsep (fsep (fsep (finally R δ ws.0) (feq ℕ (length ws.0) m)) (fbor (ν ∷ []) (Held R m b o δ))) (F ws.1)) ⊛ raw (fact 𝓤 (φ r ws)))))) has $ await ! tt $ pick ! (λ r.
      split ! $ move ! (1 ∷ []) $ pick ! (λ ws. split ! $ move ! (1 ∷ []) $ heard ! (φ r ws) (λ a. fsplit ! $ fsplit ! $ fsplit ! $ rewrite ! 0 (λ (l : List R.Denot). ‵ (finally R δ l)) (says r ws a).1 refl $
      -- [the last list; its length; the borrow; the others' last values; the token and the result]
      move ! (4 ∷ []) $ split ! $ move ! (1 ∷ []) $ peeks ! Res (Is Res) (shows 𝓛 Res) r (w ∷ []) (λ is. drop ! $ split ! $
      at_once ! $ show ! (λ (r' : Res.Denot). guard 𝓤 (ψ r' × Is Res r' (w ∷ [])) (mean 𝓛 (‵ (flft (ν ∷ []) full_share) ⊛ ‵ (finally R δ zs)))) r $ check ! ((says r ws a).0, is) $ keep ! (0 ∷ 2 ∷ []) $ done !))))

  pub tells-ref : (P : SProp 𝓤) (w : Val) {L : Type 0} (F : L → Fml) (φ : Res.Denot → R.Denot × L → Type 0) (ψ : Res.Denot → Type 0) (z : R.Denot) → ((r : Res.Denot) (ws : R.Denot × L) → φ r ws → ψ r × (ws.0 ≡ z))
      → ent 𝓤 P (mean 𝓛 (later (some (λ (r : Res.Denot). ((‵ (flft (ν ∷ []) full_share) ⊛ ‵ ftrue) ⊛ ‵ (Res.own_val r (w ∷ []))) ⊛ some (λ (ws : R.Denot × L). ‵ (fsep (fsep (fres δ (R.coded.code ws.0)) (fbor (ν ∷ []) (MemBody (mem R) b o δ))) (F ws.1)) ⊛ raw (fact 𝓤 (φ r ws)))))))
      → ent 𝓤 P (mean 𝓛 (Gives 𝓤 Res.Denot (λ v r. ψ r × Is Res r (v ∷ [])) (‵ (flft (ν ∷ []) full_share) ⊛ ‵ (fres δ (R.coded.code z))) w))
  tells-ref P w {L} F φ ψ z says has =
      qed 𝓛 (raw P ∷ []) ∵ updating ! $
      use1 𝓛 (later (some (λ (r : Res.Denot). ((‵ (flft (ν ∷ []) full_share) ⊛ ‵ ftrue) ⊛ ‵ (Res.own_val r (w ∷ []))) ⊛ some (λ (ws : R.Denot × L). ‵ (fsep (fsep (fres δ (R.coded.code ws.0)) (fbor (ν ∷ []) (MemBody (mem R) b o δ))) (F ws.1)) ⊛ raw (fact 𝓤 (φ r ws)))))) has $ await ! tt $ pick ! (λ r.
      split ! $ move ! (1 ∷ []) $ pick ! (λ ws. split ! $ move ! (1 ∷ []) $ heard ! (φ r ws) (λ a. fsplit ! $ fsplit ! $ rewrite ! 0 (λ (x : R.Denot). ‵ (fres δ (R.coded.code x))) (says r ws a).1 refl $
      -- [the last value; the borrow; the others' last values; the token and the result]
      move ! (3 ∷ []) $ split ! $ move ! (1 ∷ []) $ peeks ! Res (Is Res) (shows 𝓛 Res) r (w ∷ []) (λ is. drop ! $ split ! $
      at_once ! $ show ! (λ (r' : Res.Denot). guard 𝓤 (ψ r' × Is Res r' (w ∷ [])) (mean 𝓛 (‵ (flft (ν ∷ []) full_share) ⊛ ‵ (fres δ (R.coded.code z))))) r $ check ! ((says r ws a).0, is) $ keep ! (0 ∷ 2 ∷ []) $ done !))))

-- ---- the lemmas
module _ {M : Type 1} {𝓤 : Ura M} (𝓛 : Logic 𝓤) (C : Calls 𝓤 𝓛.H) (fm : FmC 𝓤 𝓛.H 𝓛.laws C) (f : Callee) (c : Contract 𝓤) (met : Triple 𝓤 (C f) c) (vs : List Val) where
  -- a callee that is handed i keeps the frame j: what it gives, beside j, is what the caller wants
  open 𝓛 use {H}

  pub framed-call : (y : c.Ghost) → c.args y ≡ vs → (i j : Item 𝓤) (Q : Val → SProp 𝓤) → ent 𝓤 (mean 𝓛 i) (c.pre y) → ((w : Val) → ent 𝓤 (sep 𝓤 (c.post y w) (mean 𝓛 j)) (Q w))
      → ent 𝓤 (sep 𝓤 (mean 𝓛 i) (mean 𝓛 j)) (C f vs Q)
  framed-call y e i j Q asks after =
      via 𝓤 (sep 𝓤 (C f vs (c.post y)) (mean 𝓛 j))
      (mono_l 𝓤 (mean 𝓛 j) (via 𝓤 (c.pre y) asks (subst (λ (us : List Val). ent 𝓤 (c.pre y) (C f us (c.post y))) e (met y))))
      (fm f vs (c.post y) Q (mean 𝓛 j) after)

  -- φ is what the `ensures` states of the result, and F what is said of last values, which is nothing here. The last premise is `λ w. id⊢ 𝓤 _` at each callee
  pub call-value : (y : c.Ghost) → c.args y ≡ vs → (Res : RattleType) (φ : Res.Denot → Type 0) {L : Type 0} (F : L → Fml) → ent 𝓤 (emp 𝓤) (c.pre y)
      → ((w : Val) → ent 𝓤 (c.post y w) (mean 𝓛 (later (some (λ (r : Res.Denot). (‵ ftrue ⊛ ‵ (Res.own_val r (w ∷ []))) ⊛ some (λ (ws : L). ‵ (F ws) ⊛ raw (fact 𝓤 (φ r))))))))
      → ent 𝓤 (mean 𝓛 (‵ ftrue)) (H.⇛ (C f vs (λ w. mean 𝓛 (Gives 𝓤 Res.Denot (λ v r. φ r × Is Res r (v ∷ [])) (‵ ftrue) w))))
  call-value y e Res φ {L} F asks has =
      qed 𝓛 (‵ ftrue ∷ []) ∵ updating ! $ nothing ! $ at_once ! $ by ! (framed-call y e (‵ ftrue) (‵ ftrue) _ asks (λ w.
      qed 𝓛 (raw (c.post y w) ∷ ‵ ftrue ∷ []) ∵ updating ! $ use1 𝓛 (later (some (λ (r : Res.Denot). (‵ ftrue ⊛ ‵ (Res.own_val r (w ∷ []))) ⊛ some (λ (ws : L). ‵ (F ws) ⊛ raw (fact 𝓤 (φ r)))))) (has w) $ await ! tt $ pick ! (λ r.
      split ! $ move ! (1 ∷ []) $ pick ! (λ ws. split ! $ drop ! $ heard ! (φ r) (λ a. split ! $ move ! (1 ∷ []) $ peeks ! Res (Is Res) (shows 𝓛 Res) r (w ∷ []) (λ is. drop ! $ drop ! $
      at_once ! $ show ! (λ (r' : Res.Denot). guard 𝓤 (φ r' × Is Res r' (w ∷ [])) (mean 𝓛 (‵ ftrue))) r $ check ! (a, is) $ done !))))))

  module _ (R : RattleType) (ℓ ℓ' : Lifetime) (κ : Lft) (q : Share) (γ : GName) (b o m : ℕ) (ys : List R.Denot) (count : m ≡ length ys) (room : Room R (length ys))
      (y : ℕ → GName → c.Ghost) (args_are : (ν : ℕ) (δ : GName) → c.args (y ν δ) ≡ vs) (X : Type 0) (Φ : Val → X → Type 0) where
    -- what the callee is handed
    abbrev mut : ℕ → GName → Item 𝓤
    mut ν δ = ‵ (flft (ν ∷ []) full_share) ⊛ ‵ ((MutSlice ℓ' (ν ∷ []) R).own_val (at-list R b o δ ys) (slice_val (b, o) m ∷ []))

    -- what the caller has, at the list l
    abbrev Mine : List R.Denot → Item 𝓤
    Mine l = ‵ ((MutSlice ℓ κ R).own_val (at-list R b o γ l) (slice_val (b, o) m ∷ [])) ⊛ ‵ (flft κ q)

    pub call-lent : (zs : List R.Denot) → length zs ≡ length ys → ((ν : ℕ) (δ : GName) → ent 𝓤 (mean 𝓛 (mut ν δ)) (c.pre (y ν δ)))
        → ((ν : ℕ) (δ : GName) (w : Val) → ent 𝓤 (c.post (y ν δ) w) (mean 𝓛 (Gives 𝓤 X Φ (‵ (flft (ν ∷ []) full_share) ⊛ ‵ (finally R δ zs)) w)))
        → ent 𝓤 (mean 𝓛 (Mine ys)) (H.⇛ (C f vs (λ w. mean 𝓛 (Gives 𝓤 X Φ (Mine zs) w))))
    call-lent zs l asks tells =
        qed 𝓛 (Mine ys ∷ []) ∵ split ! $ updating ! $ relends ! tt R ℓ ℓ' κ q γ b o m ys count (λ ν δ. join ! $ at_once ! $
        by ! (framed-call (y ν δ) (args_are ν δ) (mut ν δ) (‵ (LentAgain R κ (ν ∷ []) q γ b o δ ys)) _ (asks ν δ) (λ w.
        qed 𝓛 (raw (c.post (y ν δ) w) ∷ ‵ (LentAgain R κ (ν ∷ []) q γ b o δ ys) ∷ []) ∵ updating ! $ use1 𝓛 (Gives 𝓤 X Φ (‵ (flft (ν ∷ []) full_share) ⊛ ‵ (finally R δ zs)) w) (tells ν δ w) $ await ! tt $ pick ! (λ x. learn ! (λ φ. split ! $
        move ! (0 ∷ 2 ∷ 1 ∷ []) $ regains ! tt R ℓ κ q γ b o m ν δ ys zs count room l $ at_once ! $ show ! (λ (x' : X). guard 𝓤 (Φ w x') (mean 𝓛 (Mine zs))) x $ check ! φ $ done !)))))

  -- a value in the local at the block l
  module _ (R : RattleType) (val : R.Denot → Val) (tells-R : Tells R (Is R) (λ d. val d ∷ [])) (single : Single R.mir) (ℓ' : Lifetime) (l : ℕ) (h : R.Denot)
      (y : ℕ → GName → c.Ghost) (args_are : (ν : ℕ) (δ : GName) → c.args (y ν δ) ≡ vs) (X : Type 0) (Φ : Val → X → Type 0) where
    -- the local, with what it owns, at the value z
    abbrev Holds : R.Denot → Item 𝓤
    Holds z = ‵ (fat full_share (lone R.mir) l 0 (val z)) ⊛ ‵ (R.own_val z (val z ∷ []))

    abbrev mut-local : ℕ → GName → Item 𝓤
    mut-local ν δ = ‵ (flft (ν ∷ []) full_share) ⊛ ‵ ((MutRef ℓ' (ν ∷ []) R).own_val (record { ref_ptr = (l, 0); ghost_name = δ; now = h }) (vptr l 0 ∷ []))

    pub call-local : (z : R.Denot) → ((ν : ℕ) (δ : GName) → ent 𝓤 (mean 𝓛 (mut-local ν δ)) (c.pre (y ν δ)))
        → ((ν : ℕ) (δ : GName) (w : Val) → ent 𝓤 (c.post (y ν δ) w) (mean 𝓛 (Gives 𝓤 X Φ (‵ (flft (ν ∷ []) full_share) ⊛ ‵ (fres δ (R.coded.code z))) w)))
        → ent 𝓤 (mean 𝓛 (Holds h)) (H.⇛ (C f vs (λ w. mean 𝓛 (Gives 𝓤 X Φ (Holds z) w))))
    call-local z asks tells =
        qed 𝓛 (Holds h ∷ []) ∵ split ! $ updating ! $ lft_new ! tt (λ ν. move ! (1 ∷ 2 ∷ []) $
        use2 𝓛 (later (some (λ (δ : GName). ‵ ((MutRef ℓ' (ν ∷ []) R).own_val (record { ref_ptr = (l, 0); ghost_name = δ; now = h }) (vptr l 0 ∷ [])) ⊛ ‵ (flent (ν ∷ []) (MemBody (mem R) l 0 δ))))) (lends_local 𝓛 R val tells-R single ℓ' (ν ∷ []) h l) $ await ! tt $ pick ! (λ δ. split ! $
        move ! (2 ∷ 0 ∷ []) $ join ! $ at_once ! $
        by ! (framed-call (y ν δ) (args_are ν δ) (mut-local ν δ) (‵ (flent (ν ∷ []) (MemBody (mem R) l 0 δ))) _ (asks ν δ) (λ w.
        qed 𝓛 (raw (c.post (y ν δ) w) ∷ ‵ (flent (ν ∷ []) (MemBody (mem R) l 0 δ)) ∷ []) ∵ updating ! $ use1 𝓛 (Gives 𝓤 X Φ (‵ (flft (ν ∷ []) full_share) ⊛ ‵ (fres δ (R.coded.code z))) w) (tells ν δ w) $ await ! tt $ pick ! (λ x. learn ! (λ φ. split ! $
        lft_end ! tt $ move ! (0 ∷ 2 ∷ 1 ∷ []) $ use3 𝓛 (later (Holds z)) (local_back 𝓛 R val tells-R single (ν ∷ []) δ z l) $ await ! tt $
        at_once ! $ show ! (λ (x' : X). guard 𝓤 (Φ w x') (mean 𝓛 (Holds z))) x $ check ! φ $ done !))))))
