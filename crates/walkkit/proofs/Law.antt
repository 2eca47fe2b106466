-- THE LAW for a function that lends, matches, loops and calls: from its contract to the verification condition of its code (`Symbolic.antt`) over the slices that it holds (`Loans.antt`).
--     Param            a parameter: `by` a value, `mut` a `&mut [T]`, `shr` a `&[T]`. Each reference has a lifetime of its own, numbered in order, as where none is written
--     sig, ended       the signature that a list of parameters makes, every last value said. A function's own is this by computation
--     Sound            what is known of the arguments: a value's machine value is its own, and a slice fits the memory
--     held             the slices at entry.        entries_at … ws      the same, at the lists ws
--     finish           the end: the slices at their last lists give what the contract says
--     function-meets   THE LAW: the function meets its contract if its code's verification condition is shown, from the slices at entry to the end
--     owes             a fact that the code asks on its way (that a copied value is of its local's type, that a sum fits), before what it asks then
-- Assumes `Logic`.
use mathlib.Core.Path.{◌≡◌, refl, sym, subst, ap, ◌∙◌}
use Prim.Native.Nat.{ℕ, zero, suc}
use mathlib.Core.List.{List, [], ◌∷◌, ◌++◌}
use lib.ListN.{length, drop as dropN}
use seplogic.Ra.Ura.{Ura}
use base.Fraction.{full_share}
use mir.Syntax.{named, Ty, Fn}
use mir.Val.{Val}
use base.Logic.{SProp, ent, sep, emp, id⊢, via, mono_l, mono_r, snd∗, emp∗}
use base.Fml.{Lft, Share, Fml, ftrue, fsep, flft, fres, fbor}
use prog.Wp.{Calls, WpFn, Tables}
use types.Logic.{Logic, sem}
use contract.Monad.{fact}
use contract.Lifetimes.{Lfts, Shares, AllOutlive, toks}
use sound.WpLaws.{WpFn-mono}
use types.SemTy.{Arr, Body}
use types.Hole.{Holey}
use denote.Memory.{mem}
use types.Kit.{Item, ‵, raw, ◌⊛◌, mean, ⋆, push, pop, ◌$◌, ◌∵◌, !, qed, by as done-by, move, keep, drop, use0, use1, split, join, rewrite, fsplit, fjoin, feq_i, frame, updating, now as at_once, done}
use denote.RattleType.{RattleType, Denots, Valss, flat, owns, mirs}
use denote.Laws.{Is, Ises, Are, Spells, valss, Tellss, Typed, Lawfuls, all_Typed}
use denote.Ref.{Bor, MutBor, at_last}
use denote.Slice.{shr_slice_vals, mut_slice_vals, MutSlice, ShrSlice, Room, finally, res-finally, coded_holeys, heres, mut_slice_Tells, shr_slice_Tells, mut_slice_Lawful, shr_slice_Lawful}
use denote.Signature.{Slot, Signature, plain, types_at}
use denote.Exit.{yes}
use denote.Triple.Entry.{Args, on_entry}
use denote.Triple.End.{Fins, all}
use denote.Triple.Spec.{Meets}
use denote.Triple.Clauses.{Clauses, Ended, at_exit, closing}
use denote.Triple.Walked.{says, needs, Stays, stay_dropped, fits_of, has_of, walk_of, Goes, AllGo, Goes-dropped, ends_at, walked, walk_Meets}
use native.Mathlib.Omega.{arith}
use Rattle.walkkit.proofs.Loans.{Slice, Elements, HeldMut, HeldShr, Entry, by-mut, by_shr, items}
use Rattle.walkkit.proofs.ByValue.{ByVal, Known}
use Rattle.walkkit.proofs.Symbolic.{empty, Passed, Passes, initial, local-types, tail_of, ReturnVc, Vc, vc-fn-sound}

abbrev pub owes : {φ : Type 0} {K : Type 2} → φ → K → φ × K
owes p k = (p, k)

pub data Param {M : Type 1} {𝓤 : Ura M} (𝓛 : Logic 𝓤) : Type 2 where
  by : ByVal 𝓛 → Param 𝓛
  mut : RattleType → Param 𝓛
  shr : RattleType → Param 𝓛

abbrev pub lft_n : (n j : ℕ) → Lfts n → Lft
lft_n zero j κs = []
lft_n (suc n) zero κs = κs.0
lft_n (suc n) (suc j) κs = lft_n n j κs.1

module _ {M : Type 1} {𝓤 : Ura M} (𝓛 : Logic 𝓤) where
  abbrev pub param-refs : List (Param 𝓛) → ℕ
  param-refs [] = zero
  param-refs (by B ∷ ps) = param-refs ps
  param-refs (mut R ∷ ps) = suc (param-refs ps)
  param-refs (shr R ∷ ps) = suc (param-refs ps)

  abbrev pub slots : (n j : ℕ) → List (Param 𝓛) → List (Slot n)
  slots n j [] = []
  slots n j (by B ∷ ps) = plain (λ _. B.R) ∷ slots n j ps
  slots n j (mut R ∷ ps) = plain (λ κs. MutSlice (named j) (lft_n n j κs) R) ∷ slots n (suc j) ps
  slots n j (shr R ∷ ps) = plain (λ κs. ShrSlice (named j) (lft_n n j κs) R) ∷ slots n (suc j) ps

  abbrev pub sig : List (Param 𝓛) → RattleType → Signature
  sig ps Res = record { lifetimes = param-refs ps; outlives = []; params = slots (param-refs ps) zero ps; result = plain (λ _. Res) }

  abbrev pub ended : List (Param 𝓛) → RattleType → Ended
  ended ps Res = record { signature = sig ps Res; kept = all yes (slots (param-refs ps) zero ps) }

  -- ---- what is had of each parameter at exit
  abbrev stays : (n j : ℕ) (ps : List (Param 𝓛)) → Stays (slots n j ps) (all yes (slots n j ps))
  stays n j [] = tt
  stays n j (by B ∷ ps) = (stay_dropped (plain (λ _. B.R)) yes, stays n j ps)
  stays n j (mut R ∷ ps) = (record { fit = λ κs x ws. length ws ≡ length x.now; has = λ κs x ws. (MutSlice (named j) (lft_n n j κs) R).own_val (at_last x ws) }, stays n (suc j) ps)
  stays n j (shr R ∷ ps) = (stay_dropped (plain (λ κs. ShrSlice (named j) (lft_n n j κs) R)) yes, stays n (suc j) ps)

  module _ where
    slice-goes : (n j : ℕ) (R : RattleType) → Goes 𝓛 n (plain (λ κs. MutSlice (named j) (lft_n n j κs) R)) yes (record { fit = λ κs x ws. length ws ≡ length x.now; has = λ κs x ws. (MutSlice (named j) (lft_n n j κs) R).own_val (at_last x ws) })
    slice-goes n j R κs x f vs fits =
        qed 𝓛 (‵ ((MutSlice (named j) (lft_n n j κs) R).own_val (at_last x f) vs) ∷ []) ∵ updating ! $ at_once ! $ fsplit ! $ move ! (1 ∷ []) $ fsplit ! $
        use1 𝓛 (‵ (fres x.ghost_name ((coded_holeys R).code (heres R f)))) (𝓛.names.obs-res x.ghost_name ((coded_holeys R).code (heres R f))) $
        use1 𝓛 (‵ (finally R x.ghost_name f)) (res-finally 𝓛 (named j) (lft_n n j κs) R x.ghost_name f) $
        rewrite ! 1 (λ (m : ℕ). ‵ (fbor (lft_n n j κs) (Body (Arr (Holey (mem R)) m) x.ref_ptr.0 x.ref_ptr.1 x.ghost_name))) fits refl $
        keep ! (0 ∷ 1 ∷ []) $ feq_i ! ℕ (length f) (length x.now) fits $ move ! (1 ∷ 0 ∷ []) $ fjoin ! $ done !

    go : (n j : ℕ) (ps : List (Param 𝓛)) → AllGo 𝓛 n (slots n j ps) (all yes (slots n j ps)) (stays n j ps)
    go n j [] = tt
    go n j (by B ∷ ps) = (Goes-dropped 𝓛 n (plain (λ _. B.R)) yes (λ κs x f. B.silent x f), go n j ps)
    go n j (mut R ∷ ps) = (slice-goes n j R, go n (suc j) ps)
    go n j (shr R ∷ ps) = (Goes-dropped 𝓛 n (plain (λ κs. ShrSlice (named j) (lft_n n j κs) R)) yes (λ κs x f. refl), go n (suc j) ps)

  -- ---- the parameters' machine values
  module _ (n : ℕ) (κs : Lfts n) where
    abbrev pub spells : (j : ℕ) (ps : List (Param 𝓛)) → Spells (types_at (slots n j ps) κs)
    spells j [] = tt
    spells j (by B ∷ ps) = ((λ x. B.mach x ∷ []), spells j ps)
    spells j (mut R ∷ ps) = (mut_slice_vals, spells (suc j) ps)
    spells j (shr R ∷ ps) = (shr_slice_vals, spells (suc j) ps)

    tell : (j : ℕ) (ps : List (Param 𝓛)) → Tellss (types_at (slots n j ps) κs) (Ises (types_at (slots n j ps) κs)) (spells j ps)
    tell j [] = tt
    tell j (by B ∷ ps) = (B.tells, tell j ps)
    tell j (mut R ∷ ps) = (mut_slice_Tells (named j) (lft_n n j κs) R, tell (suc j) ps)
    tell j (shr R ∷ ps) = (shr_slice_Tells (named j) (lft_n n j κs) R, tell (suc j) ps)

abbrev pub sh_n : (n j : ℕ) → Shares n → Share
sh_n zero j qs = full_share
sh_n (suc n) zero qs = qs.0
sh_n (suc n) (suc j) qs = sh_n n j qs.1

module _ {M : Type 1} {𝓤 : Ura M} (𝓛 : Logic 𝓤) where
  -- ---- the tokens, one beside each slice
  open 𝓛 use {A}

  abbrev toks_n : (n : ℕ) → Lfts n → Shares n → ℕ → ℕ → SProp 𝓤
  toks_n n κs qs j zero = emp 𝓤
  toks_n n κs qs j (suc k) = sep 𝓤 (A.lft (lft_n n j κs) (sh_n n j qs)) (toks_n n κs qs (suc j) k)

  shift : (n : ℕ) (κs : Lfts (suc n)) (qs : Shares (suc n)) (j k : ℕ) → toks_n (suc n) κs qs (suc j) k ≡ toks_n n κs.1 qs.1 j k
  shift n κs qs j zero = refl
  shift n κs qs j (suc k) = ap (λ (P : SProp 𝓤). sep 𝓤 (A.lft (lft_n n j κs.1) (sh_n n j qs.1)) P) (shift n κs qs (suc j) k)

  each_tok : (n : ℕ) (κs : Lfts n) (qs : Shares n) → toks 𝓛 n κs qs ≡ toks_n n κs qs zero n
  each_tok zero κs qs = refl
  each_tok (suc n) κs qs = ap (λ (P : SProp 𝓤). sep 𝓤 (A.lft κs.0 qs.0) P) (each_tok n κs.1 qs.1 ∙ sym (shift n κs qs zero n))

  module _ (n : ℕ) (κs : Lfts n) (qs : Shares n) where
    -- that each machine value is its parameter's own, as the logic's entry rule says it
    abbrev AreAll : (j : ℕ) (ps : List (Param 𝓛)) → Denots (types_at (slots 𝓛 n j ps) κs) → Type 0
    AreAll j ps a = Are (types_at (slots 𝓛 n j ps) κs) (Ises (types_at (slots 𝓛 n j ps) κs)) a (valss (types_at (slots 𝓛 n j ps) κs) (spells 𝓛 n κs j ps) a)

    -- the same, parameter by parameter: what a value parameter's machine value is, and that a slice fits the memory. It is stated apart because the checker computes its type anew wherever a proof names a part of it
    abbrev pub Sound : (j : ℕ) (ps : List (Param 𝓛)) → Denots (types_at (slots 𝓛 n j ps) κs) → Type 0
    Sound j [] a = Unit {0}
    Sound j (by B ∷ ps) a = Is B.R a.0 (B.mach a.0 ∷ []) × Sound j ps a.1
    Sound j (mut R ∷ ps) a = Room R (length a.0.now) × Sound (suc j) ps a.1
    Sound j (shr R ∷ ps) a = Room R (length a.0.now) × Sound (suc j) ps a.1

    sound-params : (j : ℕ) (ps : List (Param 𝓛)) (a : Denots (types_at (slots 𝓛 n j ps) κs)) → AreAll j ps a → Sound j ps a
    sound-params j [] a are = tt
    sound-params j (by B ∷ ps) a are = (are.0, sound-params j ps a.1 are.1)
    sound-params j (mut R ∷ ps) a are = (are.0.0.1, sound-params (suc j) ps a.1 are.1)
    sound-params j (shr R ∷ ps) a are = (are.0.0.1, sound-params (suc j) ps a.1 are.1)

    abbrev pub slice : (j : ℕ) (R : RattleType) (x : MutBor (List R.Denot)) → Room R (length x.now) → Slice R
    slice j R x room = record { lv = named j; κ = lft_n n j κs; q = sh_n n j qs; γ = x.ghost_name; b = x.ref_ptr.0; o = x.ref_ptr.1; m = length x.now; room = room }

    -- a `&` has no ghost name: nothing that is said of a slice that is held so reads the one here
    abbrev pub seen-slice : (j : ℕ) (R : RattleType) (x : Bor (List R.Denot)) → Room R (length x.now) → Slice R
    seen-slice j R x room = record { lv = named j; κ = lft_n n j κs; q = sh_n n j qs; γ = zero; b = x.ref_ptr.0; o = x.ref_ptr.1; m = length x.now; room = room }

    abbrev pub Fulls : (j : ℕ) (ps : List (Param 𝓛)) (a : Denots (types_at (slots 𝓛 n j ps) κs)) → Sound j ps a → Type 0
    Fulls j [] a are = Unit {0}
    Fulls j (by B ∷ ps) a are = Fulls j ps a.1 are.1
    Fulls j (mut R ∷ ps) a are = Elements (slice j R a.0 are.0) × Fulls (suc j) ps a.1 are.1
    Fulls j (shr R ∷ ps) a are = Fulls (suc j) ps a.1 are.1

    abbrev pub first : (j : ℕ) (ps : List (Param 𝓛)) (a : Denots (types_at (slots 𝓛 n j ps) κs)) (are : Sound j ps a) → Fulls j ps a are
    first j [] a are = tt
    first j (by B ∷ ps) a are = first j ps a.1 are.1
    first j (mut R ∷ ps) a are = ((a.0.now, refl), first (suc j) ps a.1 are.1)
    first j (shr R ∷ ps) a are = first (suc j) ps a.1 are.1

    abbrev pub entries_at : (j : ℕ) (ps : List (Param 𝓛)) (a : Denots (types_at (slots 𝓛 n j ps) κs)) (are : Sound j ps a) → Fulls j ps a are → List Entry
    entries_at j [] a are ws = []
    entries_at j (by B ∷ ps) a are ws = entries_at j ps a.1 are.1 ws
    entries_at j (mut R ∷ ps) a are ws = by-mut (slice j R a.0 are.0) ws.0 ∷ entries_at (suc j) ps a.1 are.1 ws.1
    entries_at j (shr R ∷ ps) a are ws = by_shr (seen-slice j R a.0 are.0) (a.0.now, refl) ∷ entries_at (suc j) ps a.1 are.1 ws

    abbrev pub items_at : (j : ℕ) (ps : List (Param 𝓛)) (a : Denots (types_at (slots 𝓛 n j ps) κs)) (are : Sound j ps a) → Fulls j ps a are → List (Item 𝓤)
    items_at j ps a are ws = items 𝓛 (entries_at j ps a are ws)

    abbrev pub lasts-at : (j : ℕ) (ps : List (Param 𝓛)) (a : Denots (types_at (slots 𝓛 n j ps) κs)) (are : Sound j ps a) → Fulls j ps a are → Fins κs (slots 𝓛 n j ps) (all yes (slots 𝓛 n j ps)) a
    lasts-at j [] a are ws = tt
    lasts-at j (by B ∷ ps) a are ws = (B.last a.0, lasts-at j ps a.1 are.1 ws)
    lasts-at j (mut R ∷ ps) a are ws = (ws.0.0, lasts-at (suc j) ps a.1 are.1 ws.1)
    lasts-at j (shr R ∷ ps) a are ws = (tt, lasts-at (suc j) ps a.1 are.1 ws)

    fit_at : (j : ℕ) (ps : List (Param 𝓛)) (a : Denots (types_at (slots 𝓛 n j ps) κs)) (are : Sound j ps a) (ws : Fulls j ps a are) → fits_of κs (slots 𝓛 n j ps) (all yes (slots 𝓛 n j ps)) (stays 𝓛 n j ps) a (lasts-at j ps a are ws)
    fit_at j [] a are ws = tt
    fit_at j (by B ∷ ps) a are ws = (tt, fit_at j ps a.1 are.1 ws)
    fit_at j (mut R ∷ ps) a are ws = (ws.0.1, fit_at (suc j) ps a.1 are.1 ws.1)
    fit_at j (shr R ∷ ps) a are ws = (tt, fit_at (suc j) ps a.1 are.1 ws)

    module _ where
      tok : ℕ → Item 𝓤
      tok j = ‵ (flft (lft_n n j κs) (sh_n n j qs))

      abbrev owned_at : (j : ℕ) (ps : List (Param 𝓛)) → Denots (types_at (slots 𝓛 n j ps) κs) → Fml
      owned_at j ps a = owns (types_at (slots 𝓛 n j ps) κs) a (valss (types_at (slots 𝓛 n j ps) κs) (spells 𝓛 n κs j ps) a)

      abbrev had-at : (j : ℕ) (ps : List (Param 𝓛)) (a : Denots (types_at (slots 𝓛 n j ps) κs)) (are : Sound j ps a) → Fulls j ps a are → Fml
      had-at j ps a are ws = has_of κs (slots 𝓛 n j ps) (all yes (slots 𝓛 n j ps)) (stays 𝓛 n j ps) a (lasts-at j ps a are ws) (valss (types_at (slots 𝓛 n j ps) κs) (spells 𝓛 n κs j ps) a)

      enters : (j : ℕ) (ps : List (Param 𝓛)) (a : Denots (types_at (slots 𝓛 n j ps) κs)) (are : Sound j ps a)
          → ent 𝓤 (sep 𝓤 (toks_n n κs qs j (param-refs 𝓛 ps)) (sem 𝓛 (owned_at j ps a))) (⋆ 𝓛 (items_at j ps a are (first j ps a are)))
      enters j [] a are = snd∗ 𝓤 (emp 𝓤) (emp 𝓤)
      enters j (by B ∷ ps) a are = via 𝓤 (sep 𝓤 (toks_n n κs qs j (param-refs 𝓛 ps)) (sem 𝓛 (owned_at j ps a.1))) (mono_r 𝓤 (toks_n n κs qs j (param-refs 𝓛 ps)) (snd∗ 𝓤 (sem 𝓛 (B.R.own_val a.0 (B.mach a.0 ∷ []))) (sem 𝓛 (owned_at j ps a.1)))) (enters j ps a.1 are.1)
      enters j (mut R ∷ ps) a are =
          let i : Item 𝓤 = HeldMut 𝓛 (slice j R a.0 are.0) (a.0.now, refl) in
          let Γ : List (Item 𝓤) = items_at (suc j) ps a.1 are.1 (first (suc j) ps a.1 are.1) in
          via 𝓤 (sep 𝓤 (mean 𝓛 i) (⋆ 𝓛 Γ))
          (qed 𝓛 ((‵ (flft (lft_n n j κs) (sh_n n j qs)) ⊛ raw (toks_n n κs qs (suc j) (param-refs 𝓛 ps))) ∷ ‵ (fsep ((MutSlice (named j) (lft_n n j κs) R).own_val a.0 (mut_slice_vals a.0)) (owned_at (suc j) ps a.1)) ∷ []) ∵
          split ! $ move ! (2 ∷ []) $ fsplit ! $ move ! (0 ∷ 2 ∷ []) $ join ! $ frame ! $ move ! (1 ∷ 0 ∷ []) $ done-by ! (enters (suc j) ps a.1 are.1)) (push 𝓛 i Γ)
      enters j (shr R ∷ ps) a are =
          let i : Item 𝓤 = HeldShr 𝓛 (seen-slice j R a.0 are.0) (a.0.now, refl) in
          let Γ : List (Item 𝓤) = items_at (suc j) ps a.1 are.1 (first (suc j) ps a.1 are.1) in
          via 𝓤 (sep 𝓤 (mean 𝓛 i) (⋆ 𝓛 Γ))
          (qed 𝓛 ((‵ (flft (lft_n n j κs) (sh_n n j qs)) ⊛ raw (toks_n n κs qs (suc j) (param-refs 𝓛 ps))) ∷ ‵ (fsep ((ShrSlice (named j) (lft_n n j κs) R).own_val a.0 (shr_slice_vals a.0)) (owned_at (suc j) ps a.1)) ∷ []) ∵
          split ! $ move ! (2 ∷ []) $ fsplit ! $ move ! (0 ∷ 2 ∷ []) $ join ! $ frame ! $ move ! (1 ∷ 0 ∷ []) $ done-by ! (enters (suc j) ps a.1 are.1)) (push 𝓛 i Γ)

      leaves : (j : ℕ) (ps : List (Param 𝓛)) (a : Denots (types_at (slots 𝓛 n j ps) κs)) (are : Sound j ps a) (ws : Fulls j ps a are)
          → ent 𝓤 (⋆ 𝓛 (items_at j ps a are ws)) (sep 𝓤 (toks_n n κs qs j (param-refs 𝓛 ps)) (sem 𝓛 (had-at j ps a are ws)))
      leaves j [] a are ws = emp∗ 𝓤 (emp 𝓤)
      leaves j (by B ∷ ps) a are ws = via 𝓤 (sep 𝓤 (toks_n n κs qs j (param-refs 𝓛 ps)) (sem 𝓛 (had-at j ps a.1 are.1 ws))) (leaves j ps a.1 are.1 ws) (mono_r 𝓤 (toks_n n κs qs j (param-refs 𝓛 ps)) (emp∗ 𝓤 (sem 𝓛 (had-at j ps a.1 are.1 ws))))
      leaves j (mut R ∷ ps) a are ws =
          let i : Item 𝓤 = HeldMut 𝓛 (slice j R a.0 are.0) ws.0 in
          let Γ : List (Item 𝓤) = items_at (suc j) ps a.1 are.1 ws.1 in
          via 𝓤 (sep 𝓤 (mean 𝓛 i) (⋆ 𝓛 Γ)) (pop 𝓛 i Γ)
          (qed 𝓛 (i ∷ raw (⋆ 𝓛 Γ) ∷ []) ∵ split ! $ move ! (2 ∷ []) $
          use1 𝓛 (raw (toks_n n κs qs (suc j) (param-refs 𝓛 ps)) ⊛ ‵ (had-at (suc j) ps a.1 are.1 ws.1)) (leaves (suc j) ps a.1 are.1 ws.1) $ split ! $
          -- [tokens; had; the slice; its token]
          move ! (3 ∷ 0 ∷ []) $ join ! $ frame ! $ move ! (1 ∷ 0 ∷ []) $ fjoin ! $ done !)
      leaves j (shr R ∷ ps) a are ws =
          let i : Item 𝓤 = HeldShr 𝓛 (seen-slice j R a.0 are.0) (a.0.now, refl) in
          let Γ : List (Item 𝓤) = items_at (suc j) ps a.1 are.1 ws in
          via 𝓤 (sep 𝓤 (mean 𝓛 i) (⋆ 𝓛 Γ)) (pop 𝓛 i Γ)
          (qed 𝓛 (i ∷ raw (⋆ 𝓛 Γ) ∷ []) ∵ split ! $ drop ! $ move ! (1 ∷ []) $
          use1 𝓛 (raw (toks_n n κs qs (suc j) (param-refs 𝓛 ps)) ⊛ ‵ (had-at (suc j) ps a.1 are.1 ws)) (leaves (suc j) ps a.1 are.1 ws) $ split ! $
          move ! (2 ∷ 0 ∷ []) $ join ! $ frame ! $ use0 𝓛 (‵ ftrue) (id⊢ 𝓤 (emp 𝓤)) $ fjoin ! $ done !)

-- the arguments are of their types
passed-all : (τs σs : List Ty) (vs : List Val) → Typed τs vs → Passed (τs ++ σs) vs
passed-all [] [] [] t = tt
passed-all [] (σ ∷ σs) [] t = tt
passed-all [] σs (v ∷ vs) t = absurd t
passed-all (τ ∷ τs) σs [] t = absurd t
passed-all (τ ∷ τs) σs (v ∷ vs) t = (t.0, passed-all τs σs vs t.1)

passes : (ts : List Ty) (vs : List Val) → length ts ≡ suc (length (tail_of ts)) → Passed (tail_of ts) vs → Passes ts vs
passes [] vs e p = absurd (no_zero e)
  where
    no_zero : {k : ℕ} → zero ≡ suc k → ⊥
    no_zero e = omega (arith, e)
passes (τ ∷ ts) vs e p = p

module _ {M : Type 1} {𝓤 : Ura M} (𝓛 : Logic 𝓤) (n : ℕ) (κs : Lfts n) where
  lawfuls : (j : ℕ) (ps : List (Param 𝓛)) → Lawfuls 𝓛 (types_at (slots 𝓛 n j ps) κs)
  lawfuls j [] = tt
  lawfuls j (by B ∷ ps) = (B.lawful, lawfuls j ps)
  lawfuls j (mut R ∷ ps) = (mut_slice_Lawful 𝓛 (named j) (lft_n n j κs) R, lawfuls (suc j) ps)
  lawfuls j (shr R ∷ ps) = (shr_slice_Lawful 𝓛 (named j) (lft_n n j κs) R, lawfuls (suc j) ps)

-- ---- the law
module _ {M : Type 1} {𝓤 : Ura M} (𝓛 : Logic 𝓤) (ps : List (Param 𝓛)) (Res : ByVal 𝓛) (c : Clauses 𝓤 (ended 𝓛 ps Res.R)) where
  open 𝓛 use {H}

  abbrev n : ℕ
  n = param-refs 𝓛 ps

  abbrev T : Ended
  T = ended 𝓛 ps Res.R

  abbrev hs : Stays T.signature.params T.kept
  hs = stays 𝓛 n zero ps

  module _ (κs : Lfts n) (qs : Shares n) (bounds : AllOutlive n [] κs) (a : Args T.signature κs) (g : (c κs a).ghost) where
    abbrev values : Valss (types_at (slots 𝓛 n zero ps) κs)
    values = valss (types_at (slots 𝓛 n zero ps) κs) (spells 𝓛 n κs zero ps) a

    abbrev pub End : Val → SProp 𝓤
    End = (walk_of 𝓛 T hs c).post ((κs, qs, bounds, a, values), g)

    module _ (are : Sound 𝓛 n κs qs zero ps a) where
      abbrev pub held : List Entry
      held = entries_at 𝓛 n κs qs zero ps a are (first 𝓛 n κs qs zero ps a are)

      abbrev pub held_items : List (Item 𝓤)
      held_items = items 𝓛 held

      pub finish : (k : Known Res) (ws : Fulls 𝓛 n κs qs zero ps a are) {ψ : Type 0} → ψ → (c κs a).ensures g k.x (at_exit T κs a (lasts-at 𝓛 n κs qs zero ps a are ws)) ≡ fact 𝓤 ψ
          → ent 𝓤 (⋆ 𝓛 (items_at 𝓛 n κs qs zero ps a are ws)) (End k.v)
      finish k ws {ψ} p e =
          via 𝓤 (sep 𝓤 Out ((c κs a).ensures g k.x (at_exit T κs a (lasts-at 𝓛 n κs qs zero ps a are ws))))
          (subst (λ (P : SProp 𝓤). ent 𝓤 (⋆ 𝓛 (items_at 𝓛 n κs qs zero ps a are ws)) (sep 𝓤 Out P)) (sym e)
          (qed 𝓛 (raw (⋆ 𝓛 (items_at 𝓛 n κs qs zero ps a are ws)) ∷ []) ∵ says ! p $
          use1 𝓛 (raw (toks_n 𝓛 n κs qs zero n) ⊛ ‵ (had-at 𝓛 n κs qs zero ps a are ws)) (leaves 𝓛 n κs qs zero ps a are ws) $ split ! $
          use1 𝓛 (raw (toks 𝓛 n κs qs)) (subst (λ (P : SProp 𝓤). ent 𝓤 P (toks 𝓛 n κs qs)) (each_tok 𝓛 n κs qs) (id⊢ 𝓤 (toks 𝓛 n κs qs))) $ frame ! $ frame ! $ use0 𝓛 (‵ (Res.R.own_val k.x (k.v ∷ []))) (Res.makes k.x (k.v ∷ []) k.is) $ done !))
          (ends_at 𝓛 T hs c ((κs, qs, bounds, a, values), g) k.v k.x (lasts-at 𝓛 n κs qs zero ps a are ws) (fit_at 𝓛 n κs qs zero ps a are ws))
        where
          Out : SProp 𝓤
          Out = sep 𝓤 (toks 𝓛 n κs qs) (sep 𝓤 (sem 𝓛 (had-at 𝓛 n κs qs zero ps a are ws)) (sem 𝓛 (Res.R.own_val k.x (k.v ∷ []))))

      -- what the code asks, from the slices at entry to the end
      -- blk i is the block of local i
      abbrev pub code-asks : Calls 𝓤 H → Fn → Type 2
      code-asks C fn =
          (blk : ℕ → ℕ) → Vc 𝓤 H C (local-types fn.locals) blk fn.body (empty ∷ initial (tail_of (local-types fn.locals)) (flat (types_at (slots 𝓛 n zero ps) κs) values)) (⋆ 𝓛 held_items) (ReturnVc 𝓤 H C (local-types fn.locals) blk End)

  module _ (𝓣 : Tables 𝓤 H) (fn : Fn) (Φ : (κs : Lfts n) → Args T.signature κs → Type 0) (asks : (κs : Lfts n) (a : Args T.signature κs) (g : (c κs a).ghost) → ent 𝓤 ((c κs a).requires g) (fact 𝓤 (Φ κs a))) where
    abbrev ts : List Ty
    ts = local-types fn.locals

    -- the locals' types begin with the result's and the parameters': by `refl` at each function
    module _ (some-local : length ts ≡ suc (length (tail_of ts))) (typed : (κs : Lfts n) → tail_of ts ≡ mirs (types_at (slots 𝓛 n zero ps) κs) ++ dropN (length ps) (tail_of ts)) where
      pub function-meets : ((κs : Lfts n) (qs : Shares n) (bounds : AllOutlive n [] κs) (a : Args T.signature κs) (g : (c κs a).ghost) (are : Sound 𝓛 n κs qs zero ps a) → Φ κs a → code-asks κs qs bounds a g are 𝓣.C fn)
          → Meets 𝓛 (sig 𝓛 ps Res.R) (WpFn 𝓤 H 𝓣.C 𝓣.Λ fn) (closing 𝓛 T c)
      function-meets body = walk_Meets 𝓛 T hs (go 𝓛 n zero ps) c (WpFn 𝓤 H 𝓣.C 𝓣.Λ fn) (WpFn-mono 𝓤 H 𝓛.laws 𝓣 fn)
          (walked 𝓛 T hs c (WpFn 𝓤 H 𝓣.C 𝓣.Λ fn) (λ κs. spells 𝓛 n κs zero ps) (λ κs. tell 𝓛 n κs zero ps) (λ κs qs bounds a g are₀.
          let are : Sound 𝓛 n κs qs zero ps a = sound-params 𝓛 n κs qs zero ps a are₀ in
          let on : SProp 𝓤 = on_entry 𝓛 T.signature κs qs a (values κs qs bounds a g) in
          let vs : List Val = flat (types_at (slots 𝓛 n zero ps) κs) (values κs qs bounds a g) in
          via 𝓤 (sep 𝓤 on (fact 𝓤 (Φ κs a))) (mono_r 𝓤 on (asks κs a g)) (needs 𝓤 (Φ κs a) on (λ φ.
          via 𝓤 (⋆ 𝓛 (held_items κs qs bounds a g are))
          (via 𝓤 (sep 𝓤 (toks_n 𝓛 n κs qs zero n) (sem 𝓛 (owned_at 𝓛 n κs qs zero ps a)))
          (mono_l 𝓤 (sem 𝓛 (owned_at 𝓛 n κs qs zero ps a)) (subst (λ (P : SProp 𝓤). ent 𝓤 (toks 𝓛 n κs qs) P) (each_tok 𝓛 n κs qs) (id⊢ 𝓤 (toks 𝓛 n κs qs)))) (enters 𝓛 n κs qs zero ps a are))
          (vc-fn-sound 𝓛 𝓣 fn vs (⋆ 𝓛 (held_items κs qs bounds a g are)) (End κs qs bounds a g)
          (passes ts vs some-local (subst (λ (ρs : List Ty). Passed ρs vs) (sym (typed κs)) (passed-all (mirs (types_at (slots 𝓛 n zero ps) κs)) (dropN (length ps) (tail_of ts)) vs (all_Typed 𝓛 (types_at (slots 𝓛 n zero ps) κs) (lawfuls 𝓛 n κs zero ps) a (values κs qs bounds a g) are₀))), body κs qs bounds a g are φ))))))
