-- The slices that a function holds, as one list of entries, and a call that takes some of them: each is lent for the call by its place in the list, for a lifetime made for it, and is back in its place after the call.
--     Slice R          a slice of elements of R that is held: lifetime, share, name, block, offset, count. One that is held by `&` has no name, and its γ is not read.        Elements s       a list of its elements, as long as its count
--     Entry            it is held by `&mut` (`by-mut`) or by `&` (`by_shr`)
--     Pass             what a caller writes for an argument: `value k`, or the place of a slice that is handed on by `&mut` (`lent i`) or by `&` (`shown i`).        args es ss       the arguments that this makes
--     left_by          what is held after the call, the lent slices at the lists that the callee left
--     calls-with       a call, with the callee's theorem in place: what it asks (`asks`, with the proof, or `free`), the type of its result, what it says of the result and the last lists
--     Cited            a callee's theorem as a lemma at slices that are variables.        calls-citing     a call that cites one: what the callee asks and says is read off the lemma
--     Lendable         each place holds a slice that can be passed so: `tt` where all are lent by `&mut`. One that is passed by `&` needs a law of its elements, which plain data has:
--                      of what is held by `&mut` that a borrow is shared out (`CanShare`, as `(uint_Copied 𝓛 w).shares full_share []`), and of what is held by `&` that it can be had twice (`RowLaws`, as `uint_row_laws w`)
-- Assumes `Logic`, and that the table of calls is monotone under a frame.
use mathlib.Core.Path.{◌≡◌, refl, sym, subst, ap, ◌∙◌}
use Prim.Native.Nat.{ℕ, zero, suc}
use mathlib.Core.List.{List, [], ◌∷◌}
use lib.ListN.{length, get_or, set}
use seplogic.Ra.Ura.{Ura}
use base.Fraction.{full_share}
use mir.Syntax.{Callee, Ty, Lifetime, named, Opd}
use mir.Val.{Val}
use base.Logic.{SProp, ent, sep, ex, guard, emp, id⊢, via, mono_l, mono_r, fst∗, snd∗, emp∗}
use base.Fml.{Lft, Share, GName, Fml, ftrue, feq, fsep, flft, fbor}
use prog.Wp.{Calls}
use types.Logic.{Logic, sem}
use contract.Monad.{fact, fact_i}
use contract.Lifetimes.{Lfts, Shares, toks}
use sound.WpLaws.{FmC}
use types.Kit.{Item, ‵, raw, some, given, later, ◌⊛◌, mean, ⋆, nth, del, put, pull, fill, ◌$◌, ◌∵◌, !, qed, by, move, drop, use0, use1, use2, split, join, group, pick, learn, fsplit, fjoin, feq_l, frame, await, updating, now as at_once, show, check, done}
use denote.RattleType.{RattleType, RowLaws, Denots, Valss, owns}
use denote.Shares.{Shares as CanShare}
use denote.Laws.{Is, shows, Typed}
use denote.Slice.{slice_val, MutSlice, ShrSlice, Room, finally, shr_slice_copy}
use denote.Lend.{Held}
use denote.Steps.{peeks, heard}
use Rattle.walkkit.proofs.ByValue.{ByVal, Known}
use Rattle.walkkit.proofs.Symbolic.{Store, holds, CallVc, no-type, Unsupported}
use Rattle.walkkit.proofs.Again.{at-list, seen-list, LentAgain, SharedAgain, relends, regains, reshares, unshares}

pub record Slice (R : RattleType) : Type 2 where
  pub lv : Lifetime
  pub κ : Lft
  pub q : Share
  pub γ : GName
  pub b : ℕ
  pub o : ℕ
  pub m : ℕ
  pub room : Room R m

abbrev pub Elements : {R : RattleType} → Slice R → Type 0
Elements {R} s = (l : List R.Denot) × (length l ≡ s.m)

abbrev pub slice-value : {R : RattleType} → Slice R → Val
slice-value s = slice_val (s.b, s.o) s.m

pub data Arg : Type 2 where
  val : (R : RattleType) → R.Denot → Val → Arg
  lend : ℕ → {R : RattleType} (s : Slice R) → Elements s → Arg
  share : ℕ → {R : RattleType} (s : Slice R) → Elements s → Arg
  hand : ℕ → {R : RattleType} (s : Slice R) → Elements s → Arg
  none : Arg

-- ---- what a callee's contract binds
abbrev pub Ghosts : List Arg → Type 0
Ghosts [] = Unit {0}
Ghosts (val R x v ∷ xs) = Ghosts xs
Ghosts (lend i {R} s l ∷ xs) = (ℕ × GName) × Ghosts xs
Ghosts (share i {R} s l ∷ xs) = ℕ × Ghosts xs
Ghosts (hand i {R} s l ∷ xs) = Ghosts xs
Ghosts (none ∷ xs) = Ghosts xs

abbrev pub ref-count : List Arg → ℕ
ref-count [] = zero
ref-count (val R x v ∷ xs) = ref-count xs
ref-count (lend i {R} s l ∷ xs) = suc (ref-count xs)
ref-count (share i {R} s l ∷ xs) = suc (ref-count xs)
ref-count (hand i {R} s l ∷ xs) = suc (ref-count xs)
ref-count (none ∷ xs) = ref-count xs

abbrev pub lfts : (xs : List Arg) → Ghosts xs → Lfts (ref-count xs)
lfts [] g = tt
lfts (val R x v ∷ xs) g = lfts xs g
lfts (lend i {R} s l ∷ xs) g = (g.0.0 ∷ [], lfts xs g.1)
lfts (share i {R} s l ∷ xs) g = (g.0 ∷ [], lfts xs g.1)
lfts (hand i {R} s l ∷ xs) g = (s.κ, lfts xs g)
lfts (none ∷ xs) g = lfts xs g

abbrev pub shares : (xs : List Arg) → Shares (ref-count xs)
shares [] = tt
shares (val R x v ∷ xs) = shares xs
shares (lend i {R} s l ∷ xs) = (full_share, shares xs)
shares (share i {R} s l ∷ xs) = (full_share, shares xs)
shares (hand i {R} s l ∷ xs) = (s.q, shares xs)
shares (none ∷ xs) = shares xs

abbrev pub types_of : ℕ → (xs : List Arg) → Ghosts xs → List RattleType
types_of j [] g = []
types_of j (val R x v ∷ xs) g = R ∷ types_of j xs g
types_of j (lend i {R} s l ∷ xs) g = MutSlice (named j) (g.0.0 ∷ []) R ∷ types_of (suc j) xs g.1
types_of j (share i {R} s l ∷ xs) g = ShrSlice (named j) (g.0 ∷ []) R ∷ types_of (suc j) xs g.1
types_of j (hand i {R} s l ∷ xs) g = ShrSlice (named j) s.κ R ∷ types_of (suc j) xs g
types_of j (none ∷ xs) g = types_of j xs g

abbrev pub denots : (j : ℕ) (xs : List Arg) (g : Ghosts xs) → Denots (types_of j xs g)
denots j [] g = tt
denots j (val R x v ∷ xs) g = (x, denots j xs g)
denots j (lend i {R} s l ∷ xs) g = (at-list R s.b s.o g.0.1 l.0, denots (suc j) xs g.1)
denots j (share i {R} s l ∷ xs) g = (seen-list R s.b s.o l.0, denots (suc j) xs g.1)
denots j (hand i {R} s l ∷ xs) g = (seen-list R s.b s.o l.0, denots (suc j) xs g)
denots j (none ∷ xs) g = denots j xs g

abbrev pub valss : (j : ℕ) (xs : List Arg) (g : Ghosts xs) → Valss (types_of j xs g)
valss j [] g = tt
valss j (val R x v ∷ xs) g = (v ∷ [], valss j xs g)
valss j (lend i {R} s l ∷ xs) g = (slice-value s ∷ [], valss (suc j) xs g.1)
valss j (share i {R} s l ∷ xs) g = (slice-value s ∷ [], valss (suc j) xs g.1)
valss j (hand i {R} s l ∷ xs) g = (slice-value s ∷ [], valss (suc j) xs g)
valss j (none ∷ xs) g = valss j xs g

-- the machine values passed
abbrev pub argv : List Arg → List Val
argv [] = []
argv (val R x v ∷ xs) = v ∷ argv xs
argv (lend i {R} s l ∷ xs) = slice-value s ∷ argv xs
argv (share i {R} s l ∷ xs) = slice-value s ∷ argv xs
argv (hand i {R} s l ∷ xs) = slice-value s ∷ argv xs
argv (none ∷ xs) = argv xs

-- the last lists that a callee's contract binds, and that each is xs long xs before
abbrev pub Lasts : List Arg → Type 0
Lasts [] = Unit {0}
Lasts (val R x v ∷ xs) = Unit {0} × Lasts xs
Lasts (lend i {R} s l ∷ xs) = List R.Denot × Lasts xs
Lasts (share i {R} s l ∷ xs) = Unit {0} × Lasts xs
Lasts (hand i {R} s l ∷ xs) = Unit {0} × Lasts xs
Lasts (none ∷ xs) = Lasts xs

abbrev pub lasts-of : (xs : List Arg) (g : Ghosts xs) → Lasts xs → Fml
lasts-of [] g ws = ftrue
lasts-of (val R x v ∷ xs) g ws = fsep ftrue (lasts-of xs g ws.1)
lasts-of (lend i {R} s l ∷ xs) g ws = fsep (fsep (fsep (finally R g.0.1 ws.0) (feq ℕ (length ws.0) (length l.0))) (fbor (g.0.0 ∷ []) (Held R (length l.0) s.b s.o g.0.1))) (lasts-of xs g.1 ws.1)
lasts-of (share i {R} s l ∷ xs) g ws = fsep ftrue (lasts-of xs g.1 ws.1)
lasts-of (hand i {R} s l ∷ xs) g ws = fsep ftrue (lasts-of xs g ws.1)
lasts-of (none ∷ xs) g ws = lasts-of xs g ws

abbrev pub Lengths : (xs : List Arg) → Lasts xs → Type 0
Lengths [] ws = Unit {0}
Lengths (val R x v ∷ xs) ws = Lengths xs ws.1
Lengths (lend i {R} s l ∷ xs) ws = (length ws.0 ≡ s.m) × Lengths xs ws.1
Lengths (share i {R} s l ∷ xs) ws = Lengths xs ws.1
Lengths (hand i {R} s l ∷ xs) ws = Lengths xs ws.1
Lengths (none ∷ xs) ws = Lengths xs ws

module _ {M : Type 1} {𝓤 : Ura M} (𝓛 : Logic 𝓤) where
  open 𝓛 use {H}

  abbrev pub HeldMut : {R : RattleType} (s : Slice R) → Elements s → Item 𝓤
  HeldMut {R} s l = ‵ ((MutSlice s.lv s.κ R).own_val (at-list R s.b s.o s.γ l.0) (slice-value s ∷ [])) ⊛ ‵ (flft s.κ s.q)

  abbrev pub HeldShr : {R : RattleType} (s : Slice R) → Elements s → Item 𝓤
  HeldShr {R} s l = ‵ ((ShrSlice s.lv s.κ R).own_val (seen-list R s.b s.o l.0) (slice-value s ∷ [])) ⊛ ‵ (flft s.κ s.q)

  abbrev hole : Item 𝓤
  hole = ‵ ftrue

  abbrev pub opened : List Arg → List (Item 𝓤) → List (Item 𝓤)
  opened [] Γ = Γ
  opened (val R x v ∷ xs) Γ = opened xs Γ
  opened (lend i {R} s l ∷ xs) Γ = opened xs (put 𝓛 i hole Γ)
  opened (share i {R} s l ∷ xs) Γ = opened xs (put 𝓛 i hole Γ)
  opened (hand i {R} s l ∷ xs) Γ = opened xs (put 𝓛 i hole Γ)
  opened (none ∷ xs) Γ = opened xs Γ

  abbrev pub after : (xs : List Arg) (ws : Lasts xs) → Lengths xs ws → List (Item 𝓤) → List (Item 𝓤)
  after [] ws le Γ = Γ
  after (val R x v ∷ xs) ws le Γ = after xs ws.1 le Γ
  after (lend i {R} s l ∷ xs) ws le Γ = put 𝓛 i (HeldMut s (ws.0, le.0)) (after xs ws.1 le.1 (put 𝓛 i hole Γ))
  after (share i {R} s l ∷ xs) ws le Γ = put 𝓛 i (HeldMut s l) (after xs ws.1 le (put 𝓛 i hole Γ))
  after (hand i {R} s l ∷ xs) ws le Γ = put 𝓛 i (HeldShr s l) (after xs ws.1 le (put 𝓛 i hole Γ))
  after (none ∷ xs) ws le Γ = after xs ws le Γ

  abbrev pub Ready : List Arg → List (Item 𝓤) → Type 2
  Ready [] Γ = Unit {2}
  Ready (val R x v ∷ xs) Γ = ent 𝓤 (emp 𝓤) (sem 𝓛 (R.own_val x (v ∷ []))) × Ready xs Γ
  Ready (lend i {R} s l ∷ xs) Γ = (nth 𝓛 i Γ ≡ HeldMut s l) × Ready xs (put 𝓛 i hole Γ)
  Ready (share i {R} s l ∷ xs) Γ = (nth 𝓛 i Γ ≡ HeldMut s l) × CanShare 𝓛 R [] × Ready xs (put 𝓛 i hole Γ)
  Ready (hand i {R} s l ∷ xs) Γ = (nth 𝓛 i Γ ≡ HeldShr s l) × RowLaws R × Ready xs (put 𝓛 i hole Γ)
  Ready (none ∷ xs) Γ = Unsupported

  abbrev kept : (xs : List Arg) → Ghosts xs → Fml
  kept [] g = ftrue
  kept (val R x v ∷ xs) g = kept xs g
  kept (lend i {R} s l ∷ xs) g = fsep (LentAgain R s.κ (g.0.0 ∷ []) s.q s.γ s.b s.o g.0.1 l.0) (kept xs g.1)
  kept (share i {R} s l ∷ xs) g = fsep (SharedAgain R s.κ (g.0 ∷ []) s.q s.γ s.b s.o l.0) (kept xs g.1)
  kept (hand i {R} s l ∷ xs) g = fsep ((ShrSlice s.lv s.κ R).own_val (seen-list R s.b s.o l.0) (slice-value s ∷ [])) (kept xs g)
  kept (none ∷ xs) g = kept xs g

  abbrev Seen : {R : RattleType} (s : Slice R) → Elements s → Fml
  Seen {R} s l = (ShrSlice s.lv s.κ R).own_val (seen-list R s.b s.o l.0) (slice-value s ∷ [])

  module _ where
    take_out : (i : ℕ) (Γ : List (Item 𝓤)) → ent 𝓤 (⋆ 𝓛 Γ) (sep 𝓤 (mean 𝓛 (nth 𝓛 i Γ)) (⋆ 𝓛 (put 𝓛 i hole Γ)))
    take_out i Γ = via 𝓤 (sep 𝓤 (mean 𝓛 (nth 𝓛 i Γ)) (⋆ 𝓛 (del 𝓛 i Γ))) (pull 𝓛 i Γ)
        (mono_r 𝓤 (mean 𝓛 (nth 𝓛 i Γ)) (via 𝓤 (sep 𝓤 (emp 𝓤) (⋆ 𝓛 (del 𝓛 i Γ))) (emp∗ 𝓤 (⋆ 𝓛 (del 𝓛 i Γ))) (fill 𝓛 i hole Γ)))

    put_in : (i : ℕ) (k : Item 𝓤) (Γ : List (Item 𝓤)) → ent 𝓤 (sep 𝓤 (mean 𝓛 k) (⋆ 𝓛 Γ)) (⋆ 𝓛 (put 𝓛 i k Γ))
    put_in i k Γ = via 𝓤 (sep 𝓤 (mean 𝓛 k) (⋆ 𝓛 (del 𝓛 i Γ)))
        (mono_r 𝓤 (mean 𝓛 k) (via 𝓤 (sep 𝓤 (mean 𝓛 (nth 𝓛 i Γ)) (⋆ 𝓛 (del 𝓛 i Γ))) (pull 𝓛 i Γ) (snd∗ 𝓤 (mean 𝓛 (nth 𝓛 i Γ)) (⋆ 𝓛 (del 𝓛 i Γ))))) (fill 𝓛 i k Γ)

    taken : (i : ℕ) (k : Item 𝓤) (Γ : List (Item 𝓤)) → nth 𝓛 i Γ ≡ k → ent 𝓤 (⋆ 𝓛 Γ) (sep 𝓤 (mean 𝓛 k) (⋆ 𝓛 (put 𝓛 i hole Γ)))
    taken i k Γ e = subst (λ (x : Item 𝓤). ent 𝓤 (⋆ 𝓛 Γ) (sep 𝓤 (mean 𝓛 x) (⋆ 𝓛 (put 𝓛 i hole Γ)))) e (take_out i Γ)

    -- ---- all that a call takes is lent
    abbrev Handed : ℕ → (xs : List Arg) → Ghosts xs → Item 𝓤
    Handed j xs g = raw (toks 𝓛 (ref-count xs) (lfts xs g) (shares xs)) ⊛ ‵ (owns (types_of j xs g) (denots j xs g) (valss j xs g))

    abbrev Lent : ℕ → (xs : List Arg) (Γ : List (Item 𝓤)) → Ghosts xs → Item 𝓤
    Lent j xs Γ g = Handed j xs g ⊛ (‵ (kept xs g) ⊛ raw (⋆ 𝓛 (opened xs Γ)))

    lends : (xs : List Arg) (j : ℕ) (Γ : List (Item 𝓤)) → Ready xs Γ → ent 𝓤 (⋆ 𝓛 Γ) (H.⇛ (ex 𝓤 (λ (g : Ghosts xs). mean 𝓛 (Lent j xs Γ g))))
    lends [] j Γ z =
        qed 𝓛 (raw (⋆ 𝓛 Γ) ∷ []) ∵ updating ! $ at_once ! $ show ! (λ (g : Ghosts []). mean 𝓛 (Lent j [] Γ g)) tt $ use0 𝓛 (‵ ftrue) (id⊢ 𝓤 (emp 𝓤)) $ use0 𝓛 (‵ ftrue) (id⊢ 𝓤 (emp 𝓤)) $ use0 𝓛 (‵ ftrue) (id⊢ 𝓤 (emp 𝓤)) $ join ! $ frame ! $ done !
    lends (val R x v ∷ xs) j Γ z =
        qed 𝓛 (raw (⋆ 𝓛 Γ) ∷ []) ∵ updating ! $ use1 𝓛 (later (some (λ (g : Ghosts xs). Lent j xs Γ g))) (lends xs j Γ z.1) $ await ! tt $ pick ! (λ g. split ! $ split ! $
        move ! (1 ∷ []) $ use0 𝓛 (‵ (R.own_val x (v ∷ []))) z.0 $ fjoin ! $ move ! (1 ∷ 0 ∷ []) $ join ! $ at_once ! $ show ! (λ (g' : Ghosts xs). mean 𝓛 (Lent j (val R x v ∷ xs) Γ g')) g $ frame ! $ done !)
    lends (lend i {R} s l ∷ xs) j Γ z =
        qed 𝓛 (raw (⋆ 𝓛 Γ) ∷ []) ∵ updating ! $ use1 𝓛 (HeldMut s l ⊛ raw (⋆ 𝓛 (put 𝓛 i hole Γ))) (taken i (HeldMut s l) Γ z.0) $ split ! $ split ! $
        relends ! tt R s.lv (named j) s.κ s.q s.γ s.b s.o s.m l.0 (sym l.1) (λ ν δ.
        -- [its token; the slice lent; what is kept of it; the others]
        move ! (3 ∷ []) $ use1 𝓛 (later (some (λ (g : Ghosts xs). Lent (suc j) xs (put 𝓛 i hole Γ) g))) (lends xs (suc j) (put 𝓛 i hole Γ) z.1) $ await ! tt $ pick ! (λ g. split ! $ split ! $ move ! (2 ∷ []) $ split ! $
        -- [kept; the rest; tokens; owned; its token; the slice lent; what is kept of it]
        at_once ! $ show ! (λ (g' : Ghosts (lend i s l ∷ xs)). mean 𝓛 (Lent j (lend i s l ∷ xs) Γ g')) ((ν, δ), g) $
        move ! (4 ∷ 2 ∷ []) $ join ! $ move ! (4 ∷ 3 ∷ []) $ fjoin ! $ move ! (1 ∷ 0 ∷ []) $ join ! $ frame ! $ move ! (2 ∷ 0 ∷ []) $ fjoin ! $ done !))
    lends (share i {R} s l ∷ xs) j Γ z =
        qed 𝓛 (raw (⋆ 𝓛 Γ) ∷ []) ∵ updating ! $ use1 𝓛 (HeldMut s l ⊛ raw (⋆ 𝓛 (put 𝓛 i hole Γ))) (taken i (HeldMut s l) Γ z.0) $ split ! $ split ! $
        reshares ! tt R z.1 s.lv (named j) s.κ s.q s.γ s.b s.o s.m l.0 (sym l.1) (λ ν.
        move ! (3 ∷ []) $ use1 𝓛 (later (some (λ (g : Ghosts xs). Lent (suc j) xs (put 𝓛 i hole Γ) g))) (lends xs (suc j) (put 𝓛 i hole Γ) z.2) $ await ! tt $ pick ! (λ g. split ! $ split ! $ move ! (2 ∷ []) $ split ! $
        at_once ! $ show ! (λ (g' : Ghosts (share i s l ∷ xs)). mean 𝓛 (Lent j (share i s l ∷ xs) Γ g')) (ν, g) $
        move ! (4 ∷ 2 ∷ []) $ join ! $ move ! (4 ∷ 3 ∷ []) $ fjoin ! $ move ! (1 ∷ 0 ∷ []) $ join ! $ frame ! $ move ! (2 ∷ 0 ∷ []) $ fjoin ! $ done !))
    lends (hand i {R} s l ∷ xs) j Γ z =
        qed 𝓛 (raw (⋆ 𝓛 Γ) ∷ []) ∵ updating ! $ use1 𝓛 (HeldShr s l ⊛ raw (⋆ 𝓛 (put 𝓛 i hole Γ))) (taken i (HeldShr s l) Γ z.0) $ split ! $ split ! $
        use1 𝓛 (‵ (Seen s l) ⊛ ‵ (Seen s l)) ((shr_slice_copy 𝓛 s.lv s.κ R z.1).twice (seen-list R s.b s.o l.0) (slice-value s ∷ [])) $ split ! $
        -- [the slice; the slice; its token; the others]
        move ! (3 ∷ []) $ use1 𝓛 (later (some (λ (g : Ghosts xs). Lent (suc j) xs (put 𝓛 i hole Γ) g))) (lends xs (suc j) (put 𝓛 i hole Γ) z.2) $ await ! tt $ pick ! (λ g. split ! $ split ! $ move ! (2 ∷ []) $ split ! $
        -- [kept; the rest; tokens; owned; the slice; the slice; its token]
        at_once ! $ show ! (λ (g' : Ghosts (hand i s l ∷ xs)). mean 𝓛 (Lent j (hand i s l ∷ xs) Γ g')) g $
        move ! (6 ∷ 2 ∷ []) $ join ! $ move ! (4 ∷ 3 ∷ []) $ fjoin ! $ move ! (1 ∷ 0 ∷ []) $ join ! $ frame ! $ move ! (2 ∷ 0 ∷ []) $ fjoin ! $ done !)
    lends (none ∷ xs) j Γ z = absurd z.0

    -- ---- and is back
    abbrev ReturnVc : (xs : List Arg) (Γ : List (Item 𝓤)) (g : Ghosts xs) → Lasts xs → Item 𝓤
    ReturnVc xs Γ g ws = raw (toks 𝓛 (ref-count xs) (lfts xs g) (shares xs)) ⊛ (‵ (lasts-of xs g ws) ⊛ (‵ (kept xs g) ⊛ raw (⋆ 𝓛 (opened xs Γ))))

    abbrev Back : (xs : List Arg) (Γ : List (Item 𝓤)) → Lasts xs → Item 𝓤
    Back xs Γ ws = some (λ (le : Lengths xs ws). raw (⋆ 𝓛 (after xs ws le Γ)))

    backs : (xs : List Arg) (Γ : List (Item 𝓤)) (g : Ghosts xs) (ws : Lasts xs) → ent 𝓤 (mean 𝓛 (ReturnVc xs Γ g ws)) (H.⇛ (mean 𝓛 (Back xs Γ ws)))
    backs [] Γ g ws = qed 𝓛 (ReturnVc [] Γ g ws ∷ []) ∵ updating ! $ split ! $ drop ! $ split ! $ drop ! $ split ! $ drop ! $ at_once ! $ show ! (λ (le : Lengths [] ws). ⋆ 𝓛 Γ) tt $ done !
    backs (val R x v ∷ xs) Γ g ws =
        qed 𝓛 (ReturnVc (val R x v ∷ xs) Γ g ws ∷ []) ∵ updating ! $ split ! $ move ! (1 ∷ []) $ split ! $ fsplit ! $ drop ! $ join ! $ move ! (1 ∷ 0 ∷ []) $ join ! $ use1 𝓛 (later (Back xs Γ ws.1)) (backs xs Γ g ws.1) $ await ! tt $ pick ! (λ le.
        at_once ! $ show ! (λ (le' : Lengths (val R x v ∷ xs) ws). ⋆ 𝓛 (after (val R x v ∷ xs) ws le' Γ)) le $ done !)
    backs (lend i {R} s l ∷ xs) Γ g ws =
        qed 𝓛 (ReturnVc (lend i s l ∷ xs) Γ g ws ∷ []) ∵ updating ! $ split ! $
        use1 𝓛 (‵ (flft (g.0.0 ∷ []) full_share) ⊛ raw (toks 𝓛 (ref-count xs) (lfts xs g.1) (shares xs))) (id⊢ 𝓤 _) $ split ! $ move ! (2 ∷ []) $ split ! $ fsplit ! $ fsplit ! $ fsplit ! $ move ! (2 ∷ []) $ drop ! $ move ! (1 ∷ []) $ feq_l ! (λ e. move ! (2 ∷ []) $ split ! $ fsplit ! $
        -- [what is kept of it; kept; the rest; its last list; lasts; its token; tokens]
        move ! (6 ∷ 4 ∷ 1 ∷ 2 ∷ []) $ group ! 4 $ use1 𝓛 (later (Back xs (put 𝓛 i hole Γ) ws.1)) (backs xs (put 𝓛 i hole Γ) g.1 ws.1) $ await ! tt $ pick ! (λ le.
        -- [the rest; what is kept of it; its last list; its token]
        move ! (3 ∷ 1 ∷ 2 ∷ []) $ regains ! tt R s.lv s.κ s.q s.γ s.b s.o s.m g.0.0 g.0.1 l.0 ws.0 (sym l.1) (subst (Room R) (sym l.1) s.room) e $ join ! $
        use2 𝓛 (raw (⋆ 𝓛 (put 𝓛 i (HeldMut s (ws.0, e ∙ l.1)) (after xs ws.1 le (put 𝓛 i hole Γ))))) (put_in i (HeldMut s (ws.0, e ∙ l.1)) (after xs ws.1 le (put 𝓛 i hole Γ))) $
        at_once ! $ show ! (λ (le' : Lengths (lend i s l ∷ xs) ws). ⋆ 𝓛 (after (lend i s l ∷ xs) ws le' Γ)) (e ∙ l.1, le) $ done !))
    backs (share i {R} s l ∷ xs) Γ g ws =
        qed 𝓛 (ReturnVc (share i s l ∷ xs) Γ g ws ∷ []) ∵ updating ! $ split ! $
        use1 𝓛 (‵ (flft (g.0 ∷ []) full_share) ⊛ raw (toks 𝓛 (ref-count xs) (lfts xs g.1) (shares xs))) (id⊢ 𝓤 _) $ split ! $ move ! (2 ∷ []) $ split ! $ fsplit ! $ drop ! $ move ! (1 ∷ []) $ split ! $ fsplit ! $
        -- [what is kept of it; kept; the rest; lasts; its token; tokens]
        move ! (5 ∷ 3 ∷ 1 ∷ 2 ∷ []) $ group ! 4 $ use1 𝓛 (later (Back xs (put 𝓛 i hole Γ) ws.1)) (backs xs (put 𝓛 i hole Γ) g.1 ws.1) $ await ! tt $ pick ! (λ le.
        -- [the rest; what is kept of it; its token]
        move ! (2 ∷ 1 ∷ []) $ unshares ! tt R s.lv s.κ s.q s.γ s.b s.o s.m g.0 l.0 (sym l.1) (subst (Room R) (sym l.1) s.room) $ join ! $
        use2 𝓛 (raw (⋆ 𝓛 (put 𝓛 i (HeldMut s l) (after xs ws.1 le (put 𝓛 i hole Γ))))) (put_in i (HeldMut s l) (after xs ws.1 le (put 𝓛 i hole Γ))) $
        at_once ! $ show ! (λ (le' : Lengths (share i s l ∷ xs) ws). ⋆ 𝓛 (after (share i s l ∷ xs) ws le' Γ)) le $ done !)
    backs (hand i {R} s l ∷ xs) Γ g ws =
        qed 𝓛 (ReturnVc (hand i s l ∷ xs) Γ g ws ∷ []) ∵ updating ! $ split ! $
        use1 𝓛 (‵ (flft s.κ s.q) ⊛ raw (toks 𝓛 (ref-count xs) (lfts xs g) (shares xs))) (id⊢ 𝓤 _) $ split ! $ move ! (2 ∷ []) $ split ! $ fsplit ! $ drop ! $ move ! (1 ∷ []) $ split ! $ fsplit ! $
        -- [the slice; kept; the rest; lasts; its token; tokens]
        move ! (5 ∷ 3 ∷ 1 ∷ 2 ∷ []) $ group ! 4 $ use1 𝓛 (later (Back xs (put 𝓛 i hole Γ) ws.1)) (backs xs (put 𝓛 i hole Γ) g ws.1) $ await ! tt $ pick ! (λ le.
        -- [the rest; the slice; its token]
        move ! (1 ∷ 2 ∷ []) $ join ! $ use2 𝓛 (raw (⋆ 𝓛 (put 𝓛 i (HeldShr s l) (after xs ws.1 le (put 𝓛 i hole Γ))))) (put_in i (HeldShr s l) (after xs ws.1 le (put 𝓛 i hole Γ))) $
        at_once ! $ show ! (λ (le' : Lengths (hand i s l ∷ xs) ws). ⋆ 𝓛 (after (hand i s l ∷ xs) ws le' Γ)) le $ done !)
    backs (none ∷ xs) Γ g ws = backs xs Γ g ws

    -- ---- the call. Pre is the callee's `requires`, and φ what its `ensures` says of the result and the last lists
    module _ (C : Calls 𝓤 H) (fm : FmC 𝓤 H 𝓛.laws C) (f : Callee) (xs : List Arg) (Pre : SProp 𝓤) (Res : RattleType) (φ : Res.Denot → Lasts xs → Type 0) where
      abbrev pub Got : Type 0
      Got = (r : Res.Denot) × (ws : Lasts xs) × Lengths xs ws

      abbrev pub Knows : Val → Got → Type 0
      Knows w x = φ x.0 x.1 × Is Res x.0 (w ∷ [])

      abbrev pub Asked : Ghosts xs → Item 𝓤
      Asked g = Handed zero xs g ⊛ raw Pre

      abbrev pub Told : Ghosts xs → Val → Item 𝓤
      Told g w = later (some (λ (r : Res.Denot). (raw (toks 𝓛 (ref-count xs) (lfts xs g) (shares xs)) ⊛ ‵ (Res.own_val r (w ∷ []))) ⊛ some (λ (ws : Lasts xs). ‵ (lasts-of xs g ws) ⊛ raw (fact 𝓤 (φ r ws)))))

      -- the callee's theorem at these arguments: by computation it is that theorem at `((lfts xs g, shares xs, tt, denots 0 xs g, valss 0 xs g), tt)`
      abbrev pub Meets-at : Type 1
      Meets-at = (g : Ghosts xs) → ent 𝓤 (mean 𝓛 (Asked g)) (C f (argv xs) (λ w. mean 𝓛 (Told g w)))

      pub loan-call : Meets-at → ent 𝓤 (emp 𝓤) Pre → (Γ : List (Item 𝓤)) → Ready xs Γ
          → ent 𝓤 (⋆ 𝓛 Γ) (H.⇛ (C f (argv xs) (λ w. H.⇛ (ex 𝓤 (λ (x : Got). guard 𝓤 (Knows w x) (⋆ 𝓛 (after xs x.1 x.2 Γ)))))))
      loan-call met pre Γ ready =
          qed 𝓛 (raw (⋆ 𝓛 Γ) ∷ []) ∵ updating ! $ use1 𝓛 (later (some (λ (g : Ghosts xs). Lent zero xs Γ g))) (lends xs zero Γ ready) $ await ! tt $ pick ! (λ g. split ! $ at_once ! $
          by ! (via 𝓤 (sep 𝓤 (C f (argv xs) (λ w. mean 𝓛 (Told g w))) (mean 𝓛 (‵ (kept xs g) ⊛ raw (⋆ 𝓛 (opened xs Γ)))))
          (mono_l 𝓤 (mean 𝓛 (‵ (kept xs g) ⊛ raw (⋆ 𝓛 (opened xs Γ)))) (via 𝓤 (mean 𝓛 (Asked g)) (qed 𝓛 (Handed zero xs g ∷ []) ∵ use0 𝓛 (raw Pre) pre $ move ! (1 ∷ 0 ∷ []) $ done !) (met g)))
          (fm f (argv xs) (λ w. mean 𝓛 (Told g w)) (λ w. H.⇛ (ex 𝓤 (λ (x : Got). guard 𝓤 (Knows w x) (⋆ 𝓛 (after xs x.1 x.2 Γ))))) (mean 𝓛 (‵ (kept xs g) ⊛ raw (⋆ 𝓛 (opened xs Γ)))) (λ w.
          qed 𝓛 (Told g w ∷ (‵ (kept xs g) ⊛ raw (⋆ 𝓛 (opened xs Γ))) ∷ []) ∵ updating ! $ await ! tt $ pick ! (λ r. split ! $ move ! (1 ∷ []) $ pick ! (λ ws. split ! $ move ! (1 ∷ []) $ heard ! (φ r ws) (λ e.
          -- [lasts; tokens and result; kept and the rest]
          move ! (1 ∷ []) $ split ! $ move ! (1 ∷ []) $ peeks ! Res (Is Res) (shows 𝓛 Res) r (w ∷ []) (λ is. drop ! $ group ! 3 $ use1 𝓛 (later (Back xs Γ ws)) (backs xs Γ g ws) $ await ! tt $ pick ! (λ le.
          at_once ! $ show ! (λ (x : Got). guard 𝓤 (Knows w x) (⋆ 𝓛 (after xs x.1 x.2 Γ))) (r, ws, le) $ check ! (e, is) $ done !)))))))))

-- a callee's theorem at these arguments, as a lemma that callers cite: it asks φ₀, returns a value of Res, and says φ
pub record Cited {M : Type 1} {𝓤 : Ura M} (𝓛 : Logic 𝓤) (C : Calls 𝓤 𝓛.H) (fm : FmC 𝓤 𝓛.H 𝓛.laws C) (f : Callee) (xs : List Arg) (φ₀ : Type 0) (Res : ByVal 𝓛) (φ : Res.R.Denot → Lasts xs → Type 0) : Type 2 where
  pub theorem : Meets-at 𝓛 C fm f xs (fact 𝓤 φ₀) Res.R φ

-- the same of a callee that asks nothing
pub asks_nothing : {M : Type 1} {𝓤 : Ura M} (𝓛 : Logic 𝓤) (C : Calls 𝓤 𝓛.H) (fm : FmC 𝓤 𝓛.H 𝓛.laws C) (f : Callee) (xs : List Arg) (Res : ByVal 𝓛) (φ : Res.R.Denot → Lasts xs → Type 0)
    → Meets-at 𝓛 C fm f xs (emp 𝓤) Res.R φ → Cited 𝓛 C fm f xs (Unit {0}) Res φ
asks_nothing {𝓤 = 𝓤} 𝓛 C fm f xs Res φ met = record {
  theorem = λ g. via 𝓤 (mean 𝓛 (Asked 𝓛 C fm f xs (emp 𝓤) Res.R φ g)) (mono_r 𝓤 (mean 𝓛 (Handed 𝓛 zero xs g)) (via 𝓤 (sep 𝓤 (emp 𝓤) (fact 𝓤 (Unit {0}))) (emp∗ 𝓤 (fact 𝓤 (Unit {0}))) (fst∗ 𝓤 (emp 𝓤) (fact 𝓤 (Unit {0}))))) (met g);
}

-- ---- the same with the slices as entries: a call names them by their places
pub data Entry : Type 2 where
  by-mut : {R : RattleType} (s : Slice R) → Elements s → Entry
  by_shr : {R : RattleType} (s : Slice R) → Elements s → Entry
  gap : Entry

-- what a caller writes for an argument: a value that it has, or the place of a slice that is handed on by `&mut` (`lent`) or by `&` (`shown`)
pub data Pass {M : Type 1} {𝓤 : Ura M} (𝓛 : Logic 𝓤) : Type 2 where
  value : {B : ByVal 𝓛} → Known B → Pass 𝓛
  lent : ℕ → Pass 𝓛
  shown : ℕ → Pass 𝓛

abbrev pub entry : ℕ → List Entry → Entry
entry i [] = gap
entry zero (e ∷ es) = e
entry (suc i) (e ∷ es) = entry i es

abbrev pub change : ℕ → Entry → List Entry → List Entry
change i k [] = []
change zero k (e ∷ es) = k ∷ es
change (suc i) k (e ∷ es) = e ∷ change i k es

abbrev lends-at : ℕ → Entry → Arg
lends-at i (by-mut {R} s l) = lend i s l
lends-at i (by_shr {R} s l) = none
lends-at i gap = none

abbrev shows-at : ℕ → Entry → Arg
shows-at i (by-mut {R} s l) = share i s l
shows-at i (by_shr {R} s l) = hand i s l
shows-at i gap = none

module _ {M : Type 1} {𝓤 : Ura M} (𝓛 : Logic 𝓤) where
  abbrev pub item : Entry → Item 𝓤
  item (by-mut {R} s l) = HeldMut 𝓛 s l
  item (by_shr {R} s l) = HeldShr 𝓛 s l
  item gap = ‵ ftrue

  abbrev pub items : List Entry → List (Item 𝓤)
  items [] = []
  items (e ∷ es) = item e ∷ items es

  abbrev pub args : List Entry → List (Pass 𝓛) → List Arg
  args es [] = []
  args es (value {B} k ∷ ss) = val B.R k.x k.v ∷ args es ss
  args es (lent i ∷ ss) = lends-at i (entry i es) ∷ args (change i gap es) ss
  args es (shown i ∷ ss) = shows-at i (entry i es) ∷ args (change i gap es) ss

  item-at : (i : ℕ) (es : List Entry) → nth 𝓛 i (items es) ≡ item (entry i es)
  item-at i [] = refl
  item-at zero (e ∷ es) = refl
  item-at (suc i) (e ∷ es) = item-at i es

  items-change : (i : ℕ) (k : Entry) (es : List Entry) → items (change i k es) ≡ put 𝓛 i (item k) (items es)
  items-change i k [] = refl
  items-change zero k (e ∷ es) = refl
  items-change (suc i) k (e ∷ es) = ap (λ (Γ : List (Item 𝓤)). item e ∷ Γ) (items-change i k es)

  -- each place holds a slice that can be lent so: by computation, but for a law of the elements' type where it is handed on by `&`. Of what is held by `&mut` that is the law by which a borrow is shared out (`denote.Shares`), and of what is held by `&` that it can be had twice (`RowLaws`)
  abbrev can-lend : Entry → Type 2 → Type 2
  can-lend (by-mut {R} s l) K = K
  can-lend (by_shr {R} s l) K = Unsupported
  can-lend gap K = Unsupported

  abbrev can-show : Entry → Type 2 → Type 2
  can-show (by-mut {R} s l) K = CanShare 𝓛 R [] × K
  can-show (by_shr {R} s l) K = RowLaws R × K
  can-show gap K = Unsupported

  abbrev pub Lendable : List Entry → List (Pass 𝓛) → Type 2
  Lendable es [] = Unit {2}
  Lendable es (value {B} k ∷ ss) = Lendable es ss
  Lendable es (lent i ∷ ss) = can-lend (entry i es) (Lendable (change i gap es) ss)
  Lendable es (shown i ∷ ss) = can-show (entry i es) (Lendable (change i gap es) ss)

  lend-ready : (i : ℕ) (e : Entry) (xs : List Arg) (Γ : List (Item 𝓤)) (K : Type 2) → nth 𝓛 i Γ ≡ item e → can-lend e K → (K → Ready 𝓛 xs (put 𝓛 i (‵ ftrue) Γ)) → Ready 𝓛 (lends-at i e ∷ xs) Γ
  lend-ready i (by-mut {R} s l) xs Γ K q h k = (q, k h)
  lend-ready i (by_shr {R} s l) xs Γ K q h k = absurd h.0
  lend-ready i gap xs Γ K q h k = absurd h.0

  show-ready : (i : ℕ) (e : Entry) (xs : List Arg) (Γ : List (Item 𝓤)) (K : Type 2) → nth 𝓛 i Γ ≡ item e → can-show e K → (K → Ready 𝓛 xs (put 𝓛 i (‵ ftrue) Γ)) → Ready 𝓛 (shows-at i e ∷ xs) Γ
  show-ready i (by-mut {R} s l) xs Γ K q h k = (q, h.0, k h.1)
  show-ready i (by_shr {R} s l) xs Γ K q h k = (q, h.0, k h.1)
  show-ready i gap xs Γ K q h k = absurd h.0

  pub all-ready : (ss : List (Pass 𝓛)) (es : List Entry) → Lendable es ss → Ready 𝓛 (args es ss) (items es)
  all-ready [] es h = tt
  all-ready (value {B} k ∷ ss) es h = (B.makes k.x (k.v ∷ []) k.is, all-ready ss es h)
  all-ready (lent i ∷ ss) es h = lend-ready i (entry i es) (args (change i gap es) ss) (items es) (Lendable (change i gap es) ss) (item-at i es) h (λ z. subst (λ (Γ : List (Item 𝓤)). Ready 𝓛 (args (change i gap es) ss) Γ) (items-change i gap es) (all-ready ss (change i gap es) z))
  all-ready (shown i ∷ ss) es h = show-ready i (entry i es) (args (change i gap es) ss) (items es) (Lendable (change i gap es) ss) (item-at i es) h (λ z. subst (λ (Γ : List (Item 𝓤)). Ready 𝓛 (args (change i gap es) ss) Γ) (items-change i gap es) (all-ready ss (change i gap es) z))

pub data Requires : Type 1 where
  asks : (φ : Type 0) → φ → Requires
  free : Requires

-- what is held after a call
abbrev pub left_by : (xs : List Arg) (ws : Lasts xs) → Lengths xs ws → List Entry → List Entry
left_by [] ws le es = es
left_by (val R x v ∷ xs) ws le es = left_by xs ws.1 le es
left_by (lend i {R} s l ∷ xs) ws le es = change i (by-mut s (ws.0, le.0)) (left_by xs ws.1 le.1 (change i gap es))
left_by (share i {R} s l ∷ xs) ws le es = change i (by-mut s l) (left_by xs ws.1 le (change i gap es))
left_by (hand i {R} s l ∷ xs) ws le es = change i (by_shr s l) (left_by xs ws.1 le (change i gap es))
left_by (none ∷ xs) ws le es = left_by xs ws le es

module _ {M : Type 1} {𝓤 : Ura M} (𝓛 : Logic 𝓤) where
  open 𝓛 use {H}

  pub left_is : (xs : List Arg) (ws : Lasts xs) (le : Lengths xs ws) (es : List Entry) → items 𝓛 (left_by xs ws le es) ≡ after 𝓛 xs ws le (items 𝓛 es)
  left_is [] ws le es = refl
  left_is (val R x v ∷ xs) ws le es = left_is xs ws.1 le es
  left_is (lend i {R} s l ∷ xs) ws le es = items-change 𝓛 i (by-mut s (ws.0, le.0)) (left_by xs ws.1 le.1 (change i gap es)) ∙ ap (λ (Γ : List (Item 𝓤)). put 𝓛 i (HeldMut 𝓛 s (ws.0, le.0)) Γ) (left_is xs ws.1 le.1 (change i gap es) ∙ ap (λ (Γ : List (Item 𝓤)). after 𝓛 xs ws.1 le.1 Γ) (items-change 𝓛 i gap es))
  left_is (share i {R} s l ∷ xs) ws le es = items-change 𝓛 i (by-mut s l) (left_by xs ws.1 le (change i gap es)) ∙ ap (λ (Γ : List (Item 𝓤)). put 𝓛 i (HeldMut 𝓛 s l) Γ) (left_is xs ws.1 le (change i gap es) ∙ ap (λ (Γ : List (Item 𝓤)). after 𝓛 xs ws.1 le Γ) (items-change 𝓛 i gap es))
  left_is (hand i {R} s l ∷ xs) ws le es = items-change 𝓛 i (by_shr s l) (left_by xs ws.1 le (change i gap es)) ∙ ap (λ (Γ : List (Item 𝓤)). put 𝓛 i (HeldShr 𝓛 s l) Γ) (left_is xs ws.1 le (change i gap es) ∙ ap (λ (Γ : List (Item 𝓤)). after 𝓛 xs ws.1 le Γ) (items-change 𝓛 i gap es))
  left_is (none ∷ xs) ws le es = left_is xs ws le es

  -- what a callee's `requires` says, with its proof, or that it has none
  abbrev pre-of : Requires → SProp 𝓤
  pre-of (asks φ p) = fact 𝓤 φ
  pre-of free = emp 𝓤

  met_of : (q : Requires) → ent 𝓤 (emp 𝓤) (pre-of q)
  met_of (asks φ p) = fact_i 𝓤 φ (emp 𝓤) p
  met_of free = id⊢ 𝓤 (emp 𝓤)

  -- ---- the call, as `Symbolic.antt` asks it. es is what is held and ss what is passed; req is what the callee's `requires` asks, with its proof
  module _ (es : List Entry) (ss : List (Pass 𝓛)) where
    abbrev xs : List Arg
    xs = args 𝓛 es ss

    -- a call that lends no local
    module _ {C : Calls 𝓤 H} (fm : FmC 𝓤 H 𝓛.laws C) (f : Callee) (vs : List Val) (X : Type 0) (Φ : Val → X → Type 0) (left : X → SProp 𝓤) where
      abbrev Returned : (X → SProp 𝓤) → Val → SProp 𝓤
      Returned P w = H.⇛ (ex 𝓤 (λ (x : X). guard 𝓤 (Φ w x) (P x)))

      no_local : (F : SProp 𝓤) → ent 𝓤 F (H.⇛ (C f vs (Returned left))) → ent 𝓤 (sep 𝓤 (emp 𝓤) F) (H.⇛ (C f vs (Returned (λ x. sep 𝓤 (emp 𝓤) (left x)))))
      no_local F h =
          qed 𝓛 (raw (emp 𝓤) ∷ raw F ∷ []) ∵ updating ! $ move ! (1 ∷ []) $ use1 𝓛 (later (raw (C f vs (Returned left)))) h $ await ! tt $ at_once ! $ by ! (fm f vs (Returned left) (Returned (λ x. sep 𝓤 (emp 𝓤) (left x))) (emp 𝓤) (λ w.
          qed 𝓛 (later (some (λ (x : X). given (Φ w x) (raw (left x)))) ∷ raw (emp 𝓤) ∷ []) ∵ updating ! $ await ! tt $ pick ! (λ x. learn ! (λ φ. at_once ! $ show ! (λ (y : X). guard 𝓤 (Φ w y) (sep 𝓤 (emp 𝓤) (left y))) x $ check ! φ $ move ! (1 ∷ 0 ∷ []) $ done !))))

    pub calls-with : {C : Calls 𝓤 H} {τs : List Ty} {blk : ℕ → ℕ} {f : Callee} {os : List Opd} {d : ℕ} {σ : Store} {K : Store → SProp 𝓤 → Type 2} (fm : FmC 𝓤 H 𝓛.laws C) (req : Requires) (Res : ByVal 𝓛) (φ : Res.R.Denot → Lasts xs → Type 0)
        → Meets-at 𝓛 C fm f xs (pre-of req) Res.R φ → Res.R.mir ≡ get_or τs d no-type ∷ [] → Lendable 𝓛 es ss
        → ((r : Known Res) (ws : Lasts xs) (le : Lengths xs ws) → φ r.x ws → K (set σ d (holds r.v)) (⋆ 𝓛 (items 𝓛 (left_by xs ws le es))))
        → CallVc 𝓤 H C τs blk f os (argv xs) d σ (⋆ 𝓛 (items 𝓛 es)) K
    calls-with {C} {τs} {blk} {f} {os} {d} {σ} {K} fm req Res φ met ty fine go = record {
      lent = [];
      apart = tt;
      X = Got 𝓛 C fm f xs (pre-of req) Res.R φ;
      Φ = Knows 𝓛 C fm f xs (pre-of req) Res.R φ;
      back = λ x. [];
      left = λ x. ⋆ 𝓛 (after 𝓛 xs x.1 x.2 (items 𝓛 es));
      calls = no_local fm f (argv xs) (Got 𝓛 C fm f xs (pre-of req) Res.R φ) (Knows 𝓛 C fm f xs (pre-of req) Res.R φ) (λ x. ⋆ 𝓛 (after 𝓛 xs x.1 x.2 (items 𝓛 es))) (⋆ 𝓛 (items 𝓛 es))
          (loan-call 𝓛 C fm f xs (pre-of req) Res.R φ met (met_of req) (items 𝓛 es) (all-ready 𝓛 ss es fine));
      typed = λ w x k. (subst (λ (ρs : List Ty). Typed ρs (w ∷ [])) ty (Res.lawful.typed x.0 (w ∷ []) k.1)).0;
      goes_on = λ w x k. subst (λ (Γ : List (Item 𝓤)). K (set σ d (holds w)) (⋆ 𝓛 Γ)) (left_is xs x.1 x.2 es) (go (record { x = x.0; v = w; is = k.1 }) x.1 x.2 k.0);
    }

    -- the same with a theorem that is cited: what it asks and says is read off it
    pub calls-citing : {C : Calls 𝓤 H} {τs : List Ty} {blk : ℕ → ℕ} {f : Callee} {os : List Opd} {d : ℕ} {σ : Store} {K : Store → SProp 𝓤 → Type 2} {fm : FmC 𝓤 H 𝓛.laws C} {φ₀ : Type 0} {Res : ByVal 𝓛} {φ : Res.R.Denot → Lasts xs → Type 0}
        → Cited 𝓛 C fm f xs φ₀ Res φ → φ₀ → Res.R.mir ≡ get_or τs d no-type ∷ [] → Lendable 𝓛 es ss
        → ((r : Known Res) (ws : Lasts xs) (le : Lengths xs ws) → φ r.x ws → K (set σ d (holds r.v)) (⋆ 𝓛 (items 𝓛 (left_by xs ws le es))))
        → CallVc 𝓤 H C τs blk f os (argv xs) d σ (⋆ 𝓛 (items 𝓛 es)) K
    calls-citing {fm = fm} {φ₀} {Res} {φ} c p = calls-with fm (asks φ₀ p) Res φ c.theorem
