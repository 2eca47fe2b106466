-- A call that is lent a local array as a slice: the array's memory is taken out of the locals, is a slice of the caller's for a lifetime made for the call, and is the local's again after it.
--     LocalArray       an array in a local: its elements' type, how many, its block.        opened a g     the slice that it is while it is lent; g is the lifetime and the name made for it
--     calls-lending    the call law: the array is entry 0, before the slices that the function holds
-- Assumes `Logic`, and that the table of calls is monotone under a frame.
use mathlib.Core.Path.{◌≡◌, refl, sym, subst, ap, ◌∙◌}
use Prim.Native.Nat.{ℕ, zero}
use mathlib.Core.Bool.{Bool}
use mathlib.Core.List.{List, [], ◌∷◌}
use lib.ListN.{length, get_or, set}
use seplogic.Ra.Ura.{Ura}
use base.Fraction.{full_share}
use mir.Syntax.{Callee, Ty, ty_array, named, Opd}
use mir.Val.{Val}
use base.Logic.{SProp, ent, sep, ex, guard, emp, id⊢}
use base.Fml.{GName, Fml, fat, flent, fres}
use prog.Wp.{Calls}
use types.Logic.{Logic, sem}
use contract.Monad.{fact, fact_i}
use sound.WpLaws.{FmC}
use types.Kit.{Item, ‵, raw, some, given, later, ◌⊛◌, mean, ⋆, push, pop, ◌$◌, ◌∵◌, !, qed, by, move, keep, drop, use0, use1, use2, use3, split, join, pick, learn, rewrite, fsplit, await, updating, now as at_once, show, check, done}
use types.Tokens.{lft_new, lft_end}
use types.SemTy.{cells, Arr}
use denote.RattleType.{RattleType}
use denote.Laws.{Is, shows, Typed}
use denote.Memory.{mem, lone}
use denote.Array.{Array, array_vals, Array-Makes}
use denote.ArrayMemory.{Single}
use denote.Index.{row, whole_in, whole_out}
use denote.Lend.{Held, lends_slice, slice_back}
use denote.Slice.{slice_val, MutSlice, Room, finally, res-finally, coded_holeys, heres}
use denote.Steps.{only, peeks}
use Rattle.walkkit.proofs.Again.{at-list}
use Rattle.walkkit.proofs.Local.{array-in, array-out}
use Rattle.walkkit.proofs.ByValue.{ByVal, Known}
use Rattle.walkkit.proofs.Symbolic.{Store, holds, CallVc, no-type, Lent-locals, Apart, put_back}
use Rattle.walkkit.proofs.Loans.{Slice, Elements, HeldMut, Arg, argv, Lasts, Lengths, Cited, Got, Knows, after, loan-call, Entry, by-mut, Pass, items, args, Lendable, all-ready, left_by, left_is}

pub record LocalArray {M : Type 1} {𝓤 : Ura M} (𝓛 : Logic 𝓤) : Type 2 where
  pub B : ByVal 𝓛
  pub single : Single B.R.mir
  pub n : ℕ
  pub room : Room B.R n
  pub block : ℕ

module _ {M : Type 1} {𝓤 : Ura M} (𝓛 : Logic 𝓤) (a : LocalArray 𝓛) where
  open 𝓛 use {H}

  abbrev R : RattleType
  R = a.B.R

  abbrev vals : List R.Denot → List Val
  vals xs = array_vals (λ x. a.B.mach x ∷ []) xs

  -- the machine value of the array
  abbrev pub array-value : List R.Denot → Val
  array-value xs = only (vals xs)

  -- the local's memory, holding v
  abbrev pub Memory : Val → SProp 𝓤
  Memory v = H.at full_share (ty_array (lone R.mir) a.n) a.block zero v

  -- the list is the array's, with this machine value
  abbrev pub IsArray : List R.Denot → Val → Type 0
  IsArray xs v = Is (Array R a.n) xs (v ∷ [])

  abbrev pub opened : ℕ × GName → Slice R
  opened g = record { lv = named 0; κ = g.0 ∷ []; q = full_share; γ = g.1; b = a.block; o = zero; m = a.n; room = a.room }

  -- what is kept of the array while it is lent at xs
  abbrev Lender : List R.Denot → ℕ × GName → Fml
  Lender xs g = flent (g.0 ∷ []) (Held R (length xs) a.block zero g.1)

  module _ where
    opens : (xs : List R.Denot) (v : Val) (is : IsArray xs v) → ent 𝓤 (Memory v) (H.⇛ (ex 𝓤 (λ (g : ℕ × GName). mean 𝓛 (HeldMut 𝓛 (opened g) (xs, is.1.0.1) ⊛ ‵ (Lender xs g)))))
    opens xs v is =
        qed 𝓛 (‵ (fat full_share (ty_array (lone R.mir) a.n) a.block zero v) ∷ []) ∵ updating ! $ use0 𝓛 (‵ ((Array R a.n).own_val xs (v ∷ []))) (Array-Makes 𝓛 R a.B.makes a.n xs (v ∷ []) is) $ move ! (1 ∷ 0 ∷ []) $
        use2 𝓛 (‵ (row R full_share xs a.block zero)) (array-in 𝓛 R (λ x. a.B.mach x ∷ []) a.B.tells a.single a.n xs v a.block) $ use1 𝓛 (‵ (cells (mem R) xs a.block zero)) (whole_in 𝓛 R xs a.block zero) $
        lft_new ! tt (λ ν. move ! (1 ∷ []) $
        use1 𝓛 (later (some (λ (δ : GName). ‵ ((MutSlice (named 0) (ν ∷ []) R).own_val (at-list R a.block zero δ xs) (slice_val (a.block, zero) (length xs) ∷ [])) ⊛ ‵ (Lender xs (ν, δ))))) (lends_slice 𝓛 R (named 0) (ν ∷ []) xs a.block zero (subst (Room R) (sym is.1.0.1) a.room)) $ await ! tt $ pick ! (λ δ. split ! $
        rewrite ! 0 (λ (m : ℕ). ‵ ((MutSlice (named 0) (ν ∷ []) R).own_val (at-list R a.block zero δ xs) (slice_val (a.block, zero) m ∷ []))) is.1.0.1 refl $
        -- [the slice; what is kept; its token]
        move ! (0 ∷ 2 ∷ []) $ join ! $ at_once ! $ show ! (λ (g : ℕ × GName). mean 𝓛 (HeldMut 𝓛 (opened g) (xs, is.1.0.1) ⊛ ‵ (Lender xs g))) (ν, δ) $ done !))

    -- a slice that is given up holds at last what it holds
    spends : (g : ℕ × GName) (zs : List R.Denot) → ent 𝓤 (sem 𝓛 ((MutSlice (named 0) (g.0 ∷ []) R).own_val (at-list R a.block zero g.1 zs) (slice_val (a.block, zero) a.n ∷ []))) (sem 𝓛 (finally R g.1 zs))
    spends g zs =
        qed 𝓛 (‵ ((MutSlice (named 0) (g.0 ∷ []) R).own_val (at-list R a.block zero g.1 zs) (slice_val (a.block, zero) a.n ∷ [])) ∷ []) ∵ fsplit ! $ move ! (1 ∷ []) $ fsplit ! $
        use1 𝓛 (‵ (fres g.1 ((coded_holeys R).code (heres R zs)))) (𝓛.names.obs-res g.1 ((coded_holeys R).code (heres R zs))) $ use1 𝓛 (‵ (finally R g.1 zs)) (res-finally 𝓛 (named 0) (g.0 ∷ []) R g.1 zs) $ keep ! (0 ∷ []) $ done !

    closes : (xs : List R.Denot) (g : ℕ × GName) (l : Elements (opened g)) → ent 𝓤 (sep 𝓤 (mean 𝓛 (HeldMut 𝓛 (opened g) l)) (sem 𝓛 (Lender xs g))) (H.⇛ (guard 𝓤 (IsArray l.0 (array-value l.0)) (Memory (array-value l.0))))
    closes xs g l =
        qed 𝓛 (HeldMut 𝓛 (opened g) l ∷ ‵ (Lender xs g) ∷ []) ∵ updating ! $ split ! $ use1 𝓛 (‵ (finally R g.1 l.0)) (spends g l.0) $ move ! (1 ∷ []) $ lft_end ! tt $ move ! (0 ∷ 2 ∷ 1 ∷ []) $
        use3 𝓛 (later (‵ ((Arr (mem R) (length xs)).own_at l.0 a.block zero))) (slice_back 𝓛 R (g.0 ∷ []) g.1 l.0 (length xs) a.block zero) $ await ! tt $ fsplit ! $ drop ! $ use1 𝓛 (‵ (row R full_share l.0 a.block zero)) (whole_out 𝓛 R l.0 a.block zero) $
        use1 𝓛 (‵ (fat full_share (ty_array (lone R.mir) a.n) a.block zero (array-value l.0)) ⊛ ‵ ((Array R a.n).own_val l.0 (vals l.0))) (array-out 𝓛 R (λ x. a.B.mach x ∷ []) a.B.tells a.single a.n l.0 a.block l.1) $ split ! $ move ! (1 ∷ []) $
        peeks ! (Array R a.n) (Is (Array R a.n)) (shows 𝓛 (Array R a.n)) l.0 (vals l.0) (λ is. drop ! $ at_once ! $ check ! is $ done !)

    -- ---- the call. The array holds xs; es are the function's slices
    module _ (xs : List R.Denot) (v : Val) (is : IsArray xs v) (es : List Entry) (ss : List (Pass 𝓛)) where
      abbrev pub lending : ℕ × GName → List Entry
      lending g = by-mut (opened g) (xs, is.1.0.1) ∷ es

      abbrev pub passed : ℕ × GName → List Arg
      passed g = args 𝓛 (lending g) ss

      module _ (C : Calls 𝓤 H) (τs : List Ty) (blk : ℕ → ℕ) (f : Callee) (os : List Opd) (vs : List Val) (d : ℕ) (σ : Store) (K : Store → SProp 𝓤 → Type 2) (fm : FmC 𝓤 H 𝓛.laws C) (φ₀ : Type 0) (Res : ByVal 𝓛) (φ : (g : ℕ × GName) → Res.R.Denot → Lasts (passed g) → Type 0)
          (lent : List Bool) (back : (g : ℕ × GName) (ws : Lasts (passed g)) → Lengths (passed g) ws → Elements (opened g)) (rest : (g : ℕ × GName) (ws : Lasts (passed g)) → Lengths (passed g) ws → List Entry) where
        -- what the call leaves: the lifetime and the name of the loan, and what a call that lends slices leaves
        abbrev Out : Type 0
        Out = (g : ℕ × GName) × Got 𝓛 C fm f (passed g) (fact 𝓤 φ₀) Res.R (φ g)

        abbrev list_of : Out → List R.Denot
        list_of x = (back x.0 x.1.1 x.1.2).0

        abbrev Known-out : Val → Out → Type 0
        Known-out w x = Knows 𝓛 C fm f (passed x.0) (fact 𝓤 φ₀) Res.R (φ x.0) w x.1 × IsArray (list_of x) (array-value (list_of x))

        abbrev Left : Out → SProp 𝓤
        Left x = ⋆ 𝓛 (items 𝓛 (rest x.0 x.1.1 x.1.2))

        abbrev Back : Val → SProp 𝓤
        Back w = H.⇛ (ex 𝓤 (λ (x : Out). guard 𝓤 (Known-out w x) (sep 𝓤 (Lent-locals 𝓤 H C τs blk (put_back σ lent (array-value (list_of x) ∷ [])) lent) (Left x))))

        module _ (holds-v : Lent-locals 𝓤 H C τs blk σ lent ≡ sep 𝓤 (Memory v) (emp 𝓤)) (holds-zs : (zs : List R.Denot) → Lent-locals 𝓤 H C τs blk (put_back σ lent (array-value zs ∷ [])) lent ≡ sep 𝓤 (Memory (array-value zs)) (emp 𝓤))
            (same_Args : (g : ℕ × GName) → argv (passed g) ≡ vs) (cite : (g : ℕ × GName) → Cited 𝓛 C fm f (passed g) φ₀ Res (φ g)) (p : φ₀) (fine : (g : ℕ × GName) → Lendable 𝓛 (lending g) ss)
            (splits : (g : ℕ × GName) (ws : Lasts (passed g)) (le : Lengths (passed g) ws) → left_by (passed g) ws le (lending g) ≡ by-mut (opened g) (back g ws le) ∷ rest g ws le) where
          abbrev Given-back : ℕ × GName → Val → SProp 𝓤
          Given-back g w = H.⇛ (ex 𝓤 (λ (x : Got 𝓛 C fm f (passed g) (fact 𝓤 φ₀) Res.R (φ g)). guard 𝓤 (Knows 𝓛 C fm f (passed g) (fact 𝓤 φ₀) Res.R (φ g) w x) (⋆ 𝓛 (after 𝓛 (passed g) x.1 x.2 (items 𝓛 (lending g))))))

          returned : (g : ℕ × GName) (w : Val) → ent 𝓤 (sep 𝓤 (Given-back g w) (sem 𝓛 (Lender xs g))) (Back w)
          returned g w =
              qed 𝓛 (later (some (λ (x : Got 𝓛 C fm f (passed g) (fact 𝓤 φ₀) Res.R (φ g)). given (Knows 𝓛 C fm f (passed g) (fact 𝓤 φ₀) Res.R (φ g) w x) (raw (⋆ 𝓛 (after 𝓛 (passed g) x.1 x.2 (items 𝓛 (lending g))))))) ∷ ‵ (Lender xs g) ∷ []) ∵
              updating ! $ await ! tt $ pick ! (λ x. learn ! (λ k.
              use1 𝓛 (HeldMut 𝓛 (opened g) (back g x.1 x.2) ⊛ raw (⋆ 𝓛 (items 𝓛 (rest g x.1 x.2))))
              (subst (λ (Γ : List (Item 𝓤)). ent 𝓤 (⋆ 𝓛 Γ) (sep 𝓤 (mean 𝓛 (HeldMut 𝓛 (opened g) (back g x.1 x.2))) (⋆ 𝓛 (items 𝓛 (rest g x.1 x.2)))))
              (ap (λ (z : List Entry). items 𝓛 z) (sym (splits g x.1 x.2)) ∙ left_is 𝓛 (passed g) x.1 x.2 (lending g))
              (pop 𝓛 (HeldMut 𝓛 (opened g) (back g x.1 x.2)) (items 𝓛 (rest g x.1 x.2)))) $ split ! $
              -- [the array; the slices; what is kept of the array]
              move ! (0 ∷ 2 ∷ []) $ use2 𝓛 (later (given (IsArray (list_of (g, x)) (array-value (list_of (g, x)))) (raw (Memory (array-value (list_of (g, x))))))) (closes xs g (back g x.1 x.2)) $ await ! tt $ learn ! (λ is'.
              use0 𝓛 (raw (emp 𝓤)) (id⊢ 𝓤 (emp 𝓤)) $ move ! (1 ∷ 0 ∷ []) $ join ! $
              use1 𝓛 (raw (Lent-locals 𝓤 H C τs blk (put_back σ lent (array-value (list_of (g, x)) ∷ [])) lent)) (subst (λ (P : SProp 𝓤). ent 𝓤 P (Lent-locals 𝓤 H C τs blk (put_back σ lent (array-value (list_of (g, x)) ∷ [])) lent)) (holds-zs (list_of (g, x))) (id⊢ 𝓤 (Lent-locals 𝓤 H C τs blk (put_back σ lent (array-value (list_of (g, x)) ∷ [])) lent))) $
              at_once ! $ show ! (λ (y : Out). guard 𝓤 (Known-out w y) (sep 𝓤 (Lent-locals 𝓤 H C τs blk (put_back σ lent (array-value (list_of y) ∷ [])) lent) (Left y))) (g, x) $ check ! (k, is') $ done !)))

          runs : ent 𝓤 (sep 𝓤 (Lent-locals 𝓤 H C τs blk σ lent) (⋆ 𝓛 (items 𝓛 es))) (H.⇛ (C f vs Back))
          runs = subst (λ (P : SProp 𝓤). ent 𝓤 (sep 𝓤 P (⋆ 𝓛 (items 𝓛 es))) (H.⇛ (C f vs Back))) (sym holds-v)
              (qed 𝓛 ((raw (Memory v) ⊛ raw (emp 𝓤)) ∷ raw (⋆ 𝓛 (items 𝓛 es)) ∷ []) ∵ updating ! $ split ! $ use1 𝓛 (later (some (λ (g : ℕ × GName). HeldMut 𝓛 (opened g) (xs, is.1.0.1) ⊛ ‵ (Lender xs g)))) (opens xs v is) $ await ! tt $ pick ! (λ g. split ! $
              -- [the array; what is kept of it; nothing; the slices]
              move ! (2 ∷ []) $ drop ! $ move ! (0 ∷ 2 ∷ []) $ use2 𝓛 (raw (⋆ 𝓛 (items 𝓛 (lending g)))) (push 𝓛 (HeldMut 𝓛 (opened g) (xs, is.1.0.1)) (items 𝓛 es)) $
              use1 𝓛 (later (raw (C f (argv (passed g)) (Given-back g)))) (loan-call 𝓛 C fm f (passed g) (fact 𝓤 φ₀) Res.R (φ g) (cite g).theorem (fact_i 𝓤 φ₀ (emp 𝓤) p) (items 𝓛 (lending g)) (all-ready 𝓛 ss (lending g) (fine g))) $ await ! tt $ at_once ! $
              by ! (subst (λ (us : List Val). ent 𝓤 (sep 𝓤 (C f (argv (passed g)) (Given-back g)) (sem 𝓛 (Lender xs g))) (C f us Back)) (same_Args g) (fm f (argv (passed g)) (Given-back g) Back (sem 𝓛 (Lender xs g)) (returned g)))))

          call-vc : Apart 𝓤 H C τs blk os vs σ lent → Res.R.mir ≡ get_or τs d no-type ∷ []
              → ((g : ℕ × GName) (r : Known Res) (ws : Lasts (passed g)) (le : Lengths (passed g) ws) → φ g r.x ws → IsArray (back g ws le).0 (array-value (back g ws le).0)
              → K (set (put_back σ lent (array-value (back g ws le).0 ∷ [])) d (holds r.v)) (⋆ 𝓛 (items 𝓛 (rest g ws le))))
              → CallVc 𝓤 H C τs blk f os vs d σ (⋆ 𝓛 (items 𝓛 es)) K
          call-vc apart ty go = record {
            lent = lent;
            apart = apart;
            X = Out;
            Φ = Known-out;
            back = λ x. array-value (list_of x) ∷ [];
            left = Left;
            calls = runs;
            typed = λ w x k. (subst (λ (ρs : List Ty). Typed ρs (w ∷ [])) ty (Res.lawful.typed x.1.0 (w ∷ []) k.0.1)).0;
            goes_on = λ w x k. go x.0 (record { x = x.1.0; v = w; is = k.0.1 }) x.1.1 x.1.2 k.0.0 k.1;
          }

      -- φ is what the callee says, `lent` marks the array among the locals, `back` is where its last list stands among those that the call leaves, and `rest` the slices after it. The equations are `refl` at each call
      pub calls-lending : {C : Calls 𝓤 H} {τs : List Ty} {blk : ℕ → ℕ} {f : Callee} {os : List Opd} {vs : List Val} {d : ℕ} {σ : Store} {K : Store → SProp 𝓤 → Type 2} {fm : FmC 𝓤 H 𝓛.laws C} {φ₀ : Type 0} {Res : ByVal 𝓛} {φ : (g : ℕ × GName) → Res.R.Denot → Lasts (passed g) → Type 0}
          (lent : List Bool) (back : (g : ℕ × GName) (ws : Lasts (passed g)) → Lengths (passed g) ws → Elements (opened g)) (rest : (g : ℕ × GName) (ws : Lasts (passed g)) → Lengths (passed g) ws → List Entry)
          → ((g : ℕ × GName) → Cited 𝓛 C fm f (passed g) φ₀ Res (φ g)) → φ₀
          → Lent-locals 𝓤 H C τs blk σ lent ≡ sep 𝓤 (Memory v) (emp 𝓤) → ((zs : List R.Denot) → Lent-locals 𝓤 H C τs blk (put_back σ lent (array-value zs ∷ [])) lent ≡ sep 𝓤 (Memory (array-value zs)) (emp 𝓤))
          → ((g : ℕ × GName) → argv (passed g) ≡ vs) → ((g : ℕ × GName) → Lendable 𝓛 (lending g) ss)
          → ((g : ℕ × GName) (ws : Lasts (passed g)) (le : Lengths (passed g) ws) → left_by (passed g) ws le (lending g) ≡ by-mut (opened g) (back g ws le) ∷ rest g ws le)
          → Apart 𝓤 H C τs blk os vs σ lent → Res.R.mir ≡ get_or τs d no-type ∷ []
          → ((g : ℕ × GName) (r : Known Res) (ws : Lasts (passed g)) (le : Lengths (passed g) ws) → φ g r.x ws → IsArray (back g ws le).0 (array-value (back g ws le).0)
          → K (set (put_back σ lent (array-value (back g ws le).0 ∷ [])) d (holds r.v)) (⋆ 𝓛 (items 𝓛 (rest g ws le))))
          → CallVc 𝓤 H C τs blk f os vs d σ (⋆ 𝓛 (items 𝓛 es)) K
      calls-lending {C} {τs} {blk} {f} {os} {vs} {d} {σ} {K} {fm} {φ₀} {Res} {φ} lent back rest cite p holds-v holds-zs same_Args fine splits apart ty go =
          call-vc C τs blk f os vs d σ K fm φ₀ Res φ lent back rest holds-v holds-zs same_Args cite p fine splits apart ty go
