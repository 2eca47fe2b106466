-- Symbolic execution of a function's MIR: what the code asks of a proof is computed from it, as a type, the verification condition. The locals are a store, a list of what each holds; the code is run on the store by computation, and the
-- rest of the memory is one assertion, the frame, which only a call changes.
--     Content, Store   what a local holds: nothing yet, a machine value, or nothing that can be reached because it is lent.        Locals E σ     the locals' memory
--     Vc b σ F K       the verification condition of the code b where the store is σ and the frame F; K is what is asked where it ends.        VcFn f vs F End    the same of a function, from its arguments to its result
--     CallVc           of a call: the locals that it lends, what is had of the callee, and how the code goes on with what it returned and left
--     LoopVc           of a loop: its invariant, the store and the frame at each index, and a measure that falls. At the head of the loop values may be forgotten (`Forgets`)
--     vc-fn-sound      THE SOUNDNESS: whoever shows `VcFn` has `WpFn`
-- Code that it does not take asks `Unsupported`, which nobody shows: an element of a slice, a place other than a local, a field of one or what a field points at, casts, sizes, addresses of functions and calls by them, vectors, constants that lie in memory of their own, and `unreachable`.
-- Assumes `Logic`, and that the table of calls is monotone under a frame.
use mathlib.Core.Path.{◌≡◌, refl, sym, subst, ap, ◌∙◌}
use Prim.Native.Nat.{ℕ, zero, suc, ◌+◌, ◌^◌, ◌<◌}
use mathlib.Core.Bool.{Bool, true, false, not, ◌&&◌}
use mathlib.Core.Option.{Option, none, some}
use mathlib.Core.List.{List, [], ◌∷◌}
use lib.ListN.{get_or, set}
use lib.Dec.{T as Holds, ltb, ltb→lt, eqb, eqb→eq}
use seplogic.Ra.Ura.{Ura}
use base.Fraction.{full_share}
use mir.Syntax.{Callee, Width, Sym, Ty, ty_int, ty_bool, ty_float, ty_ptr, ty_ref, ty_array, ty_unit, ty_struct, ty_enum, ty_named, ty_param, ty_const, ty_array_p, Tys, Tyss, tcons, ttnil, w8, w16, w32, w64, w128, Step as PStep, deref, field, variant, Place, place, Opd, copy, int, int_neg, int_big, float, opd_true, opd_false, opd_unit, ptr_const, size_of, align_of, num_of, fn_addr, vtable, Rv, rv_opd, op2, op1, addr_of, aggregate, repeat, repeat_p, select, Body, skip, seq, assign, block, loop, cond, switch, exit, return, call, unreachable, call_v, lend_static, Arms, arm, default, no_default, Local, local, Fn}
use mir.Val.{Val, vunit, vbool, vint, vfloat, vptr, vstruct, vcode, Vals, vnil, vcons, of_list, WT, WTs, has_ty, bits, has_key, as_ptr, as_bool, as_int, Dom, op2_chk, op2_val}
use mir.Fields.{get_v, set_v, set_v-get_v}
use base.Logic.{SProp, ent, sep, wand, ex, all, never, guard, emp, id⊢, via, comm∗, mono_l, mono_r, fst∗, snd∗, emp∗, apply∗, never_e, ex_i, all_i, all_e, guard_i, wand_i}
use base.Fml.{Share, fat, froom, fdies}
use prog.Memory.{field_at, field_of, variant_at, variant_of, with_tag}
use prog.Wp.{Heap, Out, next, exits, returns, read, write, Env, no_local, resolve, eval_opd, eval_opds, eval_rv, part, seen, after_seq, after_block, after_turn, branch, Calls, Loops, Tables, Wp, WpArms, ty_of, alloc, release, pass, params, at_return, WpFn}
use types.Logic.{Logic}
use mathlib.Core.WellFounded.InvImage
use mathlib.Core.WellFounded.{WellFounded}
use lib.WfN.{lt-wf_rel}
use sound.Loop.{loop_rule}
use sound.WpLaws.{FmC, fm_of}
use types.Kit.{‵, raw, some as exists, given, later, ◌⊛◌, ◌$◌, ◌∵◌, !, qed, by, move, drop, use0, use1, use2, split, join, pick, learn, frame, assume, check, await, updating, now as at_once, show, done}

-- ---- values, by computation
-- what a local holds: nothing yet, a machine value, or nothing that the code can read or write, because its memory is lent
pub data Content : Type 0 where
  empty : Content
  holds : Val → Content
  away : Content

abbrev pub Store : Type 0
Store = List Content

abbrev pub content : Content → Option Val
content empty = none
content (holds v) = some v
content away = none

abbrev pub Unsupported : Type 2
Unsupported = ⊥ × Unit {2}

abbrev pub on_some : {X : Type 0} → Option X → (X → Type 2) → Type 2
on_some none K = Unsupported
on_some (some x) K = K x

-- asked by computation: nothing is left to show
abbrev pub if-true : Bool → Type 2 → Type 2
if-true true K = K
if-true false K = Unsupported

abbrev pub no-type : Ty
no-type = ty_enum [] ttnil

-- the code can write this local
abbrev writable : Content → Bool
writable empty = true
writable (holds v) = true
writable away = false

abbrev pub has-local : Store → ℕ → Bool
has-local [] i = false
has-local (s ∷ σ) zero = writable s
has-local (s ∷ σ) (suc i) = has-local σ i

abbrev bind : {X Y : Type 0} → Option X → (X → Option Y) → Option Y
bind none k = none
bind (some x) k = k x

abbrev tys_of : Ty → Option Tys
tys_of (ty_int w) = none
tys_of ty_bool = none
tys_of (ty_float f) = none
tys_of ty_ptr = none
tys_of (ty_ref κ μ τ) = none
tys_of (ty_array τ n) = none
tys_of ty_unit = none
tys_of (ty_struct ν τs) = some τs
tys_of (ty_enum ν τss) = none
tys_of (ty_param ι) = none
tys_of (ty_const ι) = none
tys_of (ty_array_p υ ι) = none
tys_of (ty_named ν θ) = none

abbrev fields_of : Val → Option Vals
fields_of vunit = none
fields_of (vbool b) = none
fields_of (vint w n) = none
fields_of (vfloat f x) = none
fields_of (vcode ι) = none
fields_of (vptr b o) = none
fields_of (vstruct vs) = some vs

abbrev ptr_of : Val → Option Val
ptr_of vunit = none
ptr_of (vbool b) = none
ptr_of (vint w n) = none
ptr_of (vfloat f x) = none
ptr_of (vcode ι) = none
ptr_of (vptr b o) = some (vptr b o)
ptr_of (vstruct vs) = none

abbrev if-so : Bool → Val → Option Val
if-so true v = some v
if-so false v = none

-- field k of a struct's value
abbrev field_v : Ty → Val → ℕ → Option Val
field_v τ v k = bind (tys_of τ) (λ τs. bind (fields_of v) (λ vs. bind (field_at zero τs k) (λ _. some (get_v vs k))))

-- an enum's value: its tag, and field j of the variant k that it is
abbrev tyss_of : Ty → Option Tyss
tyss_of (ty_int w) = none
tyss_of ty_bool = none
tyss_of (ty_float f) = none
tyss_of ty_ptr = none
tyss_of (ty_ref κ μ τ) = none
tyss_of (ty_array τ n) = none
tyss_of ty_unit = none
tyss_of (ty_struct ν τs) = none
tyss_of (ty_enum ν τss) = some τss
tyss_of (ty_param ι) = none
tyss_of (ty_const ι) = none
tyss_of (ty_array_p υ ι) = none
tyss_of (ty_named ν θ) = none

abbrev if-w8 : Width → ℕ → Option ℕ
if-w8 w8 n = some n
if-w8 w16 n = none
if-w8 w32 n = none
if-w8 w64 n = none
if-w8 w128 n = none

abbrev tag_in : Val → Option ℕ
tag_in vunit = none
tag_in (vbool b) = none
tag_in (vint w n) = if-w8 w n
tag_in (vfloat f x) = none
tag_in (vcode ι) = none
tag_in (vptr b o) = none
tag_in (vstruct vs) = none

abbrev tag_v : Vals → Option ℕ
tag_v vnil = none
tag_v (vcons v vs) = tag_in v

abbrev rest_v : Vals → Vals
rest_v vnil = vnil
rest_v (vcons v vs) = vs

abbrev at_variant : Tys → Vals → ℕ → ℕ → Option Val
at_variant τs vs k zero = bind (tag_v vs) (λ t. some (vint w8 t))
at_variant τs vs k (suc j) = bind (tag_v vs) (λ t. bind (if-so (eqb t k) vunit) (λ _. bind (field_at 1 τs j) (λ _. some (get_v (rest_v vs) j))))

abbrev variant_v : Ty → Val → ℕ → ℕ → Option Val
variant_v τ v k j = bind (tyss_of τ) (λ τss. bind (variant_at τss k) (λ τs. bind (fields_of v) (λ vs. at_variant τs vs k j)))

abbrev peek : Ty → Option Val → List PStep → Option Val
peek τ s [] = s
peek τ s (deref σ ∷ st) = none
peek τ s (field k ∷ []) = bind s (λ v. field_v τ v k)
peek τ s (field k ∷ x ∷ st) = none
peek τ s (variant k ∷ []) = none
peek τ s (variant k ∷ deref σ ∷ st) = none
peek τ s (variant k ∷ field j ∷ []) = bind s (λ v. variant_v τ v k j)
peek τ s (variant k ∷ field j ∷ x ∷ st) = none
peek τ s (variant k ∷ variant j ∷ st) = none

-- the address of what a field points at
abbrev aim : Ty → Option Val → List PStep → Option Val
aim τ s [] = none
aim τ s (deref σ ∷ st) = none
aim τ s (field k ∷ []) = none
aim τ s (field k ∷ deref σ ∷ []) = bind s (λ v. bind (field_v τ v k) ptr_of)
aim τ s (field k ∷ deref σ ∷ y ∷ st) = none
aim τ s (field k ∷ field j ∷ st) = none
aim τ s (field k ∷ variant j ∷ st) = none
aim τ s (variant k ∷ st) = none

module _ (τs : List Ty) (σ : Store) where
  abbrev at_place : Place → Option Val
  at_place (place i st) = peek (get_or τs i no-type) (content (get_or σ i empty)) st

  -- blk i is the block of local i, so that a local's own address is a value too
  abbrev address : (ℕ → ℕ) → Place → Option Val
  address blk (place i []) = some (vptr (blk i) zero)
  address blk (place i (x ∷ st)) = aim (get_or τs i no-type) (content (get_or σ i empty)) (x ∷ st)

  abbrev pub opd_v : Opd → Option Val
  opd_v (copy p) = at_place p
  opd_v (int w n) = if-so (ltb n (2 ^ bits w)) (vint w n)
  opd_v (int_neg w k) = none
  opd_v (int_big w n) = none
  opd_v (float f n) = none
  opd_v opd_true = some (vbool true)
  opd_v opd_false = some (vbool false)
  opd_v opd_unit = some vunit
  opd_v (ptr_const n) = none
  opd_v (size_of τ) = none
  opd_v (align_of τ) = none
  opd_v (num_of w τ) = none
  opd_v (fn_addr f ς) = none
  opd_v (vtable τ ss) = none

  abbrev pub opds_v : List Opd → Option (List Val)
  opds_v [] = some []
  opds_v (x ∷ xs) = bind (opd_v x) (λ v. bind (opds_v xs) (λ vs. some (v ∷ vs)))

abbrev pub Passed : List Ty → List Val → Type 2
Passed ts [] = Unit {2}
Passed [] (v ∷ vs) = Unsupported
Passed (τ ∷ ts) (v ∷ vs) = (Holds (has_ty τ v) × WT v) × Passed ts vs

-- the parameters are the locals after the result
abbrev pub Passes : List Ty → List Val → Type 2
Passes [] vs = Unsupported
Passes (τ ∷ ts) vs = Passed ts vs

-- the first locals hold these values, and the others nothing
abbrev pub initial : List Ty → List Val → Store
initial [] vs = []
initial (τ ∷ ts) [] = empty ∷ initial ts []
initial (τ ∷ ts) (v ∷ vs) = holds v ∷ initial ts vs

abbrev local-type : Local → Ty
local-type (local τ h) = τ

abbrev pub local-types : List Local → List Ty
local-types [] = []
local-types (l ∷ ls) = local-type l ∷ local-types ls

abbrev pub tail_of : {X : Type 0} → List X → List X
tail_of [] = []
tail_of (x ∷ xs) = xs

-- ---- the locals' memory
module _ {M : Type 1} (𝓤 : Ura M) (H : Heap 𝓤) where
  abbrev pub local_at : Ty → ℕ → Content → SProp 𝓤
  local_at τ b empty = H.room τ b zero
  local_at τ b (holds v) = H.at full_share τ b zero v
  local_at τ b away = emp 𝓤

  -- the memory of the locals that the mask m marks
  abbrev pub Marked : (ℕ → Ty) → (ℕ → ℕ) → Store → List Bool → SProp 𝓤
  Marked ty blk σ [] = emp 𝓤
  Marked ty blk [] (t ∷ m) = emp 𝓤
  Marked ty blk (s ∷ σ) (true ∷ m) = sep 𝓤 (local_at (ty zero) (blk zero) s) (Marked (λ i. ty (suc i)) (λ i. blk (suc i)) σ m)
  Marked ty blk (s ∷ σ) (false ∷ m) = Marked (λ i. ty (suc i)) (λ i. blk (suc i)) σ m

-- the marked locals lent, and the same with these values in them
abbrev pub lend-out : Store → List Bool → Store
lend-out σ [] = σ
lend-out [] (t ∷ m) = []
lend-out (s ∷ σ) (true ∷ m) = away ∷ lend-out σ m
lend-out (s ∷ σ) (false ∷ m) = s ∷ lend-out σ m

abbrev pub put_back : Store → List Bool → List Val → Store
put_back σ [] vs = σ
put_back [] (t ∷ m) vs = []
put_back (s ∷ σ) (true ∷ m) [] = s ∷ put_back σ m []
put_back (s ∷ σ) (true ∷ m) (v ∷ vs) = holds v ∷ put_back σ m vs
put_back (s ∷ σ) (false ∷ m) vs = s ∷ put_back σ m vs

-- no local is lent
abbrev pub all_back : Store → Bool
all_back [] = true
all_back (s ∷ σ) = writable s && all_back σ

-- what the second holds, the first holds too: at the head of a loop the values of temporaries are forgotten
abbrev forgets-one : Content → Content → Type 2 → Type 2
forgets-one s empty K = if-true (writable s) K
forgets-one empty (holds v) K = Unsupported
forgets-one (holds u) (holds v) K = (u ≡ v) × K
forgets-one away (holds v) K = Unsupported
forgets-one empty away K = Unsupported
forgets-one (holds u) away K = Unsupported
forgets-one away away K = K

abbrev pub Forgets : Store → Store → Type 2
Forgets [] [] = Unit {2}
Forgets [] (r ∷ ρ) = Unsupported
Forgets (s ∷ σ) [] = Unsupported
Forgets (s ∷ σ) (r ∷ ρ) = forgets-one s r (Forgets σ ρ)

-- ---- what code asks
module _ {M : Type 1} (𝓤 : Ura M) (H : Heap 𝓤) (C : Calls 𝓤 H) (τs : List Ty) (blk : ℕ → ℕ) where
  -- the memory of the locals that a call lends
  abbrev pub Lent-locals : Store → List Bool → SProp 𝓤
  Lent-locals σ m = Marked 𝓤 H (λ i. get_or τs i no-type) blk σ m

  -- the operands of a call do not read what it lends: by computation
  abbrev pub Apart : List Opd → List Val → Store → List Bool → Type 0
  Apart os vs σ [] = Unit {0}
  Apart os vs σ (t ∷ m) = opds_v τs (lend-out σ (t ∷ m)) os ≡ some vs

  -- a call of f with the operands os, whose values are vs: the locals that it lends, what is had of the callee, and how the code goes on with what it returned and left
  pub record CallVc (f : Callee) (os : List Opd) (vs : List Val) (d : ℕ) (σ : Store) (F : SProp 𝓤) (K : Store → SProp 𝓤 → Type 2) : Type 2 where
    pub lent : List Bool
    pub apart : Apart os vs σ lent
    pub X : Type 0
    pub Φ : Val → X → Type 0
    pub back : X → List Val
    pub left : X → SProp 𝓤
    pub calls : ent 𝓤 (sep 𝓤 (Lent-locals σ lent) F) (H.⇛ (C f vs (λ w. H.⇛ (ex 𝓤 (λ (x : X). guard 𝓤 (Φ w x) (sep 𝓤 (Lent-locals (put_back σ lent (back x)) lent) (left x)))))))
    pub typed : (w : Val) (x : X) → Φ w x → Holds (has_ty (get_or τs d no-type) w) × WT w
    pub goes_on : (w : Val) (x : X) → Φ w x → K (set (put_back σ lent (back x)) d (holds w)) (left x)

  abbrev then_k : (Store → SProp 𝓤 → Type 2) → (Out → Store → SProp 𝓤 → Type 2) → Out → Store → SProp 𝓤 → Type 2
  then_k go K next σ F = go σ F
  then_k go K (exits n) σ F = K (exits n) σ F
  then_k go K returns σ F = K returns σ F

  abbrev block_k : (Out → Store → SProp 𝓤 → Type 2) → Out → Store → SProp 𝓤 → Type 2
  block_k K next σ F = K next σ F
  block_k K (exits zero) σ F = K next σ F
  block_k K (exits (suc n)) σ F = K (exits n) σ F
  block_k K returns σ F = K returns σ F

  -- the local that a place is
  abbrev into : Store → Place → (ℕ → Type 2) → Type 2
  into σ (place d []) K = if-true (has-local σ d) (K d)
  into σ (place d (x ∷ st)) K = Unsupported

  abbrev bool_k : Val → (Bool → Type 2) → Type 2
  bool_k vunit K = Unsupported
  bool_k (vbool b) K = K b
  bool_k (vint w n) K = Unsupported
  bool_k (vfloat f x) K = Unsupported
  bool_k (vcode ι) K = Unsupported
  bool_k (vptr b o) K = Unsupported
  bool_k (vstruct vs) K = Unsupported

  abbrev pub AssignVc : Store → SProp 𝓤 → (Store → SProp 𝓤 → Type 2) → ℕ → Rv → Type 2
  AssignVc σ F K d (rv_opd x) = on_some (opd_v τs σ x) (λ v. Holds (has_ty (get_or τs d no-type) v) × K (set σ d (holds v)) F)
  AssignVc σ F K d (op2 o x y) = on_some (opd_v τs σ x) (λ a. on_some (opd_v τs σ y) (λ b. Dom (op2_chk o a b) × (Holds (has_ty (get_or τs d no-type) (op2_val o a b)) × WT (op2_val o a b)) × K (set σ d (holds (op2_val o a b))) F))
  AssignVc σ F K d (op1 o x) = Unsupported
  AssignVc σ F K d (addr_of p) = on_some (address τs σ blk p) (λ v. if-true (has_ty (get_or τs d no-type) v) (K (set σ d (holds v)) F))
  AssignVc σ F K d (aggregate xs) = on_some (opds_v τs σ xs) (λ vs. if-true (has_ty (get_or τs d no-type) (vstruct (of_list vs))) (K (set σ d (holds (vstruct (of_list vs)))) F))
  AssignVc σ F K d (repeat x n) = Unsupported
  AssignVc σ F K d (repeat_p x n) = Unsupported
  AssignVc σ F K d (select m x y) = Unsupported

  abbrev int_k : Val → (ℕ → Type 2) → Type 2
  int_k vunit K = Unsupported
  int_k (vbool b) K = Unsupported
  int_k (vint w n) K = K n
  int_k (vfloat f x) K = Unsupported
  int_k (vcode ι) K = Unsupported
  int_k (vptr b o) K = Unsupported
  int_k (vstruct vs) K = Unsupported

  abbrev either : Bool → Type 2 → Type 2 → Type 2
  either true X Y = X
  either false X Y = Y

  -- a loop: its invariant is what the locals hold and the frame at each index, and the measure of the index falls. `turn` is what the body asks; where it ends it goes on at an index of a smaller measure, or leaves the loop
  pub record Again (I : Type 0) (measure : I → ℕ) (store : I → Store) (frame : I → SProp 𝓤) (i : I) (σ : Store) (F : SProp 𝓤) : Type 2 where
    pub index : I
    pub falls : measure index < measure i
    pub same_store : Forgets σ (store index)
    pub same-frame : ent 𝓤 F (frame index)

  abbrev pub turn_k : (I : Type 0) → (I → ℕ) → (I → Store) → (I → SProp 𝓤) → (Out → Store → SProp 𝓤 → Type 2) → I → Out → Store → SProp 𝓤 → Type 2
  turn_k I measure store frame K i next σ F = Again I measure store frame i σ F
  turn_k I measure store frame K i (exits zero) σ F = Again I measure store frame i σ F
  turn_k I measure store frame K i (exits (suc n)) σ F = K (exits n) σ F
  turn_k I measure store frame K i returns σ F = K returns σ F

  pub record LoopVc (go : Store → SProp 𝓤 → (Out → Store → SProp 𝓤 → Type 2) → Type 2) (σ : Store) (F : SProp 𝓤) (K : Out → Store → SProp 𝓤 → Type 2) : Type 2 where
    pub I : Type 0
    pub measure : I → ℕ
    pub store : I → Store
    pub frame : I → SProp 𝓤
    pub start : I
    pub first_store : Forgets σ (store start)
    pub first_frame : ent 𝓤 F (frame start)
    pub turn : (i : I) → go (store i) (frame i) (turn_k I measure store frame K i)

  abbrev mutual
    pub Vc : Body → Store → SProp 𝓤 → (Out → Store → SProp 𝓤 → Type 2) → Type 2
    Vc skip σ F K = K next σ F
    Vc (seq a b) σ F K = Vc a σ F (then_k (λ σ' F'. Vc b σ' F' K) K)
    Vc (assign p rv) σ F K = into σ p (λ d. AssignVc σ F (K next) d rv)
    Vc (block b) σ F K = Vc b σ F (block_k K)
    Vc (loop b) σ F K = LoopVc (λ σ' F' K'. Vc b σ' F' K') σ F K
    Vc (cond c a b) σ F K = on_some (opd_v τs σ c) (λ v. bool_k v (λ t. (Holds t → Vc a σ F K) × (Holds (not t) → Vc b σ F K)))
    Vc (switch c arms) σ F K = on_some (opd_v τs σ c) (λ v. int_k v (λ x. VcArms arms x σ F K))
    Vc (exit n) σ F K = K (exits n) σ F
    Vc return σ F K = K returns σ F
    Vc unreachable σ F K = Unsupported
    Vc (call_v c ς xs p) σ F K = Unsupported
    Vc (lend_static p τ c) σ F K = Unsupported
    Vc (call f xs p) σ F K = on_some (opds_v τs σ xs) (λ vs. into σ p (λ d. CallVc f xs vs d σ F (K next)))

    -- the arms of a switch on a number: the one that has it runs, by computation
    pub VcArms : Arms → ℕ → Store → SProp 𝓤 → (Out → Store → SProp 𝓤 → Type 2) → Type 2
    VcArms (arm ks b arms) x σ F K = either (has_key ks x) (Vc b σ F K) (VcArms arms x σ F K)
    VcArms (default b) x σ F K = Vc b σ F K
    VcArms no_default x σ F K = Unsupported

  abbrev pub ReturnVc : (Val → SProp 𝓤) → Out → Store → SProp 𝓤 → Type 2
  ReturnVc End next σ F = Unsupported
  ReturnVc End (exits n) σ F = Unsupported
  ReturnVc End returns σ F = if-true (all_back σ) (on_some (content (get_or σ zero empty)) (λ v. ent 𝓤 F (End v) × Unit {2}))

-- what a function asks: its arguments are of its parameters' types, and the body is run from them
abbrev pub VcFn : {M : Type 1} (𝓤 : Ura M) (H : Heap 𝓤) (C : Calls 𝓤 H) → Fn → List Val → SProp 𝓤 → (Val → SProp 𝓤) → Type 2
VcFn 𝓤 H C f vs F End = Passes (local-types f.locals) vs × ((blk : ℕ → ℕ) → Vc 𝓤 H C (local-types f.locals) blk f.body (empty ∷ initial (tail_of (local-types f.locals)) vs) F (ReturnVc 𝓤 H C (local-types f.locals) blk End))

module _ {M : Type 1} {𝓤 : Ura M} (𝓛 : Logic 𝓤) where
  open 𝓛 use {H}

  abbrev pub Locals : Env 𝓤 H → Store → SProp 𝓤
  Locals [] [] = emp 𝓤
  Locals [] (s ∷ σ) = never 𝓤
  Locals (e ∷ E) [] = never 𝓤
  Locals (e ∷ E) (s ∷ σ) = sep 𝓤 (sep 𝓤 (local_at 𝓤 H e.0 e.1 s) (H.dies e.0 e.1)) (Locals E σ)

  abbrev Out-of : SProp 𝓤 → SProp 𝓤 → SProp 𝓤 → SProp 𝓤 → Type 1
  Out-of P Q R R' = ent 𝓤 R (sep 𝓤 P (wand 𝓤 Q R'))

  behind : (X P Q R R' : SProp 𝓤) → Out-of P Q R R' → Out-of P Q (sep 𝓤 X R) (sep 𝓤 X R')
  behind X P Q R R' h =
      qed 𝓛 (raw X ∷ raw R ∷ []) ∵ move ! (1 ∷ []) $ use1 𝓛 (raw P ⊛ raw (wand 𝓤 Q R')) h $ split ! $ frame ! $ assume ! (raw Q) $ use2 𝓛 (raw R') (apply∗ 𝓤 Q R') $ move ! (1 ∷ 0 ∷ []) $ done !

  ahead : (P P' Q D R : SProp 𝓤) → ent 𝓤 P P' → Out-of P' Q (sep 𝓤 (sep 𝓤 P D) R) (sep 𝓤 (sep 𝓤 Q D) R)
  ahead P P' Q D R h =
      qed 𝓛 ((raw P ⊛ raw D) ∷ raw R ∷ []) ∵ split ! $ use1 𝓛 (raw P') h $ frame ! $ assume ! (raw Q) $ join ! $ done !

  IsSome : Option Val → Type 0
  IsSome none = ⊥
  IsSome (some v) = Unit {0}

  no_none : {v : Val} {X : Type 1} → none ≡ some v → X
  unfolding IsSome
  no_none {v} {X} e = absurd (subst IsSome (sym e) tt)

  or-unit : Option Val → Val
  or-unit none = vunit
  or-unit (some v) = v

  is-v : {u v : Val} → ◌≡◌ {A = Option Val} (some u) (some v) → u ≡ v
  unfolding or-unit
  is-v e = ap or-unit e

  abbrev ty_e : Env 𝓤 H → ℕ → Ty
  ty_e E i = (get_or E i (no_local 𝓤 H)).0

  abbrev bl_e : Env 𝓤 H → ℕ → ℕ
  bl_e E i = (get_or E i (no_local 𝓤 H)).1

  abbrev Dies : Ty × ℕ → SProp 𝓤
  Dies x = H.dies x.0 x.1

  get : (E : Env 𝓤 H) (σ : Store) (i : ℕ) (v : Val) → content (get_or σ i empty) ≡ some v → Out-of (H.at full_share (ty_e E i) (bl_e E i) zero v) (H.at full_share (ty_e E i) (bl_e E i) zero v) (Locals E σ) (Locals E σ)
  get [] [] i v e = no_none e
  get [] (s ∷ σ) i v e = never_e 𝓤 _
  get (x ∷ E) [] i v e = never_e 𝓤 _
  get (x ∷ E) (empty ∷ σ) zero v e = no_none e
  get (x ∷ E) (away ∷ σ) zero v e = no_none e
  get (x ∷ E) (holds u ∷ σ) zero v e = subst (λ (z : Val). Out-of (H.at full_share x.0 x.1 zero z) (H.at full_share x.0 x.1 zero z) (Locals (x ∷ E) (holds u ∷ σ)) (Locals (x ∷ E) (holds u ∷ σ))) (is-v e)
      (ahead (H.at full_share x.0 x.1 zero u) (H.at full_share x.0 x.1 zero u) (H.at full_share x.0 x.1 zero u) (Dies x) (Locals E σ) (id⊢ 𝓤 (H.at full_share x.0 x.1 zero u)))
  get (x ∷ E) (s ∷ σ) (suc i) v e = behind (sep 𝓤 (local_at 𝓤 H x.0 x.1 s) (Dies x)) (H.at full_share (ty_e E i) (bl_e E i) zero v) (H.at full_share (ty_e E i) (bl_e E i) zero v) (Locals E σ) (Locals E σ) (get E σ i v e)

  room_of : (τ : Ty) (b : ℕ) (s : Content) → Holds (writable s) → ent 𝓤 (local_at 𝓤 H τ b s) (H.room τ b zero)
  room_of τ b empty h = id⊢ 𝓤 (H.room τ b zero)
  room_of τ b (holds v) h = 𝓛.laws.at_room τ b zero v
  room_of τ b away h = absurd h

  put : (E : Env 𝓤 H) (σ : Store) (i : ℕ) (v : Val) → Holds (has-local σ i) → Out-of (H.room (ty_e E i) (bl_e E i) zero) (H.at full_share (ty_e E i) (bl_e E i) zero v) (Locals E σ) (Locals E (set σ i (holds v)))
  put [] [] i v h = absurd h
  put [] (s ∷ σ) i v h = never_e 𝓤 _
  put (x ∷ E) [] i v h = never_e 𝓤 _
  put (x ∷ E) (s ∷ σ) zero v h = ahead (local_at 𝓤 H x.0 x.1 s) (H.room x.0 x.1 zero) (H.at full_share x.0 x.1 zero v) (Dies x) (Locals E σ) (room_of x.0 x.1 s h)
  put (x ∷ E) (s ∷ σ) (suc i) v h = behind (sep 𝓤 (local_at 𝓤 H x.0 x.1 s) (Dies x)) (H.room (ty_e E i) (bl_e E i) zero) (H.at full_share (ty_e E i) (bl_e E i) zero v) (Locals E σ) (Locals E (set σ i (holds v))) (put E σ i v h)

  -- ---- what is read leaves all as it is, and is a value of its type
  module _ (E : Env 𝓤 H) (σ : Store) (F : SProp 𝓤) where
    abbrev All : SProp 𝓤
    All = sep 𝓤 (Locals E σ) F

    -- a place holds v: it can be read
    abbrev Readable : Ty → ℕ → ℕ → Val → Type 2
    Readable τ b o v = (Kt : Val → SProp 𝓤) → (WT v → ent 𝓤 All (Kt v)) → ent 𝓤 All (read 𝓤 H τ b o Kt)

    -- a cell can be taken out and put back
    readable : (τ : Ty) (b o : ℕ) (v : Val) → Out-of (H.at full_share τ b o v) (H.at full_share τ b o v) (Locals E σ) (Locals E σ) → Readable τ b o v
    readable τ b o v out Kt k =
        qed 𝓛 (raw (Locals E σ) ∷ raw F ∷ []) ∵ use1 𝓛 (‵ (fat full_share τ b o v) ⊛ raw (wand 𝓤 (H.at full_share τ b o v) (Locals E σ))) out $ split ! $
        use1 𝓛 (given (Holds (has_ty τ v) × WT v) (‵ (fat full_share τ b o v))) (𝓛.laws.at_wt full_share τ b o v) $ learn ! (λ wt.
        show ! (λ (q : Share). ex 𝓤 (λ (u : Val). sep 𝓤 (H.at q τ b o u) (wand 𝓤 (H.at q τ b o u) (Kt u)))) full_share $ show ! (λ (u : Val). sep 𝓤 (H.at full_share τ b o u) (wand 𝓤 (H.at full_share τ b o u) (Kt u))) v $
        frame ! $ assume ! (‵ (fat full_share τ b o v)) $ use2 𝓛 (raw (Locals E σ)) (apply∗ 𝓤 (H.at full_share τ b o v) (Locals E σ)) $ by ! (k wt.1))

    -- a field's cell out of a struct's
    field_out : (ν : Sym) (τs : Tys) (k : ℕ) (τ : Ty) (d : ℕ) → field_at zero τs k ≡ some (τ, d) → (b : ℕ) (vs : Vals) → Out-of (H.at full_share (ty_struct ν τs) b zero (vstruct vs)) (H.at full_share (ty_struct ν τs) b zero (vstruct vs)) (Locals E σ) (Locals E σ)
        → Out-of (H.at full_share τ b (zero + d) (get_v vs k)) (H.at full_share τ b (zero + d) (get_v vs k)) (Locals E σ) (Locals E σ)
    field_out ν τs k τ d e b vs out =
        qed 𝓛 (raw (Locals E σ) ∷ []) ∵ use1 𝓛 (‵ (fat full_share (ty_struct ν τs) b zero (vstruct vs)) ⊛ raw (wand 𝓤 (H.at full_share (ty_struct ν τs) b zero (vstruct vs)) (Locals E σ))) out $ split ! $
        use1 𝓛 (‵ (fat full_share τ b (zero + d) (get_v vs k)) ⊛ raw (all 𝓤 Field)) (𝓛.laws.at_field full_share ν τs k τ d e b zero vs) $ split ! $ frame ! $ assume ! (‵ (fat full_share τ b (zero + d) (get_v vs k))) $
        move ! (1 ∷ []) $ use1 𝓛 (raw (Field (get_v vs k))) (all_e 𝓤 Field (get_v vs k)) $ move ! (1 ∷ 0 ∷ []) $ use2 𝓛 (‵ (fat full_share (ty_struct ν τs) b zero (vstruct (set_v vs k (get_v vs k))))) (apply∗ 𝓤 (H.at full_share τ b (zero + d) (get_v vs k)) (H.at full_share (ty_struct ν τs) b zero (vstruct (set_v vs k (get_v vs k))))) $
        use1 𝓛 (‵ (fat full_share (ty_struct ν τs) b zero (vstruct vs))) (subst (λ (us : Vals). ent 𝓤 (H.at full_share (ty_struct ν τs) b zero (vstruct (set_v vs k (get_v vs k)))) (H.at full_share (ty_struct ν τs) b zero (vstruct us))) (set_v-get_v vs k) (id⊢ 𝓤 _)) $
        use2 𝓛 (raw (Locals E σ)) (apply∗ 𝓤 (H.at full_share (ty_struct ν τs) b zero (vstruct vs)) (Locals E σ)) $ done !
      where
        Field : Val → SProp 𝓤
        Field u = wand 𝓤 (H.at full_share τ b (zero + d) u) (H.at full_share (ty_struct ν τs) b zero (vstruct (set_v vs k u)))

  module _ (E : Env 𝓤 H) (σ : Store) (F : SProp 𝓤) where
    -- a field of the struct in a cell: where it lies, and that its cell can be taken out
    abbrev Taken : Ty → ℕ → ℕ → Val → Type 1
    Taken τ b o v = Out-of (H.at full_share τ b o v) (H.at full_share τ b o v) (Locals E σ) (Locals E σ)

    in_struct : (ν : Sym) (τs : Tys) (b : ℕ) (vs : Vals) (k : ℕ) (u : Val) (o : Option (Ty × ℕ)) → field_at zero τs k ≡ o → bind o (λ _. some (get_v vs k)) ≡ some u → Taken (ty_struct ν τs) b zero (vstruct vs)
        → (Q : Ty → ℕ → SProp 𝓤) → ((τ' : Ty) (d : ℕ) → Taken τ' b (zero + d) u → ent 𝓤 (All E σ F) (Q τ' d)) → ent 𝓤 (All E σ F) (part 𝓤 H o Q)
    in_struct ν τs b vs k u none eo e out Q go = no_none e
    in_struct ν τs b vs k u (some f) eo e out Q go = go f.0 f.1 (subst (λ (w : Val). Taken f.0 b (zero + f.1) w) (is-v e) (field_out E σ F ν τs k f.0 f.1 eo b vs out))

    in-vals : (ν : Sym) (τs : Tys) (b : ℕ) (v : Val) (k : ℕ) (u : Val) → field_v (ty_struct ν τs) v k ≡ some u → Taken (ty_struct ν τs) b zero v
        → (Q : Ty → ℕ → SProp 𝓤) → ((τ' : Ty) (d : ℕ) → Taken τ' b (zero + d) u → ent 𝓤 (All E σ F) (Q τ' d)) → ent 𝓤 (All E σ F) (part 𝓤 H (field_at zero τs k) Q)
    in-vals ν τs b vunit k u e out Q go = no_none e
    in-vals ν τs b (vbool t) k u e out Q go = no_none e
    in-vals ν τs b (vint w n) k u e out Q go = no_none e
    in-vals ν τs b (vfloat f x) k u e out Q go = no_none e
    in-vals ν τs b (vcode ι) k u e out Q go = no_none e
    in-vals ν τs b (vptr c o) k u e out Q go = no_none e
    in-vals ν τs b (vstruct vs) k u e out Q go = in_struct ν τs b vs k u (field_at zero τs k) refl e out Q go

    in_field : (τ : Ty) (b : ℕ) (v : Val) (k : ℕ) (u : Val) → field_v τ v k ≡ some u → Taken τ b zero v
        → (Q : Ty → ℕ → SProp 𝓤) → ((τ' : Ty) (d : ℕ) → Taken τ' b (zero + d) u → ent 𝓤 (All E σ F) (Q τ' d)) → ent 𝓤 (All E σ F) (part 𝓤 H (field_of τ k) Q)
    in_field (ty_int w) b v k u e out Q go = no_none e
    in_field ty_bool b v k u e out Q go = no_none e
    in_field (ty_float f) b v k u e out Q go = no_none e
    in_field ty_ptr b v k u e out Q go = no_none e
    in_field (ty_ref κ μ τ) b v k u e out Q go = no_none e
    in_field (ty_array τ n) b v k u e out Q go = no_none e
    in_field ty_unit b v k u e out Q go = no_none e
    in_field (ty_struct ν τs) b v k u e out Q go = in-vals ν τs b v k u e out Q go
    in_field (ty_enum ν τss) b v k u e out Q go = no_none e
    in_field (ty_param ι) b v k u e out Q go = no_none e
    in_field (ty_const ι) b v k u e out Q go = no_none e
    in_field (ty_array_p υ ι) b v k u e out Q go = no_none e
    in_field (ty_named ν θ) b v k u e out Q go = no_none e

    -- the tag of the enum in a cell, and a field of the variant that it is
    abbrev Enumed : (ν : Sym) → Tyss → ℕ → ℕ → Vals → Type 1
    Enumed ν τss b t us = Taken (ty_enum ν τss) b zero (vstruct (vcons (vint w8 t) us))

    tag-out : (ν : Sym) (τss : Tyss) (b t : ℕ) (us : Vals) → Enumed ν τss b t us → Taken (ty_int w8) b zero (vint w8 t)
    tag-out ν τss b t us out =
        qed 𝓛 (raw (Locals E σ) ∷ []) ∵ use1 𝓛 (‵ (fat full_share (ty_enum ν τss) b zero (vstruct (vcons (vint w8 t) us))) ⊛ raw (wand 𝓤 (H.at full_share (ty_enum ν τss) b zero (vstruct (vcons (vint w8 t) us))) (Locals E σ))) out $ split ! $
        use1 𝓛 (‵ (fat full_share (ty_int w8) b zero (vint w8 t)) ⊛ raw (wand 𝓤 (H.at full_share (ty_int w8) b zero (vint w8 t)) (H.at full_share (ty_enum ν τss) b zero (vstruct (vcons (vint w8 t) us))))) (𝓛.laws.at_tag full_share ν τss t b zero us) $ split ! $ frame ! $
        assume ! (‵ (fat full_share (ty_int w8) b zero (vint w8 t))) $ use2 𝓛 (‵ (fat full_share (ty_enum ν τss) b zero (vstruct (vcons (vint w8 t) us)))) (apply∗ 𝓤 (H.at full_share (ty_int w8) b zero (vint w8 t)) (H.at full_share (ty_enum ν τss) b zero (vstruct (vcons (vint w8 t) us)))) $
        use2 𝓛 (raw (Locals E σ)) (apply∗ 𝓤 (H.at full_share (ty_enum ν τss) b zero (vstruct (vcons (vint w8 t) us))) (Locals E σ)) $ done !

    variant-out : (ν : Sym) (τss : Tyss) (t : ℕ) (τs : Tys) → variant_at τss t ≡ some τs → (j : ℕ) (τ : Ty) (d : ℕ) → field_at 1 τs j ≡ some (τ, d) → (b : ℕ) (us : Vals) → Enumed ν τss b t us → Taken τ b (zero + d) (get_v us j)
    variant-out ν τss t τs ev j τ d ef b us out =
        qed 𝓛 (raw (Locals E σ) ∷ []) ∵ use1 𝓛 (‵ (fat full_share (ty_enum ν τss) b zero (vstruct (vcons (vint w8 t) us))) ⊛ raw (wand 𝓤 (H.at full_share (ty_enum ν τss) b zero (vstruct (vcons (vint w8 t) us))) (Locals E σ))) out $ split ! $
        use1 𝓛 (‵ (fat full_share τ b (zero + d) (get_v us j)) ⊛ raw (all 𝓤 Field)) (𝓛.laws.at_variant full_share ν τss t τs ev j τ d ef b zero us) $ split ! $ frame ! $ assume ! (‵ (fat full_share τ b (zero + d) (get_v us j))) $
        move ! (1 ∷ []) $ use1 𝓛 (raw (Field (get_v us j))) (all_e 𝓤 Field (get_v us j)) $ move ! (1 ∷ 0 ∷ []) $ use2 𝓛 (‵ (fat full_share (ty_enum ν τss) b zero (vstruct (vcons (vint w8 t) (set_v us j (get_v us j)))))) (apply∗ 𝓤 (H.at full_share τ b (zero + d) (get_v us j)) (H.at full_share (ty_enum ν τss) b zero (vstruct (vcons (vint w8 t) (set_v us j (get_v us j)))))) $
        use1 𝓛 (‵ (fat full_share (ty_enum ν τss) b zero (vstruct (vcons (vint w8 t) us)))) (subst (λ (vs : Vals). ent 𝓤 (H.at full_share (ty_enum ν τss) b zero (vstruct (vcons (vint w8 t) (set_v us j (get_v us j))))) (H.at full_share (ty_enum ν τss) b zero (vstruct (vcons (vint w8 t) vs)))) (set_v-get_v us j) (id⊢ 𝓤 _)) $
        use2 𝓛 (raw (Locals E σ)) (apply∗ 𝓤 (H.at full_share (ty_enum ν τss) b zero (vstruct (vcons (vint w8 t) us))) (Locals E σ)) $ done !
      where
        Field : Val → SProp 𝓤
        Field u = wand 𝓤 (H.at full_share τ b (zero + d) u) (H.at full_share (ty_enum ν τss) b zero (vstruct (vcons (vint w8 t) (set_v us j u))))

    -- what is asked where a field of a variant is read
    abbrev Found : ℕ → Val → (Ty → ℕ → SProp 𝓤) → Type 1
    Found b u Q = (τ' : Ty) (d : ℕ) → Taken τ' b (zero + d) u → ent 𝓤 (All E σ F) (Q τ' d)

    in-fields : (ν : Sym) (τss : Tyss) (b t : ℕ) (us : Vals) (k : ℕ) (τs : Tys) (j : ℕ) (u : Val) (y : Bool) (o : Option (Ty × ℕ)) → variant_at τss k ≡ some τs → eqb t k ≡ y → field_at 1 τs j ≡ o → bind (if-so y vunit) (λ _. bind o (λ _. some (get_v us j))) ≡ some u
        → Enumed ν τss b t us → (Q : Ty → ℕ → SProp 𝓤) → Found b u Q → ent 𝓤 (All E σ F) (part 𝓤 H o Q)
    in-fields ν τss b t us k τs j u false o ev ek eo e out Q go = no_none e
    in-fields ν τss b t us k τs j u true none ev ek eo e out Q go = no_none e
    in-fields ν τss b t us k τs j u true (some f) ev ek eo e out Q go =
        go f.0 f.1 (subst (λ (w : Val). Taken f.0 b (zero + f.1) w) (is-v e) (variant-out ν τss t τs (subst (λ (m : ℕ). variant_at τss m ≡ some τs) (sym (eqb→eq t k (subst Holds (sym ek) tt))) ev) j f.0 f.1 eo b us out))

    in-tagged : (ν : Sym) (τss : Tyss) (b t : ℕ) (us : Vals) (k : ℕ) (τs : Tys) (j : ℕ) (u : Val) → variant_at τss k ≡ some τs → at_variant τs (vcons (vint w8 t) us) k j ≡ some u → Enumed ν τss b t us
        → (Q : Ty → ℕ → SProp 𝓤) → Found b u Q → ent 𝓤 (All E σ F) (part 𝓤 H (field_at zero (tcons (ty_int w8) τs) j) Q)
    in-tagged ν τss b t us k τs zero u ev e out Q go = go (ty_int w8) zero (subst (λ (w : Val). Taken (ty_int w8) b zero w) (is-v e) (tag-out ν τss b t us out))
    in-tagged ν τss b t us k τs (suc j) u ev e out Q go = in-fields ν τss b t us k τs j u (eqb t k) (field_at 1 τs j) ev refl refl e out Q go

    no-tag : (τs : Tys) (vs : Vals) (k j : ℕ) (u : Val) → tag_v vs ≡ none → at_variant τs vs k j ≡ some u → ◌≡◌ {A = Option Val} none (some u)
    no-tag τs vs k zero u en e = subst (λ (o : Option ℕ). bind o (λ t. some (vint w8 t)) ≡ some u) en e
    no-tag τs vs k (suc j) u en e = subst (λ (o : Option ℕ). bind o (λ t. bind (if-so (eqb t k) vunit) (λ _. bind (field_at 1 τs j) (λ _. some (get_v (rest_v vs) j)))) ≡ some u) en e

    in-int : (ν : Sym) (τss : Tyss) (b : ℕ) (w : Width) (t : ℕ) (us : Vals) (k : ℕ) (τs : Tys) (j : ℕ) (u : Val) → variant_at τss k ≡ some τs → at_variant τs (vcons (vint w t) us) k j ≡ some u → Taken (ty_enum ν τss) b zero (vstruct (vcons (vint w t) us))
        → (Q : Ty → ℕ → SProp 𝓤) → Found b u Q → ent 𝓤 (All E σ F) (part 𝓤 H (field_at zero (tcons (ty_int w8) τs) j) Q)
    in-int ν τss b w8 t us k τs j u ev e out Q go = in-tagged ν τss b t us k τs j u ev e out Q go
    in-int ν τss b w16 t us k τs j u ev e out Q go = no_none (no-tag τs (vcons (vint w16 t) us) k j u refl e)
    in-int ν τss b w32 t us k τs j u ev e out Q go = no_none (no-tag τs (vcons (vint w32 t) us) k j u refl e)
    in-int ν τss b w64 t us k τs j u ev e out Q go = no_none (no-tag τs (vcons (vint w64 t) us) k j u refl e)
    in-int ν τss b w128 t us k τs j u ev e out Q go = no_none (no-tag τs (vcons (vint w128 t) us) k j u refl e)

    in-cons : (ν : Sym) (τss : Tyss) (b : ℕ) (v : Val) (us : Vals) (k : ℕ) (τs : Tys) (j : ℕ) (u : Val) → variant_at τss k ≡ some τs → at_variant τs (vcons v us) k j ≡ some u → Taken (ty_enum ν τss) b zero (vstruct (vcons v us))
        → (Q : Ty → ℕ → SProp 𝓤) → Found b u Q → ent 𝓤 (All E σ F) (part 𝓤 H (field_at zero (tcons (ty_int w8) τs) j) Q)
    in-cons ν τss b vunit us k τs j u ev e out Q go = no_none (no-tag τs (vcons vunit us) k j u refl e)
    in-cons ν τss b (vbool y) us k τs j u ev e out Q go = no_none (no-tag τs (vcons (vbool y) us) k j u refl e)
    in-cons ν τss b (vint w t) us k τs j u ev e out Q go = in-int ν τss b w t us k τs j u ev e out Q go
    in-cons ν τss b (vfloat f x) us k τs j u ev e out Q go = no_none (no-tag τs (vcons (vfloat f x) us) k j u refl e)
    in-cons ν τss b (vcode ι) us k τs j u ev e out Q go = no_none (no-tag τs (vcons (vcode ι) us) k j u refl e)
    in-cons ν τss b (vptr c o) us k τs j u ev e out Q go = no_none (no-tag τs (vcons (vptr c o) us) k j u refl e)
    in-cons ν τss b (vstruct vs) us k τs j u ev e out Q go = no_none (no-tag τs (vcons (vstruct vs) us) k j u refl e)

    in_enum : (ν : Sym) (τss : Tyss) (b : ℕ) (v : Val) (k j : ℕ) (u : Val) (m : Option Tys) → variant_at τss k ≡ m → bind m (λ τs. bind (fields_of v) (λ vs. at_variant τs vs k j)) ≡ some u → Taken (ty_enum ν τss) b zero v
        → (Q : Ty → ℕ → SProp 𝓤) → Found b u Q → ent 𝓤 (All E σ F) (seen 𝓤 H (with_tag ν m) (λ τ'. part 𝓤 H (field_of τ' j) Q))
    in_enum ν τss b v k j u none em e out Q go = no_none e
    in_enum ν τss b vunit k j u (some τs) em e out Q go = no_none e
    in_enum ν τss b (vbool y) k j u (some τs) em e out Q go = no_none e
    in_enum ν τss b (vint w t) k j u (some τs) em e out Q go = no_none e
    in_enum ν τss b (vfloat f x) k j u (some τs) em e out Q go = no_none e
    in_enum ν τss b (vcode ι) k j u (some τs) em e out Q go = no_none e
    in_enum ν τss b (vptr c o) k j u (some τs) em e out Q go = no_none e
    in_enum ν τss b (vstruct vnil) k j u (some τs) em e out Q go = no_none (no-tag τs vnil k j u refl e)
    in_enum ν τss b (vstruct (vcons v us)) k j u (some τs) em e out Q go = in-cons ν τss b v us k τs j u em e out Q go

    in_variant : (τ : Ty) (b : ℕ) (v : Val) (k j : ℕ) (u : Val) → variant_v τ v k j ≡ some u → Taken τ b zero v → (Q : Ty → ℕ → SProp 𝓤) → Found b u Q → ent 𝓤 (All E σ F) (seen 𝓤 H (variant_of τ k) (λ τ'. part 𝓤 H (field_of τ' j) Q))
    in_variant (ty_int w) b v k j u e out Q go = no_none e
    in_variant ty_bool b v k j u e out Q go = no_none e
    in_variant (ty_float f) b v k j u e out Q go = no_none e
    in_variant ty_ptr b v k j u e out Q go = no_none e
    in_variant (ty_ref κ μ τ) b v k j u e out Q go = no_none e
    in_variant (ty_array τ n) b v k j u e out Q go = no_none e
    in_variant ty_unit b v k j u e out Q go = no_none e
    in_variant (ty_struct ν τs) b v k j u e out Q go = no_none e
    in_variant (ty_enum ν τss) b v k j u e out Q go = in_enum ν τss b v k j u (variant_at τss k) refl e out Q go
    in_variant (ty_param ι) b v k j u e out Q go = no_none e
    in_variant (ty_const ι) b v k j u e out Q go = no_none e
    in_variant (ty_array_p υ ι) b v k j u e out Q go = no_none e
    in_variant (ty_named ν θ) b v k j u e out Q go = no_none e

    module _ (τs : List Ty) (tied : (i : ℕ) → ty_e E i ≡ get_or τs i no-type) where
      -- ---- operands
      variant-of : (i k j : ℕ) (u : Val) (s : Option Val) → content (get_or σ i empty) ≡ s → bind s (λ v. variant_v (ty_e E i) v k j) ≡ some u → (Q : Ty → ℕ → SProp 𝓤) → Found (bl_e E i) u Q → ent 𝓤 (All E σ F) (seen 𝓤 H (variant_of (ty_e E i) k) (λ τ'. part 𝓤 H (field_of τ' j) Q))
      variant-of i k j u none es e Q go = no_none e
      variant-of i k j u (some v) es e Q go = in_variant (ty_e E i) (bl_e E i) v k j u e (get E σ i v es) Q go

      field-of : (i k : ℕ) (u : Val) (s : Option Val) → content (get_or σ i empty) ≡ s → bind s (λ v. field_v (ty_e E i) v k) ≡ some u
          → (Q : Ty → ℕ → SProp 𝓤) → ((τ' : Ty) (d : ℕ) → Taken τ' (bl_e E i) (zero + d) u → ent 𝓤 (All E σ F) (Q τ' d)) → ent 𝓤 (All E σ F) (part 𝓤 H (field_of (ty_e E i) k) Q)
      field-of i k u none es e Q go = no_none e
      field-of i k u (some v) es e Q go = in_field (ty_e E i) (bl_e E i) v k u e (get E σ i v es) Q go

      place_ok : (i : ℕ) (st : List PStep) (v : Val) → peek (get_or τs i no-type) (content (get_or σ i empty)) st ≡ some v → (Kt : Val → SProp 𝓤) → (WT v → ent 𝓤 (All E σ F) (Kt v)) → ent 𝓤 (All E σ F) (eval_opd 𝓤 H E (copy (place i st)) Kt)
      place_ok i [] v e Kt k = readable E σ F (ty_e E i) (bl_e E i) zero v (get E σ i v e) Kt k
      place_ok i (deref τ ∷ st) v e Kt k = no_none e
      place_ok i (field j ∷ []) v e Kt k = field-of i j v (content (get_or σ i empty)) refl (subst (λ (τ : Ty). bind (content (get_or σ i empty)) (λ u. field_v τ u j) ≡ some v) (sym (tied i)) e) (λ τ' d. read 𝓤 H τ' (bl_e E i) (zero + d) Kt) (λ τ' d out. readable E σ F τ' (bl_e E i) (zero + d) v out Kt k)
      place_ok i (field j ∷ x ∷ st) v e Kt k = no_none e
      place_ok i (variant k₀ ∷ []) v e Kt k = no_none e
      place_ok i (variant k₀ ∷ deref τ ∷ st) v e Kt k = no_none e
      place_ok i (variant k₀ ∷ field j ∷ []) v e Kt k = variant-of i k₀ j v (content (get_or σ i empty)) refl (subst (λ (τ : Ty). bind (content (get_or σ i empty)) (λ u. variant_v τ u k₀ j) ≡ some v) (sym (tied i)) e) (λ τ' d. read 𝓤 H τ' (bl_e E i) (zero + d) Kt) (λ τ' d out. readable E σ F τ' (bl_e E i) (zero + d) v out Kt k)
      place_ok i (variant k₀ ∷ field j ∷ x ∷ st) v e Kt k = no_none e
      place_ok i (variant k₀ ∷ variant j ∷ st) v e Kt k = no_none e

      lit-ok : (w : Width) (n : ℕ) (v : Val) (t : Bool) → ltb n (2 ^ bits w) ≡ t → if-so t (vint w n) ≡ some v → (Kt : Val → SProp 𝓤) → (WT v → ent 𝓤 (All E σ F) (Kt v)) → ent 𝓤 (All E σ F) (guard 𝓤 (Holds (ltb n (2 ^ bits w))) (Kt (vint w n)))
      lit-ok w n v false et e Kt k = no_none e
      lit-ok w n v true et e Kt k =
          let ok : Holds (ltb n (2 ^ bits w)) = subst Holds (sym et) tt in
          via 𝓤 (Kt (vint w n)) (subst (λ (u : Val). ent 𝓤 (All E σ F) (Kt u)) (sym (is-v e)) (k (subst WT (is-v e) (record { fits = ltb→lt n (2 ^ bits w) ok })))) (guard_i 𝓤 (Holds (ltb n (2 ^ bits w))) (Kt (vint w n)) ok)

      given-v : (u v : Val) → ◌≡◌ {A = Option Val} (some u) (some v) → WT u → (Kt : Val → SProp 𝓤) → (WT v → ent 𝓤 (All E σ F) (Kt v)) → ent 𝓤 (All E σ F) (Kt u)
      given-v u v e wt Kt k = subst (λ (w : Val). ent 𝓤 (All E σ F) (Kt w)) (sym (is-v e)) (k (subst WT (is-v e) wt))

      opd_ok : (x : Opd) (v : Val) → opd_v τs σ x ≡ some v → (Kt : Val → SProp 𝓤) → (WT v → ent 𝓤 (All E σ F) (Kt v)) → ent 𝓤 (All E σ F) (eval_opd 𝓤 H E x Kt)
      opd_ok (copy (place i st)) v e Kt k = place_ok i st v e Kt k
      opd_ok (int w n) v e Kt k = lit-ok w n v (ltb n (2 ^ bits w)) refl e Kt k
      opd_ok (int_neg w n) v e Kt k = no_none e
      opd_ok (int_big w n) v e Kt k = no_none e
      opd_ok (float f n) v e Kt k = no_none e
      opd_ok opd_true v e Kt k = given-v (vbool true) v e tt Kt k
      opd_ok opd_false v e Kt k = given-v (vbool false) v e tt Kt k
      opd_ok opd_unit v e Kt k = given-v vunit v e tt Kt k
      opd_ok (ptr_const n) v e Kt k = no_none e
      opd_ok (size_of τ) v e Kt k = no_none e
      opd_ok (align_of τ) v e Kt k = no_none e
      opd_ok (num_of w τ) v e Kt k = no_none e
      opd_ok (fn_addr f ς) v e Kt k = no_none e
      opd_ok (vtable τ ss) v e Kt k = no_none e

      or_nil : Option (List Val) → List Val
      or_nil none = []
      or_nil (some vs) = vs

      Somes : Option (List Val) → Type 0
      Somes none = ⊥
      Somes (some vs) = Unit {0}

      no-list : {vs : List Val} {X : Type 1} → none ≡ some vs → X
      unfolding Somes
      no-list e = absurd (subst Somes (sym e) tt)

      is-vs : {us vs : List Val} → ◌≡◌ {A = Option (List Val)} (some us) (some vs) → us ≡ vs
      unfolding or_nil
      is-vs e = ap or_nil e

      abbrev OpdsOk : List Opd → Type 2
      OpdsOk xs = (vs : List Val) → opds_v τs σ xs ≡ some vs → (Kt : List Val → SProp 𝓤) → (WTs (of_list vs) → ent 𝓤 (All E σ F) (Kt vs)) → ent 𝓤 (All E σ F) (eval_opds 𝓤 H E xs Kt)

      opds-at : (x : Opd) (xs : List Opd) → OpdsOk xs → (vs : List Val) (m : Option Val) (ms : Option (List Val)) → opd_v τs σ x ≡ m → opds_v τs σ xs ≡ ms → bind m (λ v. bind ms (λ us. some (v ∷ us))) ≡ some vs
          → (Kt : List Val → SProp 𝓤) → (WTs (of_list vs) → ent 𝓤 (All E σ F) (Kt vs)) → ent 𝓤 (All E σ F) (eval_opds 𝓤 H E (x ∷ xs) Kt)
      opds-at x xs ok vs none ms em es e Kt k = no-list e
      opds-at x xs ok vs (some v) none em es e Kt k = no-list e
      opds-at x xs ok vs (some v) (some us) em es e Kt k =
          opd_ok x v em (λ u. eval_opds 𝓤 H E xs (λ ws. Kt (u ∷ ws))) (λ wt. ok us es (λ ws. Kt (v ∷ ws)) (λ wts. subst (λ (ws : List Val). ent 𝓤 (All E σ F) (Kt ws)) (sym (is-vs e)) (k (subst (λ (ws : List Val). WTs (of_list ws)) (is-vs e) (wt, wts)))))

      opds_ok : (xs : List Opd) → OpdsOk xs
      opds_ok [] vs e Kt k = subst (λ (us : List Val). ent 𝓤 (All E σ F) (Kt us)) (sym (is-vs e)) (k (subst (λ (us : List Val). WTs (of_list us)) (is-vs e) tt))
      opds_ok (x ∷ xs) vs e Kt k = opds-at x xs (opds_ok xs) vs (opd_v τs σ x) (opds_v τs σ xs) refl refl e Kt k

      -- ---- addresses
      of-ptr : (u v : Val) → ptr_of u ≡ some v → (τ : Ty) (Kt : Val → SProp 𝓤) → (WT v → ent 𝓤 (All E σ F) (Kt v)) → ent 𝓤 (All E σ F) (as_ptr (never 𝓤) u (λ b o. Kt (vptr b o)))
      of-ptr vunit v e τ Kt k = no_none e
      of-ptr (vbool t) v e τ Kt k = no_none e
      of-ptr (vint w n) v e τ Kt k = no_none e
      of-ptr (vfloat f x) v e τ Kt k = no_none e
      of-ptr (vcode ι) v e τ Kt k = no_none e
      of-ptr (vptr b o) v e τ Kt k = given-v (vptr b o) v e tt Kt k
      of-ptr (vstruct vs) v e τ Kt k = no_none e

      via-field : (i j : ℕ) (v : Val) (τ : Ty) (m : Option Val) → bind (content (get_or σ i empty)) (λ u. field_v (ty_e E i) u j) ≡ m → bind m ptr_of ≡ some v → (Kt : Val → SProp 𝓤) → (WT v → ent 𝓤 (All E σ F) (Kt v))
          → ent 𝓤 (All E σ F) (eval_rv 𝓤 H E (addr_of (place i (field j ∷ deref τ ∷ []))) Kt)
      via-field i j v τ none em e Kt k = no_none e
      via-field i j v τ (some u) em e Kt k =
          field-of i j u (content (get_or σ i empty)) refl em (λ τ' d. read 𝓤 H τ' (bl_e E i) (zero + d) (λ w. as_ptr (never 𝓤) w (λ b o. Kt (vptr b o))))
          (λ τ' d out. readable E σ F τ' (bl_e E i) (zero + d) u out (λ w. as_ptr (never 𝓤) w (λ b o. Kt (vptr b o))) (λ wt. of-ptr u v e τ Kt k))

      two_steps : (s : Option Val) (τ : Ty) (j : ℕ) → bind s (λ v. bind (field_v τ v j) ptr_of) ≡ bind (bind s (λ v. field_v τ v j)) ptr_of
      two_steps none τ j = refl
      two_steps (some v) τ j = refl

      address-ok : (p : Place) (v : Val) → address τs σ (λ i. bl_e E i) p ≡ some v → (Kt : Val → SProp 𝓤) → (WT v → ent 𝓤 (All E σ F) (Kt v)) → ent 𝓤 (All E σ F) (eval_rv 𝓤 H E (addr_of p) Kt)
      address-ok (place i []) v e Kt k = given-v (vptr (bl_e E i) zero) v e tt Kt k
      address-ok (place i (deref τ ∷ st)) v e Kt k = no_none e
      address-ok (place i (field j ∷ [])) v e Kt k = no_none e
      address-ok (place i (field j ∷ deref τ ∷ [])) v e Kt k =
          via-field i j v τ (bind (content (get_or σ i empty)) (λ u. field_v (ty_e E i) u j)) refl (subst (λ (ρ : Ty). bind (bind (content (get_or σ i empty)) (λ u. field_v ρ u j)) ptr_of ≡ some v) (sym (tied i)) (sym (two_steps (content (get_or σ i empty)) (get_or τs i no-type) j) ∙ e)) Kt k
      address-ok (place i (field j ∷ deref τ ∷ y ∷ st)) v e Kt k = no_none e
      address-ok (place i (field j ∷ field l ∷ st)) v e Kt k = no_none e
      address-ok (place i (field j ∷ variant l ∷ st)) v e Kt k = no_none e
      address-ok (place i (variant j ∷ st)) v e Kt k = no_none e

      -- ---- a store into a local
      store_ok : (d : ℕ) (v : Val) → Holds (has-local σ d) → Holds (has_ty (get_or τs d no-type) v) × WT v → (P : SProp 𝓤) → ent 𝓤 (sep 𝓤 (Locals E (set σ d (holds v))) F) P → ent 𝓤 (All E σ F) (write 𝓤 H (ty_e E d) (bl_e E d) zero v P)
      store_ok d v h wt P k =
          qed 𝓛 (raw (Locals E σ) ∷ raw F ∷ []) ∵ use1 𝓛 (raw (H.room (ty_e E d) (bl_e E d) zero) ⊛ raw (wand 𝓤 (H.at full_share (ty_e E d) (bl_e E d) zero v) (Locals E (set σ d (holds v))))) (put E σ d v h) $ split ! $
          check ! (subst (λ (τ : Ty). Holds (has_ty τ v) × WT v) (sym (tied d)) wt) $ frame ! $ assume ! (‵ (fat full_share (ty_e E d) (bl_e E d) zero v)) $
          use2 𝓛 (raw (Locals E (set σ d (holds v)))) (apply∗ 𝓤 (H.at full_share (ty_e E d) (bl_e E d) zero v) (Locals E (set σ d (holds v)))) $ by ! k

  -- what is asked by computation, taken out again
  asked : {X : Type 0} (o : Option X) (K : X → Type 2) {P : Type 1} → on_some o K → ((x : X) → o ≡ some x → K x → P) → P
  asked none K h k = absurd h.0
  asked (some x) K h k = k x refl h

  passed : (t : Bool) (K : Type 2) {P : Type 1} → if-true t K → (Holds t → K → P) → P
  passed true K h k = k tt h
  passed false K h k = absurd h.0

  by_bool : (t : Bool) {Γ X Y : SProp 𝓤} → (Holds t → ent 𝓤 Γ X) → (Holds (not t) → ent 𝓤 Γ Y) → ent 𝓤 Γ (branch 𝓤 H t X Y)
  by_bool true h₁ h₂ = h₁ tt
  by_bool false h₁ h₂ = h₂ tt

  -- ---- the locals that a call lends
  marked-types : (ty ty' : ℕ → Ty) (blk : ℕ → ℕ) → ((i : ℕ) → ty i ≡ ty' i) → (σ : Store) (m : List Bool) → Marked 𝓤 H ty blk σ m ≡ Marked 𝓤 H ty' blk σ m
  marked-types ty ty' blk e σ [] = refl
  marked-types ty ty' blk e [] (t ∷ m) = refl
  marked-types ty ty' blk e (s ∷ σ) (true ∷ m) =
      ap (λ (τ : Ty). sep 𝓤 (local_at 𝓤 H τ (blk zero) s) (Marked 𝓤 H (λ i. ty (suc i)) (λ i. blk (suc i)) σ m)) (e zero)
      ∙ ap (λ (P : SProp 𝓤). sep 𝓤 (local_at 𝓤 H (ty' zero) (blk zero) s) P) (marked-types (λ i. ty (suc i)) (λ i. ty' (suc i)) (λ i. blk (suc i)) (λ i. e (suc i)) σ m)
  marked-types ty ty' blk e (s ∷ σ) (false ∷ m) = marked-types (λ i. ty (suc i)) (λ i. ty' (suc i)) (λ i. blk (suc i)) (λ i. e (suc i)) σ m

  abbrev MarkedIn : Env 𝓤 H → Store → List Bool → SProp 𝓤
  MarkedIn E σ m = Marked 𝓤 H (λ i. ty_e E i) (λ i. bl_e E i) σ m

  marks-out : (E : Env 𝓤 H) (σ : Store) (m : List Bool) → ent 𝓤 (Locals E σ) (sep 𝓤 (MarkedIn E σ m) (Locals E (lend-out σ m)))
  marks-out E σ [] = emp∗ 𝓤 (Locals E σ)
  marks-out [] [] (t ∷ m) = emp∗ 𝓤 (emp 𝓤)
  marks-out [] (s ∷ σ) (t ∷ m) = never_e 𝓤 _
  marks-out (e ∷ E) [] (t ∷ m) = never_e 𝓤 _
  marks-out (e ∷ E) (s ∷ σ) (true ∷ m) =
      qed 𝓛 (((raw (local_at 𝓤 H e.0 e.1 s) ⊛ raw (Dies e)) ⊛ raw (Locals E σ)) ∷ []) ∵ split ! $ split ! $ move ! (2 ∷ []) $ use1 𝓛 (raw (MarkedIn E σ m) ⊛ raw (Locals E (lend-out σ m))) (marks-out E σ m) $ split ! $
      -- [marked; the others; this one; its end]
      move ! (2 ∷ 0 ∷ []) $ join ! $ frame ! $ use0 𝓛 (raw (emp 𝓤)) (id⊢ 𝓤 (emp 𝓤)) $ move ! (0 ∷ 2 ∷ []) $ join ! $ frame ! $ done !
  marks-out (e ∷ E) (s ∷ σ) (false ∷ m) =
      qed 𝓛 ((raw (sep 𝓤 (local_at 𝓤 H e.0 e.1 s) (Dies e)) ⊛ raw (Locals E σ)) ∷ []) ∵ split ! $ move ! (1 ∷ []) $ use1 𝓛 (raw (MarkedIn E σ m) ⊛ raw (Locals E (lend-out σ m))) (marks-out E σ m) $ split ! $
      frame ! $ move ! (1 ∷ 0 ∷ []) $ done !

  marks-in : (E : Env 𝓤 H) (σ : Store) (m : List Bool) → ent 𝓤 (sep 𝓤 (MarkedIn E σ m) (Locals E (lend-out σ m))) (Locals E σ)
  marks-in E σ [] = snd∗ 𝓤 (emp 𝓤) (Locals E σ)
  marks-in [] [] (t ∷ m) = snd∗ 𝓤 (emp 𝓤) (emp 𝓤)
  marks-in [] (s ∷ σ) (true ∷ m) = via 𝓤 (never 𝓤) (snd∗ 𝓤 (MarkedIn [] (s ∷ σ) (true ∷ m)) (never 𝓤)) (never_e 𝓤 _)
  marks-in [] (s ∷ σ) (false ∷ m) = via 𝓤 (never 𝓤) (snd∗ 𝓤 (MarkedIn [] (s ∷ σ) (false ∷ m)) (never 𝓤)) (never_e 𝓤 _)
  marks-in (e ∷ E) [] (t ∷ m) = via 𝓤 (never 𝓤) (snd∗ 𝓤 (emp 𝓤) (never 𝓤)) (never_e 𝓤 _)
  marks-in (e ∷ E) (s ∷ σ) (true ∷ m) =
      qed 𝓛 ((raw (local_at 𝓤 H e.0 e.1 s) ⊛ raw (MarkedIn E σ m)) ∷ ((raw (emp 𝓤) ⊛ raw (Dies e)) ⊛ raw (Locals E (lend-out σ m))) ∷ []) ∵ split ! $ move ! (2 ∷ []) $ split ! $ split ! $ drop ! $
      -- [its end; the others; this one; marked]
      move ! (2 ∷ 0 ∷ []) $ join ! $ frame ! $ move ! (1 ∷ 0 ∷ []) $ by ! (marks-in E σ m)
  marks-in (e ∷ E) (s ∷ σ) (false ∷ m) =
      qed 𝓛 (raw (MarkedIn E σ m) ∷ (raw (sep 𝓤 (local_at 𝓤 H e.0 e.1 s) (Dies e)) ⊛ raw (Locals E (lend-out σ m))) ∷ []) ∵ move ! (1 ∷ []) $ split ! $ frame ! $ move ! (1 ∷ 0 ∷ []) $ by ! (marks-in E σ m)

  out-again : (σ : Store) (m : List Bool) (vs : List Val) → lend-out (put_back σ m vs) m ≡ lend-out σ m
  out-again σ [] vs = refl
  out-again [] (t ∷ m) vs = refl
  out-again (s ∷ σ) (true ∷ m) [] = ap (λ (ρ : Store). away ∷ ρ) (out-again σ m [])
  out-again (s ∷ σ) (true ∷ m) (v ∷ vs) = ap (λ (ρ : Store). away ∷ ρ) (out-again σ m vs)
  out-again (s ∷ σ) (false ∷ m) vs = ap (λ (ρ : Store). s ∷ ρ) (out-again σ m vs)

  has-back : (σ : Store) (m : List Bool) (vs : List Val) (d : ℕ) → Holds (has-local σ d) → Holds (has-local (put_back σ m vs) d)
  has-back σ [] vs d h = h
  has-back [] (t ∷ m) vs d h = h
  has-back (s ∷ σ) (true ∷ m) [] zero h = h
  has-back (s ∷ σ) (true ∷ m) [] (suc d) h = has-back σ m [] d h
  has-back (s ∷ σ) (true ∷ m) (v ∷ vs) zero h = tt
  has-back (s ∷ σ) (true ∷ m) (v ∷ vs) (suc d) h = has-back σ m vs d h
  has-back (s ∷ σ) (false ∷ m) vs zero h = h
  has-back (s ∷ σ) (false ∷ m) vs (suc d) h = has-back σ m vs d h

  -- ---- what a loop forgets
  forgets-at : (τ : Ty) (b : ℕ) (s r : Content) (K : Type 2) {P : Type 1} → forgets-one s r K → (ent 𝓤 (local_at 𝓤 H τ b s) (local_at 𝓤 H τ b r) → K → P) → P
  forgets-at τ b s empty K h k = passed (writable s) K h (λ w z. k (room_of τ b s w) z)
  forgets-at τ b empty (holds v) K h k = absurd h.0
  forgets-at τ b (holds u) (holds v) K h k = k (subst (λ (z : Val). ent 𝓤 (H.at full_share τ b zero u) (H.at full_share τ b zero z)) h.0 (id⊢ 𝓤 (H.at full_share τ b zero u))) h.1
  forgets-at τ b away (holds v) K h k = absurd h.0
  forgets-at τ b empty away K h k = absurd h.0
  forgets-at τ b (holds u) away K h k = absurd h.0
  forgets-at τ b away away K h k = k (id⊢ 𝓤 (emp 𝓤)) h

  forgets-ok : (E : Env 𝓤 H) (σ ρ : Store) → Forgets σ ρ → ent 𝓤 (Locals E σ) (Locals E ρ)
  forgets-ok [] [] [] h = id⊢ 𝓤 (emp 𝓤)
  forgets-ok (e ∷ E) [] [] h = never_e 𝓤 _
  forgets-ok E [] (r ∷ ρ) h = absurd h.0
  forgets-ok E (s ∷ σ) [] h = absurd h.0
  forgets-ok [] (s ∷ σ) (r ∷ ρ) h = never_e 𝓤 _
  forgets-ok (e ∷ E) (s ∷ σ) (r ∷ ρ) h = forgets-at e.0 e.1 s r (Forgets σ ρ) h (λ g z.
      via 𝓤 (sep 𝓤 (sep 𝓤 (local_at 𝓤 H e.0 e.1 r) (Dies e)) (Locals E σ)) (mono_l 𝓤 (Locals E σ) (mono_l 𝓤 (Dies e) g)) (mono_r 𝓤 (sep 𝓤 (local_at 𝓤 H e.0 e.1 r) (Dies e)) (forgets-ok E σ ρ z)))

  first-true : (x y : Bool) → Holds (x && y) → Holds x
  first-true true y h = tt
  first-true false y h = absurd h

  then-true : (x y : Bool) → Holds (x && y) → Holds y
  then-true true y h = h
  then-true false y h = absurd h

  module _ (𝓣 : Tables 𝓤 H) (E : Env 𝓤 H) (τs : List Ty) (tied : (i : ℕ) → ty_e E i ≡ get_or τs i no-type) where
    abbrev C : Calls 𝓤 H
    C = 𝓣.C

    -- the locals' blocks
    abbrev blk : ℕ → ℕ
    blk i = bl_e E i

    abbrev Λ : Loops 𝓤 H
    Λ = 𝓣.Λ

    abbrev fm : FmC 𝓤 H 𝓛.laws C
    fm = fm_of 𝓤 H 𝓛.laws 𝓣

    abbrev Goes : (Store → SProp 𝓤 → Type 2) → SProp 𝓤 → Type 2
    Goes K P = (σ : Store) (F : SProp 𝓤) → K σ F → ent 𝓤 (sep 𝓤 (Locals E σ) F) P

    abbrev GoesOut : (Out → Store → SProp 𝓤 → Type 2) → (Out → SProp 𝓤) → Type 2
    GoesOut K Q = (o : Out) → Goes (K o) (Q o)

    after-seq : (go : Store → SProp 𝓤 → Type 2) (K : Out → Store → SProp 𝓤 → Type 2) (P : SProp 𝓤) (Q : Out → SProp 𝓤) → Goes go P → GoesOut K Q → GoesOut (then_k 𝓤 H C τs blk go K) (after_seq 𝓤 H P Q)
    after-seq go K P Q g goes next = g
    after-seq go K P Q g goes (exits n) = goes (exits n)
    after-seq go K P Q g goes returns = goes returns

    after-block : (K : Out → Store → SProp 𝓤 → Type 2) (Q : Out → SProp 𝓤) → GoesOut K Q → GoesOut (block_k 𝓤 H C τs blk K) (after_block 𝓤 H Q)
    after-block K Q goes next = goes next
    after-block K Q goes (exits zero) = goes next
    after-block K Q goes (exits (suc n)) = goes (exits n)
    after-block K Q goes returns = goes returns

    abbrev Into : ℕ → SProp 𝓤 → Val → SProp 𝓤
    Into d P v = write 𝓤 H (ty_e E d) (bl_e E d) zero v P

    module _ {f : Callee} {os : List Opd} {vs : List Val} {d : ℕ} {σ : Store} {F : SProp 𝓤} {K : Store → SProp 𝓤 → Type 2} (c : CallVc 𝓤 H C τs blk f os vs d σ F K) where
      -- the store after the call, but for its result
      abbrev Returned : c.X → Store
      Returned x = put_back σ c.lent (c.back x)

      abbrev Back : Val → SProp 𝓤
      Back w = H.⇛ (ex 𝓤 (λ (x : c.X). guard 𝓤 (c.Φ w x) (sep 𝓤 (Lent-locals 𝓤 H C τs blk (Returned x) c.lent) (c.left x))))

      abbrev Runs : SProp 𝓤
      Runs = C f vs Back

    still_read : (os : List Opd) (vs : List Val) (σ : Store) (m : List Bool) → opds_v τs σ os ≡ some vs → Apart 𝓤 H C τs blk os vs σ m → opds_v τs (lend-out σ m) os ≡ some vs
    still_read os vs σ [] e a = e
    still_read os vs σ (t ∷ m) e a = a

    lends-locals : (σ : Store) (m : List Bool) → ent 𝓤 (Locals E σ) (sep 𝓤 (Lent-locals 𝓤 H C τs blk σ m) (Locals E (lend-out σ m)))
    lends-locals σ m = subst (λ (P : SProp 𝓤). ent 𝓤 (Locals E σ) (sep 𝓤 P (Locals E (lend-out σ m)))) (marked-types (λ i. ty_e E i) (λ i. get_or τs i no-type) blk tied σ m) (marks-out E σ m)

    gets-locals : (σ : Store) (m : List Bool) (vs : List Val) → ent 𝓤 (sep 𝓤 (Lent-locals 𝓤 H C τs blk (put_back σ m vs) m) (Locals E (lend-out σ m))) (Locals E (put_back σ m vs))
    gets-locals σ m vs =
        subst (λ (P : SProp 𝓤). ent 𝓤 (sep 𝓤 P (Locals E (lend-out σ m))) (Locals E (put_back σ m vs))) (marked-types (λ i. ty_e E i) (λ i. get_or τs i no-type) blk tied (put_back σ m vs) m)
        (subst (λ (ρ : Store). ent 𝓤 (sep 𝓤 (Marked 𝓤 H (λ i. ty_e E i) blk (put_back σ m vs) m) (Locals E ρ)) (Locals E (put_back σ m vs))) (out-again σ m vs) (marks-in E (put_back σ m vs) m))

    module _ (σ : Store) (F : SProp 𝓤) where
      module _ (K : Store → SProp 𝓤 → Type 2) (P : SProp 𝓤) (goes : Goes K P) (d : ℕ) (h : Holds (has-local σ d)) where
        stored : (v : Val) → Holds (has_ty (get_or τs d no-type) v) → K (set σ d (holds v)) F → WT v → ent 𝓤 (All E σ F) (Into d P v)
        stored v ty k wt = store_ok E σ F τs tied d v h (ty, wt) P (goes (set σ d (holds v)) F k)

        assign-ok : (rv : Rv) → AssignVc 𝓤 H C τs blk σ F K d rv → ent 𝓤 (All E σ F) (eval_rv 𝓤 H E rv (Into d P))
        assign-ok (rv_opd x) vc = asked (opd_v τs σ x) _ vc (λ v e k. opd_ok E σ F τs tied x v e (Into d P) (stored v k.0 k.1))
        assign-ok (op2 o x y) vc = asked (opd_v τs σ x) _ vc (λ a ea vc'. asked (opd_v τs σ y) _ vc' (λ b eb k.
            opd_ok E σ F τs tied x a ea (λ u. eval_opd 𝓤 H E y (λ w. guard 𝓤 (Dom (op2_chk o u w)) (Into d P (op2_val o u w)))) (λ _.
            opd_ok E σ F τs tied y b eb (λ w. guard 𝓤 (Dom (op2_chk o a w)) (Into d P (op2_val o a w))) (λ _.
            via 𝓤 (Into d P (op2_val o a b)) (stored (op2_val o a b) k.1.0 k.2 k.1.1) (guard_i 𝓤 (Dom (op2_chk o a b)) (Into d P (op2_val o a b)) k.0)))))
        assign-ok (op1 o x) vc = absurd vc.0
        assign-ok (addr_of p) vc = asked (address τs σ blk p) _ vc (λ v e vc'. passed (has_ty (get_or τs d no-type) v) _ vc' (λ ty k. address-ok E σ F τs tied p v e (Into d P) (stored v ty k)))
        assign-ok (aggregate xs) vc = asked (opds_v τs σ xs) _ vc (λ vs e vc'. passed (has_ty (get_or τs d no-type) (vstruct (of_list vs))) _ vc' (λ ty k.
            opds_ok E σ F τs tied xs vs e (λ us. Into d P (vstruct (of_list us))) (stored (vstruct (of_list vs)) ty k)))
        assign-ok (repeat x n) vc = absurd vc.0
        assign-ok (repeat_p x n) vc = absurd vc.0
        assign-ok (select m x y) vc = absurd vc.0

        call_ok : (f : Callee) (xs : List Opd) (vs : List Val) → opds_v τs σ xs ≡ some vs → CallVc 𝓤 H C τs blk f xs vs d σ F K → ent 𝓤 (All E σ F) (H.⇛ (eval_opds 𝓤 H E xs (λ us. C f us (λ r. H.⇛ (Into d P r)))))
        call_ok f xs vs e c =
            qed 𝓛 (raw (Locals E σ) ∷ raw F ∷ []) ∵ updating ! $ use1 𝓛 (raw (Lent-locals 𝓤 H C τs blk σ c.lent) ⊛ raw (Locals E (lend-out σ c.lent))) (lends-locals σ c.lent) $ split ! $ move ! (0 ∷ 2 ∷ []) $
            use2 𝓛 (later (raw (Runs c))) c.calls $ await ! tt $ move ! (1 ∷ 0 ∷ []) $ at_once ! $
            by ! (opds_ok E (lend-out σ c.lent) (Runs c) τs tied xs vs (still_read xs vs σ c.lent e c.apart) (λ us. C f us (λ r. H.⇛ (Into d P r))) (λ _. via 𝓤 (sep 𝓤 (Runs c) (Locals E (lend-out σ c.lent))) (comm∗ 𝓤 (Locals E (lend-out σ c.lent)) (Runs c)) (fm f vs (Back c) (λ r. H.⇛ (Into d P r)) (Locals E (lend-out σ c.lent)) back)))
          where
            back : (w : Val) → ent 𝓤 (sep 𝓤 (Back c w) (Locals E (lend-out σ c.lent))) (H.⇛ (Into d P w))
            back w =
                qed 𝓛 (later (exists (λ (x : c.X). given (c.Φ w x) (raw (Lent-locals 𝓤 H C τs blk (Returned c x) c.lent) ⊛ raw (c.left x)))) ∷ raw (Locals E (lend-out σ c.lent)) ∷ []) ∵ updating ! $ await ! tt $ pick ! (λ x. learn ! (λ φ. split ! $ move ! (0 ∷ 2 ∷ []) $
                use2 𝓛 (raw (Locals E (Returned c x))) (gets-locals σ c.lent (c.back x)) $ at_once ! $
                by ! (store_ok E (Returned c x) (c.left x) τs tied d w (has-back σ c.lent (c.back x) d h) (c.typed w x φ) P (goes (set (Returned c x) d (holds w)) (c.left x) (c.goes_on w x φ)))))

    is-bool : (v : Val) (K : Bool → Type 2) (Γ : SProp 𝓤) (Y : Bool → SProp 𝓤) → bool_k 𝓤 H C τs blk v K → ((t : Bool) → K t → ent 𝓤 Γ (Y t)) → ent 𝓤 Γ (as_bool (never 𝓤) v Y)
    is-bool vunit K Γ Y h k = absurd h.0
    is-bool (vbool t) K Γ Y h k = k t h
    is-bool (vint w n) K Γ Y h k = absurd h.0
    is-bool (vfloat f x) K Γ Y h k = absurd h.0
    is-bool (vcode ι) K Γ Y h k = absurd h.0
    is-bool (vptr b o) K Γ Y h k = absurd h.0
    is-bool (vstruct vs) K Γ Y h k = absurd h.0

    in_place_lem : (σ : Store) (p : Place) (K : ℕ → Type 2) (X : (ℕ → SProp 𝓤)) {Γ : SProp 𝓤} (Y : Place → SProp 𝓤) → ((d : ℕ) → Y (place d []) ≡ X d) → into 𝓤 H C τs blk σ p K → ((d : ℕ) → Holds (has-local σ d) → K d → ent 𝓤 Γ (X d)) → ent 𝓤 Γ (Y p)
    in_place_lem σ (place d []) K X {Γ} Y e h k = passed (has-local σ d) (K d) h (λ t z. subst (λ (Z : SProp 𝓤). ent 𝓤 Γ Z) (sym (e d)) (k d t z))
    in_place_lem σ (place d (s ∷ st)) K X Y e h k = absurd h.0

    -- what holds before a turn: the locals and the frame at some index
    module _ (go : Store → SProp 𝓤 → (Out → Store → SProp 𝓤 → Type 2) → Type 2) {σ : Store} {F : SProp 𝓤} {K : Out → Store → SProp 𝓤 → Type 2} (l : LoopVc 𝓤 H C τs blk go σ F K) where
      abbrev Before : l.I → SProp 𝓤
      Before i = sep 𝓤 (Locals E (l.store i)) (l.frame i)

      abbrev below : l.I → l.I → Type 0
      below j i = l.measure j < l.measure i

      falls : WellFounded below
      falls = InvImage.wf l.measure lt-wf_rel.wf

      abbrev Smaller : l.I → SProp 𝓤
      Smaller i = ex 𝓤 (λ (j : l.I). guard 𝓤 (below j i) (Before j))

      reaches : (j : l.I) (σ' : Store) (F' : SProp 𝓤) → Forgets σ' (l.store j) → ent 𝓤 F' (l.frame j) → ent 𝓤 (sep 𝓤 (Locals E σ') F') (Before j)
      reaches j σ' F' e h = via 𝓤 (sep 𝓤 (Locals E (l.store j)) F') (mono_l 𝓤 F' (forgets-ok E σ' (l.store j) e)) (mono_r 𝓤 (Locals E (l.store j)) h)

      again : (i : l.I) (σ' : Store) (F' : SProp 𝓤) → Again 𝓤 H C τs blk l.I l.measure l.store l.frame i σ' F' → ent 𝓤 (sep 𝓤 (Locals E σ') F') (Smaller i)
      again i σ' F' k = via 𝓤 (Before k.index) (reaches k.index σ' F' k.same_store k.same-frame)
          (via 𝓤 (guard 𝓤 (below k.index i) (Before k.index)) (guard_i 𝓤 (below k.index i) (Before k.index) k.falls) (ex_i 𝓤 (λ (j : l.I). guard 𝓤 (below j i) (Before j)) k.index))

      after-turn : (Q : Out → SProp 𝓤) → GoesOut K Q → (i : l.I) → GoesOut (turn_k 𝓤 H C τs blk l.I l.measure l.store l.frame K i) (after_turn 𝓤 H (Smaller i) Q)
      unfolding after_turn
      after-turn Q goes i next σ' F' k = again i σ' F' k
      after-turn Q goes i (exits zero) σ' F' k = again i σ' F' k
      after-turn Q goes i (exits (suc n)) σ' F' k = goes (exits n) σ' F' k
      after-turn Q goes i returns σ' F' k = goes returns σ' F' k

    is-int : (v : Val) (K : ℕ → Type 2) (Γ : SProp 𝓤) (Y : Width → ℕ → SProp 𝓤) → int_k 𝓤 H C τs blk v K → ((w : Width) (x : ℕ) → K x → ent 𝓤 Γ (Y w x)) → ent 𝓤 Γ (as_int (never 𝓤) v Y)
    is-int vunit K Γ Y h k = absurd h.0
    is-int (vbool t) K Γ Y h k = absurd h.0
    is-int (vint w n) K Γ Y h k = k w n h
    is-int (vfloat f x) K Γ Y h k = absurd h.0
    is-int (vcode ι) K Γ Y h k = absurd h.0
    is-int (vptr b o) K Γ Y h k = absurd h.0
    is-int (vstruct vs) K Γ Y h k = absurd h.0

    picks : (t : Bool) (X Y : Type 2) {Γ P Q : SProp 𝓤} → either 𝓤 H C τs blk t X Y → (X → ent 𝓤 Γ P) → (Y → ent 𝓤 Γ Q) → ent 𝓤 Γ (branch 𝓤 H t P Q)
    picks true X Y h f g = f h
    picks false X Y h f g = g h

    mutual
      pub vc-sound : (b : Body) (σ : Store) (F : SProp 𝓤) (K : Out → Store → SProp 𝓤 → Type 2) (Q : Out → SProp 𝓤) → Vc 𝓤 H C τs blk b σ F K → GoesOut K Q → ent 𝓤 (sep 𝓤 (Locals E σ) F) (Wp 𝓤 H C Λ E b Q)
      vc-sound skip σ F K Q vc goes = via 𝓤 (Q next) (goes next σ F vc) (𝓛.laws.⇛_intro (Q next))
      vc-sound (seq a b) σ F K Q vc goes = vc-sound a σ F (then_k 𝓤 H C τs blk (λ σ' F'. Vc 𝓤 H C τs blk b σ' F' K) K) (after_seq 𝓤 H (Wp 𝓤 H C Λ E b Q) Q) vc (after-seq (λ σ' F'. Vc 𝓤 H C τs blk b σ' F' K) K (Wp 𝓤 H C Λ E b Q) Q (λ σ' F' v. vc-sound b σ' F' K Q v goes) goes)
      vc-sound (assign p rv) σ F K Q vc goes =
          via 𝓤 (eval_rv 𝓤 H E rv (λ v. resolve 𝓤 H E p (λ sp. write 𝓤 H sp.0 sp.1 sp.2 v (Q next))))
          (in_place_lem σ p (λ d. AssignVc 𝓤 H C τs blk σ F (K next) d rv) (λ d. eval_rv 𝓤 H E rv (Into d (Q next))) (λ p'. eval_rv 𝓤 H E rv (λ v. resolve 𝓤 H E p' (λ sp. write 𝓤 H sp.0 sp.1 sp.2 v (Q next)))) (λ d. refl) vc
          (λ d h a. assign-ok σ F (K next) (Q next) (goes next) d h rv a)) (𝓛.laws.⇛_intro _)
      vc-sound (block b) σ F K Q vc goes = vc-sound b σ F (block_k 𝓤 H C τs blk K) (after_block 𝓤 H Q) vc (after-block K Q goes)
      vc-sound (loop b) σ F K Q vc goes =
          via 𝓤 (Before (λ σ' F' K'. Vc 𝓤 H C τs blk b σ' F' K') vc vc.start) (reaches (λ σ' F' K'. Vc 𝓤 H C τs blk b σ' F' K') vc vc.start σ F vc.first_store vc.first_frame)
          (loop_rule 𝓤 H 𝓛.laws 𝓣 (below (λ σ' F' K'. Vc 𝓤 H C τs blk b σ' F' K') vc) (falls (λ σ' F' K'. Vc 𝓤 H C τs blk b σ' F' K') vc) E b Q (Before (λ σ' F' K'. Vc 𝓤 H C τs blk b σ' F' K') vc) (λ i. vc-sound b (vc.store i) (vc.frame i) (turn_k 𝓤 H C τs blk vc.I vc.measure vc.store vc.frame K i) (after_turn 𝓤 H (Smaller (λ σ' F' K'. Vc 𝓤 H C τs blk b σ' F' K') vc i) Q) (vc.turn i) (after-turn (λ σ' F' K'. Vc 𝓤 H C τs blk b σ' F' K') vc Q goes i)) vc.start)
      vc-sound (cond c a b) σ F K Q vc goes =
          asked (opd_v τs σ c) _ vc (λ v e vc'. via 𝓤 (eval_opd 𝓤 H E c (λ u. as_bool (never 𝓤) u (λ t. branch 𝓤 H t (Wp 𝓤 H C Λ E a Q) (Wp 𝓤 H C Λ E b Q))))
          (opd_ok E σ F τs tied c v e (λ u. as_bool (never 𝓤) u (λ t. branch 𝓤 H t (Wp 𝓤 H C Λ E a Q) (Wp 𝓤 H C Λ E b Q))) (λ _.
          is-bool v _ (sep 𝓤 (Locals E σ) F) (λ t. branch 𝓤 H t (Wp 𝓤 H C Λ E a Q) (Wp 𝓤 H C Λ E b Q)) vc' (λ t k. by_bool t (λ z. vc-sound a σ F K Q (k.0 z) goes) (λ z. vc-sound b σ F K Q (k.1 z) goes)))) (𝓛.laws.⇛_intro _))
      vc-sound (switch c arms) σ F K Q vc goes =
          asked (opd_v τs σ c) _ vc (λ v e vc'. via 𝓤 (eval_opd 𝓤 H E c (λ u. as_int (never 𝓤) u (λ w x. WpArms 𝓤 H C Λ E arms x Q)))
          (opd_ok E σ F τs tied c v e (λ u. as_int (never 𝓤) u (λ w x. WpArms 𝓤 H C Λ E arms x Q)) (λ _. is-int v _ (sep 𝓤 (Locals E σ) F) (λ w x. WpArms 𝓤 H C Λ E arms x Q) vc' (λ w x k. vc-arms-sound arms x σ F K Q k goes))) (𝓛.laws.⇛_intro _))
      vc-sound (exit n) σ F K Q vc goes = via 𝓤 (Q (exits n)) (goes (exits n) σ F vc) (𝓛.laws.⇛_intro (Q (exits n)))
      vc-sound return σ F K Q vc goes = via 𝓤 (Q returns) (goes returns σ F vc) (𝓛.laws.⇛_intro (Q returns))
      vc-sound unreachable σ F K Q vc goes = absurd vc.0
      vc-sound (call_v c ς xs p) σ F K Q vc goes = absurd vc.0
      vc-sound (lend_static p τ c) σ F K Q vc goes = absurd vc.0
      vc-sound (call f xs p) σ F K Q vc goes =
          asked (opds_v τs σ xs) _ vc (λ vs e vc'.
          in_place_lem σ p (λ d. CallVc 𝓤 H C τs blk f xs vs d σ F (K next)) (λ d. H.⇛ (eval_opds 𝓤 H E xs (λ us. C f us (λ r. H.⇛ (Into d (Q next) r))))) (λ p'. H.⇛ (eval_opds 𝓤 H E xs (λ us. C f us (λ r. H.⇛ (resolve 𝓤 H E p' (λ sp. write 𝓤 H sp.0 sp.1 sp.2 r (Q next))))))) (λ d. refl) vc'
          (λ d h c. call_ok σ F (K next) (Q next) (goes next) d h f xs vs e c))

      vc-arms-sound : (arms : Arms) (x : ℕ) (σ : Store) (F : SProp 𝓤) (K : Out → Store → SProp 𝓤 → Type 2) (Q : Out → SProp 𝓤) → VcArms 𝓤 H C τs blk arms x σ F K → GoesOut K Q → ent 𝓤 (sep 𝓤 (Locals E σ) F) (WpArms 𝓤 H C Λ E arms x Q)
      vc-arms-sound (arm ks b arms) x σ F K Q vc goes = picks (has_key ks x) (Vc 𝓤 H C τs blk b σ F K) (VcArms 𝓤 H C τs blk arms x σ F K) vc (λ z. vc-sound b σ F K Q z goes) (λ z. vc-arms-sound arms x σ F K Q z goes)
      vc-arms-sound (default b) x σ F K Q vc goes = vc-sound b σ F K Q vc goes
      vc-arms-sound no_default x σ F K Q vc goes = absurd vc.0

  -- ---- a function: its locals are made, its arguments stored, its result read, its locals freed
  abbrev Tied : Env 𝓤 H → List Ty → Type 0
  Tied E τs = (i : ℕ) → ty_e E i ≡ get_or τs i no-type

  tie : (E : Env 𝓤 H) (τs : List Ty) (τ : Ty) (b : ℕ) → Tied E τs → Tied ((τ, b) ∷ E) (τ ∷ τs)
  tie E τs τ b t zero = refl
  tie E τs τ b t (suc i) = t i

  same_kind : (l : Local) → ty_of 𝓤 H l ≡ local-type l
  same_kind (local τ h) = refl

  abbrev New : Local → ℕ → SProp 𝓤
  New l b = sep 𝓤 (H.room (ty_of 𝓤 H l) b zero) (H.dies (ty_of 𝓤 H l) b)

  allocates : (ls : List Local) (F : SProp 𝓤) (K : Env 𝓤 H → SProp 𝓤) → ((E : Env 𝓤 H) → Tied E (local-types ls) → ent 𝓤 (sep 𝓤 (Locals E (initial (local-types ls) [])) F) (K E)) → ent 𝓤 F (alloc 𝓤 H ls K)
  allocates [] F K k = via 𝓤 (sep 𝓤 (emp 𝓤) F) (emp∗ 𝓤 F) (k [] (λ i. refl))
  allocates (l ∷ ls) F K k = all_i 𝓤 (λ (b : ℕ). wand 𝓤 (New l b) (alloc 𝓤 H ls (λ E. K ((ty_of 𝓤 H l, b) ∷ E)))) (λ b. wand_i 𝓤 F (New l b) (alloc 𝓤 H ls (λ E. K ((ty_of 𝓤 H l, b) ∷ E)))
      (allocates ls (sep 𝓤 F (New l b)) (λ E. K ((ty_of 𝓤 H l, b) ∷ E)) (λ E t.
      via 𝓤 (sep 𝓤 (Locals ((ty_of 𝓤 H l, b) ∷ E) (empty ∷ initial (local-types ls) [])) F) (qed 𝓛 (raw (Locals E (initial (local-types ls) [])) ∷ (raw F ⊛ raw (New l b)) ∷ []) ∵ move ! (1 ∷ []) $ split ! $ move ! (1 ∷ 2 ∷ []) $ join ! $ done !)
      (k ((ty_of 𝓤 H l, b) ∷ E) (subst (λ (τ : Ty). Tied ((ty_of 𝓤 H l, b) ∷ E) (τ ∷ local-types ls)) (same_kind l) (tie E (local-types ls) (ty_of 𝓤 H l) b t))))))

  no_cells : (F P : SProp 𝓤) → ent 𝓤 (sep 𝓤 (never 𝓤) F) P
  no_cells F P = via 𝓤 (never 𝓤) (fst∗ 𝓤 (never 𝓤) F) (never_e 𝓤 P)

  passes-ok : (E : Env 𝓤 H) (ts : List Ty) (vs : List Val) (F P : SProp 𝓤) → Tied E ts → Passed ts vs → ent 𝓤 (sep 𝓤 (Locals E (initial ts vs)) F) P → ent 𝓤 (sep 𝓤 (Locals E (initial ts [])) F) (pass 𝓤 H E vs P)
  passes-ok [] [] [] F P t p k = k
  passes-ok [] (τ ∷ ts) [] F P t p k = k
  passes-ok (e ∷ E) [] [] F P t p k = k
  passes-ok (e ∷ E) (τ ∷ ts) [] F P t p k = k
  passes-ok [] [] (v ∷ vs) F P t p k = absurd p.0
  passes-ok [] (τ ∷ ts) (v ∷ vs) F P t p k = no_cells F _
  passes-ok (e ∷ E) [] (v ∷ vs) F P t p k = no_cells F _
  passes-ok (e ∷ E) (τ ∷ ts) (v ∷ vs) F P t p k =
      qed 𝓛 (((‵ (froom e.0 e.1 zero) ⊛ ‵ (fdies e.0 e.1)) ⊛ raw (Locals E (initial ts []))) ∷ raw F ∷ []) ∵ split ! $ split ! $ check ! (subst (λ (ρ : Ty). Holds (has_ty ρ v) × WT v) (sym (t zero)) p.0) $ frame ! $
      assume ! (‵ (fat full_share e.0 e.1 zero v)) $ join ! $ move ! (1 ∷ 0 ∷ 2 ∷ []) $
      by ! (passes-ok E ts vs (sep 𝓤 (sep 𝓤 (H.at full_share e.0 e.1 zero v) (Dies e)) F) P (λ i. t (suc i)) p.1
      (via 𝓤 (sep 𝓤 (Locals (e ∷ E) (initial (τ ∷ ts) (v ∷ vs))) F) (qed 𝓛 (raw (Locals E (initial ts vs)) ∷ (raw (sep 𝓤 (H.at full_share e.0 e.1 zero v) (Dies e)) ⊛ raw F) ∷ []) ∵ move ! (1 ∷ []) $ split ! $ move ! (0 ∷ 2 ∷ []) $ join ! $ done !) k))

  params_ok : (E : Env 𝓤 H) (τs : List Ty) (vs : List Val) (F P : SProp 𝓤) → Tied E τs → Passes τs vs → ent 𝓤 (sep 𝓤 (Locals E (empty ∷ initial (tail_of τs) vs)) F) P → ent 𝓤 (sep 𝓤 (Locals E (initial τs [])) F) (params 𝓤 H E vs P)
  params_ok [] [] vs F P t p k = absurd p.0
  params_ok [] (τ ∷ τs) vs F P t p k = no_cells F _
  params_ok (e ∷ E) [] vs F P t p k = no_cells F _
  params_ok (e ∷ E) (τ ∷ τs) vs F P t p k =
      via 𝓤 (sep 𝓤 (Locals E (initial τs [])) (sep 𝓤 (sep 𝓤 (H.room e.0 e.1 zero) (Dies e)) F)) (qed 𝓛 ((raw (sep 𝓤 (H.room e.0 e.1 zero) (Dies e)) ⊛ raw (Locals E (initial τs []))) ∷ raw F ∷ []) ∵ split ! $ move ! (1 ∷ 0 ∷ 2 ∷ []) $ done !)
      (passes-ok E τs vs (sep 𝓤 (sep 𝓤 (H.room e.0 e.1 zero) (Dies e)) F) P (λ i. t (suc i)) p
      (via 𝓤 (sep 𝓤 (Locals (e ∷ E) (empty ∷ initial τs vs)) F) (qed 𝓛 (raw (Locals E (initial τs vs)) ∷ (raw (sep 𝓤 (H.room e.0 e.1 zero) (Dies e)) ⊛ raw F) ∷ []) ∵ move ! (1 ∷ []) $ split ! $ move ! (0 ∷ 2 ∷ []) $ join ! $ done !) k))

  release-ok : (E : Env 𝓤 H) (σ : Store) (X : SProp 𝓤) → Holds (all_back σ) → ent 𝓤 (sep 𝓤 (Locals E σ) X) (release 𝓤 H E X)
  release-ok [] [] X h = snd∗ 𝓤 (emp 𝓤) X
  release-ok [] (s ∷ σ) X h = no_cells X _
  release-ok (e ∷ E) [] X h = no_cells X _
  release-ok (e ∷ E) (s ∷ σ) X h =
      qed 𝓛 (((raw (local_at 𝓤 H e.0 e.1 s) ⊛ raw (Dies e)) ⊛ raw (Locals E σ)) ∷ raw X ∷ []) ∵ split ! $ split ! $ use1 𝓛 (raw (H.room e.0 e.1 zero)) (room_of e.0 e.1 s (first-true (writable s) (all_back σ) h)) $ join ! $ frame ! $ by ! (release-ok E σ X (then-true (writable s) (all_back σ) h))

  module _ (𝓣 : Tables 𝓤 H) (f : Fn) (vs : List Val) (F : SProp 𝓤) (End : Val → SProp 𝓤) where
    ends : (E : Env 𝓤 H) (o : Out) (σ : Store) (G : SProp 𝓤) → ReturnVc 𝓤 H 𝓣.C (local-types f.locals) (λ i. bl_e E i) End o σ G → ent 𝓤 (sep 𝓤 (Locals E σ) G) (at_return 𝓤 H E End o)
    ends E next σ G k = absurd k.0
    ends E (exits n) σ G k = absurd k.0
    ends E returns σ G k = passed (all_back σ) _ k (λ b k'. asked (content (get_or σ zero empty)) _ k' (λ v e z. readable E σ G (ty_e E zero) (bl_e E zero) zero v (get E σ zero v e) (λ r. release 𝓤 H E (End r)) (λ _. via 𝓤 (sep 𝓤 (Locals E σ) (End v)) (mono_r 𝓤 (Locals E σ) z.0) (release-ok E σ (End v) b))))

    pub vc-fn-sound : VcFn 𝓤 H 𝓣.C f vs F End → ent 𝓤 F (WpFn 𝓤 H 𝓣.C 𝓣.Λ f vs End)
    unfolding WpFn
    vc-fn-sound vc = allocates f.locals F (λ E. params 𝓤 H E vs (Wp 𝓤 H 𝓣.C 𝓣.Λ E f.body (at_return 𝓤 H E End))) (λ E t.
        params_ok E (local-types f.locals) vs F (Wp 𝓤 H 𝓣.C 𝓣.Λ E f.body (at_return 𝓤 H E End)) t vc.0
        (vc-sound 𝓣 E (local-types f.locals) t f.body (empty ∷ initial (tail_of (local-types f.locals)) vs) F (ReturnVc 𝓤 H 𝓣.C (local-types f.locals) (λ i. bl_e E i) End) (at_return 𝓤 H E End) (vc.1 (λ i. bl_e E i)) (λ o σ G k. ends E o σ G k)))
