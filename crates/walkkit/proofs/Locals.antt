-- A walk of a function with many locals and a `match`, of which one arm runs.
--     env_of ls l       the locals of the types ls, at the blocks l 0, l 1, …
--     Others m E       the locals E but for the room of those that the mask m marks.        Chosen m E       the room of those
--     Filled m E vs    those with the values vs
--     allocs-all m     every local is allocated in one step, and those that m marks stand in the context by themselves
--     frees_all m vs   every local is freed in one step
--     flat b r         b and then r, as one sequence
--     chooses          a `switch` on a number that is written out, and what follows it: the arm that runs, and what follows it, as one sequence
-- Assumes `Logic`, and a `Tables` where a `switch` is.
use Prim.Native.Nat.{ℕ, zero, suc}
use mathlib.Core.Bool.{Bool, true, false, ◌||◌}
use mathlib.Core.List.{List, [], ◌∷◌, ◌++◌}
use seplogic.Ra.Ura.{Ura}
use base.Fraction.{full_share}
use lib.Dec.{T}
use mir.Syntax.{Width, Local, local, Opd as Operand, Body, skip, seq, assign, block, loop, cond, switch, exit, return, call, unreachable, call_v, lend_static, Arms, arm, default, no_default}
use mir.Val.{Val, vint, has_key, as_int}
use base.Logic
use base.Logic.{SProp, ent, sep, never, id⊢, via, mono_r, emp∗, comm∗, fst∗, snd∗}
use base.Fml.{ftrue, fat, froom, fdies}
use prog.Wp.{Heap, Env, Out, next, exits, returns, Tables, Wp, WpArms, branch, after_seq, eval_opd, release}
use types.Logic.{Logic}
use sound.WpLaws.{Wp-mono}
use types.Kit.{Item, Post, post, Goal, Seq, Step, step, ‵, raw, ◌⊛◌, mean, ⋆, push, pop, runs, allocs, frees, aim, ◌$◌, ◌∵◌, !, qed, by, move, use1, cut, split, join, suffices, frame, done}
use types.Run.{Opd, alloc1}

module _ {M : Type 1} (𝓤 : Ura M) (H : Heap 𝓤) where
  abbrev pub env_of : List Local → (ℕ → ℕ) → Env 𝓤 H
  env_of [] l = []
  env_of (local τ h ∷ ls) l = (τ, l zero) ∷ env_of ls (λ j. l (suc j))

  abbrev pub Others : List Bool → Env 𝓤 H → Item 𝓤
  Others m [] = ‵ ftrue
  Others [] (e ∷ E) = (‵ (froom e.0 e.1 zero) ⊛ ‵ (fdies e.0 e.1)) ⊛ Others [] E
  Others (false ∷ m) (e ∷ E) = (‵ (froom e.0 e.1 zero) ⊛ ‵ (fdies e.0 e.1)) ⊛ Others m E
  Others (true ∷ m) (e ∷ E) = ‵ (fdies e.0 e.1) ⊛ Others m E

  abbrev pub Chosen : List Bool → Env 𝓤 H → List (Item 𝓤)
  Chosen m [] = []
  Chosen [] (e ∷ E) = []
  Chosen (false ∷ m) (e ∷ E) = Chosen m E
  Chosen (true ∷ m) (e ∷ E) = ‵ (froom e.0 e.1 zero) ∷ Chosen m E

  abbrev pub Filled : List Bool → Env 𝓤 H → List Val → List (Item 𝓤)
  Filled m [] vs = []
  Filled [] (e ∷ E) vs = []
  Filled (false ∷ m) (e ∷ E) vs = Filled m E vs
  Filled (true ∷ m) (e ∷ E) [] = ‵ (froom e.0 e.1 zero) ∷ Filled m E []
  Filled (true ∷ m) (e ∷ E) (v ∷ vs) = ‵ (fat full_share e.0 e.1 zero v) ∷ Filled m E vs

abbrev pub flat : Body → Body → Body
flat (seq a b) r = seq a (flat b r)
flat skip r = seq skip r
flat (assign p v) r = seq (assign p v) r
flat (block b) r = seq (block b) r
flat (loop b) r = seq (loop b) r
flat (cond c a b) r = seq (cond c a b) r
flat (switch c arms) r = seq (switch c arms) r
flat (exit n) r = seq (exit n) r
flat return r = seq return r
flat unreachable r = seq unreachable r
flat (call_v c ς xs d) r = seq (call_v c ς xs d) r
flat (lend_static p τ c) r = seq (lend_static p τ c) r
flat (call f xs d) r = seq (call f xs d) r

abbrev either : Bool → Body → Body → Body
either true a b = a
either false a b = b

-- the arm that runs at x
abbrev pub arm_at : Arms → ℕ → Body
arm_at (arm ks b arms) x = either (has_key ks x) b (arm_at arms x)
arm_at (default b) x = b
arm_at no_default x = skip

abbrev pub keyed : Arms → ℕ → Bool
keyed (arm ks b arms) x = has_key ks x || keyed arms x
keyed (default b) x = true
keyed no_default x = false

module _ {M : Type 1} {𝓤 : Ura M} (𝓛 : Logic 𝓤) where
  open 𝓛 use {H}

  chosen-out : (m : List Bool) (E : Env 𝓤 H) → ent 𝓤 (mean 𝓛 (Others 𝓤 H [] E)) (sep 𝓤 (mean 𝓛 (Others 𝓤 H m E)) (⋆ 𝓛 (Chosen 𝓤 H m E)))
  chosen-out m [] = qed 𝓛 (‵ ftrue ∷ []) ∵ frame ! $ done !
  chosen-out [] (e ∷ E) = qed 𝓛 (Others 𝓤 H [] (e ∷ E) ∷ []) ∵ frame ! $ done !
  chosen-out (false ∷ m) (e ∷ E) =
      qed 𝓛 (Others 𝓤 H [] (e ∷ E) ∷ []) ∵ split ! $ move ! (1 ∷ []) $ use1 𝓛 (Others 𝓤 H m E ⊛ raw (⋆ 𝓛 (Chosen 𝓤 H m E))) (chosen-out m E) $ split ! $
      move ! (2 ∷ 0 ∷ []) $ join ! $ frame ! $ done !
  chosen-out (true ∷ m) (e ∷ E) =
      qed 𝓛 (Others 𝓤 H [] (e ∷ E) ∷ []) ∵ split ! $ split ! $ move ! (2 ∷ []) $ use1 𝓛 (Others 𝓤 H m E ⊛ raw (⋆ 𝓛 (Chosen 𝓤 H m E))) (chosen-out m E) $ split ! $
      -- [the others; the chosen; room; its end]
      move ! (3 ∷ 0 ∷ []) $ join ! $ frame ! $ suffices ! _ (push 𝓛 (‵ (froom e.0 e.1 zero)) (Chosen 𝓤 H m E)) $ move ! (1 ∷ 0 ∷ []) $ done !

  filled_in : (m : List Bool) (E : Env 𝓤 H) (vs : List Val) → ent 𝓤 (sep 𝓤 (mean 𝓛 (Others 𝓤 H m E)) (⋆ 𝓛 (Filled 𝓤 H m E vs))) (mean 𝓛 (Others 𝓤 H [] E))
  filled_in m [] vs = fst∗ 𝓤 (mean 𝓛 (Others 𝓤 H m [])) (⋆ 𝓛 [])
  filled_in [] (e ∷ E) vs = fst∗ 𝓤 (mean 𝓛 (Others 𝓤 H [] (e ∷ E))) (⋆ 𝓛 [])
  filled_in (false ∷ m) (e ∷ E) vs =
      qed 𝓛 (Others 𝓤 H (false ∷ m) (e ∷ E) ∷ raw (⋆ 𝓛 (Filled 𝓤 H m E vs)) ∷ []) ∵ split ! $ frame ! $ by ! (filled_in m E vs)
  filled_in (true ∷ m) (e ∷ E) [] =
      via 𝓤 (sep 𝓤 (mean 𝓛 (Others 𝓤 H (true ∷ m) (e ∷ E))) (sep 𝓤 (H.room e.0 e.1 zero) (⋆ 𝓛 (Filled 𝓤 H m E [])))) (mono_r 𝓤 (mean 𝓛 (Others 𝓤 H (true ∷ m) (e ∷ E))) (pop 𝓛 (‵ (froom e.0 e.1 zero)) (Filled 𝓤 H m E [])))
      (qed 𝓛 (Others 𝓤 H (true ∷ m) (e ∷ E) ∷ (‵ (froom e.0 e.1 zero) ⊛ raw (⋆ 𝓛 (Filled 𝓤 H m E []))) ∷ []) ∵ split ! $ move ! (2 ∷ []) $ split ! $
      -- [room; the filled; its end; the others]
      move ! (0 ∷ 2 ∷ []) $ join ! $ frame ! $ move ! (1 ∷ 0 ∷ []) $ by ! (filled_in m E []))
  filled_in (true ∷ m) (e ∷ E) (v ∷ vs) =
      via 𝓤 (sep 𝓤 (mean 𝓛 (Others 𝓤 H (true ∷ m) (e ∷ E))) (sep 𝓤 (H.at full_share e.0 e.1 zero v) (⋆ 𝓛 (Filled 𝓤 H m E vs)))) (mono_r 𝓤 (mean 𝓛 (Others 𝓤 H (true ∷ m) (e ∷ E))) (pop 𝓛 (‵ (fat full_share e.0 e.1 zero v)) (Filled 𝓤 H m E vs)))
      (qed 𝓛 (Others 𝓤 H (true ∷ m) (e ∷ E) ∷ (‵ (fat full_share e.0 e.1 zero v) ⊛ raw (⋆ 𝓛 (Filled 𝓤 H m E vs))) ∷ []) ∵ split ! $ move ! (2 ∷ []) $ split ! $
      use1 𝓛 (‵ (froom e.0 e.1 zero)) (𝓛.laws.at_room e.0 e.1 zero v) $
      move ! (0 ∷ 2 ∷ []) $ join ! $ frame ! $ move ! (1 ∷ 0 ∷ []) $ by ! (filled_in m E vs))

  released : (E : Env 𝓤 H) (P : SProp 𝓤) → ent 𝓤 (sep 𝓤 (mean 𝓛 (Others 𝓤 H [] E)) P) (release 𝓤 H E P)
  released [] P = snd∗ 𝓤 (mean 𝓛 (Others 𝓤 H [] [])) P
  released (e ∷ E) P =
      via 𝓤 (sep 𝓤 (sep 𝓤 (H.room e.0 e.1 zero) (H.dies e.0 e.1)) (sep 𝓤 (mean 𝓛 (Others 𝓤 H [] E)) P))
      (Logic.assoc∗ 𝓤 (sep 𝓤 (H.room e.0 e.1 zero) (H.dies e.0 e.1)) (mean 𝓛 (Others 𝓤 H [] E)) P) (mono_r 𝓤 (sep 𝓤 (H.room e.0 e.1 zero) (H.dies e.0 e.1)) (released E P))

  module _ (𝓣 : Tables 𝓤 H) (E : Env 𝓤 H) where
    flat_after : (X Y R : SProp 𝓤) (Q : Out → SProp 𝓤) → ent 𝓤 X Y → (o : Out) → ent 𝓤 (after_seq 𝓤 H X Q o) (after_seq 𝓤 H Y (after_seq 𝓤 H R Q) o)
    flat_after X Y R Q h next = h
    flat_after X Y R Q h (exits n) = id⊢ 𝓤 (Q (exits n))
    flat_after X Y R Q h returns = id⊢ 𝓤 (Q returns)

    flat-runs : (b r : Body) (Q : Out → SProp 𝓤) → ent 𝓤 (Wp 𝓤 H 𝓣.C 𝓣.Λ E (flat b r) Q) (Wp 𝓤 H 𝓣.C 𝓣.Λ E (seq b r) Q)
    flat-runs (seq a b) r Q = Wp-mono 𝓤 H 𝓛.laws 𝓣 E a _ _ (flat_after (Wp 𝓤 H 𝓣.C 𝓣.Λ E (flat b r) Q) (Wp 𝓤 H 𝓣.C 𝓣.Λ E (seq b r) Q) (Wp 𝓤 H 𝓣.C 𝓣.Λ E r Q) Q (flat-runs b r Q))
    flat-runs skip r Q = id⊢ 𝓤 _
    flat-runs (assign p v) r Q = id⊢ 𝓤 _
    flat-runs (block b) r Q = id⊢ 𝓤 _
    flat-runs (loop b) r Q = id⊢ 𝓤 _
    flat-runs (cond c a b) r Q = id⊢ 𝓤 _
    flat-runs (switch c arms) r Q = id⊢ 𝓤 _
    flat-runs (exit n) r Q = id⊢ 𝓤 _
    flat-runs return r Q = id⊢ 𝓤 _
    flat-runs unreachable r Q = id⊢ 𝓤 _
    flat-runs (call_v c ς xs d) r Q = id⊢ 𝓤 _
    flat-runs (lend_static p τ c) r Q = id⊢ 𝓤 _
    flat-runs (call f xs d) r Q = id⊢ 𝓤 _

    arm-tests : (z y : Bool) (b c : Body) (X : SProp 𝓤) (Q : Out → SProp 𝓤) → T (z || y) → (T y → ent 𝓤 (Wp 𝓤 H 𝓣.C 𝓣.Λ E c Q) X) → ent 𝓤 (Wp 𝓤 H 𝓣.C 𝓣.Λ E (either z b c) Q) (branch 𝓤 H z (Wp 𝓤 H 𝓣.C 𝓣.Λ E b Q) X)
    arm-tests true y b c X Q h k = id⊢ 𝓤 _
    arm-tests false y b c X Q h k = k h

    arm_runs : (arms : Arms) (x : ℕ) (Q : Out → SProp 𝓤) → T (keyed arms x) → ent 𝓤 (Wp 𝓤 H 𝓣.C 𝓣.Λ E (arm_at arms x) Q) (WpArms 𝓤 H 𝓣.C 𝓣.Λ E arms x Q)
    arm_runs (arm ks b arms) x Q h = arm-tests (has_key ks x) (keyed arms x) b (arm_at arms x) (WpArms 𝓤 H 𝓣.C 𝓣.Λ E arms x Q) Q h (λ g. arm_runs arms x Q g)
    arm_runs (default b) x Q h = id⊢ 𝓤 _
    arm_runs no_default x Q h = absurd h

module _ {M : Type 1} {𝓤 : Ura M} {𝓛 : Logic 𝓤} {K : Type 0} where
  open 𝓛 use {H}

  allocs-one : K → (Γ : List (Item 𝓤)) (ls : List Local) (Kt : Env 𝓤 H → Goal 𝓤 H) → ((l : ℕ → ℕ) → Seq K 𝓛 (Others 𝓤 H [] (env_of 𝓤 H ls l) ∷ Γ) (Kt (env_of 𝓤 H ls l))) → Seq K 𝓛 Γ (allocs ls Kt)
  allocs-one t Γ [] Kt k = record { prf = via 𝓤 _ (emp∗ 𝓤 _) (via 𝓤 _ (push 𝓛 (‵ ftrue) Γ) (k (λ j. zero)).prf) }
  allocs-one t Γ (local τ h ∷ ls) Kt k = alloc1 t (λ b. allocs-one t (‵ (froom τ b zero) ∷ ‵ (fdies τ b) ∷ Γ) ls (λ E. Kt ((τ, b) ∷ E)) (λ l. (move t (1 ∷ 2 ∷ []) $ join t $ join t $ k (shifted b l))))
    where
      shifted : ℕ → (ℕ → ℕ) → ℕ → ℕ
      shifted b l zero = b
      shifted b l (suc j) = l j

  pub allocs-all : K → (m : List Bool) {Γ : List (Item 𝓤)} {ls : List Local} {Kt : Env 𝓤 H → Goal 𝓤 H} → ((l : ℕ → ℕ) → Seq K 𝓛 (Others 𝓤 H m (env_of 𝓤 H ls l) ∷ (Chosen 𝓤 H m (env_of 𝓤 H ls l) ++ Γ)) (Kt (env_of 𝓤 H ls l))) → Seq K 𝓛 Γ (allocs ls Kt)
  allocs-all t m {Γ} {ls} {Kt} k = allocs-one t Γ ls Kt (λ l. (cut (Others 𝓤 H [] (env_of 𝓤 H ls l) ∷ []) (Others 𝓤 H m (env_of 𝓤 H ls l) ∷ Chosen 𝓤 H m (env_of 𝓤 H ls l)) Γ (via 𝓤 _ (chosen-out 𝓛 m (env_of 𝓤 H ls l)) (push 𝓛 _ (Chosen 𝓤 H m (env_of 𝓤 H ls l)))) $ k l))

  pub frees_all : K → (m : List Bool) (vs : List Val) {i : Item 𝓤} {E : Env 𝓤 H} {g : Goal 𝓤 H} → Step K 𝓛 (i ∷ []) g (i ∷ Others 𝓤 H m E ∷ Filled 𝓤 H m E vs) (frees E g)
  frees_all t m vs {i} {E} {g} = step (λ s. record {
    prf =
        let O : SProp 𝓤 = mean 𝓛 (Others 𝓤 H m E) in
        let F : SProp 𝓤 = ⋆ 𝓛 (Filled 𝓤 H m E vs) in
        let All : SProp 𝓤 = mean 𝓛 (Others 𝓤 H [] E) in
        via 𝓤 (sep 𝓤 (mean 𝓛 i) (⋆ 𝓛 (Others 𝓤 H m E ∷ Filled 𝓤 H m E vs))) (pop 𝓛 i (Others 𝓤 H m E ∷ Filled 𝓤 H m E vs))
        (via 𝓤 (sep 𝓤 (mean 𝓛 i) All) (mono_r 𝓤 (mean 𝓛 i) (via 𝓤 (sep 𝓤 O F) (pop 𝓛 (Others 𝓤 H m E) (Filled 𝓤 H m E vs)) (filled_in 𝓛 m E vs)))
        (via 𝓤 (sep 𝓤 All (mean 𝓛 i)) (comm∗ 𝓤 (mean 𝓛 i) All)
        (via 𝓤 (sep 𝓤 All (aim 𝓤 H g)) (mono_r 𝓤 All s.prf) (released 𝓛 E (aim 𝓤 H g)))));
  })

  pub chooses : K → (𝓣 : Tables 𝓤 H) {Γ : List (Item 𝓤)} {E : Env 𝓤 H} {c : Operand} {arms : Arms} {rest : Body} {w : Width} {x : ℕ} {q : Post 𝓤 H} → Opd K 𝓛 Γ E c (vint w x) → T (keyed arms x)
      → Step K 𝓛 Γ (runs 𝓣.C 𝓣.Λ E (flat (arm_at arms x) rest) q) Γ (runs 𝓣.C 𝓣.Λ E (seq (switch c arms) rest) q)
  chooses t 𝓣 {Γ} {E} {c} {arms} {rest} {w} {x} {q} o h = step (λ s. record {
    prf =
        let Q : Out → SProp 𝓤 = after_seq 𝓤 H (Wp 𝓤 H 𝓣.C 𝓣.Λ E rest (post 𝓤 H q)) (post 𝓤 H q) in
        via 𝓤 (eval_opd 𝓤 H E c (λ v. as_int (never 𝓤) v (λ w' y. WpArms 𝓤 H 𝓣.C 𝓣.Λ E arms y Q)))
        (o.go (λ v. as_int (never 𝓤) v (λ w' y. WpArms 𝓤 H 𝓣.C 𝓣.Λ E arms y Q)) (via 𝓤 _ s.prf (via 𝓤 _ (flat-runs 𝓛 𝓣 E (arm_at arms x) rest (post 𝓤 H q)) (arm_runs 𝓛 𝓣 E arms x Q h))))
        (𝓛.laws.⇛_intro _);
  })
