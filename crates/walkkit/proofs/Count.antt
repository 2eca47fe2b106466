-- A loop in a walk that counts from 0 to n, `let mut i = 0; while i < n { .. i += 1; }`: `Types/Run.antt`'s `loops` with the order and the invariant's index chosen once..
--     parts        a part of a sequence that branches, and what follows it.        whiles       a `while` that counts, and what follows it
--     counts       Ctx i is the whole context where the test is reached with i. From it the loop runs, given two premises:
--                      a turn at i < n, from Ctx i, goes on to whatever follows from Ctx (i + 1);        the turn at n, from Ctx n, leaves the loop
-- A proof that uses it says `unfolding after_turn`.
-- Assumes `Logic`, and a `Tables`.
use mathlib.Core.Path.{◌≡◌, sym, subst}
use Prim.Native.Nat.{ℕ, ◌+◌, ◌-◌, ◌<◌, ◌≤◌}
use native.Mathlib.Nat.{sub_self, eq-or-lt_of_le, le_refl}
use native.Mathlib.Omega.{arith}
use mathlib.Core.Bool.{Bool}
use mathlib.Core.List.{List}
use mathlib.Core.Logic.{⊎_elim}
use lib.WfN.{lt-wf_rel}
use seplogic.Ra.Ura.{Ura}
use lib.Dec.{ltb}
use mir.Syntax.{Place, Opd as Operand, Rv as RValue, Body, skip, seq, assign, block, loop, cond, exit}
use mir.Val.{vbool}
use base.Logic.{SProp, ent}
use prog.Wp.{Out, Env, Calls, Loops, Tables, Wp, after_block, after_seq, after_turn}
use types.Logic.{Logic}
use types.Kit.{Item, Post, any_q, post, ⋆, runs, Seq, Step, ◌$◌}
use types.Run.{Opd, Below, again, loops, first, blocks, stays, leaves_loop}
use borrow.Author.Tests.{lt-ltb, le-ltb}

module _ {M : Type 1} {𝓤 : Ura M} {𝓛 : Logic 𝓤} {K : Type 0} where
  open 𝓛 use {H}

  pub counts : K → (𝓣 : Tables 𝓤 H) (n : ℕ) (Ctx : ℕ → List (Item 𝓤)) {E : Env 𝓤 H} {b : Body} {q : Post 𝓤 H}
      → ((i : ℕ) → i < n → (X : SProp 𝓤) → ent 𝓤 (⋆ 𝓛 (Ctx (i + 1))) X → Seq K 𝓛 (Ctx i) (runs 𝓣.C 𝓣.Λ E b (any_q (after_turn 𝓤 H X (post 𝓤 H q)))))
      → ((X : SProp 𝓤) → Seq K 𝓛 (Ctx n) (runs 𝓣.C 𝓣.Λ E b (any_q (after_turn 𝓤 H X (post 𝓤 H q)))))
      → Seq K 𝓛 (Ctx 0) (runs 𝓣.C 𝓣.Λ E (loop b) q)
  counts k 𝓣 n Ctx {E} {b} {q} more ends =
      subst (λ (j : ℕ). Seq K 𝓛 (Ctx j) (runs 𝓣.C 𝓣.Λ E (loop b) q)) (sub_self n) (loops k 𝓣 ◌<◌ lt-wf_rel.wf I turn n)
    where
      I : ℕ → List (Item 𝓤)
      I t = Ctx (n - t)

      Turn : ℕ → ℕ → Type 1
      Turn t i = Seq K 𝓛 (Ctx i) (runs 𝓣.C 𝓣.Λ E b (any_q (after_turn 𝓤 H (Below 𝓛 ◌<◌ I t) (post 𝓤 H q))))

      goes_on : (t : ℕ) → n - t < n → Turn t (n - t)
      goes_on t lt =
          more (n - t) lt (Below 𝓛 ◌<◌ I t)
          (subst (λ (j : ℕ). ent 𝓤 (⋆ 𝓛 (Ctx j)) (Below 𝓛 ◌<◌ I t)) (back_to n (n - t) lt) (again {𝓛 = 𝓛} k ◌<◌ I t (n - (n - t + 1)) (fewer n t lt)).prf)
        where
          back_to : (n i : ℕ) → i < n → n - (n - (i + 1)) ≡ i + 1
          back_to n i l = omega arith

          fewer : (n t : ℕ) → n - t < n → n - (n - t + 1) < t
          fewer n t l = omega arith

      turn : (t : ℕ) → Turn t (n - t)
      turn t = ⊎_elim (λ (e : n - t ≡ n). subst (Turn t) (sym e) (ends (Below 𝓛 ◌<◌ I t))) (λ (lt : n - t < n). goes_on t lt) (eq-or-lt_of_le (at_most n t))
        where
          at_most : (n t : ℕ) → n - t ≤ n
          at_most n t = omega arith

-- The whole statement: `while` with the test `i < n` in a local, and what follows it. `Ctx i` is the whole context where the test is reached, and `Tested i` the same with the test's outcome in its local.
--     test         the test is computed and stored;        outcome      it is read
--     more         the rest of a turn at i < n: it goes on to whatever follows from Ctx (i + 1). Q is what is to hold where the loop is left, and no turn looks at it
--     after        what follows the loop, from Tested n
-- Nothing here names the locals' types or the code, so that antt reads them off the goal.
module _ {M : Type 1} {𝓤 : Ura M} {𝓛 : Logic 𝓤} {K : Type 0} where
  open 𝓛 use {H}

  pub whiles : K → (𝓣 : Tables 𝓤 H) (n : ℕ) (Ctx Tested : ℕ → List (Item 𝓤)) {E : Env 𝓤 H} {p : Place} {rv : RValue} {c : Operand} {body rest : Body} {q : Post 𝓤 H}
      → ((i : ℕ) (B : Body) (r : Post 𝓤 H) → Step K 𝓛 (Tested i) (runs 𝓣.C 𝓣.Λ E B r) (Ctx i) (runs 𝓣.C 𝓣.Λ E (seq (assign p rv) B) r))
      → ((i : ℕ) → Opd K 𝓛 (Tested i) E c (vbool (ltb i n)))
      → ((i : ℕ) → i < n → (X : SProp 𝓤) (Q : Out → SProp 𝓤) → ent 𝓤 (⋆ 𝓛 (Ctx (i + 1))) X → Seq K 𝓛 (Tested i) (runs 𝓣.C 𝓣.Λ E body (any_q (after_turn 𝓤 H X Q))))
      → Seq K 𝓛 (Tested n) (runs 𝓣.C 𝓣.Λ E rest q)
      → Seq K 𝓛 (Ctx 0) (runs 𝓣.C 𝓣.Λ E (seq (block (loop (seq (assign p rv) (seq (cond c skip (exit 1)) body)))) rest) q)
  unfolding after_turn
  whiles k 𝓣 n Ctx Tested {E} {p} {rv} {c} {body} {rest} {q} test outcome more after =
      first k $ blocks k $ counts k 𝓣 n Ctx
      (λ i less X go. test i _ _ $ stays k (subst (λ (t : Bool). Opd K 𝓛 (Tested i) E c (vbool t)) (lt-ltb i n less) (outcome i)) $ more i less X (post 𝓤 H (any_q (after_block 𝓤 H (post 𝓤 H (any_q (after_seq 𝓤 H (Wp 𝓤 H 𝓣.C 𝓣.Λ E rest (post 𝓤 H q)) (post 𝓤 H q))))))) go)
      (λ X. test n _ _ $ leaves_loop k (subst (λ (t : Bool). Opd K 𝓛 (Tested n) E c (vbool t)) (le-ltb n n (le_refl n)) (outcome n)) $ record { prf = after.prf })

-- A part of a sequence, as a branch or a `switch`, and what follows it. Where the part ends the whole context is Γ', from which what follows is walked once. The part is walked to any X that Γ' gives, so that its arms do not see the code that follows, and no arm says `exec`.
module _ {M : Type 1} {𝓤 : Ura M} {𝓛 : Logic 𝓤} {K : Type 0} {Γ : List (Item 𝓤)} where
  open 𝓛 use {H}

  pub parts : K → {C : Calls 𝓤 H} {Λ : Loops 𝓤 H} {E : Env 𝓤 H} {a rest : Body} {q : Post 𝓤 H} (Γ' : List (Item 𝓤)) → Seq K 𝓛 Γ' (runs C Λ E rest q)
      → ((X : SProp 𝓤) (Q : Out → SProp 𝓤) → ent 𝓤 (⋆ 𝓛 Γ') X → Seq K 𝓛 Γ (runs C Λ E a (any_q (after_seq 𝓤 H X Q)))) → Seq K 𝓛 Γ (runs C Λ E (seq a rest) q)
  parts t {q = q} Γ' after part = first t $ part _ (post 𝓤 H q) after.prf
