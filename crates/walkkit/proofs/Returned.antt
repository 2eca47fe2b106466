-- A call in a walk whose callee returns what its contract does not name: what the caller has after it may depend on what was returned.
--     Returns X Φ k w   once the callee has returned w: for some x with Φ w x, k x
--     calls-to          the call rule for it
-- Assumes `Logic`, and that the table of calls is monotone under a frame.
use mathlib.Core.List.{List, ◌∷◌}
use seplogic.Ra.Ura.{Ura}
use mir.Syntax.{Callee, Opd as Operand, Place, Body, seq, call}
use mir.Val.{Val}
use base.Logic.{ent}
use prog.Wp.{Env, Calls, Loops}
use types.Logic.{Logic}
use sound.WpLaws.{FmC}
use types.Kit.{Item, Post, Seq, raw, some, later, given, mean, runs, lands, ◌$◌, use1, pick, learn, await}
use types.Run.{Opds, calls}

abbrev pub Returns : {M : Type 1} (𝓤 : Ura M) (X : Type 0) → (Val → X → Type 0) → (X → Item 𝓤) → Val → Item 𝓤
Returns 𝓤 X Φ k w = later (some (λ (x : X). given (Φ w x) (k x)))

module _ {M : Type 1} {𝓤 : Ura M} {𝓛 : Logic 𝓤} {K : Type 0} {Γ : List (Item 𝓤)} where
  open 𝓛 use {H}

  pub calls-to : K → {E : Env 𝓤 H} {C : Calls 𝓤 H} {Λ : Loops 𝓤 H} {q : Post 𝓤 H} {f : Callee} {xs : List Operand} {d : Place} {rest : Body} → FmC 𝓤 H 𝓛.laws C → (X : Type 0) (Φ : Val → X → Type 0) (i : Item 𝓤) (k : X → Item 𝓤) (vs : List Val)
      → ent 𝓤 (mean 𝓛 i) (H.⇛ (C f vs (λ w. mean 𝓛 (Returns 𝓤 X Φ k w)))) → Opds K 𝓛 (raw (C f vs (λ w. mean 𝓛 (Returns 𝓤 X Φ k w))) ∷ Γ) E xs vs
      → ((w : Val) (x : X) → Φ w x → Seq K 𝓛 (k x ∷ Γ) (lands C Λ E d w rest q)) → Seq K 𝓛 (i ∷ Γ) (runs C Λ E (seq (call f xs d) rest) q)
  calls-to t {C = C} {f = f} fm X Φ i k vs derived os go = use1 𝓛 (later (raw (C f vs (λ w. mean 𝓛 (Returns 𝓤 X Φ k w))))) derived $ await t tt $
      calls t fm (Returns 𝓤 X Φ k) os (λ w. await t tt $ pick t (λ x. learn t (λ φ. go w x φ)))
