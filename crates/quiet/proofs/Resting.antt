-- The definition alone: where every core keeps its thread, the six phases add 1 to each slice and do nothing else.
use Prim.Native.Nat.{ℕ, suc}
use mathlib.Core.Path.{◌≡◌, refl, sym, ap, subst}
use mathlib.Core.Bool.{Bool, true, false, ◌&&◌}
use mathlib.Core.List.{List, [], ◌∷◌}
use lib.Dec.{leb}
use borrow.Author.Tests.{not-true}
use Rattle.model.specs.Invariants.{All}
use Rattle.model.specs.Types.{CoreState, Idle, Switching, Running, Core}
use Rattle.model.specs.Phases.{Rules, Pass, Phase, ascend, and_then, with_state, unmoved, sliced, switched_in, phase2, vacate, phase3, filled, phase4, quantum_of, quantum_over, hand_over, phase5, phases1_to4, decide, is_preemptive}
use Rattle.model.specs.Calls.{sliced_all}
use Rattle.model.proofs.PhaseLaws.{not-both}
use Rattle.model.proofs.PhaseLaws.{phase6-rests}
use Rattle.model.proofs.LoopLaws.{ascend-phase1}
use Rattle.quiet.specs.Quiet.{calm_in, calm, is_priority}

---- a phase that leaves a core as it is

abbrev Rests : Phase → Core → Type 0
Rests f c = (i : ℕ) (q : List ℕ) → f i c q ≡ unmoved c q

-- no moves so far
abbrev pub still : List Core → List ℕ → Pass
still cs q = record { cores = cs; queue = q; moves = [] }

ascend-rests : (f : Phase) (cs : List Core) → All (Rests f) cs → (i : ℕ) (q : List ℕ) → ascend f i cs q ≡ still cs q
unfolding ascend
ascend-rests f [] a i q = refl
ascend-rests f (c ∷ cs) a i q = rw (a.0 i q, ascend-rests f cs a.1 (suc i) q)

then-rests : (f : Phase) (cs : List Core) (q : List ℕ) → All (Rests f) cs → and_then (still cs q) f ≡ still cs q
unfolding and_then
then-rests f cs q a = rw (ascend-rests f cs a 0 q)

---- a calm core

abbrev core : CoreState → (e b y p : Bool) → Core
core x e b y p = record { state = x; exits = e; blocks = b; yields = y; progressed = p }

record Runs (pe : Bool) (u : ℕ) (c : Core) : Type 0 where
  tid : ℕ
  slice : ℕ
  same : c ≡ core (Running tid slice) false false false c.progressed
  within : pe && (leb u (suc slice) && c.progressed) ≡ false

calm-runs : (pe : Bool) (u : ℕ) (c : Core) → calm pe u c ≡ true → Runs pe u c
unfolding calm
calm-runs pe u c h = go c.state c.exits c.blocks c.yields c.progressed h
  where
    go : (x : CoreState) (e b y p : Bool) → calm_in pe u e b y p x ≡ true → Runs pe u (core x e b y p)
    go Idle e b y p h = absurd (not-both false h refl)
    go (Switching t l) e b y p h = absurd (not-both false h refl)
    go (Running t s) true b y p h = absurd (not-both false h refl)
    go (Running t s) false true y p h = absurd (not-both false h refl)
    go (Running t s) false false true p h = absurd (not-both false h refl)
    go (Running t s) false false false p h = record { tid = t; slice = s; same = refl; within = not-true _ h }

-- after phase 1
abbrev pub ticked : Core → Core
ticked c = with_state (sliced c.state) c

record Calms (k : Rules) (c : Core) : Type 0 where
  two : Rests phase2 c
  three : Rests phase3 c
  four : Rests (phase4 k) c
  five : Rests (phase5 k) c

calms : (k : Rules) (c : Core) → calm (is_preemptive k.policy) k.quantum c ≡ true → Calms k (ticked c)
unfolding sliced phase2 switched_in phase3 vacate phase4 filled phase5 hand_over quantum_over quantum_of
calms k c h =
    let r = calm-runs (is_preemptive k.policy) k.quantum c h in
    subst (λ (d : Core). Calms k (ticked d)) (sym r.same) (record { two = λ i q. refl; three = λ i q. refl; four = λ i q. refl; five = λ i q. rw r.within })

calms-all : (k : Rules) (cs : List Core) → All (λ (c : Core). calm (is_preemptive k.policy) k.quantum c ≡ true) cs → All (Calms k) (sliced_all cs)
unfolding sliced_all
calms-all k [] a = tt
calms-all k (c ∷ cs) a = (calms k c a.0, calms-all k cs a.1)

all_of : (P Q : Core → Type 0) → ((c : Core) → P c → Q c) → (cs : List Core) → All P cs → All Q cs
all_of P Q f [] a = tt
all_of P Q f (c ∷ cs) a = (f c a.0, all_of P Q f cs a.1)

---- all six phases

pub decide-calm :
    (k : Rules) (cs : List Core) (q : List ℕ) → is_priority k.policy ≡ false → All (λ (c : Core). calm (is_preemptive k.policy) k.quantum c ≡ true) cs
    → decide k cs q ≡ still (sliced_all cs) q
unfolding decide phases1_to4
decide-calm k cs q h a =
    let r = calms-all k cs a in
    let rest : (f : Phase) → ((c : Core) → Calms k c → Rests f c) → and_then (still (sliced_all cs) q) f ≡ still (sliced_all cs) q = λ f g. then-rests f (sliced_all cs) q (all_of (Calms k) (Rests f) g (sliced_all cs) r) in
    rw (ascend-phase1 0 cs q, rest phase2 (λ c m. m.two), rest phase3 (λ c m. m.three), rest (phase4 k) (λ c m. m.four), rest (phase5 k) (λ c m. m.five)) (phase6-rests k.policy k _ (λ e. not-both (is_priority k.policy) (ap is_priority e) h))
