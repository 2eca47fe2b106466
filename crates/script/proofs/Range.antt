-- Every thread that a move names is a record, every core a core; and a tick end makes at most 18 moves for each core. For R-13's bounds: what is printed.
use Prim.Native.Nat.{ℕ, zero, suc, ◌+◌, ◌*◌, ◌≤◌, ◌<◌}
use mathlib.Core.Path.{◌≡◌, refl, sym, ap, ◌∙◌, subst}
use mathlib.Core.Bool.{Bool, true, false, cond, ◌&&◌, ◌||◌}
use mathlib.Core.Option.{Option, none, some}
use mathlib.Core.List.{List, [], ◌∷◌, ◌++◌}
use native.Mathlib.Omega.{arith}
use lib.Dec.{leb, ltb}
use lib.ListN.{length, length-append}
use Rattle.script.specs.Invariants.{In, CoreIn, QueueIn}
use Rattle.model.specs.Invariants.{All, AllO}
use Rattle.model.specs.Types.{Policy, Off, Fifo, RoundRobin, Priority, CoreState, Idle, Switching, Running, LeaveReason, Preempt, Core, Move, starts, leaves, takes}
use Rattle.model.specs.Phases.{Rules, Turn, Pass, Phase, ascend, and_then, with_state, unmoved, without, most_urgent, pick_next, dispatched_state, dispatch_moves, dispatch, sliced, phase1, switched_in, is_due, phase2, cleared, leaves_for, holder, vacate, phase3, filled, phase4, hand_over, wants_hand_over, ceiling_of, unyielded, phase5, Victim, least_urgent, update, preempted, Preemption, preemption_of, next_preemption, preempt_rounds, phase6, phases1_to4, decide}
use Rattle.model.proofs.PhaseLaws.{all-update, length-update, ascend-length, At}
use Rattle.model.proofs.Preempt.{urgent-in, Stands, IsRun, least_urgent-stands}
use Rattle.model.proofs.ThreadStates.{snoc-all, without_all, next-in}

-- and cores below n
abbrev pub MoveIn : ℕ → ℕ → Move → Type 0
MoveIn n N (starts t) = Unit {0}
MoveIn n N (leaves t i r) = (t < N) × (i < n)
MoveIn n N (takes t i) = (t < N) × (i < n)

abbrev pub MovesIn : ℕ → ℕ → List Move → Type 0
MovesIn n N [] = Unit {0}
MovesIn n N (m ∷ ms) = MoveIn n N m × MovesIn n N ms

pub moves-append : (n N : ℕ) (a b : List Move) → MovesIn n N a → MovesIn n N b → MovesIn n N (a ++ b)
moves-append n N [] b g h = h
moves-append n N (m ∷ a) b g h = (g.0, moves-append n N a b g.1 h)

pub record TurnIn (n N : ℕ) (t : Turn) : Type 0 where
  pub core : CoreIn N t.core
  pub queue : QueueIn N t.queue
  pub moves : MovesIn n N t.moves
  pub few : length t.moves ≤ 3

pub record PassIn (n N m : ℕ) (p : Pass) : Type 0 where
  pub cores : All (CoreIn N) p.cores
  pub queue : QueueIn N p.queue
  pub moves : MovesIn n N p.moves
  pub few : length p.moves ≤ m

---- what is entered

in-dispatched_state : (N w t : ℕ) → t < N → In N (dispatched_state w t)
unfolding dispatched_state
in-dispatched_state N zero t h = h
in-dispatched_state N (suc w) t h = h

pub in-dispatch_moves : (n N w t i : ℕ) → t < N → i < n → MovesIn n N (dispatch_moves w t i)
unfolding dispatch_moves
in-dispatch_moves n N zero t i h k = ((h, k), (tt, tt))
in-dispatch_moves n N (suc w) t i h k = ((h, k), tt)

pub few-dispatch_moves : (w t i : ℕ) → length (dispatch_moves w t i) ≤ 2
unfolding dispatch_moves
few-dispatch_moves zero t i = omega arith
few-dispatch_moves (suc w) t i = omega arith

---- as many cores as before

and_then-size : (p : Pass) (f : Phase) → length (and_then p f).cores ≡ length p.cores
unfolding and_then
and_then-size p f = ascend-length f 0 p.cores p.queue

preempted-size : (k : Rules) (r : LeaveReason) (v : Victim) (b : ℕ) (p : Pass) → length (preempted k r v b p).cores ≡ length p.cores
unfolding preempted
preempted-size k r v b p = length-update (dispatch k.cost b) v.core p.cores

preempt_rounds-size : (k : Rules) (f : ℕ) (p : Pass) → length (preempt_rounds k f p).cores ≡ length p.cores
unfolding preempt_rounds
preempt_rounds-size k zero p = refl
preempt_rounds-size k (suc f) p = go (next_preemption k p) (λ q. preempt_rounds-size k f q)
  where
    go : (o : Option Preemption) → ((q : Pass) → length (preempt_rounds k f q).cores ≡ length q.cores)
        → length (elim o as (λ x. Pass) [ none ↦ p | some w ↦ preempt_rounds k f (preempted k Preempt w.victim w.best p) ]).cores ≡ length p.cores
    go none ih = refl
    go (some w) ih = ih (preempted k Preempt w.victim w.best p) ∙ preempted-size k Preempt w.victim w.best p

pub decide-size : (k : Rules) (cs : List Core) (q : List ℕ) → length (decide k cs q).cores ≡ length cs
unfolding decide phases1_to4 phase6
decide-size k cs q = go k.policy
  where
    p1 : Pass
    p1 = ascend phase1 0 cs q

    p5 : Pass
    p5 = and_then (and_then (and_then (and_then p1 phase2) phase3) (phase4 k)) (phase5 k)

    five : length p5.cores ≡ length cs
    five = and_then-size _ (phase5 k) ∙ and_then-size _ (phase4 k) ∙ and_then-size _ phase3 ∙ and_then-size p1 phase2 ∙ ascend-length phase1 0 cs q

    go : (o : Policy) → length (phase6 o k p5).cores ≡ length cs
    go Off = five
    go Fifo = five
    go RoundRobin = five
    go Priority = preempt_rounds-size k (length p5.cores) p5 ∙ five

module _ (n N : ℕ) where
  abbrev TurnLaw : Phase → Type 0
  TurnLaw f = (i : ℕ) (c : Core) (q : List ℕ) → i < n → CoreIn N c → QueueIn N q → TurnIn n N (f i c q)

  stays : (c : Core) (q : List ℕ) → CoreIn N c → QueueIn N q → TurnIn n N (unmoved c q)
  stays c q h v = record { core = h; queue = v; moves = tt; few = omega arith }

  in-1 : TurnLaw phase1
  unfolding phase1 sliced
  in-1 i c q l h v = go c.state h
    where
      go : (s : CoreState) → In N s → TurnIn n N (unmoved (with_state (sliced s) c) q)
      go Idle k = stays (with_state Idle c) q tt v
      go (Switching t m) k = stays (with_state (Switching t m) c) q k v
      go (Running t m) k = stays (with_state (Running t (suc m)) c) q k v

  in-2 : TurnLaw phase2
  unfolding phase2 switched_in
  in-2 i c q l h v = go c.state (is_due c.state) h
    where
      go : (s : CoreState) (d : Bool) → In N s → TurnIn n N (switched_in c s d q)
      go Idle d k = stays c q h v
      go (Running t m) d k = stays c q h v
      go (Switching t m) false k = record { core = k; queue = v; moves = tt; few = omega arith }
      go (Switching t m) true k = record { core = k; queue = v; moves = (tt, tt); few = omega arith }

  in-3 : TurnLaw phase3
  unfolding phase3 vacate
  in-3 i c q l h v = go c.state (leaves_for c.exits c.blocks) h
    where
      go : (s : CoreState) (g : Option LeaveReason) → In N s → TurnIn n N (vacate i c (holder s) g q)
      go Idle g k = stays (cleared Idle false c.progressed) q tt v
      go (Switching t m) none k = stays (cleared c.state c.yields c.progressed) q h v
      go (Switching t m) (some r) k = record { core = tt; queue = v; moves = ((k, l), tt); few = omega arith }
      go (Running t m) none k = stays (cleared c.state c.yields c.progressed) q h v
      go (Running t m) (some r) k = record { core = tt; queue = v; moves = ((k, l), tt); few = omega arith }

  in-4 : (k : Rules) → TurnLaw (phase4 k)
  unfolding phase4 filled
  in-4 k i c q l h v = go c.state (pick_next k i none q) (next-in (λ (t : ℕ). t < N) k i none q v)
    where
      go : (s : CoreState) (o : Option ℕ) → AllO (λ (t : ℕ). t < N) o → TurnIn n N (filled k i c s o q)
      go (Switching t m) o a = stays c q h v
      go (Running t m) o a = stays c q h v
      go Idle none a = stays c q h v
      go Idle (some t) a = record { core = in-dispatched_state N k.cost t a; queue = without_all _ t q v; moves = in-dispatch_moves n N k.cost t i a l; few = omega (arith, few-dispatch_moves k.cost t i) }

  in-5 : (k : Rules) → TurnLaw (phase5 k)
  unfolding phase5 hand_over
  in-5 k i c q l h v = go c.state (wants_hand_over k c c.state) (pick_next k i (ceiling_of k c.state) q) (cond c.yields _ _) h (next-in (λ (t : ℕ). t < N) k i (ceiling_of k c.state) q v)
    where
      go : (s : CoreState) (w : Bool) (o : Option ℕ) (r : LeaveReason) → In N s → AllO (λ (t : ℕ). t < N) o → TurnIn n N (hand_over k i (unyielded c) s w o r q)
      go Idle w o r x a = stays (unyielded c) q h v
      go (Switching t m) w o r x a = stays (unyielded c) q h v
      go (Running t m) false o r x a = stays (unyielded c) q h v
      go (Running t m) true none r x a = stays (with_state (Running t 0) (unyielded c)) q x v
      go (Running t m) true (some u) r x a =
          record { core = in-dispatched_state N k.cost u a; queue = without_all _ u (q ++ (t ∷ [])) (snoc-all _ t q v x); moves = ((x, l), in-dispatch_moves n N k.cost u i a l); few = omega (arith, few-dispatch_moves k.cost u i) }

  ---- whole phases

  ascend-in : (f : Phase) → TurnLaw f → (cs : List Core) (i : ℕ) (q : List ℕ) → i + length cs ≤ n → All (CoreIn N) cs → QueueIn N q → PassIn n N (3 * length cs) (ascend f i cs q)
  unfolding ascend
  ascend-in f law [] i q l a v = record { cores = tt; queue = v; moves = tt; few = omega arith }
  ascend-in f law (c ∷ cs) i q l a v =
      let t = law i c q (omega arith) a.0 v in
      let r = ascend-in f law cs (suc i) (f i c q).queue (omega arith) a.1 t.queue in
      record {
        cores = (t.core, r.cores);
        queue = r.queue;
        moves = moves-append n N (f i c q).moves (ascend f (suc i) cs (f i c q).queue).moves t.moves r.moves;
        few = omega (arith, length-append (f i c q).moves (ascend f (suc i) cs (f i c q).queue).moves, t.few, r.few);
      }

  and_then-in : (f : Phase) → TurnLaw f → (m : ℕ) (p : Pass) → length p.cores ≡ n → PassIn n N m p → PassIn n N (m + 3 * n) (and_then p f)
  unfolding and_then
  and_then-in f law m p e h =
      let a = ascend f 0 p.cores p.queue in
      let r = ascend-in f law p.cores 0 p.queue (omega arith) h.cores h.queue in
      record { cores = r.cores; queue = r.queue; moves = moves-append n N p.moves a.moves h.moves r.moves; few = omega (arith, length-append p.moves a.moves, h.few, r.few) }

  ---- phase 6

  at_in : (t j : ℕ) (cs : List Core) → All (CoreIn N) cs → At (IsRun t) j cs → (t < N) × (j < length cs)
  unfolding IsRun
  at_in t j [] a h = absurd h
  at_in t zero (c ∷ cs) a h = (subst (In N) h.1 a.0, omega arith)
  at_in t (suc j) (c ∷ cs) a h = let r = at_in t j cs a.1 h in (r.0, omega (arith, r.1))

  preempted-in : (k : Rules) (r : LeaveReason) (v : Victim) (b m : ℕ) (p : Pass) → v.tid < N → v.core < n → b < N → PassIn n N m p → PassIn n N (m + 3) (preempted k r v b p)
  unfolding preempted
  preempted-in k r v b m p ht hc hb h =
      let new = leaves v.tid v.core r ∷ dispatch_moves k.cost b v.core in
      record {
        cores = all-update {P = CoreIn N} (dispatch k.cost b) (λ c x. in-dispatched_state N k.cost b hb) v.core p.cores h.cores;
        queue = without_all _ b (p.queue ++ (v.tid ∷ [])) (snoc-all _ v.tid p.queue h.queue ht);
        moves = moves-append n N p.moves new h.moves ((ht, hc), in-dispatch_moves n N k.cost b v.core hb hc);
        few = omega (arith, length-append p.moves new, few-dispatch_moves k.cost b v.core, h.few);
      }

  abbrev SwapIn : Preemption → Type 0
  SwapIn w = (w.victim.tid < N) × (w.victim.core < n) × (w.best < N)

  swap-in : (k : Rules) (p : Pass) → length p.cores ≡ n → All (CoreIn N) p.cores → QueueIn N p.queue → AllO SwapIn (next_preemption k p)
  unfolding next_preemption preemption_of Stands
  swap-in k p e a v = two (most_urgent k.prio p.queue) (urgent-in k.prio (λ (t : ℕ). t < N) p.queue v) (least_urgent k.prio 0 p.cores) (least_urgent-stands k.prio 0 p.cores)
    where
      pick : (b : ℕ) (w : Victim) (u : Bool) → b < N → Stands 0 p.cores w → AllO SwapIn (cond u (some (record { victim = w; best = b })) none)
      pick b w true x y = let z = at_in w.tid y.0 p.cores a y.2 in (z.0, omega (arith, z.1, y.1), x)
      pick b w false x y = tt

      two : (o : Option ℕ) → AllO (λ (t : ℕ). t < N) o → (w : Option Victim) → AllO (Stands 0 p.cores) w → AllO SwapIn (preemption_of k.prio o w)
      two none x w y = tt
      two (some b) x none y = tt
      two (some b) x (some w) y = pick b w (ltb (k.prio b) (k.prio w.tid)) x y

  preempt_rounds-in : (k : Rules) (f m : ℕ) (p : Pass) → length p.cores ≡ n → PassIn n N m p → PassIn n N (m + 3 * f) (preempt_rounds k f p)
  unfolding preempt_rounds
  preempt_rounds-in k zero m p e h = record { cores = h.cores; queue = h.queue; moves = h.moves; few = omega (arith, h.few) }
  preempt_rounds-in k (suc f) m p e h = go (next_preemption k p) (swap-in k p e h.cores h.queue) (λ q d x. preempt_rounds-in k f (m + 3) q d x)
    where
      go : (o : Option Preemption) → AllO SwapIn o → ((q : Pass) → length q.cores ≡ n → PassIn n N (m + 3) q → PassIn n N (m + 3 + 3 * f) (preempt_rounds k f q))
          → PassIn n N (m + 3 * suc f) (elim o [ none ↦ p | some w ↦ preempt_rounds k f (preempted k Preempt w.victim w.best p) ])
      go none i ih = record { cores = h.cores; queue = h.queue; moves = h.moves; few = omega (arith, h.few) }
      go (some w) i ih =
          let q = preempted k Preempt w.victim w.best p in
          let r : PassIn n N (m + 3 + 3 * f) (preempt_rounds k f q) = ih q (preempted-size k Preempt w.victim w.best p ∙ e) (preempted-in k Preempt w.victim w.best m p i.0 i.1 i.2 h) in
          record { cores = r.cores; queue = r.queue; moves = r.moves; few = omega (arith, r.few) }

  ---- the tick's end

  pub decide-in : (k : Rules) (cs : List Core) (q : List ℕ) → length cs ≡ n → All (CoreIn N) cs → QueueIn N q → PassIn n N (18 * n) (decide k cs q)
  unfolding decide phases1_to4 phase6
  decide-in k cs q e a v = go k.policy
    where
      p1 : Pass
      p1 = ascend phase1 0 cs q

      p2 : Pass
      p2 = and_then p1 phase2

      p3 : Pass
      p3 = and_then p2 phase3

      p4 : Pass
      p4 = and_then p3 (phase4 k)

      p5 : Pass
      p5 = and_then p4 (phase5 k)

      s1 : length p1.cores ≡ n
      s1 = ascend-length phase1 0 cs q ∙ e

      s2 : length p2.cores ≡ n
      s2 = and_then-size p1 phase2 ∙ s1

      s3 : length p3.cores ≡ n
      s3 = and_then-size p2 phase3 ∙ s2

      s4 : length p4.cores ≡ n
      s4 = and_then-size p3 (phase4 k) ∙ s3

      s5 : length p5.cores ≡ n
      s5 = and_then-size p4 (phase5 k) ∙ s4

      five : PassIn n N (3 * length cs + 3 * n + 3 * n + 3 * n + 3 * n) p5
      five =
          and_then-in (phase5 k) (in-5 k) _ p4 s4
          (and_then-in (phase4 k) (in-4 k) _ p3 s3 (and_then-in phase3 in-3 _ p2 s2 (and_then-in phase2 in-2 _ p1 s1 (ascend-in phase1 in-1 cs 0 q (omega arith) a v))))

      fewer : (m : ℕ) (p : Pass) → m ≤ 18 * n → PassIn n N m p → PassIn n N (18 * n) p
      fewer m p l h = record { cores = h.cores; queue = h.queue; moves = h.moves; few = omega (arith, h.few) }

      go : (o : Policy) → PassIn n N (18 * n) (phase6 o k p5)
      go Off = fewer _ p5 (omega arith) five
      go Fifo = fewer _ p5 (omega arith) five
      go RoundRobin = fewer _ p5 (omega arith) five
      go Priority = fewer _ (preempt_rounds k (length p5.cores) p5) (omega (arith, s5)) (preempt_rounds-in k (length p5.cores) _ p5 s5 five)
