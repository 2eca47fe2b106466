-- Every thread that a move of a tick end or of a forced switch names is one that is there.
use Prim.Native.Nat.{ℕ, zero, suc, ◌<◌}
use mathlib.Core.Path.{◌≡◌, refl, subst}
use mathlib.Core.Bool.{Bool, true, false, cond, ◌||◌}
use mathlib.Core.Option.{Option, none, some}
use mathlib.Core.List.{List, [], ◌∷◌, ◌++◌}
use lib.Dec.{ltb}
use lib.ListN.{length}
use Rattle.model.specs.Invariants.{All, states_of, Each, Loose, OKAt, CoreOK, CoresOK, Placed, AllO}
use Rattle.model.specs.Types.{Policy, Off, Fifo, RoundRobin, Priority, CoreState, Idle, Switching, Running, LeaveReason, Preempt, Core, Move, leaves, ThreadState, Ready, ThreadRecord, State}
use Rattle.model.specs.Phases.{Rules, Turn, Pass, Phase, ascend, and_then, with_state, unmoved, most_urgent, pick_next, dispatched_state, dispatch_moves, dispatch, sliced, phase1, switched_in, is_due, phase2, cleared, leaves_for, holder, vacate, phase3, filled, phase4, hand_over, wants_hand_over, ceiling_of, unyielded, phase5, Victim, least_urgent, preempted, Preemption, preemption_of, next_preemption, preempt_rounds, phase6, phases1_to4, decide}
use Rattle.model.specs.Calls.{out_of}
use Rattle.model.proofs.PhaseLaws.{all-update, At}
use Rattle.model.proofs.Preempt.{urgent-in, Stands, IsRun, least_urgent-stands}
use Rattle.model.proofs.ThreadStates.{snoc-all, without_all, next-in, map-all}
use Rattle.model.proofs.Placement.{states_of-range}
use Rattle.record_moves.specs.Moves.{move_tid}

-- threads below N
abbrev pub In : ℕ → CoreState → Type 0
In N Idle = Unit {0}
In N (Switching t l) = t < N
In N (Running t s) = t < N

abbrev pub CoreIn : ℕ → Core → Type 0
CoreIn N c = In N c.state

abbrev pub QueueIn : ℕ → List ℕ → Type 0
QueueIn N q = All (λ (h : ℕ). h < N) q

abbrev pub MovesIn : ℕ → List Move → Type 0
MovesIn N [] = Unit {0}
MovesIn N (m ∷ ms) = (move_tid m < N) × MovesIn N ms

pub moves-append : (N : ℕ) (a b : List Move) → MovesIn N a → MovesIn N b → MovesIn N (a ++ b)
moves-append N [] b g h = h
moves-append N (m ∷ a) b g h = (g.0, moves-append N a b g.1 h)

record TurnIn (N : ℕ) (t : Turn) : Type 0 where
  core : CoreIn N t.core
  queue : QueueIn N t.queue
  moves : MovesIn N t.moves

pub record PassIn (N : ℕ) (p : Pass) : Type 0 where
  pub cores : All (CoreIn N) p.cores
  pub queue : QueueIn N p.queue
  pub moves : MovesIn N p.moves

---- one turn

in-dispatched_state : (N w t : ℕ) → t < N → In N (dispatched_state w t)
unfolding dispatched_state
in-dispatched_state N zero t h = h
in-dispatched_state N (suc w) t h = h

pub in-dispatch_moves : (N w t i : ℕ) → t < N → MovesIn N (dispatch_moves w t i)
unfolding dispatch_moves move_tid
in-dispatch_moves N zero t i h = (h, (h, tt))
in-dispatch_moves N (suc w) t i h = (h, tt)

pub in-out_of : (N i : ℕ) (c : CoreState) → In N c → MovesIn N (out_of i c)
unfolding out_of move_tid
in-out_of N i Idle h = tt
in-out_of N i (Switching t m) h = tt
in-out_of N i (Running t m) h = (h, tt)

module _ (N : ℕ) where
  abbrev TurnLaw : Phase → Type 0
  TurnLaw f = (i : ℕ) (c : Core) (q : List ℕ) → CoreIn N c → QueueIn N q → TurnIn N (f i c q)

  stays : (c : Core) (q : List ℕ) → CoreIn N c → QueueIn N q → TurnIn N (unmoved c q)
  stays c q h v = record { core = h; queue = v; moves = tt }

  in-1 : TurnLaw phase1
  unfolding phase1 sliced
  in-1 i c q h v = go c.state h
    where
      go : (s : CoreState) → In N s → TurnIn N (unmoved (with_state (sliced s) c) q)
      go Idle k = stays (with_state Idle c) q tt v
      go (Switching t m) k = stays (with_state (Switching t m) c) q k v
      go (Running t m) k = stays (with_state (Running t (suc m)) c) q k v

  in-2 : TurnLaw phase2
  unfolding phase2 switched_in move_tid
  in-2 i c q h v = go c.state (is_due c.state) h
    where
      go : (s : CoreState) (d : Bool) → In N s → TurnIn N (switched_in c s d q)
      go Idle d k = stays c q h v
      go (Running t m) d k = stays c q h v
      go (Switching t m) false k = record { core = k; queue = v; moves = tt }
      go (Switching t m) true k = record { core = k; queue = v; moves = (k, tt) }

  in-3 : TurnLaw phase3
  unfolding phase3 vacate move_tid
  in-3 i c q h v = go c.state (leaves_for c.exits c.blocks) h
    where
      go : (s : CoreState) (g : Option LeaveReason) → In N s → TurnIn N (vacate i c (holder s) g q)
      go Idle g k = stays (cleared Idle false c.progressed) q tt v
      go (Switching t m) none k = stays (cleared c.state c.yields c.progressed) q h v
      go (Switching t m) (some r) k = record { core = tt; queue = v; moves = (k, tt) }
      go (Running t m) none k = stays (cleared c.state c.yields c.progressed) q h v
      go (Running t m) (some r) k = record { core = tt; queue = v; moves = (k, tt) }

  in-4 : (k : Rules) → TurnLaw (phase4 k)
  unfolding phase4 filled
  in-4 k i c q h v = go c.state (pick_next k i none q) (next-in (λ (t : ℕ). t < N) k i none q v)
    where
      go : (s : CoreState) (o : Option ℕ) → AllO (λ (t : ℕ). t < N) o → TurnIn N (filled k i c s o q)
      go (Switching t m) o a = stays c q h v
      go (Running t m) o a = stays c q h v
      go Idle none a = stays c q h v
      go Idle (some t) a = record { core = in-dispatched_state N k.cost t a; queue = without_all _ t q v; moves = in-dispatch_moves N k.cost t i a }

  in-5 : (k : Rules) → TurnLaw (phase5 k)
  unfolding phase5 hand_over move_tid
  in-5 k i c q h v = go c.state (wants_hand_over k c c.state) (pick_next k i (ceiling_of k c.state) q) (cond c.yields _ _) h (next-in (λ (t : ℕ). t < N) k i (ceiling_of k c.state) q v)
    where
      go : (s : CoreState) (w : Bool) (o : Option ℕ) (r : LeaveReason) → In N s → AllO (λ (t : ℕ). t < N) o → TurnIn N (hand_over k i (unyielded c) s w o r q)
      go Idle w o r x a = stays (unyielded c) q h v
      go (Switching t m) w o r x a = stays (unyielded c) q h v
      go (Running t m) false o r x a = stays (unyielded c) q h v
      go (Running t m) true none r x a = stays (with_state (Running t 0) (unyielded c)) q x v
      go (Running t m) true (some u) r x a =
          record { core = in-dispatched_state N k.cost u a; queue = without_all _ u (q ++ (t ∷ [])) (snoc-all _ t q v x); moves = (x, in-dispatch_moves N k.cost u i a) }

  ---- whole phases

  ascend-in : (f : Phase) → TurnLaw f → (cs : List Core) (i : ℕ) (q : List ℕ) → All (CoreIn N) cs → QueueIn N q → PassIn N (ascend f i cs q)
  unfolding ascend
  ascend-in f law [] i q a v = record { cores = tt; queue = v; moves = tt }
  ascend-in f law (c ∷ cs) i q a v =
      let t = law i c q a.0 v in
      let r = ascend-in f law cs (suc i) (f i c q).queue a.1 t.queue in
      record { cores = (t.core, r.cores); queue = r.queue; moves = moves-append N (f i c q).moves (ascend f (suc i) cs (f i c q).queue).moves t.moves r.moves }

  and_then-in : (f : Phase) → TurnLaw f → (p : Pass) → PassIn N p → PassIn N (and_then p f)
  unfolding and_then
  and_then-in f law p h =
      let a = ascend f 0 p.cores p.queue in
      let r = ascend-in f law p.cores 0 p.queue h.cores h.queue in
      record { cores = r.cores; queue = r.queue; moves = moves-append N p.moves a.moves h.moves r.moves }

  ---- phase 6

  at_in : (t j : ℕ) (cs : List Core) → All (CoreIn N) cs → At (IsRun t) j cs → t < N
  unfolding IsRun
  at_in t j [] a h = absurd h
  at_in t zero (c ∷ cs) a h = subst (In N) h.1 a.0
  at_in t (suc j) (c ∷ cs) a h = at_in t j cs a.1 h

  preempted-in : (k : Rules) (r : LeaveReason) (v : Victim) (b : ℕ) (p : Pass) → v.tid < N → b < N → PassIn N p → PassIn N (preempted k r v b p)
  unfolding preempted move_tid
  preempted-in k r v b p ht hb h =
      let new = leaves v.tid v.core r ∷ dispatch_moves k.cost b v.core in
      record {
        cores = all-update {P = CoreIn N} (dispatch k.cost b) (λ c x. in-dispatched_state N k.cost b hb) v.core p.cores h.cores;
        queue = without_all _ b (p.queue ++ (v.tid ∷ [])) (snoc-all _ v.tid p.queue h.queue ht);
        moves = moves-append N p.moves new h.moves (ht, in-dispatch_moves N k.cost b v.core hb);
      }

  abbrev SwapIn : Preemption → Type 0
  SwapIn w = (w.victim.tid < N) × (w.best < N)

  swap-in : (k : Rules) (p : Pass) → All (CoreIn N) p.cores → QueueIn N p.queue → AllO SwapIn (next_preemption k p)
  unfolding next_preemption preemption_of Stands
  swap-in k p a v = two (most_urgent k.prio p.queue) (urgent-in k.prio (λ (t : ℕ). t < N) p.queue v) (least_urgent k.prio 0 p.cores) (least_urgent-stands k.prio 0 p.cores)
    where
      pick : (b : ℕ) (w : Victim) (u : Bool) → b < N → Stands 0 p.cores w → AllO SwapIn (cond u (some (record { victim = w; best = b })) none)
      pick b w true x y = (at_in w.tid y.0 p.cores a y.2, x)
      pick b w false x y = tt

      two : (o : Option ℕ) → AllO (λ (t : ℕ). t < N) o → (w : Option Victim) → AllO (Stands 0 p.cores) w → AllO SwapIn (preemption_of k.prio o w)
      two none x w y = tt
      two (some b) x none y = tt
      two (some b) x (some w) y = pick b w (ltb (k.prio b) (k.prio w.tid)) x y

  preempt_rounds-in : (k : Rules) (f : ℕ) (p : Pass) → PassIn N p → PassIn N (preempt_rounds k f p)
  unfolding preempt_rounds
  preempt_rounds-in k zero p h = h
  preempt_rounds-in k (suc f) p h = go (next_preemption k p) (swap-in k p h.cores h.queue) (λ q x. preempt_rounds-in k f q x)
    where
      go : (o : Option Preemption) → AllO SwapIn o → ((q : Pass) → PassIn N q → PassIn N (preempt_rounds k f q))
          → PassIn N (elim o [ none ↦ p | some w ↦ preempt_rounds k f (preempted k Preempt w.victim w.best p) ])
      go none i ih = h
      go (some w) i ih = ih (preempted k Preempt w.victim w.best p) (preempted-in k Preempt w.victim w.best p i.0 i.1 h)

  ---- the tick's end

  pub decide-in : (k : Rules) (cs : List Core) (q : List ℕ) → All (CoreIn N) cs → QueueIn N q → PassIn N (decide k cs q)
  unfolding decide phases1_to4 phase6
  decide-in k cs q a v = go k.policy
    where
      p5 : Pass
      p5 = and_then (and_then (and_then (and_then (ascend phase1 0 cs q) phase2) phase3) (phase4 k)) (phase5 k)

      five : PassIn N p5
      five = and_then-in (phase5 k) (in-5 k) _ (and_then-in (phase4 k) (in-4 k) _ (and_then-in phase3 in-3 _ (and_then-in phase2 in-2 _ (ascend-in phase1 in-1 cs 0 q a v))))

      go : (o : Policy) → PassIn N (phase6 o k p5)
      go Off = five
      go Fifo = five
      go RoundRobin = five
      go Priority = preempt_rounds-in k (length p5.cores) p5 five

---- in a state that is open, cores and queue name threads that are there

module _ (ts : List ThreadRecord) where
  loose-in : (t : ℕ) → Loose (states_of ts t) → t < length ts
  loose-in t h = go (states_of ts t) refl h
    where
      go : (o : Option ThreadState) → states_of ts t ≡ o → Loose o → t < length ts
      go none e k = absurd k
      go (some l) e k = states_of-range ts t l e

  core-in : (i : ℕ) (s : CoreState) (g : Bool) → OKAt (states_of ts) i s g → In (length ts) s
  core-in i Idle g h = tt
  core-in i (Switching t l) false h = states_of-range ts t _ h
  core-in i (Switching t l) true h = loose-in t h
  core-in i (Running t s) false h = states_of-range ts t _ h
  core-in i (Running t s) true h = loose-in t h

  cores-in : (i : ℕ) (cs : List Core) → Each (CoreOK (states_of ts)) i cs → All (CoreIn (length ts)) cs
  cores-in i [] h = tt
  cores-in i (c ∷ cs) h = (core-in i c.state (c.exits || c.blocks) h.0, cores-in (suc i) cs h.1)

pub placed-cores : (s : State) → Placed s → s.closed ≡ false → All (CoreIn (length s.accounts.threads)) s.cores
unfolding CoresOK
placed-cores s p e = cores-in s.accounts.threads 0 s.cores (p.cores e)

pub placed-queue : (s : State) → Placed s → QueueIn (length s.accounts.threads) s.queue
placed-queue s p = map-all _ (λ (h : ℕ). h < length s.accounts.threads) s.queue (λ h e r. states_of-range s.accounts.threads h Ready r) p.queue.ready
