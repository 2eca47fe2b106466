-- What a core's turn is in each case that the code tells apart.
-- Assumes nothing.
use Prim.Native.Nat.{ℕ, zero, suc, ◌-◌, ◌≤◌, ◌<◌}
use mathlib.Core.Path.{◌≡◌, refl, sym, ap, ◌∙◌}
use mathlib.Core.Bool.{Bool, true, false, cond, ◌&&◌, ◌||◌}
use mathlib.Core.Option.{Option, none, some}
use mathlib.Core.List.{List, [], ◌∷◌, ◌++◌, append-nil}
use native.Mathlib.Numerals.{sub-one}
use borrow.Author.Tests.{le-leb, lt-leb}
use lib.Dec.{leb}
use lib.ListN.{length, get_or, set}
use lib.Seq.{get_or-set_other}
use Rattle.model.specs.Types.{Policy, Off, Fifo, RoundRobin, Priority, CoreState, Idle, Switching, Running, LeaveReason, Yield, Quantum, Core, Move, starts, leaves}
use Rattle.model.specs.Phases.{Rules, Turn, unmoved, dispatch, dispatched_state, dispatch_moves, without, choose, pick_next, ceiling_for, filled, phase4, hand_over, sliced, phase1, phase2, switched_in, vacate, cleared, holder, leaves_for, phase3, unyielded, wants_hand_over, quantum_over, quantum_of, is_preemptive, ceiling_of, phase5}
use Rattle.model.specs.Calls.{is_idle, is_running, is_switching}
use Rattle.model.specs.Reading.{core_state_meant}
use Rattle.model.specs.declared.CoreState as Program
use Rattle.model.specs.declared.Tid.{Tid}
use mathlib.Core.Logic.{◌⊎◌, inl, inr}
use Rattle.model.specs.declared.CoreState.TheVariants
use Rattle.queue.specs.Ready.{remove_at, Picked}
use Rattle.queue.proofs.Scan.{behind, there}
use Rattle.dispatch.specs.Swaps.{Swapped, goes_back}
use Rattle.turns.specs.Turns.{core_of, Turned, Besides, has_turn}

---- marks

get_d-false : (l : List Bool) (i : ℕ) → get_or (set l i false) i false ≡ false
get_d-false [] i = refl
get_d-false (b ∷ l) zero = refl
get_d-false (b ∷ l) (suc i) = get_d-false l i

-- a mark that is cleared, and the others beside it
pub mark-cleared : (l : List Bool) (i : ℕ) {l' : List Bool} → l' ≡ set l i false → get_or l' i false ≡ false
mark-cleared l i e = rw e (get_d-false l i)

pub besides : (l : List Bool) (i : ℕ) {l' : List Bool} → l' ≡ set l i false → Besides i l l'
besides l i e j n = rw e (get_or-set_other l i j false false n)

pub besides-same : (l : List Bool) (i : ℕ) → Besides i l l
besides-same l i j n = refl

-- a turn that moves nobody
pub stays : {t : Turn} {c : Core} {q : List ℕ} (m : List Move) → t ≡ unmoved c q → Turned t c q m m
stays m e = rw e (record { core = refl; queue = refl; moves = sym (append-nil m) })

-- a core that has taken thread h
pub took :
    (cost h i : ℕ) (c : Core) (pr : List Bool) (r : Program.CoreState) (pr' : List Bool) → core_state_meant r ≡ dispatched_state cost h → pr' ≡ set pr i false
    → core_of r c.exits c.blocks c.yields (get_or pr' i false) ≡ dispatch cost h c
took cost h i c pr r pr' er ep = λ k. record { state = er k; exits = c.exits; blocks = c.blocks; yields = c.yields; progressed = mark-cleared pr i ep k }

---- phases 1 and 2

-- a core by its five parts
abbrev core : CoreState → (e b y p : Bool) → Core
core x e b y p = record { state = x; exits = e; blocks = b; yields = y; progressed = p }

pub phase1-turn : (i : ℕ) (x x' : CoreState) (e b y p : Bool) (q : List ℕ) (m : List Move) → x' ≡ sliced x → Turned (phase1 i (core x e b y p) q) (core x' e b y p) q m m
unfolding phase1
phase1-turn i x x' e b y p q m z = record { core = λ k. core (z k) e b y p; queue = refl; moves = sym (append-nil m) }

module _ (i : ℕ) (x : CoreState) (t l : ℕ) (z : x ≡ Switching t l) (e b y p : Bool) (q : List ℕ) (m : List Move) where
  pub phase2-due : l ≤ 1 → (m' : List Move) → m' ≡ m ++ (starts t ∷ []) → Turned (phase2 i (core x e b y p) q) (core (Running t 0) e b y p) q m m'
  unfolding phase2 switched_in
  phase2-due h m' em = rw (z, le-leb l 1 h) (record { core = refl; queue = refl; moves = em })

  pub phase2-less : 1 < l → Turned (phase2 i (core x e b y p) q) (core (Switching t (l - 1)) e b y p) q m m
  unfolding phase2 switched_in
  phase2-less h = rw (z, lt-leb l 1 h) (record { core = ap (λ (n : ℕ). core (Switching t n) e b y p) (sub-one l); queue = refl; moves = sym (append-nil m) })

---- phase 3

pub vacate-leaves :
    (i t : ℕ) (c : Core) (g : Option LeaveReason) (r : LeaveReason) (q q' : List ℕ) (m m' : List Move) (yi yi' : List Bool) (s : Program.CoreState)
    → g ≡ some r → s ≡ TheVariants.Idle → yi' ≡ set yi i false → q' ≡ q ++ [] → m' ≡ m ++ (leaves t i r ∷ [])
    → Turned (vacate i c (some t) g q) (cleared (core_state_meant s) (get_or yi' i false) c.progressed) q' m m'
unfolding vacate
vacate-leaves i t c g r q q' m m' yi yi' s eg es ey eq em =
    rw eg (record { core = λ k. cleared (core_state_meant (es k)) (mark-cleared yi i ey k) c.progressed; queue = eq ∙ append-nil q; moves = em })

pub vacate-stays : (i t : ℕ) (c : Core) (g : Option LeaveReason) (q : List ℕ) (m : List Move) → g ≡ none → Turned (vacate i c (some t) g q) (cleared c.state c.yields c.progressed) q m m
unfolding vacate
vacate-stays i t c g q m e = stays m (rw e)

empty : (x : CoreState) → holder x ≡ none → x ≡ Idle
empty Idle e = refl
empty (Switching t l) e = cc
empty (Running t l) e = cc

module _ (i : ℕ) (s : Program.CoreState) (ex ex' bl bl' : List Bool) (y p : Bool) (q : List ℕ) (m : List Move) (ee : ex' ≡ set ex i false) (eb : bl' ≡ set bl i false) where
  pub phase3-empty :
      holder (core_state_meant s) ≡ none → (yi yi' : List Bool) → yi' ≡ set yi i false
      → Turned (phase3 i (core_of s (get_or ex i false) (get_or bl i false) y p) q) (core_of s (get_or ex' i false) (get_or bl' i false) (get_or yi' i false) p) q m m
  unfolding phase3 vacate
  phase3-empty x yi yi' ey =
      rw x (record { core = λ k. record { state = empty (core_state_meant s) x k; exits = mark-cleared ex i ee k; blocks = mark-cleared bl i eb k; yields = mark-cleared yi i ey k; progressed = p }; queue = refl; moves = sym (append-nil m) })

  pub phase3-held :
      (t : ℕ) → holder (core_state_meant s) ≡ some t → (r : Program.CoreState) (y' : Bool) (q' : List ℕ) (m' : List Move)
      → Turned (vacate i (core_of s (get_or ex i false) (get_or bl i false) y p) (some t) (leaves_for (get_or ex i false) (get_or bl i false)) q) (core_of r false false y' p) q' m m'
      → Turned (phase3 i (core_of s (get_or ex i false) (get_or bl i false) y p) q) (core_of r (get_or ex' i false) (get_or bl' i false) y' p) q' m m'
  unfolding phase3
  phase3-held t x r y' q' m' d =
      rw x (record { core = (λ k. core (core_state_meant r) (mark-cleared ex i ee k) (mark-cleared bl i eb k) y' p) ∙ d.core; queue = d.queue; moves = d.moves })

---- phase 4

module _ (k : Rules) (i : ℕ) (c : Core) (q : List ℕ) (m : List Move) where
  pub phase4-nobody : c.state ≡ Idle → (at : ℕ) → Picked (choose k.policy k.prio none q) q at → length q ≤ at → Turned (phase4 k i c q) c q m m
  unfolding phase4 filled pick_next
  phase4-nobody e at p l = stays m (rw (e, p.next, behind q at l))

  pub phase4-some :
      c.state ≡ Idle → (at : ℕ) → Picked (choose k.policy k.prio none q) q at → at < length q
      → (h : ℕ) → h ≡ get_or q at 0 → (pr pr' : List Bool) (r : Program.CoreState) (q' : List ℕ) (m' : List Move)
      → q' ≡ remove_at at q → core_state_meant r ≡ dispatched_state k.cost h → pr' ≡ set pr i false → m' ≡ m ++ dispatch_moves k.cost h i
      → Turned (phase4 k i c q) (core_of r c.exits c.blocks c.yields (get_or pr' i false)) q' m m'
  unfolding phase4 filled pick_next
  phase4-some e at p l h eh pr pr' r q' m' eq er ep em =
      let w : without h q ≡ remove_at at q = rw eh (rw (append-nil q, append-nil (remove_at at q)) at (p.first l [])) in
      rw (e, p.next, there q at l, ← eh) (record { core = took k.cost h i c pr r pr' er ep; queue = eq ∙ sym w; moves = em })

---- phase 5

pub ceiling-any : (p : Policy) (pr : ℕ → ℕ) (n : ℕ) (q : List ℕ) → choose p pr (ceiling_for p n) q ≡ choose p pr (some n) q
unfolding choose
ceiling-any Off pr n q = refl
ceiling-any Fifo pr n q = refl
ceiling-any RoundRobin pr n q = refl
ceiling-any Priority pr n q = refl

module _ (k : Rules) (i t sl : ℕ) (c : Core) (r : LeaveReason) (q : List ℕ) (m : List Move) where
  abbrev hands : Turn
  hands = hand_over k i c (Running t sl) true (pick_next k i (ceiling_for k.policy (k.prio t)) q) r q

  pub hand-over-nobody :
      (at : ℕ) → Picked (choose k.policy k.prio (some (k.prio t)) q) q at → length q ≤ at
      → (c' : Core) → c' ≡ record { state = Running t 0; exits = c.exits; blocks = c.blocks; yields = c.yields; progressed = c.progressed } → Turned hands c' q m m
  unfolding hand_over pick_next
  hand-over-nobody at p l c' e = rw (e, ceiling-any k.policy k.prio (k.prio t) q, p.next, behind q at l) (record { core = refl; queue = refl; moves = sym (append-nil m) })

  pub hand-over-some :
      (at : ℕ) → Picked (choose k.policy k.prio (some (k.prio t)) q) q at → at < length q → (r'' : LeaveReason) → r'' ≡ r
      → (pr pr' : List Bool) (r' : Program.CoreState) (q' : List ℕ) (m' : List Move) → Swapped t r'' i at k.cost pr pr' q q' m m' (core_state_meant r')
      → Turned hands (core_of r' c.exits c.blocks c.yields (get_or pr' i false)) q' m m'
  unfolding hand_over pick_next
  hand-over-some at p l r'' ec pr pr' r' q' m' w =
      rw (ceiling-any k.policy k.prio (k.prio t) q, p.next, there q at l)
      (record {
        core = took k.cost (get_or q at 0) i c pr r' pr' w.state w.mark;
        queue = w.queue ∙ sym (p.first l (t ∷ []));
        moves = w.moves ∙ ap (λ (x : LeaveReason). m ++ (leaves t i x ∷ dispatch_moves k.cost (get_or q at 0) i)) ec;
      })

module _ (k : Rules) (i : ℕ) (s : Program.CoreState) (e b : Bool) (yi yi' : List Bool) (ey : yi' ≡ set yi i false) (p : Bool) (q : List ℕ) (m : List Move) where
  abbrev before : Core
  before = core_of s e b (get_or yi i false) p

  pub phase5-still :
      hand_over k i (unyielded before) (core_state_meant s) (wants_hand_over k before (core_state_meant s)) (pick_next k i (ceiling_of k (core_state_meant s)) q) (cond (get_or yi i false) Yield Quantum) q ≡ unmoved (unyielded before) q
      → Turned (phase5 k i before q) (core_of s e b (get_or yi' i false) p) q m m
  unfolding phase5
  phase5-still x = rw x (record { core = λ j. core_of s e b (mark-cleared yi i ey j) p; queue = refl; moves = sym (append-nil m) })

  module _ (t sl : ℕ) (x : core_state_meant s ≡ Running t sl) (w : Bool) (ew : w ≡ (get_or yi i false || (is_preemptive k.policy && (leb k.quantum sl && p)))) where
    pub phase5-not : w ≡ false → Turned (phase5 k i before q) (core (Running t sl) e b (get_or yi' i false) p) q m m
    unfolding hand_over quantum_over quantum_of
    phase5-not f =
        let h = phase5-still (rw (x, ← ew, f)) in
        record { core = sym (λ j. core (x j) e b (get_or yi' i false) p) ∙ h.core; queue = h.queue; moves = h.moves }

    pub phase5-goes :
        w ≡ true → (r : Program.CoreState) (p' : Bool) (q' : List ℕ) (m' : List Move)
        → Turned (hand_over k i (core_of s e b false p) (Running t sl) true (pick_next k i (ceiling_for k.policy (k.prio t)) q) (cond (get_or yi i false) Yield Quantum) q) (core_of r e b false p') q' m m'
        → Turned (phase5 k i before q) (core_of r e b (get_or yi' i false) p') q' m m'
    unfolding phase5 quantum_over quantum_of
    phase5-goes f r p' q' m' h = rw (x, ← ew, f) (record { core = (λ j. core_of r e b (mark-cleared yi i ey j) p') ∙ (rw x at h.core); queue = rw x at h.queue; moves = rw x at h.moves })

---- a core in one of two states

abbrev OfTid : (Tid → ℕ → Program.CoreState) → Program.CoreState → Type 0
OfTid f s = (t : Tid) × (n : ℕ) × (s ≡ f t n)

pub idle_or_running : (s : Program.CoreState) → (s ≡ TheVariants.Idle) ⊎ OfTid TheVariants.Running s → is_switching (core_state_meant s) ≡ false
idle_or_running s (inl e) = rw e
idle_or_running s (inr (t, n, e)) = rw e

pub switching_or_running : (s : Program.CoreState) → OfTid TheVariants.Switching s ⊎ OfTid TheVariants.Running s → is_idle (core_state_meant s) ≡ false
switching_or_running s (inl (t, n, e)) = rw e
switching_or_running s (inr (t, n, e)) = rw e

pub idle_or_switching : (s : Program.CoreState) → (s ≡ TheVariants.Idle) ⊎ OfTid TheVariants.Switching s → is_running (core_state_meant s) ≡ false
idle_or_switching s (inl e) = rw e
idle_or_switching s (inr (t, n, e)) = rw e

---- turns that change nothing

pub sliced-pass : (x : CoreState) → is_running x ≡ false → sliced x ≡ x
unfolding sliced
sliced-pass Idle h = refl
sliced-pass (Switching t l) h = refl
sliced-pass (Running t s) h = cc

pub hand-over-pass : (k : Rules) (i : ℕ) (c : Core) (x : CoreState) (w : Bool) (next : Option ℕ) (r : LeaveReason) (q : List ℕ) → is_running x ≡ false → hand_over k i c x w next r q ≡ unmoved c q
unfolding hand_over
hand-over-pass k i c Idle w next r q h = refl
hand-over-pass k i c (Switching t l) w next r q h = refl
hand-over-pass k i c (Running t s) w next r q h = cc

pub has_turn-pass : (x : CoreState) (y : Bool) (p : Policy) (u : ℕ) (g : Bool) → is_running x ≡ false → has_turn x y p u g ≡ y
has_turn-pass Idle y p u g h = refl
has_turn-pass (Switching t l) y p u g h = refl
has_turn-pass (Running t s) y p u g h = cc

pub phase2-pass : (i : ℕ) (x : CoreState) (e b y p : Bool) (q : List ℕ) → is_switching x ≡ false → phase2 i (core x e b y p) q ≡ unmoved (core x e b y p) q
unfolding phase2 switched_in
phase2-pass i Idle e b y p q h = refl
phase2-pass i (Switching t l) e b y p q h = cc
phase2-pass i (Running t s) e b y p q h = refl

pub phase3-pass : (i : ℕ) (x : CoreState) (e b y p : Bool) (q : List ℕ) → (e || (b || y)) ≡ false → phase3 i (core x e b y p) q ≡ unmoved (core x e b y p) q
unfolding phase3 vacate
phase3-pass i x true b y p q h = cc
phase3-pass i x false true y p q h = cc
phase3-pass i x false false true p q h = cc
phase3-pass i Idle false false false p q h = refl
phase3-pass i (Switching t l) false false false p q h = refl
phase3-pass i (Running t s) false false false p q h = refl

pub phase4-pass : (k : Rules) (i : ℕ) (x : CoreState) (e b y p : Bool) (q : List ℕ) → is_idle x ≡ false → phase4 k i (core x e b y p) q ≡ unmoved (core x e b y p) q
unfolding phase4 filled
phase4-pass k i Idle e b y p q h = cc
phase4-pass k i (Switching t l) e b y p q h = refl
phase4-pass k i (Running t s) e b y p q h = refl

pub phase5-pass : (k : Rules) (i : ℕ) (x : CoreState) (e b y p : Bool) (q : List ℕ) → has_turn x y k.policy k.quantum p ≡ false → phase5 k i (core x e b y p) q ≡ unmoved (core x e b y p) q
unfolding phase5 hand_over quantum_over quantum_of
phase5-pass k i Idle e b y p q h = rw h
phase5-pass k i (Switching t l) e b y p q h = rw h
phase5-pass k i (Running t s) e b true p q h = cc
phase5-pass k i (Running t s) e b false p q h = rw h

-- a hand-over's thread goes back
pub hand-over-back : (y : Bool) → goes_back (cond y Yield Quantum) ≡ true
hand-over-back true = refl
hand-over-back false = refl
