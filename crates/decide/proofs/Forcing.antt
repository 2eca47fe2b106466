-- A forced switch: the core, the queue and the moves.
-- Assumes nothing.
use Prim.Native.Nat.{ℕ, ◌<◌}
use mathlib.Core.Path.{◌≡◌, refl, sym, ap, ◌∙◌}
use mathlib.Core.Bool.{Bool, false}
use mathlib.Core.Option.{Option}
use mathlib.Core.List.{List, [], ◌∷◌, ◌++◌, append-nil}
use lib.ListN.{length, get_or, set}
use lib.Seq.{get_or-set_same, get_or-set_other}
use Rattle.model.specs.Types.{CoreState, Idle, Running, Forced, Core, Move, leaves}
use Rattle.model.specs.Phases.{update, without, dispatched_state}
use Rattle.model.specs.Calls.{out_of, back_of, forced_core}
use Rattle.model.specs.Reading.{core_state_meant}
use Rattle.model.specs.declared.CoreState as Program
use Rattle.model.specs.declared.CoreState.TheVariants
use Rattle.queue.specs.Ready.{Picked, remove_at}
use Rattle.turns.specs.Turns.{core_of}
use Rattle.turns.proofs.Steps.{mark-cleared, besides}
use Rattle.phases.specs.Cores.{firsts, core_at}
use Rattle.preempt.proofs.Rounds.{firsts-update}

-- the queue and the moves of an idle core, and of one that runs thread t
pub idle-queue : (x : CoreState) (q q' : List ℕ) → x ≡ Idle → q' ≡ q → q' ≡ q ++ back_of x
unfolding back_of
idle-queue x q q' e eq = rw e (eq ∙ sym (append-nil q))

pub idle-moves : (x : CoreState) (i : ℕ) (l m m' : List Move) → x ≡ Idle → m' ≡ m ++ l → m' ≡ m ++ (out_of i x ++ l)
unfolding out_of
idle-moves x i l m m' e em = rw e em

pub running-queue : (x : CoreState) (t s : ℕ) (q q' : List ℕ) → x ≡ Running t s → q' ≡ q ++ (t ∷ []) → q' ≡ q ++ back_of x
unfolding back_of
running-queue x t s q q' e eq = rw e eq

pub running-moves : (x : CoreState) (t s i : ℕ) (l m m' : List Move) → x ≡ Running t s → m' ≡ m ++ (leaves t i Forced ∷ l) → m' ≡ m ++ (out_of i x ++ l)
unfolding out_of
running-moves x t s i l m m' e em = rw e em

module _
    (cs : List Program.CoreState) (ex bl yi pr pr' : List Bool) (i cost t : ℕ) (r : Program.CoreState) (h : i < length cs)
    (er : core_state_meant r ≡ dispatched_state cost t) (ep : pr' ≡ set pr i false)
  where
    abbrev old : ℕ → Core
    old = core_at cs ex bl yi pr

    abbrev new : ℕ → Core
    new = core_at (set cs i r) (set ex i false) (set bl i false) (set yi i false) pr'

    here : new i ≡ forced_core cost t (old i)
    unfolding core_at
    here =
        λ k. record {
          state = (ap core_state_meant (get_or-set_same cs i r TheVariants.Idle h) ∙ er) k;
          exits = mark-cleared ex i {l' = set ex i false} refl k;
          blocks = mark-cleared bl i {l' = set bl i false} refl k;
          yields = mark-cleared yi i {l' = set yi i false} refl k;
          progressed = mark-cleared pr i ep k;
        }

    pub forced-others : (j : ℕ) → (j ≡ i → ⊥) → new j ≡ old j
    unfolding core_at
    forced-others j d =
        λ k. core_of (get_or-set_other cs i j r TheVariants.Idle d k) (get_or-set_other ex i j false false d k) (get_or-set_other bl i j false false d k) (get_or-set_other yi i j false false d k) (besides pr i ep j d k)

    pub forced-cores : (n : ℕ) → i < n → firsts new n ≡ update i (forced_core cost t) (firsts old n)
    forced-cores n l = firsts-update (forced_core cost t) old new i n l here forced-others

-- the thread that is taken stands nowhere before its place
pub forced-queue : (who : Option ℕ) (q s q' : List ℕ) (at : ℕ) → at < length q → Picked who q at → q' ≡ remove_at at q ++ s → q' ≡ without (get_or q at 0) (q ++ s)
forced-queue who q s q' at l p e = e ∙ sym (p.first l s)
