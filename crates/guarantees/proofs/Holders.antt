-- For every run from an accepted `new`, under every policy: a thread is on at most one core, and whoever is on a core has a record.
use Prim.Native.Nat.{ℕ, zero, suc, pred, ◌+◌, ◌≤◌, ◌<◌}
use mathlib.Core.Path.{◌≡◌, refl, sym, ap, ◌∙◌, subst}
use mathlib.Core.Bool.{Bool, true, false, cond, ◌||◌}
use mathlib.Core.Option.{Option, none, some}
use mathlib.Core.List.{List, [], ◌∷◌, map}
use native.Mathlib.Omega.{arith}
use lib.ListN.{length, get_elem?, replicate}
use Rattle.model.specs.Invariants.{States, states_of, Each, OKAt, CoreOK, CoresOK, Loose, Placed}
use Rattle.model.specs.Types.{Policy, CoreState, Idle, Switching, Running, Core, ThreadState, Ready, Exited, OnCore, Blocked, State}
use Rattle.model.specs.Phases.{update, holder, with_state, sliced, decide, cleared}
use Rattle.model.specs.Accounting.{charge_threads}
use Rattle.model.specs.Calls.{Call, spawn, exit, join, retired, yield, priority, timing, force, tick, close, JoinOutcome, Wait, Done, Invalid, accept, stepped, refusal, step, run, rules, check, is_idle, core_at, core_state_of, tid_of, tid_on, leaving, any_leaving, thread_state_of, idle_core, exited, blocking, outcome, mark_exit, mark_block, mark_yield, mark_progress, unmarked, sliced_all, forced_core, taken_by, Made, made, unmade, new, made_of, refused_new, initial_state}
use Rattle.model.proofs.PhaseLaws.{not-both}
use Rattle.model.proofs.Refusals.{check-none, check-rest}
use Rattle.model.proofs.ThreadStates.{HeldCores, decide-held, after}
use Rattle.model.proofs.Placement.{placed-accept, placed-new, placed-force, held_on, any_none, held-ok, states_of-range}

abbrev pub held_by : List Core → ℕ → Option ℕ
held_by cs i = holder (core_at cs i).state

-- no thread is on two cores
abbrev pub Single : List Core → Type 0
Single cs = (i j t : ℕ) → held_by cs i ≡ some t → held_by cs j ≡ some t → i ≡ j

busy : (s : CoreState) (t : ℕ) → holder s ≡ some t → is_idle s ≡ false
busy Idle t e = cc
busy (Switching u l) t e = refl
busy (Running u l) t e = refl

-- where nobody left, each core's thread says which core it is on
single-unmarked : (L : States) (cs : List Core) → Each (CoreOK L) 0 cs → ((i : ℕ) → leaving (core_at cs i) ≡ false) → Single cs
unfolding tid_of
single-unmarked L cs a g i j t ei ej = same (at i ei) (at j ej)
  where
    at : (n : ℕ) → held_by cs n ≡ some t → L t ≡ some (OnCore n)
    at n e = subst (λ (o : Option ℕ). L (tid_of o) ≡ some (OnCore n)) e (held_on L n 0 n cs (omega arith) a (g n) (busy (core_at cs n).state t e))

    same : L t ≡ some (OnCore i) → L t ≡ some (OnCore j) → i ≡ j
    same p q = cc

unmarked-held : (L : States) (i : ℕ) (cs : List Core) → HeldCores L i cs → (n : ℕ) → leaving (core_at cs n) ≡ false
unfolding core_at leaving
unmarked-held L i [] h n = refl
unmarked-held L i (c ∷ cs) h zero = rw (h.0.no_exit, h.0.no_block)
unmarked-held L i (c ∷ cs) h (suc n) = unmarked-held L (suc i) cs h.1 n

unmarked-update : (f : Core → Core) → ((c : Core) → leaving (f c) ≡ false) → (m : ℕ) (cs : List Core) → ((n : ℕ) → leaving (core_at cs n) ≡ false) → (n : ℕ) → leaving (core_at (update m f cs) n) ≡ false
unfolding core_at update
unmarked-update f h m [] g n = g n
unmarked-update f h zero (c ∷ cs) g zero = h c
unmarked-update f h zero (c ∷ cs) g (suc n) = g (suc n)
unmarked-update f h (suc m) (c ∷ cs) g zero = g 0
unmarked-update f h (suc m) (c ∷ cs) g (suc n) = unmarked-update f h m cs (λ k. g (suc k)) n

---- calls that leave every core its thread

single-same : (cs ds : List Core) → ((n : ℕ) → held_by ds n ≡ held_by cs n) → Single cs → Single ds
single-same cs ds h v i j t ei ej = v i j t (sym (h i) ∙ ei) (sym (h j) ∙ ej)

pub marked-held : (f : Core → Core) → ((c : Core) → (f c).state ≡ c.state) → (m : ℕ) (cs : List Core) (n : ℕ) → held_by (update m f cs) n ≡ held_by cs n
unfolding core_at update
marked-held f h m [] n = refl
marked-held f h zero (c ∷ cs) zero = ap holder (h c)
marked-held f h zero (c ∷ cs) (suc n) = refl
marked-held f h (suc m) (c ∷ cs) zero = refl
marked-held f h (suc m) (c ∷ cs) (suc n) = marked-held f h m cs n

closed-held : (cs : List Core) (n : ℕ) → held_by (map unmarked (sliced_all cs)) n ≡ held_by cs n
unfolding core_at sliced_all sliced
closed-held [] n = refl
closed-held (c ∷ cs) zero = go c.state
  where
    go : (s : CoreState) → holder (sliced s) ≡ holder s
    go Idle = refl
    go (Switching t l) = refl
    go (Running t l) = refl
closed-held (c ∷ cs) (suc n) = closed-held cs n

single-join : (s : State) (i t : ℕ) (o : JoinOutcome) → Single s.cores → Single (blocking s i t o).cores
unfolding blocking
single-join s i t Done v = v
single-join s i t Invalid v = v
single-join s i t Wait v = single-same s.cores _ (marked-held mark_block (λ c. refl) i s.cores) v

---- the others clear the marks, or find none

single-force : (s : State) (i : ℕ) (n : Option ℕ) → refusal s (force i n) ≡ none → Placed s → Single (accept s (force i n)).state.cores
unfolding refusal accept CoresOK leaving
single-force s i n r v =
    let r4 = check-rest 4 _ _ r in
    let r11 = check-rest 11 _ _ r4 in
    single-unmarked _ _ ((placed-force s i n r v).cores (check-none 11 _ _ r4)) (unmarked-update (forced_core s.config.cost (taken_by s i n)) (λ c. refl) i s.cores (λ m. any_none s.cores m (check-none 12 _ _ r11)))

single-tick : (s : State) → refusal s tick ≡ none → Placed s → Single (accept s tick).state.cores
unfolding refusal accept CoresOK
single-tick s r v =
    let h = decide-held (states_of s.accounts.threads) (rules s) s.cores s.queue (v.cores (check-none 11 _ _ r)) v.queue in
    let p = decide (rules s) s.cores s.queue in
    let M = after p.moves (states_of s.accounts.threads) in
    single-unmarked M p.cores (held-ok M 0 p.cores h.cores) (unmarked-held M 0 p.cores h.cores)

pub single-accept : (s : State) (c : Call) → refusal s c ≡ none → Placed s → Single s.cores → Single (accept s c).state.cores
unfolding accept exited
single-accept s (spawn p e) r v h = h
single-accept s (exit i) r v h = single-same s.cores _ (marked-held mark_exit (λ c. refl) i s.cores) h
single-accept s (join i t) r v h = single-join s i t (outcome (tid_on s i) t (thread_state_of (get_elem? s.accounts.threads t))) h
single-accept s (retired i) r v h = single-same s.cores _ (marked-held mark_progress (λ c. refl) i s.cores) h
single-accept s (yield i) r v h = single-same s.cores _ (marked-held mark_yield (λ c. refl) i s.cores) h
single-accept s (priority t n) r v h = h
single-accept s (timing q w) r v h = h
single-accept s (force i n) r v h = single-force s i n r v
single-accept s tick r v h = single-tick s r v
single-accept s (close i) r v h = single-same s.cores _ (λ n. closed-held (update i mark_exit s.cores) n ∙ marked-held mark_exit (λ c. refl) i s.cores n) h

---- every run

-- what a run keeps: the queue and the cores agree with the records, and nobody is on two cores
pub record Held (s : State) : Type 0 where
  pub placed : Placed s
  pub single : Single s.cores

pub held-stepped : (s : State) (c : Call) (r : Option ℕ) → refusal s c ≡ r → Held s → Held (stepped s c r).state
unfolding stepped
held-stepped s c (some n) e v = v
held-stepped s c none e v = record { placed = placed-accept s c e v.placed; single = single-accept s c e v.placed v.single }

pub held-run : (cs : List Call) (s : State) → Held s → Held (run s cs)
unfolding run step
held-run [] s v = v
held-run (c ∷ cs) s v = held-run cs (step s c).state (held-stepped s c (refusal s c) refl v)

idle-none : (n i t : ℕ) → held_by (replicate n idle_core) i ≡ some t → ⊥
unfolding core_at
idle-none zero i t e = let z : ◌≡◌ {A = ℕ} 0 1 = cc in omega arith
idle-none (suc n) zero t e = let z : ◌≡◌ {A = ℕ} 0 1 = cc in omega arith
idle-none (suc n) (suc i) t e = idle-none n i t e

pub held_new : (p : Policy) (q w n t e c entry : ℕ) (s : State) → new p q w n t e c entry ≡ made s → Held s
unfolding new made_of initial_state core_at
held_new p q w n t e c entry s h = record { placed = placed-new p q w n t e c entry s h; single = go (refused_new q w n t e c) h }
  where
    s0 : State
    s0 = initial_state (pred n) entry (record { policy = p; quantum = q; cost = w; cap_t = t; cap_e = e; cap_s = c })

    state_of : Made → State
    state_of (made x) = x
    state_of (unmade m) = s

    alone : Single s0.cores
    alone zero zero u ei ej = refl
    alone zero (suc j) u ei ej = absurd (idle-none (pred n) j u ej)
    alone (suc i) j u ei ej = absurd (idle-none (pred n) i u ei)

    go : (r : Option ℕ) → made_of r s0 ≡ made s → Single s.cores
    go none k = subst (λ (x : State). Single x.cores) (ap state_of k) alone
    go (some m) k = absurd (let z : ◌≡◌ {A = ℕ} 0 1 = cc in omega arith)

---- whoever is on a core has a record

loose-range : (L : Option ThreadState) → Loose L → (l : ThreadState) × (L ≡ some l)
loose-range none h = absurd h
loose-range (some l) h = (l, refl)

known_on : (L : States) (i : ℕ) (cs : List Core) → Each (CoreOK L) i cs → (n t : ℕ) → held_by cs n ≡ some t → (l : ThreadState) × (L t ≡ some l)
unfolding core_at
known_on L i [] a n t e = absurd (let z : ◌≡◌ {A = ℕ} 0 1 = cc in omega arith)
known_on L i (c ∷ cs) a zero t e = go c.state (c.exits || c.blocks) a.0 e
  where
    go : (s : CoreState) (b : Bool) → OKAt L i s b → holder s ≡ some t → (l : ThreadState) × (L t ≡ some l)
    go Idle b h k = absurd (let z : ◌≡◌ {A = ℕ} 0 1 = cc in omega arith)
    go (Switching u m) true h k = let z : u ≡ t = cc in subst (λ (x : ℕ). (l : ThreadState) × (L x ≡ some l)) z (loose-range (L u) h)
    go (Switching u m) false h k = let z : u ≡ t = cc in subst (λ (x : ℕ). (l : ThreadState) × (L x ≡ some l)) z (OnCore i, h)
    go (Running u m) true h k = let z : u ≡ t = cc in subst (λ (x : ℕ). (l : ThreadState) × (L x ≡ some l)) z (loose-range (L u) h)
    go (Running u m) false h k = let z : u ≡ t = cc in subst (λ (x : ℕ). (l : ThreadState) × (L x ≡ some l)) z (OnCore i, h)
known_on L i (c ∷ cs) a (suc n) t e = known_on L (suc i) cs a.1 n t e

pub held-range : (s : State) → Placed s → s.closed ≡ false → (n t : ℕ) → held_by s.cores n ≡ some t → t < length s.accounts.threads
unfolding CoresOK
held-range s v o n t e = let k = known_on (states_of s.accounts.threads) 0 s.cores (v.cores o) n t e in states_of-range s.accounts.threads t k.0 k.1
