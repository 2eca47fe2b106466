-- What `stay_ticks` counts is what the accounts charge: a tick adds 1 to the run ticks of the thread of each running core, and to no other's.
use Prim.Native.Nat.{ℕ, zero, suc, ◌+◌, ◌≤◌, ◌<◌}
use mathlib.Core.Path.{◌≡◌, refl, sym, ap, ◌∙◌, subst}
use mathlib.Core.Bool.{Bool, true, false, cond, ◌||◌}
use mathlib.Core.Option.{Option, none, some}
use mathlib.Core.List.{List, [], ◌∷◌, ◌++◌}
use native.Mathlib.Omega.{arith}
use lib.Dec.{eqb}
use lib.ListN.{length, get_elem?}
use borrow.Author.Tests.{eq-eqb}
use Rattle.model.specs.Types.{CoreState, Idle, Switching, Running, LeaveReason, Exit, Block, Yield, Quantum, Preempt, Forced, Core, Move, starts, leaves, takes, ThreadState, Ready, Exited, OnCore, Blocked, ThreadRecord, Accounts, State}
use Rattle.model.specs.Phases.{update, decide}
use Rattle.model.specs.Accounting.{add_counts, started, left, record_leave, record_dispatch, logged, apply_move, apply_moves, runs_on, runs, holds, charge_waiting, charge_threads, charge}
use Rattle.model.specs.Calls.{Call, tick, accept, core_at, rules}
use Rattle.guarantees.specs.Claims.{run_ticks, ran_of}

pub ran-same : (f : ThreadRecord → ThreadRecord) → ((t : ThreadRecord) → (f t).counts.run ≡ t.counts.run) → (n : ℕ) (ts : List ThreadRecord) (x : ℕ) → ran_of (update n f ts) x ≡ ran_of ts x
unfolding ran_of run_ticks update
ran-same f h n [] x = refl
ran-same f h zero (t ∷ ts) zero = h t
ran-same f h zero (t ∷ ts) (suc x) = refl
ran-same f h (suc n) (t ∷ ts) zero = refl
ran-same f h (suc n) (t ∷ ts) (suc x) = ran-same f h n ts x

left-run : (now i : ℕ) (r : LeaveReason) (t : ThreadRecord) → (record_leave now i r t).counts.run ≡ t.counts.run
unfolding record_leave left add_counts
left-run now i Exit t = refl
left-run now i Block t = refl
left-run now i Yield t = refl
left-run now i Quantum t = omega arith
left-run now i Preempt t = omega arith
left-run now i Forced t = omega arith

-- moves charge nobody
pub applied-ran : (e now : ℕ) (ms : List Move) (b : Accounts) (x : ℕ) → ran_of (apply_moves e now ms b).threads x ≡ ran_of b.threads x
unfolding apply_moves apply_move logged started record_dispatch add_counts
applied-ran e now [] b x = refl
applied-ran e now (starts t ∷ ms) b x = applied-ran e now ms _ x ∙ ran-same (started now) (λ y. refl) t b.threads x
applied-ran e now (leaves t i r ∷ ms) b x = applied-ran e now ms _ x ∙ ran-same (record_leave now i r) (left-run now i r) t b.threads x
applied-ran e now (takes t i ∷ ms) b x = applied-ran e now ms _ x ∙ ran-same (record_dispatch now i) (λ y. omega arith) t b.threads x

charged-ran : (cs : List Core) (ts : List ThreadRecord) (i x j : ℕ) → j ≡ i + x → x < length ts → ran_of (charge_threads cs i ts) x ≡ ran_of ts x + cond (runs j cs) 1 0
unfolding ran_of run_ticks charge_threads charge_waiting add_counts
charged-ran cs [] i x j e l = absurd (omega arith)
charged-ran cs (t ∷ ts) i zero j e l = subst (λ (m : ℕ). (cond (runs i cs) (add_counts 1 0 0 0 0 0 t) (cond (holds i cs) t (charge_waiting t.state t))).counts.run ≡ t.counts.run + cond (runs m cs) 1 0) (omega arith) (go (runs i cs) (holds i cs) t.state)
  where
    go : (a b : Bool) (f : ThreadState) → (cond a (add_counts 1 0 0 0 0 0 t) (cond b t (charge_waiting f t))).counts.run ≡ t.counts.run + cond a 1 0
    go true b f = refl
    go false true f = omega arith
    go false false Ready = refl
    go false false Exited = omega arith
    go false false (OnCore k) = omega arith
    go false false (Blocked u) = refl
charged-ran cs (t ∷ ts) i (suc x) j e l = charged-ran cs ts (suc i) x j (omega arith) (omega arith)

-- an accepted tick adds 1 to the run ticks of the threads that run, and 0 to the others
pub tick-ran : (s : State) (x : ℕ) → x < length s.accounts.threads → ran_of (accept s tick).state.accounts.threads x ≡ ran_of s.accounts.threads x + cond (runs x s.cores) 1 0
unfolding accept charge
tick-ran s x l = applied-ran s.config.cap_e (s.now + 1) (decide (rules s) s.cores s.queue).moves (charge s.config.cap_s s.now s.cores s.accounts) x ∙ charged-ran s.cores s.accounts.threads 0 x x (omega arith) l

-- a running core's thread runs
pub runs-at : (cs : List Core) (c t sl : ℕ) → (core_at cs c).state ≡ Running t sl → runs t cs ≡ true
unfolding runs core_at runs_on
runs-at [] c t sl e = cc
runs-at (x ∷ cs) zero t sl e = rw (e, runs_on) (rw (eq-eqb t t refl))
runs-at (x ∷ cs) (suc c) t sl e = go (runs_on t x.state) (runs-at cs c t sl e)
  where
    go : (b : Bool) → runs t cs ≡ true → b || runs t cs ≡ true
    go true h = refl
    go false h = h
