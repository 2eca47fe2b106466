-- What every state of the report program keeps: threads in range, at most 8 cores, at most 256 records, `now` within its limit; and what a call prints then.
use Prim.Native.Nat.{ℕ, zero, suc, pred, ◌+◌, ◌*◌, ◌^◌, ◌≤◌, ◌<◌}
use mathlib.Core.Path.{◌≡◌, refl, sym, ap, ◌∙◌, subst}
use mathlib.Core.Bool.{Bool, true, false, cond, not, ◌&&◌, ◌||◌}
use mathlib.Core.Option.{Option, none, some}
use mathlib.Core.List.{List, [], ◌∷◌, ◌++◌, map}
use native.Mathlib.Omega.{arith}
use borrow.Author.Tests.{leb-false, not-false}
use lib.Dec.{leb, eqb}
use lib.ListN.{length, get_elem?, length-append, length-map, replicate, length-replicate}
use Rattle.script.specs.Invariants.{In, CoreIn, QueueIn, Consistent}
use Rattle.model.specs.Invariants.{All, Roomy, AllO}
use Rattle.model.specs.Types.{Policy, CoreState, Idle, Switching, Running, LeaveReason, Forced, Core, Move, starts, leaves, takes, ThreadState, Ready, Exited, OnCore, Blocked, ThreadRecord, SwitchEntry, Config, Accounts, State}
use Rattle.model.specs.Phases.{Rules, Pass, update, without, pick_next, dispatched_state, dispatch_moves, dispatch, sliced, with_state, decide}
use Rattle.model.specs.Accounting.{logged, finished, on_thread, apply_moves, apply_move, charge_threads, charge, switch_list, set_state}
use Rattle.model.specs.Calls.{Call, spawn, exit, join, retired, yield, priority, timing, force, tick, close, JoinOutcome, Wait, Done, Invalid, Answer, refused, ok, spawned, joined, switched, Stepped, core_at, elem, rules, tid_of, tid_on, thread_state_of, core_state_of, check, refusal, cannot_take, limit_now, waiters, blocked_on, wake, exited, outcome, blocking, out_of, back_of, taken_by, forced_core, unmarked, sliced_all, accept, mark_exit, mark_block, mark_yield, mark_progress, no_core, leaving, any_leaving, is_switching, stepped, step}
use Rattle.model.proofs.PhaseLaws.{all-update, length-update}
use Rattle.model.proofs.Refusals.{check-none, check-rest}
use Rattle.model.proofs.ThreadStates.{all-elem, snoc-all, without_all, next-in}
use Rattle.model.proofs.Placement.{roomy-accept}
use Rattle.script.proofs.Range.{MovesIn, moves-append, in-dispatch_moves, few-dispatch_moves, PassIn, decide-in, decide-size}

---- more records than before

in-more : (N M : ℕ) → N ≤ M → (c : CoreState) → In N c → In M c
in-more N M l Idle h = tt
in-more N M l (Switching t k) h = omega arith
in-more N M l (Running t k) h = omega arith

cores-more : (N M : ℕ) → N ≤ M → (cs : List Core) → All (CoreIn N) cs → All (CoreIn M) cs
cores-more N M l [] a = tt
cores-more N M l (c ∷ cs) a = (in-more N M l c.state a.0, cores-more N M l cs a.1)

queue-more : (N M : ℕ) → N ≤ M → (q : List ℕ) → QueueIn N q → QueueIn M q
queue-more N M l [] a = tt
queue-more N M l (h ∷ q) a = let k = a.0 in (omega arith, queue-more N M l q a.1)

queue-append : (N : ℕ) (q r : List ℕ) → QueueIn N q → QueueIn N r → QueueIn N (q ++ r)
queue-append N [] r a b = b
queue-append N (h ∷ q) r a b = (a.0, queue-append N q r a.1 b)

-- a state after a call, from what it is made of
module _ (s s' : State) (v : Consistent s) (l : length s.accounts.threads ≤ length s'.accounts.threads) where
  consistent-next :
      All (CoreIn (length s.accounts.threads)) s'.cores → QueueIn (length s'.accounts.threads) s'.queue → length s'.cores ≡ length s.cores → s'.config.cap_t ≡ s.config.cap_t → Roomy s'
      → s'.now ≤ 4_000_000_000 → Consistent s'
  consistent-next c q n k r t =
      record {
        cores = cores-more _ _ l s'.cores c;
        queue = q;
        one = omega (arith, v.one);
        size = omega (arith, v.size);
        cap = k ∙ v.cap;
        room = r;
        now = t;
      }

---- as many records as before

length-wake : (e now : ℕ) (w : List ℕ) (b : Accounts) → length (wake e now w b).threads ≡ length b.threads
unfolding wake logged
length-wake e now [] b = refl
length-wake e now (x ∷ w) b = length-wake e now w _ ∙ length-update (set_state Ready) x b.threads

length-applied : (e now : ℕ) (ms : List Move) (b : Accounts) → length (apply_moves e now ms b).threads ≡ length b.threads
unfolding apply_moves apply_move logged
length-applied e now [] b = refl
length-applied e now (starts t ∷ ms) b = length-applied e now ms _ ∙ length-update _ t b.threads
length-applied e now (leaves t i r ∷ ms) b = length-applied e now ms _ ∙ length-update _ t b.threads
length-applied e now (takes t i ∷ ms) b = length-applied e now ms _ ∙ length-update _ t b.threads

length-charged : (cs : List Core) (i : ℕ) (ts : List ThreadRecord) → length (charge_threads cs i ts) ≡ length ts
unfolding charge_threads
length-charged cs i [] = refl
length-charged cs i (t ∷ ts) = ap suc (length-charged cs (suc i) ts)

---- what the calls put on cores and in the queue

pub core-in : (N : ℕ) (cs : List Core) (i : ℕ) → All (CoreIn N) cs → In N (core_at cs i).state
unfolding core_at
core-in N [] i a = tt
core-in N (c ∷ cs) zero a = a.0
core-in N (c ∷ cs) (suc i) a = core-in N cs i a.1

back_in : (N : ℕ) (c : CoreState) → In N c → QueueIn N (back_of c)
unfolding back_of
back_in N Idle h = tt
back_in N (Switching t l) h = tt
back_in N (Running t l) h = (h, tt)

pub out-in : (n N i : ℕ) (c : CoreState) → i < n → In N c → MovesIn n N (out_of i c)
unfolding out_of
out-in n N i Idle l h = tt
out-in n N i (Switching t m) l h = tt
out-in n N i (Running t m) l h = ((h, l), tt)

waiters-in : (t i N : ℕ) (ts : List ThreadRecord) → i + length ts ≤ N → QueueIn N (waiters t i ts)
unfolding waiters
waiters-in t i N [] l = tt
waiters-in t i N (h ∷ ts) l = go (blocked_on t h.state) (waiters-in t (suc i) N ts (omega arith))
  where
    go : (b : Bool) → QueueIn N (waiters t (suc i) ts) → QueueIn N (cond b (i ∷ waiters t (suc i) ts) (waiters t (suc i) ts))
    go true r = (omega arith, r)
    go false r = r

in-dispatched_state : (N w t : ℕ) → t < N → In N (dispatched_state w t)
unfolding dispatched_state
in-dispatched_state N zero t h = h
in-dispatched_state N (suc w) t h = h

-- the thread that a forced switch takes
pub taken_in_lem : (s : State) (i : ℕ) (n : Option ℕ) (r : Option ℕ) → Consistent s → cannot_take s i n r ≡ none → taken_by s i n < length s.accounts.threads
unfolding cannot_take taken_by tid_of
taken_in_lem s i none r v e = go (pick_next (rules s) i none s.queue) (next-in (λ (t : ℕ). t < length s.accounts.threads) (rules s) i none s.queue v.queue)
  where
    go : (o : Option ℕ) → AllO (λ (t : ℕ). t < length s.accounts.threads) o → tid_of o < length s.accounts.threads
    go none a = v.one
    go (some t) a = a
taken_in_lem s i (some t) r v e = all-elem (λ (t : ℕ). t < length s.accounts.threads) s.queue t v.queue (not-false (elem t s.queue) (check-none 15 _ _ e))

---- every unrefused call

-- no record more: the queue is in range as before
module _ (s s' : State) (v : Consistent s) (e : length s'.accounts.threads ≡ length s.accounts.threads) where
  consistent-same :
      All (CoreIn (length s.accounts.threads)) s'.cores → QueueIn (length s.accounts.threads) s'.queue → length s'.cores ≡ length s.cores → s'.config.cap_t ≡ s.config.cap_t → Roomy s'
      → s'.now ≤ 4_000_000_000 → Consistent s'
  consistent-same c q n k r t = consistent-next s s' v (omega arith) c (queue-more _ _ (omega arith) s'.queue q) n k r t

exited-queue : (s : State) (i : ℕ) → Consistent s → QueueIn (length s.accounts.threads) (exited s i).queue
unfolding exited
exited-queue s i v =
    queue-append _ s.queue _ v.queue (waiters-in (tid_on s i) 0 _ (update (tid_on s i) (finished s.now) s.accounts.threads) (omega (arith, length-update (finished s.now) (tid_on s i) s.accounts.threads)))

exited-length : (s : State) (i : ℕ) → length (exited s i).accounts.threads ≡ length s.accounts.threads
unfolding exited
exited-length s i = length-wake s.config.cap_e s.now _ _ ∙ length-update (finished s.now) (tid_on s i) s.accounts.threads

exited-cores : (s : State) (i : ℕ) → Consistent s → All (CoreIn (length s.accounts.threads)) (exited s i).cores
unfolding exited
exited-cores s i v = all-update {P = CoreIn (length s.accounts.threads)} mark_exit (λ c x. x) i s.cores v.cores

exited-size : (s : State) (i : ℕ) → length (exited s i).cores ≡ length s.cores
unfolding exited
exited-size s i = length-update mark_exit i s.cores

-- the rest stays
exited-rest : (s : State) (i : ℕ) → ((exited s i).config.cap_t ≡ s.config.cap_t) × ((exited s i).now ≡ s.now)
unfolding exited
exited-rest s i = (refl, refl)

blocking-consistent : (s : State) (i t : ℕ) (o : JoinOutcome) → Consistent s → Roomy (blocking s i t o) → Consistent (blocking s i t o)
unfolding blocking
blocking-consistent s i t Done v m = v
blocking-consistent s i t Invalid v m = v
blocking-consistent s i t Wait v m =
    consistent-same s _ v (length-update _ (tid_on s i) s.accounts.threads) (all-update {P = CoreIn (length s.accounts.threads)} mark_block (λ c x. x) i s.cores v.cores) v.queue (length-update mark_block i s.cores) refl m v.now

sliced-in : (N : ℕ) (c : CoreState) → In N c → In N (sliced c)
unfolding sliced
sliced-in N Idle h = tt
sliced-in N (Switching t l) h = h
sliced-in N (Running t l) h = h

closed_in : (N : ℕ) (cs : List Core) → All (CoreIn N) cs → All (CoreIn N) (map unmarked (sliced_all cs))
unfolding sliced_all
closed_in N [] a = tt
closed_in N (c ∷ cs) a = (sliced-in N c.state a.0, closed_in N cs a.1)

sliced-size : (cs : List Core) → length (sliced_all cs) ≡ length cs
unfolding sliced_all
sliced-size cs = length-map cs _

consistent-tick : (s : State) → refusal s tick ≡ none → Consistent s → Consistent (accept s tick).state
unfolding accept refusal charge limit_now
consistent-tick s r v =
    let p = decide-in (length s.cores) (length s.accounts.threads) (rules s) s.cores s.queue refl v.cores v.queue in
    consistent-same s _ v (length-applied _ _ (decide (rules s) s.cores s.queue).moves _ ∙ length-charged s.cores 0 s.accounts.threads) p.cores p.queue (decide-size (rules s) s.cores s.queue) refl
    (roomy-accept s tick r v.room)
    (omega (arith, leb-false 4_000_000_000 s.now (check-none 18 _ _ (check-rest 11 _ _ r))))

consistent-force : (s : State) (i : ℕ) (n : Option ℕ) → refusal s (force i n) ≡ none → Consistent s → Consistent (accept s (force i n)).state
unfolding accept refusal core_state_of
consistent-force s i n r v =
    let h = taken_in_lem s i n _ v (check-rest 14 _ _ (check-rest 12 _ _ (check-rest 11 _ _ (check-rest 4 _ _ r)))) in
    consistent-same s _ v (length-applied _ _ (out_of i (core_state_of s i) ++ dispatch_moves s.config.cost (taken_by s i n) i) s.accounts)
    (all-update {P = CoreIn (length s.accounts.threads)} (forced_core s.config.cost (taken_by s i n)) (λ c x. in-dispatched_state _ s.config.cost (taken_by s i n) h) i s.cores v.cores)
    (without_all _ (taken_by s i n) (s.queue ++ back_of (core_state_of s i)) (queue-append _ s.queue (back_of (core_state_of s i)) v.queue (back_in _ (core_state_of s i) (core-in _ s.cores i v.cores))))
    (length-update _ i s.cores) refl (roomy-accept s (force i n) r v.room) v.now

consistent-close : (s : State) (i : ℕ) → refusal s (close i) ≡ none → Consistent s → Consistent (accept s (close i)).state
unfolding accept refusal charge limit_now
consistent-close s i r v =
    consistent-same s _ v (length-charged (exited s i).cores 0 (exited s i).accounts.threads ∙ exited-length s i) (closed_in _ (exited s i).cores (exited-cores s i v)) (exited-queue s i v)
    (length-map (sliced_all (exited s i).cores) unmarked ∙ sliced-size (exited s i).cores ∙ exited-size s i) (exited-rest s i).0 (roomy-accept s (close i) r v.room)
    (omega (arith, (exited-rest s i).1, leb-false 4_000_000_000 s.now (check-none 18 _ _ (check-rest 13 _ _ (check-rest 12 _ _ (check-rest 11 _ _ (check-rest 4 _ _ r)))))))

pub consistent-accept : (s : State) (c : Call) → refusal s c ≡ none → Consistent s → Consistent (accept s c).state
unfolding accept logged
consistent-accept s (spawn p e) r v =
    consistent-next s _ v (rw length-append (omega arith)) v.cores
    (rw length-append (snoc-all _ (length s.accounts.threads) s.queue (queue-more _ _ (omega arith) s.queue v.queue) (omega arith))) refl refl (roomy-accept s (spawn p e) r v.room) v.now
consistent-accept s (exit i) r v =
    consistent-same s (exited s i) v (exited-length s i) (exited-cores s i v) (exited-queue s i v) (exited-size s i) (exited-rest s i).0 (roomy-accept s (exit i) r v.room) (omega (arith, v.now, (exited-rest s i).1))
consistent-accept s (join i t) r v = blocking-consistent s i t (outcome (tid_on s i) t (thread_state_of (get_elem? s.accounts.threads t))) v (roomy-accept s (join i t) r v.room)
consistent-accept s (retired i) r v = consistent-same s _ v refl (all-update {P = CoreIn (length s.accounts.threads)} mark_progress (λ c x. x) i s.cores v.cores) v.queue (length-update mark_progress i s.cores) refl v.room v.now
consistent-accept s (yield i) r v =
    consistent-same s _ v (length-update _ (tid_on s i) s.accounts.threads) (all-update {P = CoreIn (length s.accounts.threads)} mark_yield (λ c x. x) i s.cores v.cores) v.queue (length-update mark_yield i s.cores) refl
    (roomy-accept s (yield i) r v.room) v.now
consistent-accept s (priority t n) r v = consistent-same s _ v (length-update _ t s.accounts.threads) v.cores v.queue refl refl (roomy-accept s (priority t n) r v.room) v.now
consistent-accept s (timing q w) r v = consistent-same s _ v refl v.cores v.queue refl refl v.room v.now
consistent-accept s (force i n) r v = consistent-force s i n r v
consistent-accept s tick r v = consistent-tick s r v
consistent-accept s (close i) r v = consistent-close s i r v

pub consistent-step : (s : State) (c : Call) → Consistent s → Consistent (step s c).state
unfolding step stepped
consistent-step s c v = go (refusal s c) refl
  where
    go : (r : Option ℕ) → refusal s c ≡ r → Consistent (stepped s c r).state
    go (some n) e = v
    go none e = consistent-accept s c e v
