-- What `core_threads` makes of the cores says who runs and who holds a core, and charging reads the cores' states only.
use Prim.Native.Nat.{ℕ, zero, suc, ◌+◌, ◌<◌, ◌≤◌}
use mathlib.Core.Path.{◌≡◌, refl, sym, ap, ◌∙◌}
use mathlib.Core.Bool.{Bool, true, false, cond, ◌&&◌, ◌||◌}
use Rattle.std.specs.Int.{from_bool}
use mathlib.Core.List.{List, [], ◌∷◌, ◌++◌, map, map-append}
use native.Mathlib.Numerals.{add-one}
use native.Mathlib.Omega.{arith}
use lib.Dec.{eqb}
use lib.ListN.{length, take, get_or, set, replicate}
use lib.Seq.{take-suc, take-suc-set, take_all}
use native.Mathlib.Nat.{add-zero}
use borrow.Author.Tests.{ne_eqb}
use Rattle.model.specs.declared.CoreState as CoreStates
use Rattle.model.specs.declared.CoreState.TheVariants as core_states
use Rattle.model.specs.Types.{CoreState, Idle, Core, ThreadState, Ready, Exited, OnCore, Blocked, ThreadRecord}
use Rattle.model.specs.Phases.{holder}
use Rattle.model.specs.Reading.{core_state_meant}
use Rattle.model.specs.Accounting
use Rattle.model.specs.Accounting.{add_counts, set_counts, runs, runs_on, holds, is_holder, charge_waiting, charge_threads}
use Rattle.model.specs.Calls.{elem, is_running}
use Rattle.charges.specs.declared.charge.CoreThreads.{CoreThreads}
use Rattle.charges.specs.Charging.{nobody, holder_word, has_others, core_threads_of, runs_held, cores_meant, charge_thread, ready_due, blocked_due}

---- truth values

no : false ≡ true → ⊥
no e = let z : ◌≡◌ {A = ℕ} 0 1 = cc in omega arith

pub or-none : (b : Bool) → b || false ≡ b
or-none true = refl
or-none false = refl

and-false : (b : Bool) → b && false ≡ false
and-false true = refl
and-false false = refl

and-true : (b : Bool) → b && true ≡ b
and-true true = refl
and-true false = refl

---- loops over eight words

abbrev pub running_of : CoreStates.CoreState → Bool
running_of s = is_running (core_state_meant s)

elem_back : (x : ℕ) (l : List ℕ) (y : ℕ) → elem x (l ++ (y ∷ [])) ≡ elem x l || eqb y x
unfolding elem
elem_back x [] y = or-none (eqb y x)
elem_back x (h ∷ l) y = rw (elem_back x l y) (sym (or_assoc (eqb h x) (elem x l) (eqb y x)))
  where
    or_assoc : (a b c : Bool) → (a || b) || c ≡ a || (b || c)
    or_assoc true b c = refl
    or_assoc false b c = refl

pub elem_next : (x k : ℕ) (l : List ℕ) → k < length l → elem x (take (k + 1) l) ≡ elem x (take k l) || eqb (get_or l k 0) x
elem_next x k l h = rw (add-one, take-suc l k 0 h) (elem_back x (take k l) (get_or l k 0))

pub filled : {A B : Type 0} (f : A → B) (xs : List A) (d : A) (out : List B) (k : ℕ) (y : B) → k < length xs → k < length out → y ≡ f (get_or xs k d) → take k out ≡ map f (take k xs)
    → take (k + 1) (set out k y) ≡ map f (take (k + 1) xs)
filled f xs d out k y h l v e = rw (add-one, take-suc xs k d h, take-suc-set out k y l, map-append, e, v)

pub all-filled : (cores : List CoreStates.CoreState) (held : List ℕ) (running : List Bool) (k : ℕ) → length cores ≤ k → length held ≤ k → length running ≤ k → take k held ≡ map holder_word (take k cores) → take k running ≡ map running_of (take k cores)
    → (others : Bool) → others ≡ has_others held → ◌≡◌ {A = CoreThreads} (record { others = others; held = held; running = running }) (core_threads_of cores)
unfolding core_threads_of
all-filled cores held running k a b c e f others o =
    let p : held ≡ map holder_word cores = sym (take_all k held b) ∙ e ∙ ap (map holder_word) (take_all k cores a) in
    let q : running ≡ map running_of cores = sym (take_all k running c) ∙ f ∙ ap (map running_of) (take_all k cores a) in
    rw (o, p, q)

pub runs_held_next : (i k : ℕ) (hs : List ℕ) (rs : List Bool) → k < length hs → k < length rs → runs_held i (take (suc k) hs) (take (suc k) rs) ≡ runs_held i (take k hs) (take k rs) || (eqb (get_or hs k 0) i && get_or rs k false)
unfolding runs_held
runs_held_next i k [] rs a b = absurd (omega (arith, a))
runs_held_next i k (h ∷ hs) [] a b = absurd (omega (arith, b))
runs_held_next i zero (h ∷ hs) (r ∷ rs) a b = or-none (eqb h i && r)
runs_held_next i (suc k) (h ∷ hs) (r ∷ rs) a b = rw (runs_held_next i k hs rs (omega (arith, a)) (omega (arith, b))) (sym (or_assoc (eqb h i && r) (runs_held i (take k hs) (take k rs)) (eqb (get_or hs k 0) i && get_or rs k false)))
  where
    or_assoc : (a b c : Bool) → (a || b) || c ≡ a || (b || c)
    or_assoc true b c = refl
    or_assoc false b c = refl

---- who runs, who holds

runs-word : (i : ℕ) (cores : List CoreStates.CoreState) → runs_held i (map holder_word cores) (map running_of cores) ≡ runs i (cores_meant cores)
unfolding runs_held runs runs_on cores_meant
runs-word i [] = refl
runs-word i (core_states.Idle ∷ cs) = rw (and-false (eqb nobody i)) (runs-word i cs)
runs-word i (core_states.Switching t l ∷ cs) = rw (and-false (eqb t.0 i)) (runs-word i cs)
runs-word i (core_states.Running t s ∷ cs) = rw (and-true (eqb t.0 i)) (ap (λ (b : Bool). eqb t.0 i || b) (runs-word i cs))

holds-word : (i : ℕ) → i < nobody → (cores : List CoreStates.CoreState) → elem i (map holder_word cores) ≡ holds i (cores_meant cores)
unfolding elem holds is_holder cores_meant
holds-word i h [] = refl
holds-word i h (core_states.Idle ∷ cs) = rw (ne_eqb nobody i (λ e. omega arith)) (holds-word i h cs)
holds-word i h (core_states.Switching t l ∷ cs) = ap (λ (b : Bool). eqb t.0 i || b) (holds-word i h cs)
holds-word i h (core_states.Running t s ∷ cs) = ap (λ (b : Bool). eqb t.0 i || b) (holds-word i h cs)

runs-is : (i : ℕ) (on : CoreThreads) (cores : List CoreStates.CoreState) → on ≡ core_threads_of cores → runs_held i on.held on.running ≡ runs i (cores_meant cores)
unfolding core_threads_of
runs-is i on cores e = ap (λ (o : CoreThreads). runs_held i o.held o.running) e ∙ runs-word i cores

holds-is : (i : ℕ) → i < nobody → (on : CoreThreads) (cores : List CoreStates.CoreState) → on ≡ core_threads_of cores → elem i on.held ≡ holds i (cores_meant cores)
unfolding core_threads_of
holds-is i h on cores e = ap (λ (o : CoreThreads). elem i o.held) e ∙ holds-word i h cores

-- a thread that runs on a core holds it
runs-hold : (i : ℕ) (held : List ℕ) (running : List Bool) → runs_held i held running ≡ true → elem i held ≡ true
unfolding elem runs_held
runs-hold i [] rs e = e
runs-hold i (h ∷ hs) [] e = absurd (no e)
runs-hold i (h ∷ hs) (r ∷ rs) e = either (eqb h i) r (runs_held i hs rs) (elem i hs) (runs-hold i hs rs) e
  where
    either : (a b c d : Bool) → (c ≡ true → d ≡ true) → (a && b) || c ≡ true → a || d ≡ true
    either true b c d f e = refl
    either false b c d f e = f e

---- a tick's part in the counters

abbrev due_added : (run ready blocked : ℕ) → ThreadRecord → ThreadRecord
due_added a b c t = set_counts (record { run = a; ready = b; blocked = c; dispatches = t.counts.dispatches; preemptions = t.counts.preemptions; yields = t.counts.yields }) t

run_is : (t : ThreadRecord) (runs : Bool) → due_added (t.counts.run + from_bool runs) t.counts.ready t.counts.blocked t ≡ cond runs (add_counts 1 0 0 0 0 0 t) t
unfolding add_counts
run_is t true = simp add-zero
run_is t false = simp add-zero

wait-is : (t : ThreadRecord) (s : ThreadState) → due_added t.counts.run (t.counts.ready + ready_due s) (t.counts.blocked + blocked_due s) t ≡ charge_waiting s t
unfolding add_counts charge_waiting
wait-is t Ready = simp add-zero
wait-is t Exited = simp add-zero
wait-is t (OnCore i) = simp add-zero
wait-is t (Blocked u) = simp add-zero

-- what `charged` makes of thread i's record t
module _ (i : ℕ) (h : i < nobody) (on : CoreThreads) (t : ThreadRecord) (cores : List CoreStates.CoreState) (e : on ≡ core_threads_of cores) where
  pub held-is : elem i on.held ≡ true → (due : ℕ) → due ≡ from_bool (runs_held i on.held on.running) → due_added (t.counts.run + due) t.counts.ready t.counts.blocked t ≡ charge_thread (cores_meant cores) i t
  unfolding charge_thread
  held-is k due d =
      let held : Accounting.holds i (cores_meant cores) ≡ true = sym (holds-is i h on cores e) ∙ k in
      rw (d, held, ← runs-is i on cores e) (run_is t (runs_held i on.held on.running))

  pub waiting-is : elem i on.held ≡ false → (ready blocked : ℕ) → ready ≡ ready_due t.state → blocked ≡ blocked_due t.state → due_added t.counts.run (t.counts.ready + ready) (t.counts.blocked + blocked) t ≡ charge_thread (cores_meant cores) i t
  unfolding charge_thread
  waiting-is k ready blocked r b =
      let held : Accounting.holds i (cores_meant cores) ≡ false = sym (holds-is i h on cores e) ∙ k in
      let ran : Accounting.runs i (cores_meant cores) ≡ false = sym (runs-is i on cores e) ∙ not-run (runs_held i on.held on.running) (λ q. no (sym k ∙ runs-hold i on.held on.running q)) in
      rw (r, b, held, ran) (wait-is t t.state)
    where
      not-run : (b : Bool) → (b ≡ true → ⊥) → b ≡ false
      not-run true f = absurd (f refl)
      not-run false f = refl

---- charging reads no marks, and idle cores add nothing

abbrev any_state : (CoreState → Bool) → List CoreState → Bool
any_state p [] = false
any_state p (s ∷ l) = p s || any_state p l

any-idle : (p : CoreState → Bool) → p Idle ≡ false → (l : List CoreState) (k : ℕ) → any_state p (l ++ replicate k Idle) ≡ any_state p l
any-idle p e [] zero = refl
any-idle p e [] (suc k) = rw e (any-idle p e [] k)
any-idle p e (s ∷ l) k = ap (λ (b : Bool). p s || b) (any-idle p e l k)

runs-any : (t : ℕ) (cs : List Core) → runs t cs ≡ any_state (runs_on t) (map (λ c. c.state) cs)
unfolding runs
runs-any t [] = refl
runs-any t (c ∷ cs) = ap (λ (b : Bool). runs_on t c.state || b) (runs-any t cs)

holds-any : (t : ℕ) (cs : List Core) → holds t cs ≡ any_state (λ s. is_holder t (holder s)) (map (λ c. c.state) cs)
unfolding holds
holds-any t [] = refl
holds-any t (c ∷ cs) = ap (λ (b : Bool). is_holder t (holder c.state) || b) (holds-any t cs)

-- the cores cs, and behind them k idle ones: whatever marks they have, who runs and who holds a core is the same
module _ (cs ds : List Core) (k : ℕ) (same : map (λ c. c.state) ds ≡ map (λ c. c.state) cs ++ replicate k Idle) where
  pub runs-states : (t : ℕ) → runs t ds ≡ runs t cs
  unfolding runs_on
  runs-states t = runs-any t ds ∙ (ap (any_state (runs_on t)) same ∙ (any-idle (runs_on t) refl (map (λ c. c.state) cs) k ∙ sym (runs-any t cs)))

  pub holds-states : (t : ℕ) → holds t ds ≡ holds t cs
  unfolding is_holder
  holds-states t = holds-any t ds ∙ (ap (any_state (λ s. is_holder t (holder s))) same ∙ (any-idle (λ s. is_holder t (holder s)) refl (map (λ c. c.state) cs) k ∙ sym (holds-any t cs)))

  pub charge-states : (i : ℕ) (ts : List ThreadRecord) → charge_threads ds i ts ≡ charge_threads cs i ts
  unfolding charge_threads
  charge-states i [] = refl
  charge-states i (t ∷ ts) = rw (runs-states i, holds-states i, charge-states (suc i) ts)

states-read : (cores : List CoreStates.CoreState) → map (λ c. c.state) (cores_meant cores) ≡ map core_state_meant cores
unfolding cores_meant
states-read [] = refl
states-read (s ∷ cores) = ap (λ (l : List CoreState). core_state_meant s ∷ l) (states-read cores)

-- charging by an array of core states, of which those behind the cores in use are idle, is charging by the cores in use
pub charge-cores : (cores : List CoreStates.CoreState) (cs : List Core) (k : ℕ) → map core_state_meant cores ≡ map (λ c. c.state) cs ++ replicate k Idle → (ts : List ThreadRecord)
    → charge_threads (cores_meant cores) 0 ts ≡ charge_threads cs 0 ts
charge-cores cores cs k e ts = charge-states cs (cores_meant cores) k (states-read cores ∙ e) 0 ts
