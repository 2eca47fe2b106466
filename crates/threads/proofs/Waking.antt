-- What the first i turns of waking make of the records and of the queue.
use Prim.Native.Nat.{ℕ, suc, ◌+◌, ◌-◌, ◌<◌, ◌≤◌}
use mathlib.Core.Path.{◌≡◌, refl, sym, ap, subst, ◌∙◌}
use mathlib.Core.Bool.{Bool, true, false, cond}
use mathlib.Core.List.{List, [], ◌∷◌, ◌++◌, map, map-append, append_assoc, append-nil}
use native.Mathlib.Nat.{add-zero, zero-add}
use native.Mathlib.Numerals.{add-one}
use native.Mathlib.Omega.{arith}
use lib.ListN.{length, get_or, set, take, drop, length-append, length-take}
use lib.Seq.{drop-drop, append_snoc}
use Rattle.model.specs.declared.ThreadInfo.{ThreadInfo}
use Rattle.model.specs.Types.{ThreadRecord, Ready, Accounts}
use Rattle.model.specs.Phases
use Rattle.model.specs.Accounting.{set_state, logged}
use Rattle.model.specs.Calls.{blocked_on, waiters, wake}
use Rattle.model.specs.Reading.{thread_meant}
use Rattle.records.specs.Waking.{woken_by, waiter_at, Pushed}
use Rattle.threads.specs.Slice.{blank, threads_in, Front, WakeFit, woken_threads, Woken}
use Rattle.threads.proofs.Slices.{threads-add, threads-back, threads-part, length-threads, length-update, get-behind, kept-behind, front-next, front-part}

---- the records

-- the definition's `wake` makes of the records what `woken_threads` says
pub wake-threads : (cap_e now : ℕ) (w : List ℕ) (b : Accounts) → (wake cap_e now w b).threads ≡ woken_threads w b.threads
unfolding wake woken_threads logged
wake-threads e now [] b = refl
wake-threads e now (t ∷ w) b = wake-threads e now w _

pub length-woken_threads : (w : List ℕ) (ts : List ThreadRecord) → length (woken_threads w ts) ≡ length ts
unfolding woken_threads
length-woken_threads [] ts = refl
length-woken_threads (t ∷ w) ts = length-woken_threads w (Phases.update t (set_state Ready) ts) ∙ length-update t (set_state Ready) ts

update-at : (f : ThreadRecord → ThreadRecord) (front : List ThreadRecord) (h : ThreadRecord) (ts : List ThreadRecord) → Phases.update (length front) f (front ++ h ∷ ts) ≡ front ++ f h ∷ ts
unfolding Phases.update
update-at f [] h ts = refl
update-at f (x ∷ front) h ts = ap (λ (l : List ThreadRecord). x ∷ l) (update-at f front h ts)

woken-hit : (on : ℕ) (h : ThreadRecord) → blocked_on on h.state ≡ true → woken_by on h ≡ set_state Ready h
unfolding woken_by
woken-hit on h e = rw e

woken-miss : (on : ℕ) (h : ThreadRecord) → blocked_on on h.state ≡ false → woken_by on h ≡ h
unfolding woken_by
woken-miss on h e = rw e

woken-from : (on : ℕ) (front ts : List ThreadRecord) → woken_threads (waiters on (length front) ts) (front ++ ts) ≡ front ++ map (woken_by on) ts
unfolding waiters woken_threads
woken-from on front [] = refl
woken-from on front (h ∷ ts) = by-test (λ x. woken-from on (front ++ (x ∷ [])) ts) (blocked_on on h.state) refl
  where
    later : List ℕ
    later = waiters on (suc (length front)) ts

    count : (x : ThreadRecord) → length (front ++ (x ∷ [])) ≡ suc (length front)
    count x = length-append front (x ∷ []) ∙ add-one (length front)

    Rest : Type 0
    Rest = (x : ThreadRecord) → woken_threads (waiters on (length (front ++ (x ∷ []))) ts) ((front ++ (x ∷ [])) ++ ts) ≡ (front ++ (x ∷ [])) ++ map (woken_by on) ts

    next : Rest → (x : ThreadRecord) → woken_threads later (front ++ x ∷ ts) ≡ front ++ x ∷ map (woken_by on) ts
    next rest x =
        sym (ap (woken_threads later) (append_snoc front x ts)) ∙ ap (λ (k : ℕ). woken_threads (waiters on k ts) ((front ++ (x ∷ [])) ++ ts)) (sym (count x))
        ∙ (rest x ∙ append_snoc front x (map (woken_by on) ts))

    by-test : Rest → (b : Bool) → blocked_on on h.state ≡ b → woken_threads (cond (blocked_on on h.state) (length front ∷ later) later) (front ++ h ∷ ts) ≡ front ++ map (woken_by on) (h ∷ ts)
    by-test rest true e =
        ap (λ (b : Bool). woken_threads (cond b (length front ∷ later) later) (front ++ h ∷ ts)) e ∙ ap (woken_threads later) (update-at (set_state Ready) front h ts)
        ∙ (next rest (set_state Ready h) ∙ ap (λ (x : ThreadRecord). front ++ x ∷ map (woken_by on) ts) (sym (woken-hit on h e)))
    by-test rest false e =
        ap (λ (b : Bool). woken_threads (cond b (length front ∷ later) later) (front ++ h ∷ ts)) e
        ∙ (next rest h ∙ ap (λ (x : ThreadRecord). front ++ x ∷ map (woken_by on) ts) (sym (woken-miss on h e)))

---- the waiters, one thread more at a time

waiters-append : (on j : ℕ) (a b : List ThreadRecord) → waiters on j (a ++ b) ≡ waiters on j a ++ waiters on (j + length a) b
unfolding waiters
waiters-append on j [] b = ap (λ (k : ℕ). waiters on k b) (sym (add-zero j))
waiters-append on j (h ∷ a) b =
    let rest : waiters on (suc j) (a ++ b) ≡ waiters on (suc j) a ++ waiters on (j + suc (length a)) b = waiters-append on (suc j) a b ∙ ap (λ (k : ℕ). waiters on (suc j) a ++ waiters on k b) (moved j (length a)) in
    rw rest (both (blocked_on on h.state) (waiters on (suc j) a) (waiters on (j + suc (length a)) b))
  where
    moved : (j k : ℕ) → suc j + k ≡ j + suc k
    moved j k = omega arith

    both : (c : Bool) (xs ys : List ℕ) → cond c (j ∷ (xs ++ ys)) (xs ++ ys) ≡ cond c (j ∷ xs) xs ++ ys
    both true xs ys = refl
    both false xs ys = refl

waiters-one : (on j : ℕ) (h : ThreadRecord) → waiters on j (h ∷ []) ≡ waiter_at on j h
unfolding waiters waiter_at
waiters-one on j h = refl

-- the threads woken so far, and where the next one goes
abbrev pub woken_in : (on : ℕ) → List ThreadInfo → ℕ → List ℕ
woken_in on ts i = waiters on 0 (threads_in ts i)

waiters-next : (on : ℕ) (ts : List ThreadInfo) (i : ℕ) → i < length ts → woken_in on ts i ++ waiter_at on i (thread_meant (get_or ts i blank)) ≡ woken_in on ts (i + 1)
waiters-next on ts i h =
    sym (ap (waiters on 0) (sym (threads-back ts i h)) ∙ waiters-append on 0 (threads_in ts i) (thread_meant (get_or ts i blank) ∷ [])
    ∙ ap (λ (k : ℕ). woken_in on ts i ++ waiters on k (thread_meant (get_or ts i blank) ∷ [])) (zero-add (length (threads_in ts i)) ∙ length-threads ts i (omega arith))
    ∙ ap (λ (l : List ℕ). woken_in on ts i ++ l) (waiters-one on i (thread_meant (get_or ts i blank))))

waiters-fewer : (on : ℕ) (ts : List ThreadInfo) (i n : ℕ) → i ≤ n → length (woken_in on ts i) ≤ length (woken_in on ts n)
waiters-fewer on ts i n h =
    let all : woken_in on ts n ≡ woken_in on ts i ++ waiters on (0 + length (threads_in ts i)) (map thread_meant (take (n - i) (drop i ts))) =
    ap (woken_in on ts) (back i n h) ∙ (ap (waiters on 0) (threads-add ts i (n - i)) ∙ waiters-append on 0 (threads_in ts i) (map thread_meant (take (n - i) (drop i ts)))) in
    let long : length (woken_in on ts n) ≡ length (woken_in on ts i) + length (waiters on (0 + length (threads_in ts i)) (map thread_meant (take (n - i) (drop i ts)))) =
    ap length all ∙ length-append (woken_in on ts i) (waiters on (0 + length (threads_in ts i)) (map thread_meant (take (n - i) (drop i ts)))) in
    omega arith
  where
    back : (i n : ℕ) → i ≤ n → n ≡ i + (n - i)
    back i n h = omega arith

-- turn i has room for its waiter
push-fits : (n on : ℕ) (ts : List ThreadInfo) (q : List ℕ) (len i : ℕ) → WakeFit n on ts q len → i < n → len + length (woken_in on ts i) + length (waiter_at on i (thread_meant (get_or ts i blank))) ≤ length q
push-fits n on ts q len i fit h =
    let w : length (woken_in on ts i ++ waiter_at on i (thread_meant (get_or ts i blank))) ≡ length (woken_in on ts (i + 1)) = ap length (waiters-next on ts i (omega (arith, fit.within))) in
    let a : length (woken_in on ts i ++ waiter_at on i (thread_meant (get_or ts i blank))) ≡ length (woken_in on ts i) + length (waiter_at on i (thread_meant (get_or ts i blank))) = length-append (woken_in on ts i) (waiter_at on i (thread_meant (get_or ts i blank))) in
    let f : length (woken_in on ts (i + 1)) ≤ length (woken_in on ts n) = waiters-fewer on ts (i + 1) n (omega arith) in
    omega (arith, fit.room)

---- one turn of the loop after another

-- words pushed behind words
pushed-then : (ws vs : List ℕ) (len to to' : ℕ) (q q₁ q₂ : List ℕ) → Pushed ws len q to q₁ → Pushed vs to q₁ to' q₂ → Pushed (ws ++ vs) len q to' q₂
pushed-then ws vs len to to' q q₁ q₂ f g =
    record {
      count = omega (arith, f.count, g.count, length-append ws vs);
      front = g.front ∙ (ap (λ (l : List ℕ). l ++ vs) f.front ∙ append_assoc (take len q) ws vs);
      rest = g.rest ∙ rw g.count (sym (drop-drop (length vs) to q₁) ∙ (ap (drop (length vs)) f.rest ∙ drop-drop (length vs) to q));
    }

pub none-woken : (on : ℕ) (ts : List ThreadInfo) (len : ℕ) (q : List ℕ) → Woken 0 on ts ts len q len q
unfolding threads_in waiters woken_threads
none-woken on ts len q =
    record { threads = record { front = refl; rest = refl }; queued = record { count = sym (add-zero len); front = sym (append-nil (take len q)); rest = refl } }

pub woken-next : (on i : ℕ) (before after : List ThreadInfo) (d z : ThreadInfo) (len : ℕ) (q : List ℕ) (to : ℕ) (q₁ : List ℕ) (to' : ℕ) (q₂ : List ℕ) → i < length before → length after ≡ length before
    → thread_meant z ≡ woken_by on (thread_meant (get_or after i d)) → Pushed (waiter_at on i (thread_meant (get_or after i d))) to q₁ to' q₂
    → Woken i on before after len q to q₁ → Woken (i + 1) on before (set after i z) len q to' q₂
woken-next on i before after d z len q to q₁ to' q₂ h long e p was =
    record {
      threads = subst (λ (w : List ThreadRecord). Front (i + 1) w before (set after i z)) (sym wanted) (front-next (woken_by on) i _ before after d z (omega arith) e was.threads);
      queued =
          subst (λ (ws : List ℕ). Pushed ws len q to' q₂) (waiters-next on before i h) (
          pushed-then (woken_in on before i) _ len to to' q q₁ q₂ was.queued (subst (λ (x : ThreadInfo). Pushed (waiter_at on i (thread_meant x)) to q₁ to' q₂) (get-behind i _ before after d (omega arith) was.threads) p)
          );
    }
  where
    all : (ts : List ThreadRecord) → woken_threads (waiters on 0 ts) ts ≡ map (woken_by on) ts
    all ts = woken-from on [] ts

    wanted : woken_threads (woken_in on before (i + 1)) (threads_in before (i + 1)) ≡ woken_threads (woken_in on before i) (threads_in before i) ++ (woken_by on (thread_meant (get_or before i blank)) ∷ [])
    wanted =
        all (threads_in before (i + 1)) ∙ (ap (map (woken_by on)) (sym (threads-back before i h))
        ∙ (map-append (woken_by on) (threads_in before i) (thread_meant (get_or before i blank) ∷ [])
        ∙ ap (λ (l : List ThreadRecord). l ++ (woken_by on (thread_meant (get_or before i blank)) ∷ [])) (sym (all (threads_in before i)))))

-- what a turn requires of the queue
pub turn-fits : (n on : ℕ) (before after : List ThreadInfo) (d : ThreadInfo) (len : ℕ) (q : List ℕ) (i to : ℕ) (q₁ : List ℕ) → WakeFit n on before q len → i < n → length after ≡ length before → length q₁ ≡ length q
    → Woken i on before after len q to q₁ → (i < 4294967296) × (to + length (waiter_at on i (thread_meant (get_or after i d))) ≤ length q₁)
turn-fits n on before after d len q i to q₁ fit h long long' was = (
  omega (arith, fit.few),
  kept-behind (λ t. to + length (waiter_at on i t) ≤ length q₁) i _ before after d (omega (arith, fit.within)) was.threads (omega (arith, push-fits n on before q len i fit h, was.queued.count)),
)

---- the part that the loop goes over

pub part-fits : (n on : ℕ) (ts : List ThreadInfo) (q : List ℕ) (len : ℕ) → WakeFit n on ts q len → WakeFit n on (take n ts) q len
part-fits n on ts q len fit = record { within = simp length-take (omega (arith, fit.within)); few = fit.few; room = rw (threads-part ts n) fit.room }

pub woken-part : (n on i : ℕ) (before part : List ThreadInfo) (len : ℕ) (q : List ℕ) (to : ℕ) (q₁ : List ℕ) → i ≡ n → length part ≡ n → Woken i on (take n before) part len q to q₁ → Woken n on before (part ++ drop n before) len q to q₁
woken-part n on i before part len q to q₁ at e w =
    record {
      threads = front-part (λ (ts : List ThreadRecord). woken_threads (waiters on 0 ts) ts) n i before part at e w.threads;
      queued = subst (λ (ts : List ThreadRecord). Pushed (waiters on 0 ts) len q to q₁) (ap (threads_in (take n before)) at ∙ threads-part before n) w.queued;
    }
