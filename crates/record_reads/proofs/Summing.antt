-- Sums over lists of thread records: one record more, a part of a list, and the questions that a count answers.
use Prim.Native.Nat.{ℕ, ◌+◌, ◌<◌, ◌≤◌, ◌^◌}
use mathlib.Core.Path.{◌≡◌, refl, sym, ap, ◌∙◌}
use mathlib.Core.Bool.{Bool, true, false, ◌||◌}
use mathlib.Core.Option.{Option, none, some}
use mathlib.Core.List.{List, [], ◌∷◌, ◌++◌}
use native.Mathlib.Nat.{zero-add, add-zero, add_assoc}
use native.Mathlib.Omega.{arith}
use lib.Dec.{ltb}
use lib.ListN.{length, length-append}
use borrow.Author.Tests.{lt-ltb}
use Rattle.model.specs.Types.{ThreadState, ThreadRecord}
use Rattle.model.specs.Accounting.{total, one, since}
use Rattle.model.specs.Questions.{any_thread, is_live, is_runnable}
use Rattle.record_reads.specs.declared.totals.Totals.{Totals}
use Rattle.record_reads.specs.Totals.{flag, totals_of, add_totals, TotalsFit}

pub total-append : (f : ThreadRecord → ℕ) (a b : List ThreadRecord) → total f (a ++ b) ≡ total f a + total f b
unfolding total
total-append f [] b = sym (zero-add (total f b))
total-append f (h ∷ a) b = ap (λ (n : ℕ). f h + n) (total-append f a b) ∙ sym (add_assoc (f h) (total f a) (total f b))

total-back : (f : ThreadRecord → ℕ) (a : List ThreadRecord) (t : ThreadRecord) → total f a + f t ≡ total f (a ++ (t ∷ []))
unfolding total
total-back f a t = sym (total-append f a (t ∷ []) ∙ ap (λ (n : ℕ). total f a + n) (add-zero (f t)))

-- `Totals::default`, where all are 0, is the sums of no threads
pub default-is : (n : Totals) → (n.threads ≡ 0) × ((n.finished ≡ 0) × ((n.responded ≡ 0) × ((n.preemptions ≡ 0) × ((n.waiting ≡ 0) × ((n.response ≡ 0) × ((n.turnaround ≡ 0) × ((n.live ≡ 0) × (n.runnable ≡ 0)))))))) → n ≡ totals_of []
unfolding totals_of total
default-is n (a, (b, (c, (d, (e, (f, (g, (h, i)))))))) = zeros n.threads n.finished n.responded n.preemptions n.waiting n.response n.turnaround n.live n.runnable a b c d e f g h i
  where
    zeros : (a b c d e f g h i : ℕ) → a ≡ 0 → b ≡ 0 → c ≡ 0 → d ≡ 0 → e ≡ 0 → f ≡ 0 → g ≡ 0 → h ≡ 0 → i ≡ 0 → ◌≡◌ {A = Totals} (record { threads = a; finished = b; responded = c; preemptions = d; waiting = e; response = f; turnaround = g; live = h; runnable = i }) (record { threads = 0; finished = 0; responded = 0; preemptions = 0; waiting = 0; response = 0; turnaround = 0; live = 0; runnable = 0 })
    zeros a b c d e f g h i a' b' c' d' e' f' g' h' i' = rw (a', b', c', d', e', f', g', h', i')

-- the sums with one thread more at the end
pub totals-back : (a : List ThreadRecord) (t : ThreadRecord) → add_totals (totals_of a) t ≡ totals_of (a ++ (t ∷ []))
unfolding totals_of add_totals
totals-back a t =
    let n : length a + 1 ≡ length (a ++ (t ∷ [])) = sym (length-append a (t ∷ [])) in
    rw (
      n,
      total-back (λ t. one t.times.finish) a t,
      total-back (λ t. one t.times.first_run) a t,
      total-back (λ t. t.counts.preemptions) a t,
      total-back (λ t. t.counts.ready) a t,
      total-back (λ t. since t.times.arrival t.times.first_run) a t,
      total-back (λ t. since t.times.arrival t.times.finish) a t,
      total-back (λ t. flag (is_live t.state)) a t,
      total-back (λ t. flag (is_runnable t.state)) a t,
    )

-- where the sums of a list fit, so do those of its front
pub totals-front : (a b : List ThreadRecord) → TotalsFit (totals_of (a ++ b)) → TotalsFit (totals_of a)
unfolding totals_of
totals-front a b g =
    record {
      threads = omega (arith, g.threads, length-append a b);
      finished = omega (arith, g.finished, total-append (λ t. one t.times.finish) a b);
      responded = omega (arith, g.responded, total-append (λ t. one t.times.first_run) a b);
      preemptions = omega (arith, g.preemptions, total-append (λ t. t.counts.preemptions) a b);
      waiting = omega (arith, g.waiting, total-append (λ t. t.counts.ready) a b);
      response = omega (arith, g.response, total-append (λ t. since t.times.arrival t.times.first_run) a b);
      turnaround = omega (arith, g.turnaround, total-append (λ t. since t.times.arrival t.times.finish) a b);
      live = omega (arith, g.live, total-append (λ t. flag (is_live t.state)) a b);
      runnable = omega (arith, g.runnable, total-append (λ t. flag (is_runnable t.state)) a b);
    }

-- a count of threads is at most their number
total-few : (f : ThreadRecord → ℕ) → ((t : ThreadRecord) → f t ≤ 1) → (ts : List ThreadRecord) → total f ts ≤ length ts
unfolding total
total-few f h [] = omega arith
total-few f h (t ∷ ts) = let l : total f ts ≤ length ts = total-few f h ts in omega (arith, h t)

one-few : (x : Option ℕ) → one x ≤ 1
one-few none = omega arith
one-few (some n) = omega arith

flag-few : (b : Bool) → flag b ≤ 1
flag-few true = omega arith
flag-few false = omega arith

-- the sums fit where the number of threads and the four sums of ticks and preemptions do
pub totals-fit : (ts : List ThreadRecord) → length ts < 2 ^ 64 → total (λ t. t.counts.preemptions) ts < 2 ^ 64 → total (λ t. t.counts.ready) ts < 2 ^ 64
    → total (λ t. since t.times.arrival t.times.first_run) ts < 2 ^ 64 → total (λ t. since t.times.arrival t.times.finish) ts < 2 ^ 64 → TotalsFit (totals_of ts)
unfolding totals_of
totals-fit ts n p w r f =
    record {
      threads = n;
      finished = omega (arith, total-few (λ t. one t.times.finish) (λ t. one-few t.times.finish) ts);
      responded = omega (arith, total-few (λ t. one t.times.first_run) (λ t. one-few t.times.first_run) ts);
      preemptions = p;
      waiting = w;
      response = r;
      turnaround = f;
      live = omega (arith, total-few (λ t. flag (is_live t.state)) (λ t. flag-few (is_live t.state)) ts);
      runnable = omega (arith, total-few (λ t. flag (is_runnable t.state)) (λ t. flag-few (is_runnable t.state)) ts);
    }

any-count : (p : ThreadState → Bool) (ts : List ThreadRecord) → any_thread p ts ≡ ltb 0 (total (λ t. flag (p t.state)) ts)
unfolding any_thread total
any-count p [] = refl
any-count p (t ∷ ts) = by_flag (p t.state) (any_thread p ts) (total (λ t. flag (p t.state)) ts) (any-count p ts)
  where
    by_flag : (b c : Bool) (n : ℕ) → c ≡ ltb 0 n → b || c ≡ ltb 0 (flag b + n)
    by_flag true c n e = sym (lt-ltb 0 (1 + n) (omega arith))
    by_flag false c n e = e ∙ ap (ltb 0) (sym (zero-add n))

-- some thread is live, or runnable, where the count of those is not 0
pub live-any : (ts : List ThreadRecord) → any_thread is_live ts ≡ ltb 0 (totals_of ts).live
unfolding totals_of
live-any ts = any-count is_live ts

pub runnable-any : (ts : List ThreadRecord) → any_thread is_runnable ts ≡ ltb 0 (totals_of ts).runnable
unfolding totals_of
runnable-any ts = any-count is_runnable ts
