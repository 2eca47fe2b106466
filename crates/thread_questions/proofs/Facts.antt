-- What the parts say of the definition's state, where the thread records are the ones that are read.
use Rattle.std.specs.Prelude as Std
use Prim.Native.Nat.{ℕ, zero, suc, ◌<◌, ◌≤◌}
use mathlib.Core.Path.{◌≡◌, refl, sym, ap, subst, ◌∙◌}
use mathlib.Core.Bool.{Bool, not}
use mathlib.Core.Option.{none, some}
use mathlib.Core.List.{List, [], ◌∷◌, map}
use native.Mathlib.Omega.{arith}
use lib.Dec.{T as Holds, ltb, ltb→lt, nltb→le}
use lib.ListN.{length, take, get_or, get_elem?}
use Rattle.model.specs.declared.ThreadInfo.{ThreadInfo}
use Rattle.model.specs.Types.{ThreadRecord, State}
use Rattle.model.specs.Reading.{thread_meant}
use Rattle.model.specs.Questions.{thread_at}
use Rattle.record_reads.specs.declared.totals.Totals.{Totals}
use Rattle.record_reads.specs.Totals.{totals_of, TotalsFit}
use Rattle.threads.specs.Slice.{threads_in, blank}
use Rattle.state.specs.declared.Sched.{Sched}
use Rattle.state.specs.Memory.{Memory}
use Rattle.state.specs.State.{meant, meant_at, Valid}
use Rattle.state.specs.Asked.{Askable, Answers, the_threads}
use Rattle.summary.specs.Reading.{Summed}
use Rattle.summary.proofs.Totaling.{totals-room}
use Rattle.thread_questions.specs.Reading.{option_thread_meant}

---- an element of the first n, as it is read

at_place : {A B : Type 0} (f : A → B) (n i : ℕ) (ts : List A) (d : A) → i < n → i < length ts → some (f (get_or ts i d)) ≡ get_elem? (map f (take n ts)) i
at_place f zero i ts d h l = absurd (omega arith)
at_place f (suc n) i [] d h l = absurd (omega arith)
at_place f (suc n) zero (t ∷ ts) d h l = refl
at_place f (suc n) (suc i) (t ∷ ts) d h l = at_place f n i ts d (omega arith) (omega arith)

past_the_end : {A B : Type 0} (f : A → B) (n i : ℕ) (ts : List A) → n ≤ i → none ≡ get_elem? (map f (take n ts)) i
past_the_end f zero i ts h = refl
past_the_end f (suc n) i [] h = refl
past_the_end f (suc n) zero (t ∷ ts) h = absurd (omega arith)
past_the_end f (suc n) (suc i) (t ∷ ts) h = past_the_end f n i ts (omega arith)

---- what is read

module _ (s : Sched) (ts : List ThreadInfo) where
  -- the records in use are the definition's threads
  records-are : (m : Memory) → the_threads ts m → threads_in ts s.threads ≡ (meant s m).accounts.threads
  unfolding threads_in meant_at
  records-are m e = ap (λ (us : List ThreadInfo). map thread_meant (take s.threads us)) (sym e)

  in-use-within : (m : Memory) → Valid s m → the_threads ts m → s.threads ≤ length ts
  in-use-within m v e = subst (λ (us : List ThreadInfo). s.threads ≤ length us) e (omega (arith, v.sizes.in_use, v.sizes.threads))

  pub threads-are : Answers s (the_threads ts) (λ d. map thread_meant (take s.threads ts) ≡ d.accounts.threads)
  unfolding threads_in
  threads-are m v e = records-are m e

  -- what `threads::totals` asks, and what its sums are
  pub totals-fit : Askable s (the_threads ts) → (n : ℕ) → n ≡ s.threads → (n ≤ length ts) × TotalsFit (totals_of (threads_in ts n))
  totals-fit k n n-is =
      rw n-is (subst (λ (us : List ThreadInfo). (s.threads ≤ length us) × TotalsFit (totals_of (threads_in us s.threads))) k.2 (totals-room s k.0.threads k.0.queue k.0.prios k.0.log k.0.lanes k.1))

  pub totals-are : (n : ℕ) → n ≡ s.threads → (r : Totals) → r ≡ totals_of (threads_in ts n) → Answers s (the_threads ts) (λ d. r ≡ totals_of d.accounts.threads)
  totals-are n n-is r r-is m v e = r-is ∙ ap (λ (k : ℕ). totals_of (threads_in ts k)) n-is ∙ ap totals_of (records-are m e)

  module _ (n : Totals) (n-is : Answers s (the_threads ts) (λ d. n ≡ totals_of d.accounts.threads)) where
    -- what a part says of every list with these sums
    pub told-of-list : (says : List ThreadRecord → Type 0) → ((rs : List ThreadRecord) → n ≡ totals_of rs → says rs) → Answers s (the_threads ts) (λ d. says d.accounts.threads)
    told-of-list says h m v e = h (meant s m).accounts.threads (n-is m v e)

    summed : (m : Memory) → Valid s m → the_threads ts m → Summed s n m.threads m.queue m.prios m.log m.lanes
    unfolding threads_in meant_at
    summed m v e = record { valid = v; totals = n-is m v e }

    -- what the summary's parts ask, and what they say of every state with these sums
    pub sums-asked : Askable s (the_threads ts) → (us : List ThreadInfo) × (qs : List ℕ) × (ps : List ℕ) × (ls : List ℕ) × (ws : List ℕ) × Summed s n us qs ps ls ws
    sums-asked k = (k.0.threads, k.0.queue, k.0.prios, k.0.log, k.0.lanes, summed k.0 k.1 k.2)

    pub told-of-sums : (says : State → Type 0) → ((us : List ThreadInfo) (qs ps ls ws : List ℕ) → Summed s n us qs ps ls ws → says (meant_at s us qs ls ws)) → Answers s (the_threads ts) says
    told-of-sums says h m v e = h m.threads m.queue m.prios m.log m.lanes (summed m v e)

  -- b says whether there is a thread k
  module _ (k : ℕ) (b : Bool) (b-is : b ≡ ltb k s.threads) where
    there : Holds b → k < s.threads
    there h = ltb→lt k s.threads (rw b-is at h)

    pub thread-found : Holds b → (i : ℕ) → i ≡ k → (x : ThreadInfo) → x ≡ get_or ts i blank → (r : Std.Option ThreadInfo) → option_thread_meant r ≡ some (thread_meant x) → Answers s (the_threads ts) (λ d. option_thread_meant r ≡ thread_at d k)
    unfolding thread_at threads_in
    thread-found h i i-is x x-is r r-is m v e =
        r-is ∙ ap (λ (y : ThreadInfo). some (thread_meant y)) (x-is ∙ ap (λ (j : ℕ). get_or ts j blank) i-is) ∙ at_place thread_meant s.threads k ts blank (there h) (omega (arith, there h, in-use-within m v e)) ∙ ap (λ (rs : List ThreadRecord). get_elem? rs k) (records-are m e)

    pub thread-missing : Holds (not b) → (r : Std.Option ThreadInfo) → option_thread_meant r ≡ none → Answers s (the_threads ts) (λ d. option_thread_meant r ≡ thread_at d k)
    unfolding thread_at threads_in
    thread-missing h r r-is m v e = r-is ∙ past_the_end thread_meant s.threads k ts (nltb→le k s.threads (rw b-is at h)) ∙ ap (λ (rs : List ThreadRecord). get_elem? rs k) (records-are m e)
