-- What the loop that reads the records has made after i turns.
use Prim.Native.Nat.{ℕ, ◌+◌, ◌-◌, ◌<◌, ◌≤◌}
use native.Mathlib.Omega.{arith}
use mathlib.Core.Path.{◌≡◌, refl, sym, ap, subst, ◌∙◌}
use mathlib.Core.List.{List, [], ◌++◌, map}
use lib.ListN.{length, get_or, take, drop}
use lib.Seq.{get_or-take}
use Rattle.std.proofs.lemmas.List.{get_or_default}
use Rattle.model.specs.declared.ThreadInfo.{ThreadInfo}
use Rattle.model.specs.Types.{ThreadRecord}
use Rattle.model.specs.Reading.{thread_meant}
use Rattle.record_reads.specs.declared.totals.Totals.{Totals}
use Rattle.record_reads.specs.Totals.{totals_of, add_totals, TotalsFit}
use Rattle.record_reads.proofs.Summing.{totals-back, totals-front}
use Rattle.threads.specs.Slice.{blank, threads_in}
use Rattle.threads.proofs.Slices.{threads-add, threads-back}

---- sums

pub sums_none : (ts : List ThreadInfo) → totals_of [] ≡ totals_of (threads_in ts 0)
unfolding threads_in
sums_none ts = refl

sums_next : (ts : List ThreadInfo) (i : ℕ) → i < length ts → add_totals (totals_of (threads_in ts i)) (thread_meant (get_or ts i blank)) ≡ totals_of (threads_in ts (i + 1))
sums_next ts i h = totals-back (threads_in ts i) (thread_meant (get_or ts i blank)) ∙ ap totals_of (threads-back ts i h)

sums-fit : (ts : List ThreadInfo) (i n : ℕ) → i ≤ n → TotalsFit (totals_of (threads_in ts n)) → TotalsFit (totals_of (threads_in ts i))
sums-fit ts i n h g = totals-front (threads_in ts i) (map thread_meant (take (n - i) (drop i ts))) (subst (λ (l : List ThreadRecord). TotalsFit (totals_of l)) parts g)
  where
    back : (i n : ℕ) → i ≤ n → n ≡ i + (n - i)
    back i n h = omega arith

    parts : threads_in ts n ≡ threads_in ts i ++ map thread_meant (take (n - i) (drop i ts))
    parts = ap (threads_in ts) (back i n h) ∙ threads-add ts i (n - i)

-- record i is read from the first n
pub turn-sums : (ts : List ThreadInfo) (i n : ℕ) (d : ThreadInfo) (sums : Totals) → i < n → n ≤ length ts → sums ≡ totals_of (threads_in ts i) → add_totals sums (thread_meant (get_or (take n ts) i d)) ≡ totals_of (threads_in ts (i + 1))
turn-sums ts i n d sums h within e =
    let l : i < length ts = omega arith in
    rw (e, get_or-take n ts i d h, get_or_default ts i d blank l) (sums_next ts i l)

-- the sums so far have room for the next record
pub turn-fits : (ts : List ThreadInfo) (i n : ℕ) (d : ThreadInfo) (sums : Totals) → i < n → n ≤ length ts → sums ≡ totals_of (threads_in ts i) → TotalsFit (totals_of (threads_in ts n)) → TotalsFit (add_totals sums (thread_meant (get_or (take n ts) i d)))
turn-fits ts i n d sums h within e fit = subst TotalsFit (sym (turn-sums ts i n d sums h within e)) (sums-fit ts (i + 1) n (omega arith) fit)
