-- What the sums are, one core after the other, and how large they are in a state as every call leaves it.
use Prim.Native.Nat.{ℕ, zero, suc, ◌+◌, ◌*◌, ◌<◌, ◌≤◌, ◌^◌}
use mathlib.Core.Path.{◌≡◌, refl, sym, ap, ap₂, ◌∙◌, subst}
use mathlib.Core.Option.{Option, none, some}
use mathlib.Core.List.{List, [], ◌∷◌, ◌++◌, map}
use native.Mathlib.Nat.{mul-le-mul}
use native.Mathlib.Omega.{arith}
use lib.ListN.{length, get_or, take, length-map}
use lib.Seq.{length-take-le}
use Rattle.model.specs.Invariants.{All, Between, ThreadIn, TicksIn}
use Rattle.model.specs.declared.ThreadInfo.{ThreadInfo}
use Rattle.model.specs.declared.CoreTicks as Counters
use Rattle.model.specs.Types.{ThreadRecord, CoreTicks}
use Rattle.model.specs.Accounting.{total, one, since, Sums, sums}
use Rattle.model.specs.Calls.{limit_now, limit_switches}
use Rattle.model.specs.Reading.{thread_meant, core_ticks_meant}
use Rattle.model.proofs.Bounded.{all_map}
use Rattle.record_reads.specs.declared.totals.Totals.{Totals}
use Rattle.record_reads.specs.Totals.{totals_of, TotalsFit}
use Rattle.record_reads.proofs.Summing.{totals-fit}
use Rattle.threads.specs.Slice.{threads_in}
use Rattle.state.specs.declared.Sched.{Sched}
use Rattle.state.specs.Memory.{memory}
use Rattle.state.specs.State.{firsts, no_ticks, meant_at, Valid}
use Rattle.state.proofs.Firsts.{length-firsts, get_d-firsts}
use Rattle.summary.specs.Reading.{Summed}
use Rattle.summary.specs.Cores.{all_ticks, busy_in, all_in}

---- sums over lists

total-snoc : {A : Type 0} (f : A → ℕ) (xs : List A) (x : A) → total f (xs ++ (x ∷ [])) ≡ total f xs + f x
unfolding total
total-snoc f [] x = omega arith
total-snoc f (y ∷ xs) x = omega (arith, total-snoc f xs x)

total-most : {A : Type 0} (f : A → ℕ) (m : ℕ) (xs : List A) → All (λ (x : A). f x ≤ m) xs → total f xs ≤ m * length xs
unfolding total
total-most f m [] a = omega arith
total-most f m (x ∷ xs) a = omega (arith, a.0, total-most f m xs a.1)

all_any : {A : Type 0} (P : A → Type 0) → ((x : A) → P x) → (xs : List A) → All P xs
all_any P h [] = tt
all_any P h (x ∷ xs) = (h x, all_any P h xs)

all-get : {A : Type 0} (P : A → Type 0) (xs : List A) (i : ℕ) (d : A) → i < length xs → All P xs → P (get_or xs i d)
all-get P [] i d h a = absurd (omega arith)
all-get P (x ∷ xs) zero d h a = a.0
all-get P (x ∷ xs) (suc i) d h a = all-get P xs i d (omega arith) a.1

---- the cores, one after the other

module _ (ticks : List Counters.CoreTicks) where
  pub busy-none : busy_in ticks 0 ≡ 0
  unfolding busy_in total firsts
  busy-none = refl

  pub all_none : all_in ticks 0 ≡ 0
  unfolding all_in total firsts
  all_none = refl

  pub busy-next : (i : ℕ) → busy_in ticks (suc i) ≡ busy_in ticks i + (get_or ticks i no_ticks).busy
  unfolding busy_in firsts
  busy-next i = total-snoc (λ (n : CoreTicks). n.busy) (firsts (λ (j : ℕ). core_ticks_meant (get_or ticks j no_ticks)) i) (core_ticks_meant (get_or ticks i no_ticks))

  pub all-next : (i : ℕ) → all_in ticks (suc i) ≡ all_in ticks i + all_ticks (get_or ticks i no_ticks)
  unfolding all_in firsts
  all-next i = total-snoc (λ (n : CoreTicks). n.busy + n.switching + n.idle) (firsts (λ (j : ℕ). core_ticks_meant (get_or ticks j no_ticks)) i) (core_ticks_meant (get_or ticks i no_ticks))

---- all the sums

abbrev pub sums_with : Totals → (context_switches busy all : ℕ) → Sums
sums_with n w b a =
    record {
      threads = n.threads;
      finished = n.finished;
      responded = n.responded;
      context_switches = w;
      preemptions = n.preemptions;
      waiting = n.waiting;
      response = n.response;
      turnaround = n.turnaround;
      busy = b;
      core_ticks = a;
    }

---- how large they are

one-most : (o : Option ℕ) → one o ≤ 1
one-most none = omega arith
one-most (some x) = omega arith

since-most : (a b : ℕ) (o : Option ℕ) → Between a b o → since a o ≤ b
since-most a b none h = omega arith
since-most a b (some n) h = omega (arith, h.1)

-- the threads' sums, and that they and the cores' convert exactly
pub record Small (n : Totals) : Type 0 where
  pub threads : n.threads < 2 ^ 53
  pub preemptions : n.preemptions < 2 ^ 53
  pub responded : n.responded < 2 ^ 53
  pub finished : n.finished < 2 ^ 53
  pub waiting : n.waiting < 2 ^ 53
  pub response : n.response < 2 ^ 53
  pub turnaround : n.turnaround < 2 ^ 53

threads-small : (now d p : ℕ) (ts : List ThreadRecord) → now ≤ 4_000_000_000 → p ≤ 136_000_000_000 → length ts ≤ 256 → All (ThreadIn now d p) ts → Small (totals_of ts)
unfolding totals_of
threads-small now d p ts hn hp ht a =
    let often : now * length ts ≤ 4_000_000_000 * 256 = mul-le-mul hn ht in
    let rarely : p * length ts ≤ 136_000_000_000 * 256 = mul-le-mul hp ht in
    let up : now + 1 ≤ 4_000_000_001 = omega arith in
    let oftener : (now + 1) * length ts ≤ 4_000_000_001 * 256 = mul-le-mul up ht in
    record {
      threads = omega arith;
      preemptions = omega (arith, total-most (λ (t : ThreadRecord). t.counts.preemptions) p ts (all_map (ThreadIn now d p) _ (λ t k. k.preemptions) ts a));
      responded = omega (arith, total-most (λ (t : ThreadRecord). one t.times.first_run) 1 ts (all_any _ (λ t. one-most t.times.first_run) ts));
      finished = omega (arith, total-most (λ (t : ThreadRecord). one t.times.finish) 1 ts (all_any _ (λ t. one-most t.times.finish) ts));
      waiting = omega (arith, total-most (λ (t : ThreadRecord). t.counts.ready) now ts (all_map (ThreadIn now d p) _ (λ t k. k.ready) ts a));
      response = omega (arith, total-most (λ (t : ThreadRecord). since t.times.arrival t.times.first_run) now ts (all_map (ThreadIn now d p) _ (λ t k. since-most t.times.arrival now t.times.first_run k.first_run) ts a));
      turnaround = omega (arith, total-most (λ (t : ThreadRecord). since t.times.arrival t.times.finish) (now + 1) ts (all_map (ThreadIn now d p) _ (λ t k. since-most t.times.arrival (now + 1) t.times.finish k.finish) ts a));
    }

module _ (s : Sched) (n : Totals) (ts : List ThreadInfo) (qs ps ls ws : List ℕ) (k : Summed s n ts qs ps ls ws) where
  tick-limit : s.now.0 ≤ 4_000_000_000
  unfolding meant_at limit_now
  tick-limit = k.valid.bounded.now

  pub tick-small : s.now.0 < 2 ^ 53
  tick-small = omega (arith, tick-limit)

  switches-limit : s.context_switches ≤ 136_000_000_000
  unfolding meant_at limit_switches
  switches-limit = omega (arith, k.valid.bounded.context_switches, tick-limit)

  pub switches-small : s.context_switches < 2 ^ 53
  switches-small = omega (arith, switches-limit)

  -- each core's counters make up the time
  pub core-small : (i : ℕ) → i < s.cores → all_ticks (get_or s.ticks i no_ticks) ≤ 4_000_000_000
  unfolding meant_at
  core-small i h =
      let g : ℕ → CoreTicks = λ (j : ℕ). core_ticks_meant (get_or s.ticks j no_ticks) in
      let e : get_or (firsts g s.cores) i (g i) ≡ g i = get_d-firsts g s.cores i (g i) h in
      let l : i < length (firsts g s.cores) = subst (λ (m : ℕ). i < m) (sym (length-firsts g s.cores)) h in
      let t : TicksIn s.now.0 (g i) = subst (TicksIn s.now.0) e (all-get (TicksIn s.now.0) (firsts g s.cores) i (g i) l k.valid.bounded.ticks) in
      omega (arith, t, tick-limit)

  pub cores-few : s.cores ≤ 8
  cores-few = k.valid.sizes.cores

  pub totals-small : Small n
  unfolding meant_at threads_in
  totals-small =
      let few : s.capacities.threads ≤ 256 = k.valid.bounded.settings.cap_t' in
      let len : length (map thread_meant (take s.threads ts)) ≡ s.threads = length-map (take s.threads ts) thread_meant ∙ length-take-le s.threads ts (omega (arith, k.valid.sizes.in_use, k.valid.sizes.threads)) in
      subst Small (sym k.totals) (threads-small s.now.0 _ _ (map thread_meant (take s.threads ts)) tick-limit switches-limit (omega (arith, len, few, k.valid.sizes.in_use)) k.valid.bounded.threads)

  -- the definition's sums are those of the threads and those of the cores
  pub sums-are : (b a : ℕ) → b ≡ busy_in s.ticks s.cores → a ≡ all_in s.ticks s.cores → sums_with n s.context_switches b a ≡ sums (meant_at s ts qs ls ws).accounts
  unfolding sums meant_at totals_of threads_in busy_in all_in
  sums-are b a p q = ap (λ (m : Totals). sums_with m s.context_switches b a) k.totals ∙ ap₂ (λ (x y : ℕ). sums_with (totals_of (threads_in ts s.threads)) s.context_switches x y) p q

  pub cores-small : (m : ℕ) → m ≤ s.cores → (busy_in s.ticks m ≤ all_in s.ticks m) × (all_in s.ticks m ≤ 4_000_000_000 * m)
  cores-small zero h = (omega (arith, busy-none s.ticks, all_none s.ticks), omega (arith, all_none s.ticks))
  cores-small (suc m) h =
      let r = cores-small m (omega arith) in
      (omega (arith, r.0, busy-next s.ticks m, all-next s.ticks m), omega (arith, r.1, all-next s.ticks m, core-small m (omega arith)))

small-fit : (rs : List ThreadRecord) → Small (totals_of rs) → TotalsFit (totals_of rs)
unfolding totals_of
small-fit rs z = totals-fit rs (omega (arith, z.threads)) (omega (arith, z.preemptions)) (omega (arith, z.waiting)) (omega (arith, z.response)) (omega (arith, z.turnaround))

-- what `threads::totals` asks, in a state as every call leaves it
pub totals-room : (s : Sched) (ts : List ThreadInfo) (qs ps ls ws : List ℕ) → Valid s (memory ts qs ps ls ws) → (s.threads ≤ length ts) × TotalsFit (totals_of (threads_in ts s.threads))
totals-room s ts qs ps ls ws v =
    (omega (arith, v.sizes.in_use, v.sizes.threads), small-fit (threads_in ts s.threads) (totals-small s _ ts qs ps ls ws (record { valid = v; totals = refl })))
