-- What `new` checks, and the log's ring with its first two events.
use Rattle.std.specs.Prelude.{Ok, Err, Result}
use Prim.Native.Nat.{ℕ, zero, suc, ◌-◌, ◌*◌, ◌/◌, ◌≤◌, max}
use mathlib.Core.Path.{◌≡◌, refl, sym, ap, ◌∙◌}
use mathlib.Core.Bool.{Bool, true, false, ◌||◌}
use mathlib.Core.Option.{Option, none, some}
use mathlib.Core.List.{List, [], ◌∷◌, ◌++◌}
use native.Mathlib.Omega.{arith}
use borrow.Author.Tests.{ltb-false}
use lib.Dec.{ltb}
use lib.ListN.{length, take, drop, set, length-append, length-drop, length-set}
use lib.Seq.{length-take-le, take_at, drop_at}
use Rattle.settings.specs.declared.SchedConfig.{SchedConfig}
use Rattle.settings.specs.declared.Refusal.{Refusal}
use Rattle.settings.specs.Reading.{refusal_number}
use Rattle.settings.specs.Policy.{beyond}
use Rattle.model.specs.Types.{Event, Spawned, Dispatched}
use Rattle.model.specs.Accounting.{newest}
use Rattle.model.specs.Calls.{check, refused_new}
use Rattle.model.proofs.PhaseLaws.{or-false-l, or-false-r}
use Rattle.rings.specs.declared.RingPos.{RingPos}
use Rattle.rings.specs.Ring.{RingOK, capacity}
use Rattle.rings.specs.Events.{events_in}
use Rattle.rings.proofs.EntryLaws.{ring-empty}
use Rattle.state.specs.declared.Capacities.{Capacities}
use Rattle.state.specs.declared.Sched.{Sched}
use Rattle.state.specs.State.{no_pos}
use Rattle.checks.specs.Check.{check_meant}
use Rattle.new_plan.specs.First.{core_count, bad_capacity, is_short, or_refusal, new_refusal, first_sched, with_log, first_events, FirstLogged, CreatedAs}

---- numbers

pub count-is : (n : ℕ) → max n 1 ≡ core_count n
unfolding core_count
count-is zero = refl
count-is (suc n) = omega arith

pub count-few : (n : ℕ) → n ≤ 8 → core_count n ≤ 8
unfolding core_count
count-few zero h = omega arith
count-few (suc n) h = h

-- what the lanes of at most eight cores take
pub lanes-few : (k m : ℕ) → k ≤ 8 → m ≤ 4096 → k * (2 * m) ≤ 65536
lanes-few k m h g = native.Mathlib.Nat.mul-le-mul h (let z : 2 * m ≤ 8192 = omega arith in z)

beyond-in : (a b n : ℕ) → beyond a b n ≡ false → (a ≤ n) × (n ≤ b)
unfolding beyond
beyond-in a b n e = (ltb-false n a (or-false-l (ltb n a) (ltb b n) e), ltb-false b n (or-false-r (ltb n a) (ltb b n) e))

pub capacity-in : (k : Capacities) → bad_capacity k ≡ false → (1 ≤ k.threads) × (k.threads ≤ 256) × (1 ≤ k.events) × (k.events ≤ 512) × (1 ≤ k.segments) × (k.segments ≤ 4096)
unfolding bad_capacity
capacity-in k e =
    let t = beyond-in 1 256 k.threads (or-false-l _ _ e) in
    let v = beyond-in 1 512 k.events (or-false-l _ _ (or-false-r (beyond 1 256 k.threads) _ e)) in
    let g = beyond-in 1 4096 k.segments (or-false-r (beyond 1 512 k.events) _ (or-false-r (beyond 1 256 k.threads) _ e)) in
    (t.0, t.1, v.0, v.1, g.0, g.1)

---- the ladder of checks against the chain

module _ (c : SchedConfig) (n : ℕ) (k : Capacities) (t q p l w : ℕ) where
  chain : (a b d f g : Bool) → Option ℕ
  chain a b d f g = or_refusal (check 1 (a || b) (check 2 d (check 3 f none))) (check 3 g none)

  abbrev bad : Bool
  bad = beyond 1 1_000_000 c.quantum

  abbrev dear : Bool
  dear = ltb 10_000 c.switch_cost

  is-chain : new_refusal c n k t q p l w ≡ chain bad dear (ltb 8 n) (bad_capacity k) (is_short k n t q p l w)
  unfolding new_refusal refused_new bad_capacity chain
  is-chain = refl

  pub refused-1 : bad ≡ true → some 1 ≡ new_refusal c n k t q p l w
  unfolding check chain
  refused-1 e = sym (is-chain ∙ rw e refl)

  pub refused-1b : bad ≡ false → dear ≡ true → some 1 ≡ new_refusal c n k t q p l w
  unfolding check chain
  refused-1b e f = sym (is-chain ∙ rw (e, f) refl)

  module _ (e : bad ≡ false) (f : dear ≡ false) where
    pub refused-2 : ltb 8 n ≡ true → some 2 ≡ new_refusal c n k t q p l w
    unfolding check chain
    refused-2 g = sym (is-chain ∙ rw (e, f, g) refl)

    pub refused-3 : ltb 8 n ≡ false → bad_capacity k ≡ true → some 3 ≡ new_refusal c n k t q p l w
    unfolding check chain
    refused-3 g h = sym (is-chain ∙ rw (e, f, g, h) refl)

    pub refused-3b : ltb 8 n ≡ false → bad_capacity k ≡ false → is_short k n t q p l w ≡ true → some 3 ≡ new_refusal c n k t q p l w
    unfolding check chain
    refused-3b g h i = sym (is-chain ∙ rw (e, f, g, h, i) refl)

    pub refused_none : ltb 8 n ≡ false → bad_capacity k ≡ false → is_short k n t q p l w ≡ false → none ≡ new_refusal c n k t q p l w
    unfolding check chain
    refused_none g h i = sym (is-chain ∙ rw (e, f, g, h, i) refl)

---- the log

-- two events into an empty ring
pub first-events :
    (words words' : ℕ) (l l₁ l₂ : List Event) → 1 ≤ words / 2 → words' ≡ words → l ≡ [] → l₁ ≡ newest (words / 2) (l ++ (record { tick = 0; tid = 0; kind = Spawned none } ∷ []))
    → l₂ ≡ newest (words' / 2) (l₁ ++ (record { tick = 0; tid = 0; kind = Dispatched 0 } ∷ [])) → l₂ ≡ first_events (words / 2)
unfolding first_events newest
first-events words words' l l₁ l₂ h w a b c =
    let z : 1 - words / 2 ≡ 0 = omega arith in
    let one : l₁ ≡ record { tick = 0; tid = 0; kind = Spawned none } ∷ [] = b ∙ rw (a, z) refl in
    c ∙ rw (one, w) refl

-- the ring was lent as the first words, and came back as b
pub first-put : (words : ℕ) (ls b : List ℕ) (p : RingPos) → words ≤ length ls → length b ≡ length (take words ls) → RingOK b p → events_in b p ≡ first_events (capacity (take words ls)) → FirstLogged words ls (b ++ drop words ls) p
first-put words ls b p h l k e =
    let z : length b ≡ words = l ∙ length-take-le words ls h in
    let f : take words (b ++ drop words ls) ≡ b = take_at b (drop words ls) words z in
    record { ok = rw f k; events = rw f e; rest = drop_at b (drop words ls) words z; long = simp (length-append, length-drop) (omega arith) }

pub log-empty : (e : ℕ) (ls : List ℕ) → 1 ≤ e → e ≤ 512 → 2 * e ≤ length ls → RingOK (take (2 * e) ls) no_pos
log-empty e ls h k g = let l : length (take (2 * e) ls) ≡ 2 * e = length-take-le (2 * e) ls g in ring-empty (take (2 * e) ls) no_pos e (omega arith) (omega arith) (omega arith) refl

---- the call's end

no_both : {B : Type 0} (n : ℕ) (o : Option ℕ) → o ≡ none → o ≡ some n → B
no_both n o e f = absurd (let z : ◌≡◌ {A = ℕ} 0 1 = cc in omega arith)

pub created-refused : (c : SchedConfig) (cores : ℕ) (k : Capacities) (a : Result Unit Refusal) (ps ls : List ℕ) (s : Sched) (x : Refusal) → a ≡ Err x → CreatedAs c cores k a ps ps ls ls s a
created-refused c cores k a ps ls s x e =
    record { answer = refl; long_prios = refl; long_log = refl; refused = λ n h. (refl, refl); taken = λ h. no_both (refusal_number x) (check_meant a) h (ap check_meant e) }

pub created-taken :
    (c : SchedConfig) (cores : ℕ) (k : Capacities) (a : Result Unit Refusal) (ps ls ls' : List ℕ) (s : Sched) (p : RingPos) → a ≡ Ok tt → s ≡ first_sched c cores k → FirstLogged (2 * k.events) ls ls' p
    → CreatedAs c cores k a ps (set ps 0 10) ls ls' (with_log p s) a
created-taken c cores k a ps ls ls' s p e h f =
    record { answer = refl; long_prios = length-set ps 0 10; long_log = f.long; refused = λ n g. no_both n (check_meant a) (ap check_meant e) g; taken = λ g. (ap (with_log p) h, refl, f) }
