-- The search for the core that loses its thread, and the next preemption.
-- Assumes nothing.
use Prim.Native.Nat.{ℕ, ◌+◌, ◌≤◌, ◌<◌}
use mathlib.Core.Path.{◌≡◌, refl, ◌∙◌}
use mathlib.Core.Bool.{Bool}
use mathlib.Core.Option.{Option, none, some}
use mathlib.Core.List.{List}
use native.Mathlib.Numerals.{add-one}
use native.Mathlib.Omega.{arith}
use lib.ListN.{length, get_or}
use borrow.Author.Tests.{lt-ltb, le-ltb}
use Rattle.model.specs.Types.{CoreState, Running}
use Rattle.model.specs.Phases.{Victim, most_urgent, least_urgent, preemption_of}
use Rattle.model.specs.Reading.{core_state_meant}
use Rattle.model.specs.declared.CoreState as Program
use Rattle.model.specs.declared.Tid.{Tid}
use Rattle.model.specs.declared.CoreState.TheVariants
use Rattle.model.proofs.LoopLaws.{sofar, least_urgent-snoc}
use Rattle.queue.specs.Ready.{Picked}
use Rattle.std.specs.Prelude as Std
use Rattle.std.specs.Prelude.{Some, None, IfSome}
use borrow.Author.Rules.{rules}
use Rattle.preempt.specs.declared.Victim as Found
use Rattle.queue.proofs.Scan.{behind, there}
use Rattle.phases.specs.Cores.{firsts, core_at}
use Rattle.phases.proofs.Loops.{firsts-length}
use Rattle.preempt.specs.Preemptions.{victim_meant}

---- what the search knows after the first i cores: the victim and its number; nobody yet: the number is 0

module _ (pr : ℕ → ℕ) (cs : List Program.CoreState) (ex bl yi ps : List Bool) where
  abbrev found : ℕ → Option Victim
  found i = least_urgent pr 0 (firsts (core_at cs ex bl yi ps) i)

  abbrev state : ℕ → CoreState
  state i = core_state_meant (get_or cs i TheVariants.Idle)

  pub data Seek (i : ℕ) (v : Std.Option Found.Victim) (high : ℕ) : Type 0 where
    none_yet_lem : found i ≡ none → high ≡ 0 → v ≡ None → Seek i v high
    has : (x : Found.Victim) → v ≡ Some x → found i ≡ victim_meant (Some x) → x.core.0 < i → high ≡ pr x.tid.0 → Seek i v high

  further : (i : ℕ) → found (i + 1) ≡ sofar pr (found i) i (state i)
  unfolding firsts core_at
  further i = rw add-one (least_urgent-snoc pr 0 i (firsts (core_at cs ex bl yi ps) i) (core_at cs ex bl yi ps i) (rw (firsts-length (core_at cs ex bl yi ps) i) (omega arith)))

  pub seek-start : Seek 0 None 0
  unfolding least_urgent firsts
  seek-start = none_yet_lem refl refl refl

  pub seek-pass : (i : ℕ) (v : Std.Option Found.Victim) (high : ℕ) → ((w : Option Victim) → sofar pr w i (state i) ≡ w) → Seek i v high → Seek (i + 1) v high
  seek-pass i v high e (none_yet_lem f g h) = none_yet_lem (further i ∙ e (found i) ∙ f) g h
  seek-pass i v high e (has x o f l g) = has x o (further i ∙ e (found i) ∙ f) (omega arith) g

  -- a core that runs nothing
  pub seek-other : (i : ℕ) (v : Std.Option Found.Victim) (high : ℕ) → ((t : Tid) (s : ℕ) → get_or cs i TheVariants.Idle ≡ TheVariants.Running t s → ⊥) → Seek i v high → Seek (i + 1) v high
  seek-other i v high n = seek-pass i v high (same (get_or cs i TheVariants.Idle) n)
    where
      same : (s : Program.CoreState) → ((t : Tid) (l : ℕ) → s ≡ TheVariants.Running t l → ⊥) → (w : Option Victim) → sofar pr w i (core_state_meant s) ≡ w
      same TheVariants.Idle n w = refl
      same (TheVariants.Switching t l) n w = refl
      same (TheVariants.Running t l) n w = absurd (n t l refl)

  pub seek-take : (i : ℕ) (v : Std.Option Found.Victim) (high : ℕ) (t : Tid) (s p : ℕ) → state i ≡ Running t.0 s → p ≡ pr t.0 → high ≤ p → Seek i v high → Seek (i + 1) (Some (record { core = record { 0 = i }; tid = t })) p
  seek-take i v high t s p e ep l (none_yet_lem f g h) = has _ refl (further i ∙ rw (f, e)) (omega arith) ep
  seek-take i v high t s p e ep l (has x o f k g) = has _ refl (further i ∙ rw (f, e, le-ltb (pr t.0) (pr x.tid.0) (omega arith))) (omega arith) ep

  pub seek-keep : (i : ℕ) (v : Std.Option Found.Victim) (high : ℕ) (t : Tid) (s p : ℕ) → state i ≡ Running t.0 s → p ≡ pr t.0 → p < high → Seek i v high → Seek (i + 1) v high
  seek-keep i v high t s p e ep l (none_yet_lem f g h) = absurd (omega arith)
  seek-keep i v high t s p e ep l (has x o f k g) = has x o (further i ∙ rw (f, e, lt-ltb (pr t.0) (pr x.tid.0) (omega arith))) (omega arith) g

  pub seek-end : (i n : ℕ) (v : Std.Option Found.Victim) (high : ℕ) → i ≤ n → n ≤ i → Seek i v high → found n ≡ victim_meant v
  seek-end i n v high l k s =
      let e : i ≡ n = omega arith in
      go (rw e at s)
    where
      go : Seek n v high → found n ≡ victim_meant v
      go (none_yet_lem f g h) = rw h f
      go (has x o f l g) = rw o f

  pub seek-within : (i n : ℕ) (v : Std.Option Found.Victim) (high : ℕ) → i ≤ n → Seek i v high → IfSome v (λ x. x.core.0 < n)
  seek-within i n v high l (none_yet_lem f g h) = rw h (search rules)
  seek-within i n v high l (has x o f k g) = rw o (omega arith)

---- the next preemption

pub preemption-nobody : (pr : ℕ → ℕ) (q : List ℕ) → Picked (most_urgent pr q) q (length q) → (w : Option Victim) → preemption_of pr (most_urgent pr q) w ≡ none
unfolding preemption_of
preemption-nobody pr q p w = rw (p.next, behind q (length q) (omega arith))

pub preemption-idle : (pr : ℕ → ℕ) (o : Option ℕ) (w : Option Victim) → w ≡ none → preemption_of pr o w ≡ none
unfolding preemption_of
preemption-idle pr none w e = refl
preemption-idle pr (some b) w e = rw e

module _ (pr : ℕ → ℕ) (q : List ℕ) (at : ℕ) (p : Picked (most_urgent pr q) q at) (l : at < length q) (w : Option Victim) (t v : ℕ) (e : w ≡ some (record { tid = t; core = v })) where
  pub preemption-not : pr t ≤ pr (get_or q at 0) → preemption_of pr (most_urgent pr q) w ≡ none
  unfolding preemption_of
  preemption-not h = rw (p.next, there q at l, e, le-ltb (pr (get_or q at 0)) (pr t) h)

  pub preemption-goes : pr (get_or q at 0) < pr t → preemption_of pr (most_urgent pr q) w ≡ some (record { victim = record { tid = t; core = v }; best = get_or q at 0 })
  unfolding preemption_of
  preemption-goes h = rw (p.next, there q at l, e, lt-ltb (pr (get_or q at 0)) (pr t) h)
