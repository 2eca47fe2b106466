-- Every chain of calls, made by whomever, is the definition's own run, and the round robin guarantees hold of it.
use Rattle.std.specs.Prelude.{Result}
use Rattle.settings.specs.declared.Refusal.{Refusal}
use Prim.Native.Nat.{ℕ}
use mathlib.Core.Path.{◌≡◌, refl, ap, ◌∙◌, subst}
use mathlib.Core.List.{List, [], ◌∷◌, ◌++◌, map}
use Rattle.settings.specs.declared.SchedConfig.{SchedConfig}
use Rattle.settings.specs.Reading.{policy_meant}
use Rattle.model.specs.Types.{Policy, RoundRobin, State}
use Rattle.model.specs.Calls.{Answer, step, run, new, made}
use Rattle.guarantees.proofs.Bounds.{round-robin-bounds}
use Rattle.state.specs.declared.Capacities.{Capacities}
use Rattle.state.specs.declared.Sched.{Sched}
use Rattle.state.specs.Memory.{Memory}
use Rattle.state.specs.State.{meant, Valid}
use Rattle.state.specs.Done.{Done}
use Rattle.replay.specs.Chain.{Link, Linked, Chain, Agrees, ChainHolds, last_sched, last_memory, last_said}
use Rattle.replay.specs.Replay.{last_answer}

linked-agrees : (s : Sched) (m : Memory) (d : State) (ls : List Link) → meant s m ≡ d → Linked s m ls → Agrees d ls
linked-agrees s m d [] e h = tt
linked-agrees s m d (l ∷ ls) e h =
    let state : meant l.sched l.memory ≡ (step d l.call).state = h.0.state ∙ ap (λ (x : State). (step x l.call).state) e in
    (state, h.0.answer ∙ ap (λ (x : State). (step x l.call).answer) e, h.0.valid, linked-agrees l.sched l.memory (step d l.call).state ls state h.1)

-- what the last call left is the definition's `run` over all of them, and what it said is the definition's answer to the last
pub agrees-run : (s : Sched) (m : Memory) (d : State) (ls : List Link) → meant s m ≡ d → Agrees d ls → meant (last_sched s ls) (last_memory m ls) ≡ run d (map (λ (l : Link). l.call) ls)
unfolding run
agrees-run s m d [] e h = e
agrees-run s m d (l ∷ ls) e h = agrees-run l.sched l.memory (step d l.call).state ls h.0 h.3

pub agrees-said : (a : Answer) (d : State) (ls : List Link) → Agrees d ls → last_said a ls ≡ last_answer a d (map (λ (l : Link). l.call) ls)
unfolding last_answer
agrees-said a d [] h = refl
agrees-said a d (l ∷ ls) h =
    agrees-said l.answer (step d l.call).state ls h.3 ∙ ap (λ (x : Answer). last_answer x (step d l.call).state (map (λ (k : Link). k.call) ls)) h.1

-- what the next call asks holds after every call
pub linked-valid : (s : Sched) (m : Memory) (ls : List Link) → Valid s m → Linked s m ls → Valid (last_sched s ls) (last_memory m ls)
linked-valid s m [] v h = v
linked-valid s m (l ∷ ls) v h = linked-valid l.sched l.memory ls h.0.valid h.1

-- one link more
module _ (l : Link) where
  pub linked-snoc : (s : Sched) (m : Memory) (ls : List Link) → Linked s m ls → Done l.call l.answer (last_sched s ls) l.sched (last_memory m ls) l.memory → Linked s m (ls ++ (l ∷ []))
  linked-snoc s m [] h d = (d, tt)
  linked-snoc s m (k ∷ ls) h d = (h.0, linked-snoc k.sched k.memory ls h.1 d)

  pub sched-snoc : (s : Sched) (ls : List Link) → last_sched s (ls ++ (l ∷ [])) ≡ l.sched
  sched-snoc s [] = refl
  sched-snoc s (k ∷ ls) = sched-snoc k.sched ls

  pub memory-snoc : (m : Memory) (ls : List Link) → last_memory m (ls ++ (l ∷ [])) ≡ l.memory
  memory-snoc m [] = refl
  memory-snoc m (k ∷ ls) = memory-snoc k.memory ls

  pub said-snoc : (a : Answer) (ls : List Link) → last_said a (ls ++ (l ∷ [])) ≡ l.answer
  said-snoc a [] = refl
  said-snoc a (k ∷ ls) = said-snoc k.answer ls

module _ (c : SchedConfig) (n : ℕ) (k : Capacities) (entry : ℕ) (m : Memory) (a : Result Unit Refusal) (s₀ : Sched) (m₀ : Memory) (ls : List Link) (h : Chain c n k entry m a s₀ m₀ ls) where
  robin : policy_meant c.policy ≡ RoundRobin → new RoundRobin c.quantum c.switch_cost n k.threads k.events k.segments entry ≡ made (meant s₀ m₀)
  robin rr = subst (λ (p : Policy). new p c.quantum c.switch_cost n k.threads k.events k.segments entry ≡ made (meant s₀ m₀)) rr (h.creation.taken h.accepted).state

  pub chain-holds : ChainHolds c n k entry s₀ m₀ ls
  chain-holds =
      record {
        start = meant s₀ m₀;
        begins = (h.creation.taken h.accepted).state;
        first = refl;
        agrees = linked-agrees s₀ m₀ (meant s₀ m₀) ls refl h.calls;
        guarantees = λ more. record {
          waits = λ rr before during rest whole. round-robin-bounds.0 c.quantum c.switch_cost n k.threads k.events k.segments entry (meant s₀ m₀) (robin rr) before during;
          stays = λ rr before during rest whole. round-robin-bounds.1 c.quantum c.switch_cost n k.threads k.events k.segments entry (meant s₀ m₀) (robin rr) before during;
        };
      }
