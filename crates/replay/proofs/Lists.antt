-- Calls one after the other: what is left after the next one, and what a whole list comes to.
use Rattle.settings.specs.declared.Refusal.{Refusal}
use Rattle.std.specs.Prelude.{Result}
use Prim.Native.Nat.{ℕ, suc, ◌+◌, ◌*◌, ◌/◌, ◌<◌}
use native.Mathlib.Omega.{arith}
use mathlib.Core.Path.{◌≡◌, refl, sym, ap, subst, ◌∙◌}
use mathlib.Core.Option.{Option, none, some}
use mathlib.Core.List.{List, [], ◌∷◌, ◌++◌, map, map-append}
use lib.ListN.{length, take, drop, get_or, length-map, take-append-drop}
use lib.Seq.{take-length}
use Rattle.std.proofs.lemmas.List.{map_more, take_min, take-map}
use Rattle.settings.specs.declared.SchedConfig.{SchedConfig}
use Rattle.model.specs.Calls.{Call, Answer, ok, run}
use Rattle.guarantees.specs.Claims.{unobserved}
use Rattle.guarantees.proofs.History.{observe_all-run}
use Rattle.state.specs.declared.Capacities.{Capacities}
use Rattle.state.specs.declared.Sched.{Sched}
use Rattle.state.specs.Memory.{Memory, Unchanged}
use Rattle.state.specs.State.{meant, Valid}
use Rattle.checks.specs.Check.{check_meant}
use Rattle.new_plan.specs.declared.Created.{Created}
use Rattle.new_plan.specs.First.{core_count}
use Rattle.new_plan.specs.Made.{NewDone}
use Rattle.sched.specs.declared.Applied.{Applied}
use Rattle.sched.specs.declared.Outcome.{Outcome}
use Rattle.switches.specs.declared.SwitchList.{SwitchList}
use Rattle.switches.specs.Entries.{no_switches, list_in, ListFor}
use Rattle.tick_plan.specs.DoneWith.{DoneWith}
use Rattle.replay.specs.declared.Replayed.{Replayed}
use Rattle.sched.specs.declared.Call as Program
use Rattle.sched.specs.Meant.{call_meant, outcome_meant}
use Rattle.replay.specs.Chain.{Link, Linked, Guaranteed, ChainHolds, last_sched, last_memory, last_said}
use Rattle.replay.specs.Replay.{last_answer, due, Behind, AppliedAll, ReplayTaken, ReplayDone}
use Rattle.replay.specs.Encoding.{call_at, calls_of}
use Rattle.replay.proofs.Encoded.{take_next, long-calls}
use Rattle.replay.proofs.Chains.{agrees-run, agrees-said, linked-valid, linked-snoc, sched-snoc, memory-snoc, said-snoc, chain-holds}
use Rattle.replay.proofs.Framed.{linked-threads, linked-behind, first_one, first-events, first-segments, first-cores, behind-new, behind-then}

---- the loop

pub all_none : (a : Applied) (m : Memory) → AppliedAll [] a a m m
all_none a m = record { links = []; calls = refl; linked = tt; sched = refl; memory = refl; answer = refl; list = λ h. h }

pub all_valid : (cs : List Call) (a b : Applied) (m m' : Memory) → AppliedAll cs a b m m' → Valid a.sched m → Valid b.sched m'
all_valid cs a b m m' h v = rw (h.sched, h.memory) (linked-valid a.sched m h.links v h.linked)

module _ (a b d : Applied) (m m' m'' : Memory) where
  -- one more call
  all_snoc : (cs : List Call) (c : Call) → AppliedAll cs a b m m' → DoneWith c (outcome_meant d.outcome d.switches) d.switches b.sched d.sched m' m'' → AppliedAll (cs ++ (c ∷ [])) a d m m''
  all_snoc cs c h k =
      record {
        links = h.links ++ (link ∷ []);
        calls = map-append (λ (l : Link). l.call) h.links (link ∷ []) ∙ ap (λ (x : List Call). x ++ (c ∷ [])) h.calls;
        linked = linked-snoc link a.sched m h.links h.linked (rw (h.sched, h.memory) at k.done);
        sched = sym (sched-snoc link a.sched h.links);
        memory = sym (memory-snoc link m h.links);
        answer = sym (said-snoc link (outcome_meant a.outcome a.switches) h.links);
        list = λ x. k.list;
      }
    where
      link : Link
      link = record { call = c; answer = outcome_meant d.outcome d.switches; sched = d.sched; memory = m'' }

  pub all-next : (calls : List Program.Call) (i : ℕ) (x : Program.Call) → i < length calls → AppliedAll (map call_meant (take i calls)) a b m m'
      → DoneWith (call_meant (get_or calls i x)) (outcome_meant d.outcome d.switches) d.switches b.sched d.sched m' m'' → AppliedAll (map call_meant (take (i + 1) calls)) a d m m''
  all-next calls i x l h k = subst (λ (cs : List Call). AppliedAll cs a d m m'') (sym (map_more call_meant calls i x l)) (all_snoc (map call_meant (take i calls)) (call_meant (get_or calls i x)) h k)

  pub words-next : (words : List ℕ) (i : ℕ) → 3 * i + 2 < length words → AppliedAll (take i (calls_of words)) a b m m'
      → (c : Call) → c ≡ call_at words i → DoneWith c (outcome_meant d.outcome d.switches) d.switches b.sched d.sched m' m'' → AppliedAll (take (i + 1) (calls_of words)) a d m m''
  words-next words i l h c e k =
      let p : i + 1 ≡ suc i = omega arith in
      subst (λ (cs : List Call). AppliedAll cs a d m m'') (sym (ap (λ (j : ℕ). take j (calls_of words)) p ∙ take_next words i l))
      (subst (λ (x : Call). AppliedAll (take i (calls_of words) ++ (x ∷ [])) a d m m'') e (all_snoc (take i (calls_of words)) c h k))

pub all-made : (calls : List Program.Call) (i : ℕ) (a b : Applied) (m m' : Memory) → i ≡ length calls → AppliedAll (map call_meant (take i calls)) a b m m' → AppliedAll (map call_meant calls) a b m m'
all-made calls i a b m m' e = subst (λ (l : List Program.Call). AppliedAll (map call_meant l) a b m m') (ap (λ (n : ℕ). take n calls) e ∙ take-length calls)

-- the calls that are due, as the definition's
pub due-made : (calls : List Program.Call) (x : Option ℕ) (upto : ℕ) (a b : Applied) (m m' : Memory) → AppliedAll (map call_meant (take (due x (length calls) upto) calls)) a b m m'
    → AppliedAll (take (due x (length (map call_meant calls)) upto) (map call_meant calls)) a b m m'
due-made calls x upto a b m m' h = rw (length-map calls call_meant) (rw (take-map call_meant (due x (length calls) upto) calls) h)

pub words-made : (words : List ℕ) (x : Option ℕ) (upto : ℕ) (a b : Applied) (m m' : Memory) → AppliedAll (take (due x (length words / 3) upto) (calls_of words)) a b m m'
    → AppliedAll (take (due x (length (calls_of words)) upto) (calls_of words)) a b m m'
words-made words x upto a b m m' h = rw (long-calls words) h

---- the whole

no-links : (ls : List Link) → map (λ (l : Link). l.call) ls ≡ [] → ls ≡ []
no-links [] e = refl
no-links (l ∷ ls) e = absurd (let z : ◌≡◌ {A = ℕ} 0 1 = cc in omega arith)

module _ (c : SchedConfig) (n : ℕ) (k : Capacities) (entry : ℕ) (cs : List Call) (upto : ℕ) (m m₁ m' : Memory) (g : Created) (a b : Applied) (r : Replayed)
    (created : NewDone c n k entry m m₁ g.sched g.answer) (first : (a.sched ≡ g.sched) × (outcome_meant a.outcome a.switches ≡ ok) × (a.switches ≡ no_switches))
    (last : (r.made ≡ g.answer) × (r.sched ≡ b.sched) × (r.outcome ≡ b.outcome) × (r.switches ≡ b.switches)) where
  first-list : ListFor (outcome_meant a.outcome a.switches) a.switches
  unfolding no_switches
  first-list = record { list = first.2 ∙ sym (ap list_in first.1); few = omega (arith, ap (λ (l : SwitchList). l.count) first.2) }

  said : outcome_meant r.outcome r.switches ≡ outcome_meant b.outcome b.switches
  said = ap (λ (o : Result Outcome Refusal). outcome_meant o r.switches) last.2 ∙ ap (λ (l : SwitchList). outcome_meant b.outcome l) last.3

  -- what was made is a chain, and all that is promised is what the law over chains says of it
  answered : check_meant g.answer ≡ none → AppliedAll (take upto cs) a b m₁ m' → ReplayTaken c n k entry cs upto m m' r
  unfolding unobserved
  answered e h =
      record {
        start = H.start;
        begins = H.begins;
        state = rw (sched-is, h.memory) (ran ∙ ap (run H.start) h.calls);
        answer = answer-is;
        list = rw (last.3, ← answer-is, said) (h.list first-list);
        valid = rw (sched-is, h.memory) (linked-valid g.sched m₁ h.links (created.taken e).valid linked);
        behind = behind-is;
        one_run = λ before. observe_all-run before (unobserved H.start);
        guarantees = subst (Guaranteed c n H.start) (ap (λ (l : List Call). l ++ drop upto cs) h.calls ∙ take-append-drop upto cs) (H.guarantees (drop upto cs));
      }
    where
      linked : Linked g.sched m₁ h.links
      linked = rw first.0 at h.linked

      H : ChainHolds c n k entry g.sched m₁ h.links
      H = chain-holds c n k entry m g.answer g.sched m₁ h.links (record { creation = created; accepted = e; calls = linked })

      ran : meant (last_sched g.sched h.links) (last_memory m₁ h.links) ≡ run H.start (map (λ (l : Link). l.call) h.links)
      ran = agrees-run g.sched m₁ H.start h.links H.first H.agrees

      sched-is : r.sched ≡ last_sched g.sched h.links
      sched-is = last.1 ∙ h.sched ∙ ap (λ (x : Sched). last_sched x h.links) first.0

      answer-is : outcome_meant r.outcome r.switches ≡ last_answer ok H.start (take upto cs)
      answer-is = said ∙ h.answer ∙ ap (λ (x : Answer). last_said x h.links) first.1 ∙ agrees-said ok H.start h.links H.agrees ∙ ap (last_answer ok H.start) h.calls

      behind-is : Behind r.sched.threads k.events k.segments (core_count n) m m'
      behind-is =
          let z = created.taken e in
          let more = linked-threads g.sched m₁ h.links z.valid linked in
          let calls : Behind (last_sched g.sched h.links).threads k.events k.segments (core_count n) m₁ (last_memory m₁ h.links) = rw (first-events z, first-segments z, first-cores z) (linked-behind g.sched m₁ h.links z.valid linked) in
          rw (sched-is, h.memory) (behind-then (behind-new z (last_sched g.sched h.links).threads (omega (arith, first_one z, more))) calls)

  pub replay-done : AppliedAll (take (due (check_meant g.answer) (length cs) upto) cs) a b m₁ m' → ReplayDone c n k entry cs upto m m' r
  replay-done h =
      record {
        answer = made-is ∙ created.answer;
        refused = λ y e. (unmoved y (sym made-is ∙ e), last.3 ∙ unlisted y (sym made-is ∙ e));
        taken = λ e. let z : check_meant g.answer ≡ none = sym made-is ∙ e in answered z (subst (λ (l : List Call). AppliedAll l a b m₁ m') (ap (λ (x : Option ℕ). take (due x (length cs) upto) cs) z ∙ take_min upto cs) h);
      }
    where
      made-is : check_meant r.made ≡ check_meant g.answer
      made-is = ap check_meant last.0

      none_made : (y : ℕ) → check_meant g.answer ≡ some y → h.links ≡ []
      none_made y e = no-links h.links (h.calls ∙ ap (λ (x : Option ℕ). take (due x (length cs) upto) cs) e)

      unmoved : (y : ℕ) → check_meant g.answer ≡ some y → Unchanged m m'
      unmoved y e = rw (h.memory ∙ ap (last_memory m₁) (none_made y e)) (created.refused y e)

      unlisted : (y : ℕ) → check_meant g.answer ≡ some y → b.switches ≡ no_switches
      unlisted y e = (h.list first-list).list ∙ ap list_in (h.answer ∙ ap (last_said (outcome_meant a.outcome a.switches)) (none_made y e) ∙ first.1)
