-- Calls one after the other: what is left after some of them and then others, and after one more turn.
use Prim.Native.Nat.{ℕ, suc, ◌+◌}
use native.Mathlib.Omega.{arith}
use mathlib.Core.Path.{◌≡◌, refl, sym, ap, subst, ◌∙◌}
use mathlib.Core.Option as O
use mathlib.Core.List.{List, [], ◌∷◌, ◌++◌}
use Rattle.model.specs.declared.ThreadInfo.{ThreadInfo}
use Rattle.model.specs.Types.{State}
use Rattle.model.specs.Calls.{Call, Answer, spawn, retired, tick, step, run}
use Rattle.model.proofs.LoopLaws.{run-append}
use Rattle.state.specs.declared.Sched.{Sched}
use Rattle.state.specs.Memory.{Memory, memory}
use Rattle.state.specs.State.{meant, Valid}
use Rattle.state.specs.Asked.{Askable, nothing}
use Rattle.state.specs.Done.{Done}
use Rattle.replay.proofs.Framed.{alike, behind-none, behind-then, behind-call, behind-alike}
use Rattle.ticking.specs.Turns.{reports, turns, spawns, Ran, TurnsDone, SpawnsDone}

run-one : (s : State) (c : Call) → run s (c ∷ []) ≡ (step s c).state
unfolding run
run-one s c = refl

pub ran-none : (s : Sched) (m : Memory) → Valid s m → Ran [] s s m m
unfolding run
ran-none s m v = record { state = refl; valid = v; behind = behind-none }

pub ran-one : (s t : Sched) (m m' : Memory) (c : Call) (a : Answer) → Valid s m → Done c a s t m m' → Ran (c ∷ []) s t m m'
ran-one s t m m' c a v d =
    let e : meant t m' ≡ run (meant s m) (c ∷ []) = d.state ∙ sym (run-one (meant s m) c) in
    record { state = e; valid = d.valid; behind = behind-call s t m m' (alike s t m m' (c ∷ []) e) v d.valid d.frame }

pub ran-both : (s t u : Sched) (m m' m'' : Memory) (cs ds : List Call) → Ran cs s t m m' → Ran ds t u m' m'' → Ran (cs ++ ds) s u m m''
ran-both s t u m m' m'' cs ds h k =
    record {
      state = k.state ∙ ap (λ (x : State). run x ds) h.state ∙ sym (run-append (meant s m) cs ds);
      valid = k.valid;
      behind = behind-then h.behind (behind-alike (alike s t m m' cs h.state) k.behind);
    }

---- the cores report

-- what is left where all cores before i reported
unfoldable pub Reported : Sched → ℕ → Sched → Type 0
Reported s i t = (m : Memory) → Valid s m → Ran (reports i) s t m m

pub reported-none : (s : Sched) → Reported s 0 s
unfolding Reported reports
reported-none s m v = ran-none s m v

pub reported-next : (s t u : Sched) (a : Answer) (i : ℕ) → Reported s i t → ((ts : List ThreadInfo) (qs ps ls ws : List ℕ) → Valid t (memory ts qs ps ls ws) → Done (retired i) a t u (memory ts qs ps ls ws) (memory ts qs ps ls ws)) → Reported s (i + 1) u
unfolding Reported reports
reported-next s t u a i h d m v =
    let p : i + 1 ≡ suc i = omega arith in
    let x = h m v in
    subst (λ (n : ℕ). Ran (reports n) s u m m) (sym p)
    (ran-both s t u m m m (reports i) (retired i ∷ []) x (ran-one t u m m (retired i) a x.valid (d m.threads m.queue m.prios m.log m.lanes x.valid)))

pub reported-asks : (s t : Sched) (i : ℕ) → Askable s nothing → Reported s i t → Askable t nothing
unfolding Reported
reported-asks s t i (m, v, _) h = (m, (h m v).valid, tt)

pub reported-all : (s t : Sched) (i : ℕ) → i ≡ s.cores → Reported s i t → (m : Memory) → Valid s m → Ran (reports s.cores) s t m m
unfolding Reported
reported-all s t i e h = subst (λ (n : ℕ). Reported s n t) e h

---- the turns and the spawns

pub turns-none : (s : Sched) (m : Memory) → TurnsDone 0 s s m m
unfolding turns
turns-none s m = record { unmoved = λ e. (refl, refl); ran = ran-none s m }

pub spawns-none : (s : Sched) (m : Memory) → SpawnsDone 0 s s m m
unfolding spawns
spawns-none s m = record { unmoved = λ e. (refl, refl); ran = ran-none s m }

some_more : (i : ℕ) → {A : Type 0} → i + 1 ≡ 0 → A
some_more i e = absurd (let n : i + 1 ≡ 0 = e in omega arith)

-- one more turn: t after the turns before it, u once the cores reported, z at its end
pub turns_next : (s t u z : Sched) (m m' m'' : Memory) (i : ℕ) (a : Answer) → TurnsDone i s t m m' → Reported t t.cores u → Done tick a u z m' m'' → TurnsDone (i + 1) s z m m''
unfolding Reported turns
turns_next s t u z m m' m'' i a h k d =
    record {
      unmoved = some_more i;
      ran = λ v.
          let p : i + 1 ≡ suc i = omega arith in
          let x = h.ran v in
          let c = (alike s t m m' (turns s.cores i) x.state).cores in
          let r : Ran (reports s.cores) t u m' m' = subst (λ (n : ℕ). Ran (reports n) t u m' m') c (k m' x.valid) in
          let y = ran-both t u z m' m' m'' (reports s.cores) (tick ∷ []) r (ran-one u z m' m'' tick a r.valid d) in
          subst (λ (n : ℕ). Ran (turns s.cores n) s z m m'') (sym p) (ran-both s t z m m' m'' (turns s.cores i) (reports s.cores ++ (tick ∷ [])) x y);
    }

-- one more spawn
pub spawns-next : (s t u : Sched) (m m' m'' : Memory) (i : ℕ) (a : Answer) → SpawnsDone i s t m m' → (Valid t m' → Done (spawn (O.some 0) 0) a t u m' m'') → SpawnsDone (i + 1) s u m m''
unfolding spawns
spawns-next s t u m m' m'' i a h d =
    record {
      unmoved = some_more i;
      ran = λ v.
          let p : i + 1 ≡ suc i = omega arith in
          let x = h.ran v in
          subst (λ (n : ℕ). Ran (spawns n) s u m m'') (sym p) (ran-both s t u m m' m'' (spawns i) (spawn (O.some 0) 0 ∷ []) x (ran-one t u m' m'' (spawn (O.some 0) 0) a x.valid (d x.valid)));
    }

pub spawns-all : (s t : Sched) (m m' : Memory) (i n : ℕ) → i ≡ n → SpawnsDone i s t m m' → SpawnsDone n s t m m'
spawns-all s t m m' i n e h = subst (λ (j : ℕ). SpawnsDone j s t m m') e h
