-- R-13's room: no script makes the report program print more than 288 bytes for each tick line, 36 for each other line, and 400 for the rest.
use Prim.Native.Nat.{ℕ, zero, suc, pred, ◌+◌, ◌*◌, ◌^◌, ◌≤◌, ◌<◌}
use mathlib.Core.Path.{◌≡◌, refl, sym, ap, ◌∙◌, subst}
use mathlib.Core.Bool.{Bool, true, false, cond, ◌||◌}
use mathlib.Core.Option.{Option, none, some}
use mathlib.Core.List.{List, [], ◌∷◌, ◌++◌}
use native.Mathlib.Omega.{arith}
use borrow.Author.Tests.{leb-true, ltb-false}
use lib.Dec.{leb, ltb}
use lib.ListN.{length, length-append, replicate, length-replicate}
use Rattle.script.specs.Invariants.{Modest, CoreIn, QueueIn, Consistent, ThreadIn, TicksIn, Counted, Sound, Kept}
use Rattle.model.specs.Invariants.{All, AllO}
use Rattle.model.specs.Types.{Policy, Core, CoreTicks, Config, State}
use Rattle.model.specs.Phases.{cleared}
use Rattle.model.specs.Accounting.{born, add_counts, started, or_else, total, sums}
use Rattle.model.specs.Calls.{Call, spawn, exit, join, retired, yield, priority, force, tick, close, idle_core, check, refusal, beyond, refused_new, made_of, initial_state, new, Made, made, unmade, accept, stepped, step}
use Rattle.model.proofs.Refusals.{check-none, check-rest}
use Rattle.text.specs.Bytes.{number}
use Rattle.text.specs.Lines.{Read, bad, good, or_bad, map_read, both, cut, line_of, value, key_in, fields, needed, perhaps, one, two}
use Rattle.settings.specs.Settings.{Settings, Head, HeadKey, PolicyKey, QuantumKey, CostKey, CoresKey, head_keys, policy_of, ranged, in_order, setting}
use Rattle.script.specs.Script.{Heading, more, done, up_to8, cores_of, heading, head_line, CallKey, SpawnKey, ExitKey, JoinKey, RetiredKey, YieldKey, PrioKey, ForceKey, TickKey, CloseKey, call_keys, bare_tick, call_of, calling, call_line}
use Rattle.script.specs.Report.{Stage, heads, calls, ended, over, Report, Fed, start, refused_text, answer_text, summary, created, begun, headed, said, called, fed, limit_lines, line_at, feed, feeds, finishing, finish, whole, report}
use Rattle.script.proofs.Lengths.{refused-length, summary_text-length}
use Rattle.script.proofs.Consistency.{consistent-step}
use Rattle.script.proofs.Prints.{allowance, few-moves, prints-step, room_of, Small, small-check}
use Rattle.script.proofs.Streams.{whole-step, whole-end}
use Rattle.script.proofs.Counts.{counted-accept, counted-more, modest}

---- the reader's refusals are numbers of one digit

abbrev Low : {A : Type 0} → Read A → Type 0
Low (bad k) = k < 100
Low (good x) = Unit {0}

low_or : {A : Type 0} (k : ℕ) (o : Option A) → k < 100 → Low (or_bad k o)
unfolding or_bad
low_or k none h = h
low_or k (some x) h = tt

low-map : {A B : Type 0} (f : A → B) (r : Read A) → Low r → Low (map_read f r)
unfolding map_read
low-map f (bad k) h = h
low-map f (good x) h = tt

low-both : {A B C : Type 0} (f : A → B → C) (r : Read A) (s : Read B) → Low r → Low s → Low (both f r s)
unfolding both
low-both f (bad k) s h g = h
low-both f (good x) (bad k) h g = g
low-both f (good x) (good y) h g = tt

low-needed : (f : List ℕ) → Low (needed f)
unfolding needed
low-needed f = low_or 8 (number f) (omega arith)

low-perhaps : (f : List ℕ) → Low (perhaps f)
unfolding perhaps
low-perhaps [] = tt
low-perhaps (x ∷ f) = low-map some (needed (x ∷ f)) (low-needed (x ∷ f))

low-one : {A : Type 0} (l : List (List ℕ)) (f : List ℕ → Read A) → ((x : List ℕ) → Low (f x)) → Low (one l f)
unfolding one
low-one [] f h = omega arith
low-one (x ∷ []) f h = h x
low-one (x ∷ (y ∷ l)) f h = omega arith

low-two : {A : Type 0} (l : List (List ℕ)) (f : List ℕ → List ℕ → Read A) → ((x y : List ℕ) → Low (f x y)) → Low (two l f)
unfolding two
low-two [] f h = omega arith
low-two (x ∷ []) f h = omega arith
low-two (x ∷ (y ∷ [])) f h = h x y
low-two (x ∷ (y ∷ (z ∷ l))) f h = omega arith

low-ranged : (a b : ℕ) (r : Read ℕ) → Low r → Low (ranged a b r)
unfolding ranged
low-ranged a b (bad k) h = h
low-ranged a b (good n) h = go (beyond a b n)
  where
    go : (t : Bool) → Low (cond t (bad 1) (good n))
    go true = omega arith
    go false = tt

low-order : (r : ℕ) (h : Head) (s : Read Settings) → Low s → Low (in_order r h s)
unfolding in_order
low-order r h s l = go (leb h.past r)
  where
    go : (t : Bool) → Low {A = Head} (cond t (map_read (λ (x : Settings). record { settings = x; past = suc r }) s) (bad 6))
    go true = low-map _ s l
    go false = omega arith

low-setting : (h : Head) (k : Option HeadKey) (v : List ℕ) → Low (setting h k v)
unfolding setting
low-setting h none v = omega arith
low-setting h (some CoresKey) v = omega arith
low-setting h (some PolicyKey) v = low-order 0 h _ (low-map _ (or_bad 7 (policy_of v)) (low_or 7 (policy_of v) (omega arith)))
low-setting h (some QuantumKey) v = low-order 1 h _ (low-map _ (ranged 1 1_000_000 (needed v)) (low-ranged 1 1_000_000 (needed v) (low-needed v)))
low-setting h (some CostKey) v = low-order 2 h _ (low-map _ (ranged 0 10_000 (needed v)) (low-ranged 0 10_000 (needed v) (low-needed v)))

low-cores : (v : List ℕ) → Low (cores_of v)
unfolding cores_of up_to8
low-cores v = go (one (fields v) needed) (low-one (fields v) needed low-needed)
  where
    pick : (n : ℕ) (t : Bool) → Low (cond t (bad 2) (good n))
    pick n true = omega arith
    pick n false = tt

    go : (r : Read ℕ) → Low r → Low (up_to8 r)
    go (bad k) h = h
    go (good n) h = pick n (ltb 8 n)

low-head : (h : Head) (l : List ℕ) → Low (head_line h l)
unfolding head_line heading
low-head h l = go (key_in head_keys l) (value l)
  where
    go : (k : Option HeadKey) (v : List ℕ) → Low (heading h k v)
    go none v = omega arith
    go (some PolicyKey) v = low-map more _ (low-setting h (some PolicyKey) v)
    go (some QuantumKey) v = low-map more _ (low-setting h (some QuantumKey) v)
    go (some CostKey) v = low-map more _ (low-setting h (some CostKey) v)
    go (some CoresKey) v = low-map _ (cores_of v) (low-cores v)

low-call : (l : List ℕ) → Low (call_line l)
unfolding call_line calling call_of bare_tick
low-call l = go (key_in call_keys l) (value l)
  where
    tick_low : (v : List ℕ) → Low (bare_tick v)
    tick_low [] = tt
    tick_low (x ∷ v) = omega arith

    go : (k : Option CallKey) (v : List ℕ) → Low (calling k v)
    go none v = omega arith
    go (some SpawnKey) v = low-one (fields v) _ (λ x. low-map _ (perhaps x) (low-perhaps x))
    go (some ExitKey) v = low-one (fields v) _ (λ x. low-map exit (needed x) (low-needed x))
    go (some JoinKey) v = low-two (fields v) _ (λ x y. low-both join (needed x) (needed y) (low-needed x) (low-needed y))
    go (some RetiredKey) v = low-one (fields v) _ (λ x. low-map retired (needed x) (low-needed x))
    go (some YieldKey) v = low-one (fields v) _ (λ x. low-map yield (needed x) (low-needed x))
    go (some PrioKey) v = low-two (fields v) _ (λ x y. low-both priority (needed x) (needed y) (low-needed x) (low-needed y))
    go (some ForceKey) v = low-two (fields v) _ (λ x y. low-both force (needed x) (perhaps y) (low-needed x) (low-perhaps y))
    go (some TickKey) v = tick_low v
    go (some CloseKey) v = low-one (fields v) _ (λ x. low-map close (needed x) (low-needed x))

---- creation

idle-cores : (N n : ℕ) → All (CoreIn N) (replicate n idle_core)
idle-cores N zero = tt
idle-cores N (suc n) = (tt, idle-cores N n)

idle-ticks : (n : ℕ) → All (TicksIn 0) (replicate n (record { busy = 0; switching = 0; idle = 0 }))
idle-ticks zero = tt
idle-ticks (suc n) = (record { busy = omega arith; switching = omega arith; idle = omega arith }, idle-ticks n)

started-sound : (lines m : ℕ) (k : Config) → suc m ≤ 8 → k.cap_t ≡ 256 → Sound lines (initial_state m 0 k)
unfolding initial_state started add_counts born or_else total
started-sound lines m k h e =
    record {
      fine = record { cores = (omega arith, idle-cores 1 m); queue = tt; one = omega arith; size = omega (arith, length-replicate m idle_core); cap = e; room = omega arith; now = omega arith };
      counted = record {
        threads = (record { ready = omega arith; first = omega arith; finish = tt }, tt);
        ticks = idle-ticks (suc m);
        cores = omega (arith, length-replicate (suc m) no_ticks);
        context_switches = omega arith;
        preempted = omega arith;
      };
    }
  where
    no_ticks : CoreTicks
    no_ticks = record { busy = 0; switching = 0; idle = 0 }

---- line by line

-- and what a line may print there
unfoldable pub call_room : Read Call → ℕ
call_room (bad k) = 36
call_room (good c) = allowance c

unfoldable pub line_room : Stage → Option (List ℕ) → ℕ
line_room (heads h) l = 36
line_room (calls s) none = 36
line_room (calls s) (some l) = call_room (call_line l)
line_room (ended s) l = 0
line_room over l = 0

pub record FedWell (room : ℕ) (f : Fed) : Type 0 where
  pub kept : Kept f.report.lines f.report.stage
  pub fits : length f.out ≤ room

sound-modest : (n : ℕ) (s : State) → n ≤ 1_000_000_000_000 → Sound n s → Modest s.now (sums s.accounts)
sound-modest n s l h = modest s.now (144 * n) s.accounts h.counted h.fine.now (omega arith) (room_of s h.fine)

sound-step : (n : ℕ) (s : State) (c : Call) → Sound n s → Sound (suc n) (step s c).state
unfolding step stepped
sound-step n s c h = record { fine = consistent-step s c h.fine; counted = go (refusal s c) refl }
  where
    go : (r : Option ℕ) → refusal s c ≡ r → Counted (stepped s c r).state.now (144 * suc n) (stepped s c r).state.accounts
    go (some k) e = counted-more s.now (144 * n) s.accounts h.counted (144 * suc n) (omega arith)
    go none e = counted-more _ (144 * n + length (accept s c).moves) _ (counted-accept s c (144 * n) h.counted) (144 * suc n) (omega (arith, few-moves s c e h.fine))

fed-begun : (n : ℕ) (c : Settings) (k : ℕ) → n ≤ 1_000_000_000_000 → FedWell 36 (begun n (created c k))
unfolding created new made_of begun refused_new
fed-begun n c k l = go (refused_new c.quantum c.cost k 256 512 256) refl (small-check 1 _ _ (omega arith) (small-check 2 _ _ (omega arith) (small-check 3 _ _ (omega arith) tt)))
  where
    s0 : State
    s0 = initial_state (pred k) 0 (record { policy = c.policy; quantum = c.quantum; cost = c.cost; cap_t = 256; cap_e = 512; cap_s = 256 })

    go : (r : Option ℕ) → refused_new c.quantum c.cost k 256 512 256 ≡ r → Small r → FedWell 36 (begun n (made_of r s0))
    go (some m) e b = record { kept = tt; fits = refused-length n m (omega arith) b }
    go none e b =
        record { kept = (l, started-sound n (pred k) _ (omega (arith, ltb-false 8 k (check-none 2 _ _ (check-rest 1 _ _ e)))) refl); fits = omega arith }

fed-head : (n : ℕ) (r : Read Heading) → n ≤ 1_000_000_000_000 → Low r → FedWell 36 (headed n r)
unfolding headed
fed-head n (bad k) l h = record { kept = tt; fits = refused-length n k (omega arith) h }
fed-head n (good (more h)) l b = record { kept = l; fits = omega arith }
fed-head n (good (done c k)) l b = fed-begun n c k l

-- n lines, and the next one
fed-call : (n : ℕ) (s : State) (r : Read Call) → suc n ≤ 1_000_000_000_000 → Sound n s → Low r → FedWell (call_room r) (called (suc n) s r)
unfolding called said call_room
fed-call n s (bad k) l h b = record { kept = sound-modest n s (omega arith) h; fits = refused-length (suc n) k (omega arith) b }
fed-call n s (good c) l h b = record { kept = (l, sound-step n s c h); fits = prints-step (suc n) s c (omega arith) h.fine }

line-at : (n : ℕ) (l x : List ℕ) → line_at n l ≡ some x → n ≤ 1_000_000_000_000
unfolding line_at limit_lines
line-at n l x e = go (leb n 1_000_000_000_000) refl e
  where
    go : (t : Bool) → leb n 1_000_000_000_000 ≡ t → cond t (line_of l) none ≡ some x → n ≤ 1_000_000_000_000
    go true q k = leb-true n 1_000_000_000_000 q
    go false q k = absurd (let z : ◌≡◌ {A = ℕ} 0 1 = cc in omega arith)

fed-well : (n : ℕ) (g : Stage) (o : Option (List ℕ)) → ((x : List ℕ) → o ≡ some x → suc n ≤ 1_000_000_000_000) → Kept n g → FedWell (line_room g o) (fed (suc n) g o)
unfolding fed line_room headed called
fed-well n (heads h) none l k = record { kept = tt; fits = refused-length (suc n) 6 (omega arith) (omega arith) }
fed-well n (heads h) (some x) l k = fed-head (suc n) (head_line h x) (l x refl) (low-head h x)
fed-well n (calls s) none l k = record { kept = sound-modest n s k.0 k.1; fits = refused-length (suc n) 6 (omega (arith, k.0)) (omega arith) }
fed-well n (calls s) (some x) l k = fed-call n s (call_line x) (l x refl) k.1 (low-call x)
fed-well n (ended s) o l k = record { kept = k; fits = omega arith }
fed-well n over o l k = record { kept = tt; fits = omega arith }

pub feed-well : (r : Report) (l : List ℕ) → Kept r.lines r.stage → FedWell (line_room r.stage (line_at (suc r.lines) l)) (feed r l)
unfolding feed
feed-well r l k = fed-well r.lines r.stage (line_at (suc r.lines) l) (λ x e. line-at (suc r.lines) l x e) k

pub finish-well : (r : Report) → Kept r.lines r.stage → length (finish r) ≤ 400
unfolding finish finishing summary
finish-well r k = go r.stage k
  where
    go : (g : Stage) → Kept r.lines g → length (finishing (suc r.lines) g) ≤ 400
    go (heads h) q = omega (arith, refused-length (suc r.lines) 6 (omega arith) (omega arith))
    go (calls s) q = summary_text-length s.now (sums s.accounts) (sound-modest r.lines s q.0 q.1)
    go (ended s) q = summary_text-length s.now (sums s.accounts) q
    go over q = omega arith

---- the whole script

unfoldable pub room_for : Report → List (List ℕ) → ℕ
room_for r [] = 400
room_for r (l ∷ ls) = line_room r.stage (line_at (suc r.lines) l) + room_for (feed r l).report ls

pub whole_room : (ls : List (List ℕ)) (r : Report) → Kept r.lines r.stage → length (whole (feeds r ls)) ≤ room_for r ls
unfolding room_for
whole_room [] r k = rw (whole-end r) (finish-well r k)
whole_room (l ∷ ls) r k =
    let w = feed-well r l k in
    rw (whole-step r l ls, length-append (feed r l).out (whole (feeds (feed r l).report ls))) (omega (arith, w.fits, whole_room ls (feed r l).report w.kept))

pub report-room : (script : List ℕ) → length (report script) ≤ room_for start (cut script)
unfolding report
report-room script = whole_room (cut script) start (omega arith)
