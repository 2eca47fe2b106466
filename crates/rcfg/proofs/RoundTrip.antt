-- 01: "settings inside the limits below read back equal".
use Prim.Native.Nat.{ℕ, suc, ◌+◌, ◌≤◌}
use Prim.Native.String.{String}
use mathlib.Core.Path.{◌≡◌, refl, sym, ap, ◌∙◌}
use mathlib.Core.Bool.{true, false}
use mathlib.Core.Option.{some}
use mathlib.Core.List.{List, [], ◌∷◌, ◌++◌, append-nil}
use native.Mathlib.Omega.{arith}
use borrow.Author.Tests.{le-leb, le-ltb}
use lib.ListN.{length, length-append}
use Rattle.settings.specs.Policy.{Policy, Off, Fifo, RoundRobin, Priority}
use Rattle.settings.specs.Policy.{beyond}
use Rattle.text.specs.Bytes.{ascii, all, decimal, lookup}
use Rattle.text.specs.Lines.{good, or_bad, map_read, cut, line_of, commas, written}
use Rattle.settings.specs.Settings.{Settings, Within, policy_of, ranged, PolicyKey, QuantumKey, CostKey, head_keys, Head, none_yet, in_order, setting, setting_line, settled, setting_piece, settle, from_rcfg, policy_word, to_rcfg}
use Rattle.std.specs.Prelude.{Result, Ok, Err}
use Rattle.settings.specs.declared.SchedPolicy.{SchedPolicy}
use Rattle.settings.specs.declared.SchedConfig.{SchedConfig}
use Rattle.settings.specs.Reading.{policy_meant, settings_meant}
use Rattle.rcfg.specs.declared.RefusedLine.{RefusedLine}
use Rattle.rcfg.specs.Reading.{settled_meant}
use Rattle.settings.specs.Buffers.{written_and_read}
use Rattle.text.proofs.Decimal.{decimal-length}
use Rattle.text.proofs.Pieces.{visible, isnt, cut-nil, key-line, value_line, cut-written, line-written, decimal-visible, needed-decimal}

-- what a settings line sets that holds one value of visible bytes
module _ (key : String) (v : List ℕ) (hk : all visible (ascii key) ≡ true) (he : all (isnt 61) (ascii key) ≡ true) (hv : all visible v ≡ true) (n : length (ascii key) + length v ≤ 254) where
  pub setting-written : (h : Head) → setting_piece h (line_of (written key (v ∷ []))) ≡ setting h (lookup (ascii key) head_keys) v
  unfolding setting_piece setting_line commas
  setting-written h = rw (line-written key (v ∷ []) hk hv n, key-line head_keys (ascii key) v he, value_line (ascii key) v he hv)

in-range : (a b n : ℕ) → a ≤ n → n ≤ b → beyond a b n ≡ false
unfolding beyond
in-range a b n h k = rw (le-ltb n a h, le-ltb b n k)

policy-read : (p : Policy) → policy_of (policy_word p) ≡ some p
unfolding policy_of
policy-read Off = refl
policy-read Fifo = refl
policy-read RoundRobin = refl
policy-read Priority = refl

policy-visible : (p : Policy) → all visible (policy_word p) ≡ true
policy-visible Off = refl
policy-visible Fifo = refl
policy-visible RoundRobin = refl
policy-visible Priority = refl

pub policy_short : (p : Policy) → length (policy_word p) ≤ 8
policy_short Off = omega arith
policy_short Fifo = omega arith
policy_short RoundRobin = omega arith
policy_short Priority = omega arith

-- whatever the numbers of 32 bits: a buffer of 69 bytes is never short
pub rcfg_length : (s : Settings) → s.quantum ≤ 4_294_967_295 → s.cost ≤ 4_294_967_295 → length (to_rcfg s) ≤ 69
unfolding to_rcfg written commas
rcfg_length s h k = simp length-append (omega (arith, policy_short s.policy, decimal-length 9 s.quantum (omega arith), decimal-length 9 s.cost (omega arith)))

-- a line read, the rest follows
pub settle_step : (n : ℕ) (h h' : Head) (l : List ℕ) (ls : List (List ℕ)) → setting_piece h (line_of l) ≡ good h' → settle n h (l ∷ ls) ≡ settle (suc n) h' ls
unfolding settle
settle_step n h h' l ls e = rw (e, settle)

pub settle-nil : (n : ℕ) (h : Head) → settle n h [] ≡ settled h.settings
unfolding settle
settle-nil n h = refl

set-policy : (p : Policy) → setting none_yet (some PolicyKey) (policy_word p) ≡ good (record { settings = record { policy = p; quantum = 50; cost = 0 }; past = 1 })
unfolding setting in_order map_read or_bad
set-policy p = rw (policy-read p)

set-quantum : (p : Policy) (q : ℕ) → 1 ≤ q → q ≤ 1_000_000 → setting (record { settings = record { policy = p; quantum = 50; cost = 0 }; past = 1 }) (some QuantumKey) (decimal q) ≡ good (record { settings = record { policy = p; quantum = q; cost = 0 }; past = 2 })
unfolding setting in_order map_read ranged
set-quantum p q h k = rw (needed-decimal q (omega arith), in-range 1 1_000_000 q h k)

set-cost : (p : Policy) (q w : ℕ) → w ≤ 10_000 → setting (record { settings = record { policy = p; quantum = q; cost = 0 }; past = 2 }) (some CostKey) (decimal w) ≡ good (record { settings = record { policy = p; quantum = q; cost = w }; past = 3 })
unfolding setting in_order map_read ranged
set-cost p q w h = rw (needed-decimal w (omega arith), in-range 0 10_000 w (omega arith) h)

module _ (s : Settings) (w : Within s) where
  line1 : List ℕ
  line1 = written "sched" (policy_word s.policy ∷ [])

  line2 : List ℕ
  line2 = written "sched_quantum" (decimal s.quantum ∷ [])

  line3 : List ℕ
  line3 = written "sched_switch_cost" (decimal s.cost ∷ [])

  -- three lines
  pieces : cut (to_rcfg s) ≡ line1 ∷ line2 ∷ line3 ∷ []
  unfolding to_rcfg line1 line2 line3 commas
  pieces =
      cut-written "sched" (policy_word s.policy ∷ []) refl (policy-visible s.policy) (line2 ++ line3) ∙
      ap (◌∷◌ line1) (cut-written "sched_quantum" (decimal s.quantum ∷ []) refl (decimal-visible s.quantum) line3) ∙
      ap (λ (l : List (List ℕ)). line1 ∷ line2 ∷ l) (ap cut (sym (append-nil line3)) ∙ cut-written "sched_switch_cost" (decimal s.cost ∷ []) refl (decimal-visible s.cost) [] ∙ ap (◌∷◌ line3) cut-nil)

  read1 : setting_piece none_yet (line_of line1) ≡ good (record { settings = record { policy = s.policy; quantum = 50; cost = 0 }; past = 1 })
  unfolding line1
  read1 = setting-written "sched" (policy_word s.policy) refl refl (policy-visible s.policy) (omega (arith, policy_short s.policy)) none_yet ∙ set-policy s.policy

  read2 : setting_piece (record { settings = record { policy = s.policy; quantum = 50; cost = 0 }; past = 1 }) (line_of line2) ≡ good (record { settings = record { policy = s.policy; quantum = s.quantum; cost = 0 }; past = 2 })
  unfolding line2
  read2 =
      setting-written "sched_quantum" (decimal s.quantum) refl refl (decimal-visible s.quantum) (omega (arith, decimal-length 6 s.quantum (omega (arith, w.high)))) _ ∙
      set-quantum s.policy s.quantum w.low w.high

  read3 : setting_piece (record { settings = record { policy = s.policy; quantum = s.quantum; cost = 0 }; past = 2 }) (line_of line3) ≡ good (record { settings = s; past = 3 })
  unfolding line3
  read3 =
      setting-written "sched_switch_cost" (decimal s.cost) refl refl (decimal-visible s.cost) (omega (arith, decimal-length 4 s.cost (omega (arith, w.small)))) _ ∙
      set-cost s.policy s.quantum s.cost w.small

  pub round_trip : from_rcfg (to_rcfg s) ≡ settled s
  unfolding from_rcfg
  round_trip =
      ap (settle 1 none_yet) pieces ∙
      settle_step 1 _ _ line1 _ read1 ∙
      settle_step 2 _ _ line2 _ read2 ∙
      settle_step 3 _ _ line3 _ read3 ∙
      settle-nil 4 _

---- through a buffer

pub read_back : (s : Settings) (b : List ℕ) → Within s → length (to_rcfg s) ≤ length b → written_and_read s b ≡ settled s
unfolding written_and_read
read_back s b w h = rw (le-leb (length (to_rcfg s)) (length b) h) (round_trip s w)

---- the program's settings from the definition's

policy_same : (p q : SchedPolicy) → policy_meant p ≡ policy_meant q → p ≡ q
policy_same p q e = grind arith

config_same : (c d : SchedConfig) → settings_meant c ≡ settings_meant d → c ≡ d
config_same c d e =
    let p = policy_same c.policy d.policy (ap (λ (s : Settings). s.policy) e) in
    ap (λ (p : SchedPolicy). record { policy = p; quantum = c.quantum; switch_cost = c.switch_cost }) p ∙
    ap (λ (s : Settings). record { policy = d.policy; quantum = s.quantum; switch_cost = s.cost }) e

-- settings within the limits read back equal
pub settled_same : (r : Result SchedConfig RefusedLine) (c : SchedConfig) → settled_meant r ≡ settled (settings_meant c) → r ≡ Ok c
settled_same (Ok d) c e = ap (λ (x : SchedConfig). Ok x) (config_same d c cc)
settled_same (Err k) c e = absurd (let z : ◌≡◌ {A = ℕ} 0 1 = cc in omega arith)
