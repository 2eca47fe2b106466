-- Settings: the eleven words, the three keys in their order, the limits, and the text written.
use Rattle.std.specs.Prelude.{ℕ, suc, ◌≤◌, cond, List, [], ◌∷◌, ◌++◌, map, leb}
use Rattle.std.proofs.Math.Option.{Option, none, some}
use Rattle.settings.specs.Policy.{Policy, Off, Fifo, RoundRobin, Priority}
use Rattle.settings.specs.Policy.{beyond}
use Rattle.text.specs.Bytes.{ascii, lower_of, lookup, decimal}
use Rattle.text.specs.Lines.{Read, bad, good, or_bad, map_read, cut, line_of, value, key_in, needed, written}

pub record Settings : Type 0 where
  pub policy : Policy
  pub quantum : ℕ
  pub cost : ℕ

-- 01: "A missing key takes its default: off, 50, 0."
abbrev pub defaults : Settings
defaults = record { policy = Off; quantum = 50; cost = 0 }

---- reading

-- 01: "The policy is one of these eleven words, letter case ignored"
abbrev pub policy_words : List (List ℕ × Policy)
policy_words =
    (ascii "off", Off) ∷ (ascii "none", Off) ∷ (ascii "pinned", Off) ∷
    (ascii "fifo", Fifo) ∷ (ascii "fcfs", Fifo) ∷
    (ascii "rr", RoundRobin) ∷ (ascii "round-robin", RoundRobin) ∷ (ascii "roundrobin", RoundRobin) ∷ (ascii "round_robin", RoundRobin) ∷
    (ascii "priority", Priority) ∷ (ascii "prio", Priority) ∷ []

-- the table's columns
abbrev pub entry_word : List ℕ × Policy → List ℕ
entry_word e = e.0

abbrev pub words : List (List ℕ)
words = map entry_word policy_words

abbrev pub entry_policy : List ℕ × Policy → Policy
entry_policy e = e.1

abbrev pub policies : List Policy
policies = map entry_policy policy_words

unfoldable pub policy_of : List ℕ → Option Policy
policy_of v = lookup (map lower_of v) policy_words

unfoldable pub ranged : (low high : ℕ) → Read ℕ → Read ℕ
ranged a b (bad k) = bad k
ranged a b (good n) = cond (beyond a b n) (bad 1) (good n)

-- 01: "Quantum 1 to 1,000,000; switch cost 0 to 10,000."
pub record Within (s : Settings) : Type 0 where
  pub low : 1 ≤ s.quantum
  pub high : s.quantum ≤ 1_000_000
  pub small : s.cost ≤ 10_000

-- the keys before the calls; `cores` is the script's and no setting (`specs/Script.antt`)
pub data HeadKey : Type 0 where
  PolicyKey QuantumKey CostKey CoresKey : HeadKey

abbrev pub head_keys : List (List ℕ × HeadKey)
head_keys = (ascii "sched", PolicyKey) ∷ (ascii "sched_quantum", QuantumKey) ∷ (ascii "sched_switch_cost", CostKey) ∷ (ascii "cores", CoresKey) ∷ []

-- what the lines so far have set, and how many of the three keys, in their order, may no longer come
pub record Head : Type 0 where
  pub settings : Settings
  pub past : ℕ

abbrev pub none_yet : Head
none_yet = record { settings = defaults; past = 0 }

-- 01: "keys in the order `sched`, `sched_quantum`, `sched_switch_cost`": the key of place r, if it may still come; 6 before anything of its value
unfoldable pub in_order : (r : ℕ) → Head → Read Settings → Read Head
in_order r h s = cond (leb h.past r) (map_read (λ x. record { settings = x; past = suc r }) s) (bad 6)

-- 01: "checking there 6, then 7 or 8, then 1 or 2"
unfoldable pub setting : Head → Option HeadKey → List ℕ → Read Head
setting h none v = bad 6
setting h (some CoresKey) v = bad 6
setting h (some PolicyKey) v = in_order 0 h (map_read (λ p. record { policy = p; quantum = h.settings.quantum; cost = h.settings.cost }) (or_bad 7 (policy_of v)))
setting h (some QuantumKey) v = in_order 1 h (map_read (λ q. record { policy = h.settings.policy; quantum = q; cost = h.settings.cost }) (ranged 1 1_000_000 (needed v)))
setting h (some CostKey) v = in_order 2 h (map_read (λ w. record { policy = h.settings.policy; quantum = h.settings.quantum; cost = w }) (ranged 0 10_000 (needed v)))

unfoldable pub setting_line : Head → List ℕ → Read Head
setting_line h l = setting h (key_in head_keys l) (value l)

-- a text that holds settings alone: the settings, or the number of the first bad line with its refusal
pub data Settled : Type 0 where
  unsettled : (line number : ℕ) → Settled
  settled : Settings → Settled

unfoldable pub setting_piece : Head → Option (List ℕ) → Read Head
setting_piece h none = bad 6
setting_piece h (some l) = setting_line h l

unfoldable pub settle : (line : ℕ) → Head → List (List ℕ) → Settled
settle n h [] = settled h.settings
settle n h (l ∷ ls) = elim (setting_piece h (line_of l)) [ bad k ↦ unsettled n k | good h' ↦ settle (suc n) h' ls ]

unfoldable pub from_rcfg : List ℕ → Settled
from_rcfg text = settle 1 none_yet (cut text)

---- writing

abbrev pub policy_word : Policy → List ℕ
policy_word Off = ascii "off"
policy_word Fifo = ascii "fifo"
policy_word RoundRobin = ascii "rr"
policy_word Priority = ascii "priority"

-- the names that the Rust's `label` has
abbrev pub policy_label : Policy → List ℕ
policy_label Off = ascii "off"
policy_label Fifo = ascii "FIFO"
policy_label RoundRobin = ascii "Round robin"
policy_label Priority = ascii "Priority"

-- 01: "`to_rcfg` writes all three as the Rust does, whatever the numbers"
unfoldable pub to_rcfg : Settings → List ℕ
to_rcfg s =
    written "sched" (policy_word s.policy ∷ []) ++
    (written "sched_quantum" (decimal s.quantum ∷ []) ++
    written "sched_switch_cost" (decimal s.cost ∷ []))
