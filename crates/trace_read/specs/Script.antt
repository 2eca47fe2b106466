-- A trace's script. Its first line says how many follow. Each of these has a code and its arguments, in decimal, divided by spaces, an absent thread as `-`:
--   0 POLICY QUANTUM COST CORES T E S ENTRY   new        6 TID NUMBER      set_priority
--   1 PARENT ENTRY                            spawn      7 QUANTUM COST    set_timing
--   2 CORE                                    exit       8 CORE TID        force_switch
--   3 CORE TID                                join       9                 end_tick
--   4 CORE                                    retired    10 CORE           close
--   5 CORE                                    yield_now  11                show: the whole state
use Rattle.model.specs.declared.Tid.{Tid}
use Rattle.std.specs.Prelude as Std
use Rattle.std.specs.Prelude.{ℕ, zero, suc, ◌+◌, ◌≤◌, ◌≡◌, true, not, List, [], ◌∷◌, eqb, length, take, drop, get_or, unwrap_or, Some, None}
use Rattle.std.proofs.Math.Option.{Option, none, some}
use Rattle.text.specs.Scan.{index_of}
use Rattle.text.specs.Bytes.{all, number}
use Rattle.settings.specs.Reading.{numbered}
use Rattle.settings.specs.declared.SchedPolicy.{SchedPolicy}
use Rattle.settings.specs.declared.SchedPolicy.TheVariants as PolicyCases
use Rattle.model.specs.declared.CoreId.{CoreId}
use Rattle.sched.specs.declared.Call.{Call}
use Rattle.sched.specs.declared.Call.TheVariants as Calls
use Rattle.trace_read.specs.declared.Setup.{Setup}
use Rattle.trace_read.specs.declared.Line.{Line}
use Rattle.trace_read.specs.declared.Line.TheVariants as Lines

---- a line's fields

abbrev pub number_said : Option ℕ → Std.Option ℕ
number_said none = None
number_said (some n) = Some n

-- the first n fields, which spaces divide; what is no number, or is not there, is `None`
unfoldable pub fields_of : (n : ℕ) → List ℕ → List (Std.Option ℕ)
fields_of zero l = []
fields_of (suc n) [] = None ∷ fields_of n []
fields_of (suc n) (x ∷ l) = number_said (number (take (index_of 32 (x ∷ l)) (x ∷ l))) ∷ fields_of n (drop (index_of 32 (x ∷ l) + 1) (x ∷ l))

-- field i; the code is field 0
abbrev pub field : ℕ → List (Std.Option ℕ) → Std.Option ℕ
field i f = get_or f i None

-- a field that must be a number; a line where it is none says nothing
unfoldable pub needing : Std.Option ℕ → (ℕ → Std.Option Line) → Std.Option Line
needing None g = None
needing (Some n) g = g n

-- a thread that may be absent
abbrev pub thread_said : Std.Option ℕ → Std.Option Tid
thread_said None = None
thread_said (Some t) = Some (record { 0 = t })

-- 0 where there is no number
abbrev pub or_zero : Std.Option ℕ → ℕ
or_zero n = unwrap_or n 0

---- what it says; `None`: a line that cannot be read

-- in the Rust's order; a larger number is the last
abbrev pub policy_numbered : ℕ → SchedPolicy
policy_numbered n = unwrap_or (numbered n) PolicyCases.Priority

abbrev pub setup_of : (policy quantum cost cores t e s entry : ℕ) → Setup
setup_of policy quantum cost cores t e s entry =
    record {
      config = record { policy = policy_numbered policy; quantum = quantum; switch_cost = cost };
      cores = cores;
      capacities = record { threads = t; events = e; segments = s };
      entry_pc = entry;
    }

unfoldable pub new_line : List (Std.Option ℕ) → Std.Option Line
new_line f =
    needing (field 1 f) (λ policy. needing (field 2 f) (λ quantum. needing (field 3 f) (λ cost. needing (field 4 f) (λ cores.
    needing (field 5 f) (λ t. needing (field 6 f) (λ e. needing (field 7 f) (λ s. needing (field 8 f) (λ entry.
    Some (Lines.New (setup_of policy quantum cost cores t e s entry))))))))))

unfoldable pub spawn_line : List (Std.Option ℕ) → Std.Option Line
spawn_line f = Some (Lines.Call (Calls.Spawn (thread_said (field 1 f)) (or_zero (field 2 f))))

unfoldable pub core_line : (CoreId → Call) → List (Std.Option ℕ) → Std.Option Line
core_line call f = needing (field 1 f) (λ core. Some (Lines.Call (call (record { 0 = core }))))

unfoldable pub pair_line : (ℕ → ℕ → Call) → List (Std.Option ℕ) → Std.Option Line
pair_line call f = needing (field 1 f) (λ a. needing (field 2 f) (λ b. Some (Lines.Call (call a b))))

unfoldable pub force_line : List (Std.Option ℕ) → Std.Option Line
force_line f = needing (field 1 f) (λ core. Some (Lines.Call (Calls.ForceSwitch (record { 0 = core }) (thread_said (field 2 f)))))

-- in the order of the codes
abbrev pub codes : List (List (Std.Option ℕ) → Std.Option Line)
codes =
    new_line ∷
    spawn_line ∷
    core_line Calls.Exit ∷
    pair_line (λ core tid. Calls.Join (record { 0 = core }) (record { 0 = tid })) ∷
    core_line Calls.Retired ∷
    core_line Calls.YieldNow ∷
    pair_line (λ tid n. Calls.SetPriority (record { 0 = tid }) n) ∷
    pair_line (λ quantum cost. Calls.SetTiming quantum cost) ∷
    force_line ∷
    (λ f. Some (Lines.Call Calls.EndTick)) ∷
    core_line Calls.Close ∷
    (λ f. Some Lines.Show) ∷
    []

unfoldable pub line_said : List (Std.Option ℕ) → (code : ℕ) → Std.Option Line
line_said f code = get_or codes code (λ g. None) f

unfoldable pub line_of : List ℕ → Std.Option Line
line_of l = needing (field 0 (fields_of 9 l)) (line_said (fields_of 9 l))

-- the first line
unfoldable pub count_of : List ℕ → ℕ
count_of l = or_zero (number_said (number l))

---- what is read

-- One line without its byte 10, cut where it is longer than 128 bytes. What is read no contract of the toolchain's library can say: it is some such bytes.
pub record Read (says : List ℕ → Type 0) : Type 0 where
  pub bytes : List ℕ
  pub few : length bytes ≤ 128
  pub unended : all (λ b. not (eqb b 10)) bytes ≡ true
  pub said : says bytes
