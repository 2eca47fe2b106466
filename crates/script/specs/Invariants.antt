-- What a report keeps while lines are fed to it: threads and cores that exist, and numbers short enough to print. It is what the report program asks of a report beside its scheduler's state.
use Rattle.std.specs.Prelude.{ℕ, ◌+◌, ◌*◌, ◌≤◌, ◌<◌, ◌^◌, ◌≡◌, List, length}
use Rattle.model.specs.Types.{CoreState, Idle, Switching, Running, Core, ThreadRecord, CoreTicks, Accounts, State}
use Rattle.model.specs.Invariants.{All, AllO, Roomy}
use Rattle.model.specs.Accounting.{Sums, sums, total}
use Rattle.script.specs.Report.{Stage, heads, calls, ended, over}

---- a scheduler under a script

-- threads below N
abbrev pub In : ℕ → CoreState → Type 0
In N Idle = Unit {0}
In N (Switching t l) = t < N
In N (Running t s) = t < N

abbrev pub CoreIn : ℕ → Core → Type 0
CoreIn N c = In N c.state

abbrev pub QueueIn : ℕ → List ℕ → Type 0
QueueIn N q = All (λ (h : ℕ). h < N) q

pub record Consistent (s : State) : Type 0 where
  pub cores : All (CoreIn (length s.accounts.threads)) s.cores
  pub queue : QueueIn (length s.accounts.threads) s.queue
  pub one : 1 ≤ length s.accounts.threads
  pub size : length s.cores ≤ 8
  pub cap : s.config.cap_t ≡ 256
  pub room : Roomy s
  pub now : s.now ≤ 4_000_000_000

---- its counters, after so many moves

pub record ThreadIn (now : ℕ) (t : ThreadRecord) : Type 0 where
  pub ready : t.counts.ready ≤ now
  pub first : AllO (λ (x : ℕ). x ≤ now) t.times.first_run
  pub finish : AllO (λ (x : ℕ). x ≤ now + 1) t.times.finish

pub record TicksIn (now : ℕ) (n : CoreTicks) : Type 0 where
  pub busy : n.busy ≤ now
  pub switching : n.switching ≤ now
  pub idle : n.idle ≤ now

pub record Counted (now moves : ℕ) (b : Accounts) : Type 0 where
  pub threads : All (ThreadIn now) b.threads
  pub ticks : All (TicksIn now) b.ticks
  pub cores : length b.ticks ≤ 8
  pub context_switches : b.context_switches ≤ moves
  pub preempted : total (λ (t : ThreadRecord). t.counts.preemptions) b.threads ≤ moves

---- the summary

-- all the sheet's numbers are below 10 ^ 20
pub record Modest (n : ℕ) (s : Sums) : Type 0 where
  pub threads : s.threads < 10 ^ 20
  pub finished : s.finished < 10 ^ 20
  pub now : n < 10 ^ 20
  pub context_switches : s.context_switches < 10 ^ 20
  pub preemptions : s.preemptions < 10 ^ 20
  pub waiting : s.waiting < 10 ^ 20
  pub response : s.response < 10 ^ 20
  pub turnaround : s.turnaround < 10 ^ 20
  pub busy : s.busy < 10 ^ 20
  pub core_ticks : s.core_ticks < 10 ^ 20

---- a report, after so many lines

pub record Sound (lines : ℕ) (s : State) : Type 0 where
  pub fine : Consistent s
  pub counted : Counted s.now (144 * lines) s.accounts

-- what a stage keeps, after so many lines
abbrev pub Kept : ℕ → Stage → Type 0
Kept n (heads h) = n ≤ 1_000_000_000_000
Kept n (calls s) = (n ≤ 1_000_000_000_000) × Sound n s
Kept n (ended s) = Modest s.now (sums s.accounts)
Kept n over = Unit {0}
