-- What a scheduler is made of. A thread, a core and a tick are plain numbers here; a thread's number is its place in the list of threads,
-- a core's its place in the list of cores.
use Rattle.std.specs.Prelude.{ℕ, Bool, List}
use Rattle.std.proofs.Math.Option.{Option}
pub use Rattle.settings.specs.Policy.{Policy, Off, Fifo, RoundRobin, Priority}

-- 01: "A core is idle, switching (thread, ticks left) or running (thread, slice)."
pub data CoreState : Type 0 where
  Idle : CoreState
  Switching : (tid left : ℕ) → CoreState
  Running : (tid slice : ℕ) → CoreState

pub data LeaveReason : Type 0 where
  Exit Block Yield Quantum Preempt Forced : LeaveReason

-- a core with its marks: what was called on it in this tick, and whether an instruction retired since its dispatch
pub record Core : Type 0 where
  pub state : CoreState
  pub exits : Bool
  pub blocks : Bool
  pub yields : Bool
  pub progressed : Bool

-- 01: "A thread gets a core at its dispatch." What a tick end or a forced switch does, in order; the accounts and the switch list are read off these
pub data Move : Type 0 where
  starts : (tid : ℕ) → Move
  leaves : (tid core : ℕ) (reason : LeaveReason) → Move
  takes : (tid core : ℕ) → Move

-- where a thread is in its life; `OnCore` is the Rust's `Running(core)`: it holds the core, running or being switched in
pub data ThreadState : Type 0 where
  Ready Exited : ThreadState
  OnCore : (core : ℕ) → ThreadState
  Blocked : (on : ℕ) → ThreadState

-- 01: "The tuple in `last_leave` becomes a record."
pub record LastLeave : Type 0 where
  pub tick : ℕ
  pub core : ℕ
  pub reason : LeaveReason

pub record Last : Type 0 where
  pub core : Option ℕ
  pub dispatch : Option ℕ
  pub leave : Option LastLeave

pub record Times : Type 0 where
  pub arrival : ℕ
  pub first_run : Option ℕ
  pub finish : Option ℕ

pub record Counts : Type 0 where
  pub run : ℕ
  pub ready : ℕ
  pub blocked : ℕ
  pub dispatches : ℕ
  pub preemptions : ℕ
  pub yields : ℕ

-- 01: "The thread records are a lent slice of records, in thread order.": a thread's number is its place in the list
pub record ThreadRecord : Type 0 where
  pub tid : ℕ
  pub parent : Option ℕ
  pub entry : ℕ
  pub priority : ℕ
  pub state : ThreadState
  pub last : Last
  pub times : Times
  pub counts : Counts

pub record CoreTicks : Type 0 where
  pub busy : ℕ
  pub switching : ℕ
  pub idle : ℕ

pub data Lane : Type 0 where
  IdleLane : Lane
  SwitchLane : (tid : ℕ) → Lane
  RunLane : (tid : ℕ) → Lane

pub record Segment : Type 0 where
  pub lane : Lane
  pub start : ℕ
  pub end : ℕ

pub data EventKind : Type 0 where
  Spawned : (parent : Option ℕ) → EventKind
  Dispatched : (core : ℕ) → EventKind
  Departed : (core : ℕ) (reason : LeaveReason) → EventKind
  Woken : EventKind
  Reprioritised : (priority : ℕ) → EventKind

pub record Event : Type 0 where
  pub tick : ℕ
  pub tid : ℕ
  pub kind : EventKind

-- 01: "One entry per core touched, in order of first touch: thread out with reason, thread in."
pub record Out : Type 0 where
  pub tid : ℕ
  pub reason : LeaveReason

pub record SwitchEntry : Type 0 where
  pub core : ℕ
  pub out : Option Out
  pub inn : Option ℕ

-- 01: "1 to 256 thread records (capacity T); newest 1 to 512 events (E); newest 1 to 4,096 segments per core (S)"
pub record Config : Type 0 where
  pub policy : Policy
  pub quantum : ℕ
  pub cost : ℕ
  pub cap_t : ℕ
  pub cap_e : ℕ
  pub cap_s : ℕ

pub record Accounts : Type 0 where
  pub threads : List ThreadRecord
  pub ticks : List CoreTicks
  pub timelines : List (List Segment)
  pub log : List Event
  pub context_switches : ℕ

-- decisions are made on the cores and the queue; they read of the accounts only priorities
pub record State : Type 0 where
  pub config : Config
  pub cores : List Core
  pub queue : List ℕ
  pub accounts : Accounts
  pub now : ℕ
  pub closed : Bool
