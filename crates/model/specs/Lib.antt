-- The definition of the scheduler (01-scope.md, "01" below), and cases computed from it.
--
-- A letter means one thing on every page here and in crates/guarantees; whatever else is bound has a word:
--   s       a state                          k       the rules of a decision (Rules)
--   c, cs   a core, cores                    q       a queue
--   i, j    a core's number, another's       h       the number of a thread in the queue
--   t, u    a thread's number, another's     r       the reason for which a thread leaves
--   ts      thread records                   v       who loses its core in phase 6 (Victim)
--   b       the accounts                     ms      moves
--   g, gs   a segment, a timeline            e, es   a switch entry, a switch list
--   l       the ticks left of a switch       o       the outcome of a join
--   n       a number: its signature says     w       a run as the claims watch it (Observed)
--           of what                          p       how many threads are ahead, as in 01
--   f       a function                       L       the state of each thread (States)
--   x, xs   any element, any list            P       a property
--   pr      each thread's priority number    '       another of the same kind
pub mod Types
pub mod Phases
pub mod Accounting
pub mod Calls
pub mod Questions
pub mod Reading
pub mod Bound
pub mod Cases
pub mod Invariants
pub mod Reasons
