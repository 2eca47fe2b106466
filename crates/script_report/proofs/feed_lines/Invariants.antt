use Rattle.state.specs.Memory.{held, SameLoans}
use Rattle.script_report.proofs.Looping.{Made}
use Rattle.script_report.proofs.feed_lines.Given as goal

abbrev pub invariant-loop : goal.invariant-loop
invariant-loop l = SameLoans l.initial.m l.m × Made l.fn.first l.n l.script l.initial.out (held l.initial.m) l.counter l.p l.out (held l.m)
