-- The lines of the entries before this one are put.
use Rattle.text.specs.Buffers.{Wrote}
use Rattle.model.specs.Reading.{switches_meant}
use Rattle.script.specs.Report.{switch_texts}
use Rattle.output.proofs.lines.put_switches.Given as goal

abbrev pub invariant-loop-entry : goal.invariant-loop-entry
invariant-loop-entry l = Wrote l.initial.w (switch_texts l.tick.0 (switches_meant l.fn.switches.entries l.entry-index)) l.w
