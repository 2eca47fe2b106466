-- Which part of the definition an answer that may be absent stands for.
use Rattle.std.specs.Prelude.{Some, None}
use Rattle.model.specs.declared.CoreTicks as Counters
use Rattle.model.specs.declared.Segment as Segments
use Rattle.model.specs.declared.SchedEvent.{SchedEvent}
use Rattle.std.specs.Prelude as Std
use Rattle.std.proofs.Math.Option.{Option, none, some}
use Rattle.model.specs.Types.{CoreTicks, Segment, Event}
use Rattle.model.specs.Reading.{core_ticks_meant, segment_meant, event_meant}

abbrev pub option_ticks_meant : Std.Option Counters.CoreTicks → Option CoreTicks
option_ticks_meant None = none
option_ticks_meant (Some n) = some (core_ticks_meant n)

abbrev pub option_event_meant : Std.Option SchedEvent → Option Event
option_event_meant None = none
option_event_meant (Some e) = some (event_meant e)

abbrev pub option_segment_meant : Std.Option Segments.Segment → Option Segment
option_segment_meant None = none
option_segment_meant (Some g) = some (segment_meant g)
