-- A state with some of its fields changed.
use Rattle.std.specs.Prelude.{Bool, List}
use Rattle.settings.specs.declared.SchedConfig.{SchedConfig}
use Rattle.state.specs.declared.Sched.{Sched}

abbrev pub with_progressed : List Bool → Sched → Sched
with_progressed l s = record s { marks = record s.marks { progressed = l } }

abbrev pub with_config : SchedConfig → Sched → Sched
with_config k s = record s { config = k }
