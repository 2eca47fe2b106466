-- What a line that was read makes of a report, in the definition and in the program.
use Rattle.std.specs.Prelude.{ℕ, suc, ◌+◌, ◌≤◌, ◌≡◌, List, [], Ok, Err, Result}
use Rattle.settings.specs.declared.Refusal.{Refusal}
use Rattle.settings.specs.Reading.{refusal_number, settings_meant}
use Rattle.rcfg.specs.declared.Head as Heads
use Rattle.rcfg.specs.Reading.{head_meant}
use Rattle.model.specs.Calls as Calls
use Rattle.state.specs.declared.Capacities.{Capacities}
use Rattle.state.specs.declared.Sched.{Sched}
use Rattle.switches.specs.declared.SwitchList.{SwitchList}
use Rattle.new_plan.specs.declared.Created.{Created}
use Rattle.sched.specs.declared.Applied.{Applied}
use Rattle.sched.specs.declared.Outcome.{Outcome}
use Rattle.sched.specs.declared.Outcome.TheVariants as OutcomeCases
use Rattle.switches.specs.Entries.{no_switches}
use Rattle.sched.specs.Meant.{call_meant, outcome_meant}
use Rattle.script.specs.Report as Definition
use Rattle.feed_plan.specs.declared.Stage.{Stage}
use Rattle.feed_plan.specs.declared.Stage.TheVariants as StageCases
use Rattle.feed_plan.specs.declared.Report.{Report}
use Rattle.feed_plan.specs.declared.Line.{Line}
use Rattle.feed_plan.specs.declared.Line.TheVariants as LineCases
use Rattle.feed_plan.specs.declared.Next.{Next}

---- the definition, once a line is read

-- 01: "A refusal in the settings or at `cores=` ends the run without a summary. A bad line after `cores=` ends the calls, and the summary follows."
abbrev pub after_refusal : Definition.Stage → Definition.Stage
after_refusal (Definition.heads h) = Definition.over
after_refusal (Definition.calls s) = Definition.ended s
after_refusal (Definition.ended s) = Definition.ended s
after_refusal Definition.over = Definition.over

abbrev pub step_in : (line : ℕ) → Definition.Stage → Calls.Call → Definition.Fed
step_in n (Definition.heads h) c = Definition.at n (Definition.heads h) []
step_in n (Definition.calls s) c = Definition.said n (Calls.step s c)
step_in n (Definition.ended s) c = Definition.at n (Definition.ended s) []
step_in n Definition.over c = Definition.at n Definition.over []

abbrev pub fed_by : (line : ℕ) → Definition.Stage → Result Line Refusal → Definition.Fed
fed_by n g (Err k) = Definition.at n (after_refusal g) (Definition.refused_text n (refusal_number k))
fed_by n g (Ok LineCases.Nothing) = Definition.at n g []
fed_by n g (Ok (LineCases.Head h)) = Definition.at n (Definition.heads (head_meant h)) []
fed_by n g (Ok (LineCases.Start c cores)) = Definition.begun n (Definition.created (settings_meant c) cores)
fed_by n g (Ok (LineCases.Call c)) = step_in n g (call_meant c)

abbrev pub fed_of : Definition.Report → Result Line Refusal → Definition.Fed
fed_of d l = fed_by (suc d.lines) d.stage l

---- where a line may say what

abbrev pub Counts : Stage → Type 0
Counts StageCases.Heads = Unit {0}
Counts StageCases.Calls = Unit {0}
Counts StageCases.Ended = ⊥
Counts StageCases.Over = ⊥

abbrev pub Rests : Stage → Type 0
Rests StageCases.Heads = ⊥
Rests StageCases.Calls = ⊥
Rests StageCases.Ended = Unit {0}
Rests StageCases.Over = Unit {0}

-- where something stands at the end
abbrev pub Prints : Stage → Type 0
Prints StageCases.Heads = Unit {0}
Prints StageCases.Calls = Unit {0}
Prints StageCases.Ended = Unit {0}
Prints StageCases.Over = ⊥

abbrev pub HeadSays : Result Line Refusal → Type 0
HeadSays (Err k) = Unit {0}
HeadSays (Ok LineCases.Nothing) = ⊥
HeadSays (Ok (LineCases.Head h)) = Unit {0}
HeadSays (Ok (LineCases.Start c n)) = Unit {0}
HeadSays (Ok (LineCases.Call c)) = ⊥

abbrev pub CallSays : Result Line Refusal → Type 0
CallSays (Err k) = Unit {0}
CallSays (Ok LineCases.Nothing) = ⊥
CallSays (Ok (LineCases.Head h)) = ⊥
CallSays (Ok (LineCases.Start c n)) = ⊥
CallSays (Ok (LineCases.Call c)) = Unit {0}

abbrev pub Fits : Report → Result Line Refusal → Type 0
Fits r (Err k) = Counts r.stage × (r.lines ≤ 1_000_000_000_000)
Fits r (Ok LineCases.Nothing) = Rests r.stage
Fits r (Ok (LineCases.Head h)) = (r.stage ≡ StageCases.Heads) × (r.lines ≤ 1_000_000_000_000)
Fits r (Ok (LineCases.Start c n)) = (r.stage ≡ StageCases.Heads) × (r.lines ≤ 1_000_000_000_000)
Fits r (Ok (LineCases.Call c)) = (r.stage ≡ StageCases.Calls) × (r.lines ≤ 1_000_000_000_000)

---- the program's next report

-- 01: "T 256, E 512, S 256"
abbrev pub report_capacities : Capacities
report_capacities = record { threads = 256; events = 512; segments = 256 }

abbrev pub refused_stage : Stage → Stage
refused_stage StageCases.Heads = StageCases.Over
refused_stage StageCases.Calls = StageCases.Ended
refused_stage StageCases.Ended = StageCases.Ended
refused_stage StageCases.Over = StageCases.Over

abbrev pub quiet_next : Report → Next
quiet_next r = record { report = r; line = 0; outcome = Ok OutcomeCases.Taken; switches = no_switches }

abbrev pub refused_next : Report → Refusal → Next
refused_next r k =
    record {
      report = record { lines = r.lines; stage = refused_stage r.stage; head = r.head; sched = r.sched };
      line = r.lines + 1;
      outcome = Err k;
      switches = no_switches;
    }

abbrev pub headed_next : Report → Heads.Head → Next
headed_next r h = record { report = record { lines = r.lines + 1; stage = StageCases.Heads; head = h; sched = r.sched }; line = 0; outcome = Ok OutcomeCases.Taken; switches = no_switches }

abbrev pub called_next : Report → Sched → Result Outcome Refusal → SwitchList → Next
called_next r s o l = record { report = record { lines = r.lines + 1; stage = StageCases.Calls; head = r.head; sched = s }; line = r.lines + 1; outcome = o; switches = l }

abbrev pub answered_next : Report → Sched → Result Unit Refusal → Next
answered_next r s (Ok tt) = called_next r s (Ok OutcomeCases.Taken) no_switches
answered_next r s (Err k) = refused_next r k

abbrev pub created_next : Report → Created → Next
created_next r c = answered_next r c.sched c.answer

abbrev pub applied_next : Report → Applied → Next
applied_next r a = called_next r a.sched a.outcome a.switches

-- the thread records that the summary adds up
abbrev pub records_in : Stage → Sched → ℕ
records_in StageCases.Heads s = 0
records_in StageCases.Calls s = s.threads
records_in StageCases.Ended s = s.threads
records_in StageCases.Over s = 0

-- what it prints
unfoldable pub next_text : Next → List ℕ
next_text x = Definition.answer_text x.line x.report.sched.now.0 (outcome_meant x.outcome x.switches)
