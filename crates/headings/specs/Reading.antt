-- Which part of the definition a value of the program's types stands for.
use Rattle.std.specs.Prelude.{Result, Ok, Err}
use Rattle.text.specs.Lines.{Read, bad, good}
use Rattle.settings.specs.declared.Refusal.{Refusal}
use Rattle.settings.specs.Reading.{refusal_number, settings_meant}
use Rattle.rcfg.specs.Reading.{head_meant}
use Rattle.script.specs.Script.{Heading, more, done}
use Rattle.headings.specs.declared.Heading as Headings
use Rattle.headings.specs.declared.Heading.TheVariants as HeadingCases

abbrev pub heading_meant : Headings.Heading → Heading
heading_meant (HeadingCases.More h) = more (head_meant h)
heading_meant (HeadingCases.Done c n) = done (settings_meant c) n

abbrev pub heading_read_meant : Result Headings.Heading Refusal → Read Heading
heading_read_meant (Ok h) = good (heading_meant h)
heading_read_meant (Err k) = bad (refusal_number k)
