use Rattle.std.proofs.Common.{◌≡◌, ◌∙◌, arith}
use Rattle.std.proofs.lemmas.Grind.{common_steps}
use Rattle.text.specs.Buffers.{laid}
use Rattle.settings.specs.Buffers.{to_rcfg_in, written_and_read}
use Rattle.settings.specs.Reading.{settings_meant}
use Rattle.rcfg.specs.Reading.{settled_meant}
use Rattle.rcfg.proofs.RoundTrip.{read_back, settled_same}
use Rattle.rcfg.proofs.writing.write_and_read.Goals as goal

pub returns-clause-value : goal.returns-clause-value
unfolding written_and_read to_rcfg_in laid
returns-clause-value c = λ w h.
    let read : settled_meant c.from_rcfg.result ≡ written_and_read (settings_meant c.args.c) c.args.out.now = grind (arith, common_steps) in
    settled_same c.from_rcfg.result c.args.c (read ∙ read_back (settings_meant c.args.c) c.args.out.now w h)
