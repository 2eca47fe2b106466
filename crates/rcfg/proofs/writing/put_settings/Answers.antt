use Rattle.text.specs.Lines.{written, commas}
use Rattle.settings.specs.Settings.{to_rcfg}
use Rattle.text.proofs.Puts.{wrote_then}
use Rattle.rcfg.proofs.writing.put_settings.Goals as goal

pub returns : goal.returns
unfolding to_rcfg written commas
returns c =
    let quantum = rw c.from.ensures at c.put_number_line.ensures in
    let cost = rw c.from-2.ensures at c.put_number_line-2.ensures in
    wrote_then c.put_policy.ensures (wrote_then quantum cost)
