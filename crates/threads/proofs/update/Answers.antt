use Rattle.records.specs.Changes.{change_meant}
use Rattle.threads.proofs.Slices.{front-stored}
use Rattle.threads.proofs.update.Goals as goal

pub returns : goal.returns
returns c = λ n h. front-stored (change_meant c.args.c) c.args.i c.args.threads.now _ c.changed.result c.requires.0 c.changed.ensures n h
