use Rattle.tick_plan.proofs.tick.write.Goals as goal

pub write_at-requires : goal.write_at-requires
write_at-requires c = c.requires

pub returns : goal.returns
returns c = c.write_at.ensures
