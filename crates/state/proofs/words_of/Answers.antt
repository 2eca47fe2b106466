use Rattle.state.proofs.words_of.Goals as goal

pub returns-in-Idle : goal.returns-in-Idle
returns-in-Idle c = rw c.in-Idle.is

pub returns-in-Switching : goal.returns-in-Switching
returns-in-Switching c = rw c.in-Switching.is

pub returns-in-Running : goal.returns-in-Running
returns-in-Running c = rw c.in-Running.is
