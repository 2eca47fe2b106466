use mathlib.Core.Path.{ap}
use Rattle.model.specs.Reading.{core_state_meant}
use Rattle.queue.specs.Words.{made}
use Rattle.queue.proofs.Frames.{still-lent, appended-none}
use Rattle.turns.proofs.Steps.{stays, idle_or_running, phase2-due, phase2-less, phase2-pass}
use Rattle.turns.proofs.phase2.phase2_on.Goals as goal

pub returns-then-left-le1-clause-turn : goal.returns-then-left-le1-clause-turn
returns-then-left-le1-clause-turn c = λ i e b y g q. phase2-due i _ _ _ (ap core_state_meant c.in-Switching.is) e b y g q (made c.args.moves.now) c.if-left-le1.true _ c.push.ensures.moves

pub returns-in-Idle : goal.returns-in-Idle
returns-in-Idle c = record {
  turn = λ i e b y g q. stays (made c.args.moves.now) (phase2-pass i _ e b y g q (idle_or_running c.args.s c.in-Idle.is));
  out = appended-none 1 c.args.moves.now.count c.args.moves.now.words.now;
  lent = still-lent _;
}

pub returns-else-left-le1-clause-turn : goal.returns-else-left-le1-clause-turn
returns-else-left-le1-clause-turn c = λ i e b y g q. phase2-less i _ _ _ (ap core_state_meant c.in-Switching.is) e b y g q (made c.args.moves.now) c.if-left-le1.false
