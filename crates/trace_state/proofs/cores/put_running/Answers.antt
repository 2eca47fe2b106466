use Rattle.std.proofs.Common.{◌≡◌, ap, arith, length, rules, suc}
use Rattle.state.specs.State.{meant}
use Rattle.trace_text.specs.Texts.{spaced_maybe, texts_below}
use Rattle.trace_text.proofs.Streaming.{◌and◌, written-none, written-next, written-same}
use Rattle.trace_state.specs.Asked.{core_text, running_text}
use Rattle.trace_state.proofs.Asking.{cores-long}
use Rattle.trace_state.proofs.cores.put_running.Goals as goal

pub loop-i-init : goal.loop-i-init
unfolding texts_below
loop-i-init c = (search rules, λ m v u. written-none _ (omega arith))

pub loop-i-preserved : goal.loop-i-preserved
loop-i-preserved c = (
  search rules,
  λ m v u.
      written-next (core_text (meant c.args.s m)) c.loop-i.i (c.loop-i.invariant.1 m v u)
      (written-same (ap spaced_maybe (c.running_on.ensures m v u)) c.tid.ensures and
      written-same (ap spaced_maybe (c.thread_on.ensures m v u)) c.tid-in-loop-i.ensures),
)

pub returns-clause-said : goal.returns-clause-said
unfolding running_text
returns-clause-said c = λ m v u.
    let e : c.loop-i.i ≡ suc (length (meant c.args.s m).cores) = omega (arith, cores-long c.args.s m) in
    written-same (ap (texts_below (core_text (meant c.args.s m))) e) (c.loop-i.invariant.1 m v u)
