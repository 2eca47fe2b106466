use Rattle.std.proofs.Common.{◌≡◌, ap, arith, rules, suc}
use Rattle.model.specs.Questions.{next_tid}
use Rattle.state.specs.State.{meant}
use Rattle.trace_text.specs.Texts.{spaced_maybe, texts_below}
use Rattle.trace_text.proofs.Streaming.{written-none, written-next, written-same}
use Rattle.trace_state.specs.Asked.{place_text, places_text}
use Rattle.trace_state.proofs.Asking.{threads-long, few-threads}
use Rattle.trace_state.proofs.cores.put_places.Goals as goal

pub overflow_add-i-end : goal.overflow_add-i-end
overflow_add-i-end c = omega (arith, few-threads c.args.s c.requires.0.0 c.requires.0.1)

pub loop-i-init : goal.loop-i-init
unfolding texts_below
loop-i-init c = (search rules, λ m v u. written-none _ (omega arith))

pub overflow_cast-i : goal.overflow_cast-i
overflow_cast-i c = omega (arith, few-threads c.args.s c.requires.0.0 c.requires.0.1)

pub loop-i-preserved : goal.loop-i-preserved
loop-i-preserved c = (
  search rules,
  λ m v u. written-next (place_text (meant c.args.s m)) c.loop-i.i (c.loop-i.invariant.1 m v u) (written-same (ap spaced_maybe (c.core_of.ensures m v u)) c.core.ensures),
)

pub returns-clause-said : goal.returns-clause-said
unfolding places_text
returns-clause-said c = λ m v u.
    let e : c.loop-i.i ≡ suc (next_tid (meant c.args.s m)) = omega (arith, threads-long c.args.s m v) in
    written-same (ap (texts_below (place_text (meant c.args.s m))) e) (c.loop-i.invariant.1 m v u)
