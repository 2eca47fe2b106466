use mathlib.Core.Path.{◌∙◌, sym, ap}
use Rattle.settings.specs.Reading.{policy_meant}
use Rattle.state.specs.State.{packed}
use Rattle.state.proofs.Words.{words-in, first-packed}
use Rattle.turns.specs.Turns.{rules_meant}
use Rattle.queue.specs.Words.{made}
use Rattle.queue.specs.Ready.{waiting}
use Rattle.tick_plan.proofs.Parts.{short-same}
use Rattle.tick_plan.proofs.OnePlan.{single-core, one-decided, one-rest}
use Rattle.tick_plan.proofs.tick.decided.Goals as goal

pub returns-then-is_single : goal.returns-then-is_single
returns-then-is_single c =
    let d = c.decide_core-next in
    let one = single-core c.args.n (policy_meant c.args.rules.now.policy) (sym c.is_single.ensures ∙ c.if-is_single.true) in
    let is = words-in c.words_of.result d.result c.words_of.ensures in
    record {
      decided = one-decided c.args.states c.words_of.result d.result is c.args.marks.now d.new.marks c.args.n one (rules_meant c.args.rules.now) (waiting c.args.queue.now) (waiting d.new.queue) (made d.new.moves) (rw c.state_in.ensures at d.ensures.decided);
      rest = one-rest c.args.states c.words_of.result d.result is c.args.marks.now d.new.marks c.args.n one (rw c.state_in.ensures at d.ensures.rest);
      queue = d.ensures.queue;
      out = rw one d.ensures.out;
      lent = d.ensures.lent;
      lent_moves = d.ensures.lent_moves;
      words = first-packed c.args.states c.words_of.result d.result c.words_of.ensures;
    }

pub decide_board-requires-clause-by_index : goal.decide_board-requires-clause-by_index
decide_board-requires-clause-by_index c = short-same c.args.states c.args.n _ c.unpack.ensures c.requires.short

pub returns : goal.returns
returns c =
    let d = c.decide_board in
    let p = c.pack.ensures in
    record {
      decided = rw (sym p.states, c.unpack.ensures) at d.ensures.decided;
      rest = rw (sym p.states, c.unpack.ensures) at d.ensures.rest;
      queue = d.ensures.queue;
      out = d.ensures.out;
      lent = d.ensures.lent;
      lent_moves = d.ensures.lent_moves;
      words = λ h. p.words ∙ ap packed (sym p.states);
    }
