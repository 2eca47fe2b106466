use Rattle.state.specs.declared.Eight.{Eight}
use mathlib.Core.Path.{◌≡◌, refl, ap}
use Rattle.quiet.proofs.Cores.{growing, states-one, states-sliced, seven}
use Rattle.quiet.specs.Quiet.{sliced_below, state_at}
use Rattle.quiet.proofs.sliced_states.Goals as goal

pub sliced_words-c0-requires : goal.sliced_words-c0-requires
sliced_words-c0-requires c = growing c.args.s c.requires.1 c.requires.2 c.args.s.states.c0 0 refl

pub returns-then-n-eq1 : goal.returns-then-n-eq1
returns-then-n-eq1 c = record {
  states = states-one c.args.s.states c.sliced_words-c0.result c.args.s.cores c.if-n-eq1.true c.sliced_words-c0.ensures.state;
  words = λ h. λ i. record { c0 = c.sliced_words-c0.ensures.words (ap (λ (e : Eight). e.c0) h) i; c1 = ap (λ (e : Eight). e.c1) h i; c2 = ap (λ (e : Eight). e.c2) h i; c3 = ap (λ (e : Eight). e.c3) h i; c4 = ap (λ (e : Eight). e.c4) h i; c5 = ap (λ (e : Eight). e.c5) h i; c6 = ap (λ (e : Eight). e.c6) h i; c7 = ap (λ (e : Eight). e.c7) h i };
}

pub sliced_words-c1-requires : goal.sliced_words-c1-requires
sliced_words-c1-requires c = growing c.args.s c.requires.1 c.requires.2 c.args.s.states.c1 1 refl

pub sliced_words-c2-requires : goal.sliced_words-c2-requires
sliced_words-c2-requires c = growing c.args.s c.requires.1 c.requires.2 c.args.s.states.c2 2 refl

pub sliced_words-c3-requires : goal.sliced_words-c3-requires
sliced_words-c3-requires c = growing c.args.s c.requires.1 c.requires.2 c.args.s.states.c3 3 refl

pub sliced_words-c4-requires : goal.sliced_words-c4-requires
sliced_words-c4-requires c = growing c.args.s c.requires.1 c.requires.2 c.args.s.states.c4 4 refl

pub sliced_words-c5-requires : goal.sliced_words-c5-requires
sliced_words-c5-requires c = growing c.args.s c.requires.1 c.requires.2 c.args.s.states.c5 5 refl

pub sliced_words-c6-requires : goal.sliced_words-c6-requires
sliced_words-c6-requires c = growing c.args.s c.requires.1 c.requires.2 c.args.s.states.c6 6 refl

pub sliced_words-c7-requires : goal.sliced_words-c7-requires
sliced_words-c7-requires c = growing c.args.s c.requires.1 c.requires.2 c.args.s.states.c7 7 refl

pub returns : goal.returns
returns c =
    let r : Eight = record { c0 = c.sliced_words-c0.result; c1 = c.sliced_words-c1.result; c2 = c.sliced_words-c2.result; c3 = c.sliced_words-c3.result; c4 = c.sliced_words-c4.result; c5 = c.sliced_words-c5.result; c6 = c.sliced_words-c6.result; c7 = c.sliced_words-c7.result } in
    record {
      states = states-sliced c.args.s.states r c.args.s.cores c.requires.0 (seven (λ j. state_at r j ≡ sliced_below c.args.s.cores j (state_at c.args.s.states j)) c.sliced_words-c0.ensures.state c.sliced_words-c1.ensures.state c.sliced_words-c2.ensures.state c.sliced_words-c3.ensures.state c.sliced_words-c4.ensures.state c.sliced_words-c5.ensures.state c.sliced_words-c6.ensures.state) c.sliced_words-c7.ensures.state;
      words = λ h. λ i. record { c0 = c.sliced_words-c0.ensures.words (ap (λ (e : Eight). e.c0) h) i; c1 = c.sliced_words-c1.ensures.words (ap (λ (e : Eight). e.c1) h) i; c2 = c.sliced_words-c2.ensures.words (ap (λ (e : Eight). e.c2) h) i; c3 = c.sliced_words-c3.ensures.words (ap (λ (e : Eight). e.c3) h) i; c4 = c.sliced_words-c4.ensures.words (ap (λ (e : Eight). e.c4) h) i; c5 = c.sliced_words-c5.ensures.words (ap (λ (e : Eight). e.c5) h) i; c6 = c.sliced_words-c6.ensures.words (ap (λ (e : Eight). e.c6) h) i; c7 = c.sliced_words-c7.ensures.words (ap (λ (e : Eight). e.c7) h) i };
    }
