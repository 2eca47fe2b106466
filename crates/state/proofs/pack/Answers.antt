use mathlib.Core.Path.{sym, ◌∙◌}
use Rattle.state.proofs.Whole.{whole}
use Rattle.model.specs.declared.CoreState.TheVariants as CoreStateCases
use Rattle.state.proofs.Words.{all-eight, words-in}
use Rattle.state.proofs.pack.Goals as goal

pub returns : goal.returns
returns c =
    let same = sym (whole 8 c.args.a CoreStateCases.Idle c.well_formed.0.1.0.1) in
    record {
      words = (λ i. record { c0 = c.words_of-c0.ensures i; c1 = c.words_of-c1.ensures i; c2 = c.words_of-c2.ensures i; c3 = c.words_of-c3.ensures i; c4 = c.words_of-c4.ensures i; c5 = c.words_of-c5.ensures i; c6 = c.words_of-c6.ensures i; c7 = c.words_of-c7.ensures i });
      states = all-eight _ _ _ _ _ _ _ _ _ _ _ _ _ _ _ _ (words-in _ _ c.words_of-c0.ensures) (words-in _ _ c.words_of-c1.ensures) (words-in _ _ c.words_of-c2.ensures) (words-in _ _ c.words_of-c3.ensures) (words-in _ _ c.words_of-c4.ensures) (words-in _ _ c.words_of-c5.ensures) (words-in _ _ c.words_of-c6.ensures) (words-in _ _ c.words_of-c7.ensures) ∙ same;
    }
