use Rattle.std.proofs.Common.{rules, eqb, tests}
use Rattle.std.proofs.lemmas.Iterator.{YieldsList-from_slice}
use Rattle.std.proofs.lemmas.Iterator.Search.{position_from_yields_List}
use Rattle.queue.proofs.Search.{place_chosen}
use Rattle.queue.proofs.ready.position.Goals as goal

pub returns : goal.returns
returns c =
    place_chosen _ _ c.position.result (position_from_yields_List (λ x. eqb x c.args.tid.0) _ _ _ c.position.ensures.ran (YieldsList-from_slice c.args.waiting.now (cc)) (λ x b q k. search (rules, tests)))
