use native.Mathlib.Omega.{arith}
use mathlib.Core.Path.{sym, ◌∙◌}
use borrow.Author.Tests.{lt-ltb, le-ltb}
use Rattle.new_plan.proofs.Parts.{capacity-in, refused-1, refused-1b, refused-2, refused-3, refused-3b, refused_none}
use Rattle.new_plan.proofs.check_new.Goals as goal

pub returns-then-is_beyond : goal.returns-then-is_beyond
returns-then-is_beyond c = refused-1 _ _ _ _ _ _ _ _ (sym c.is_beyond.ensures ∙ c.if-is_beyond.true)

pub returns-then-config-gt-MAX_SWITCH_COST : goal.returns-then-config-gt-MAX_SWITCH_COST
returns-then-config-gt-MAX_SWITCH_COST c = refused-1b _ _ _ _ _ _ _ _ (sym c.is_beyond.ensures ∙ c.if-is_beyond.false) (lt-ltb _ _ c.if-config-gt-MAX_SWITCH_COST.true)

pub returns-then-cores-gt8 : goal.returns-then-cores-gt8
returns-then-cores-gt8 c = refused-2 _ _ _ _ _ _ _ _ (sym c.is_beyond.ensures ∙ c.if-is_beyond.false) (le-ltb _ _ c.if-config-gt-MAX_SWITCH_COST.false) (lt-ltb _ _ c.if-cores-gt8.true)

pub returns-then-is_bad_capacity : goal.returns-then-is_bad_capacity
returns-then-is_bad_capacity c = refused-3 _ _ _ _ _ _ _ _ (sym c.is_beyond.ensures ∙ c.if-is_beyond.false) (le-ltb _ _ c.if-config-gt-MAX_SWITCH_COST.false) (le-ltb _ _ c.if-cores-gt8.false) (sym c.is_bad_capacity.ensures ∙ c.if-is_bad_capacity.true)

pub is_short-requires : goal.is_short-requires
is_short-requires c = let k = capacity-in c.args.capacities (sym c.is_bad_capacity.ensures ∙ c.if-is_bad_capacity.false) in (omega (arith, c.if-cores-gt8.false), k.3, k.5)

pub returns-then-is_short : goal.returns-then-is_short
returns-then-is_short c = refused-3b _ _ _ _ _ _ _ _ (sym c.is_beyond.ensures ∙ c.if-is_beyond.false) (le-ltb _ _ c.if-config-gt-MAX_SWITCH_COST.false) (le-ltb _ _ c.if-cores-gt8.false) (sym c.is_bad_capacity.ensures ∙ c.if-is_bad_capacity.false) (sym c.is_short.ensures ∙ c.if-is_short.true)

pub returns : goal.returns
returns c = refused_none _ _ _ _ _ _ _ _ (sym c.is_beyond.ensures ∙ c.if-is_beyond.false) (le-ltb _ _ c.if-config-gt-MAX_SWITCH_COST.false) (le-ltb _ _ c.if-cores-gt8.false) (sym c.is_bad_capacity.ensures ∙ c.if-is_bad_capacity.false) (sym c.is_short.ensures ∙ c.if-is_short.false)
