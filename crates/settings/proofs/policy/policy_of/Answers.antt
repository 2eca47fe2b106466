use Rattle.std.proofs.Common.{refl, arith}
use Rattle.settings.specs.Settings.{policy_of}
use Rattle.settings.proofs.Words.{row-here, row-pass, row-none}
use Rattle.settings.proofs.policy.policy_of.Goals as goal

pub loop-row-init : goal.loop-row-init
unfolding policy_of
loop-row-init c = record { small = refl; says = refl }

pub loop-row-preserved : goal.loop-row-preserved
loop-row-preserved c = row-pass _ _ c.loop-row.invariant (omega arith) c.eq_ignore_ascii_case.ensures.test c.if-eq_ignore_ascii_case.false

pub returns-then-eq_ignore_ascii_case : goal.returns-then-eq_ignore_ascii_case
returns-then-eq_ignore_ascii_case c = row-here _ _ c.loop-row.invariant (omega arith) c.eq_ignore_ascii_case.ensures.test c.if-eq_ignore_ascii_case.true

pub returns : goal.returns
returns c = row-none c.loop-row.invariant (omega arith)
