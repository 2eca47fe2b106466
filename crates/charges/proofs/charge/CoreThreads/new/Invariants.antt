use Rattle.std.proofs.Common.{◌≡◌, length, take, map}
use Rattle.charges.specs.Charging.{holder_word}
use Rattle.charges.proofs.Charging.{running_of}
use Rattle.charges.proofs.charge.CoreThreads.new.Given as goal

abbrev pub invariant-loop-k : goal.invariant-loop-k
invariant-loop-k l = (length l.held ≡ 8) × (length l.running ≡ 8) × (take l.k l.held ≡ map holder_word (take l.k l.core-items)) × (take l.k l.running ≡ map running_of (take l.k l.core-items))
