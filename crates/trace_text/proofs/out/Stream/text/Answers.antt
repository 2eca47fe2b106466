use native.Mathlib.Omega.{arith}
use mathlib.Core.Path.{refl}
use Rattle.text.proofs.Puts.{put-length}
use Rattle.trace_text.proofs.Streaming.{streamed-put, placed_first}
use Rattle.trace_text.proofs.out.Stream.text.Goals as goal

pub returns-then-text-self : goal.returns-then-text-self
returns-then-text-self c = record {
  placed = record { streamed = streamed-put (omega arith) c.put-self.ensures; first = λ h k. absurd (omega arith) };
  lent = record { same = refl; long = put-length _ _ _ _ _ c.put-self.ensures (omega arith) };
}

pub returns : goal.returns
returns c = record { placed = placed_first (omega arith) c.first.ensures.placed; lent = c.first.ensures.lent }
