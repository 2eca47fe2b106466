-- Texts that go through a lent buffer to standard output: what the buffer holds is handed over whenever the next text does not fit behind it.
-- That it is handed over no contract of the toolchain's library can say. What the buffer holds then is said: the end of what went through it, in order and
-- unchanged, and all of it where it fits.
use Rattle.std.specs.Prelude.{ℕ, ◌+◌, ◌≤◌, ◌<◌, ◌≡◌, List, ◌++◌, length, take}
use Rattle.text.specs.Buffers.{Put, StillLent}
use Rattle.trace_text.specs.declared.out.Stream.{Stream}

-- The text t comes behind the first `at` bytes of the buffer b; b' is the buffer afterwards, and r where it ends. What was handed over meanwhile, followed by
-- what the buffer then holds, is what it held before, followed by t. Two texts, one after the other, are one: `then` in proofs/Streaming.antt.
pub record Streamed (b : List ℕ) (at : ℕ) (t b' : List ℕ) (r : ℕ) : Type 0 where
  pub within : r ≤ length b
  pub long : length b' ≡ length b
  pub gone : List ℕ
  pub whole : gone ++ take r b' ≡ take at b ++ t
  -- where t fits, nothing is handed over, and the bytes behind it stay
  pub fits : at + length t ≤ length b → Put b at t b' r

-- one text, put as a whole: where it fits the buffer but not behind the others, it stands at the front
pub record Placed (b : List ℕ) (at : ℕ) (t b' : List ℕ) (r : ℕ) : Type 0 where
  pub streamed : Streamed b at t b' r
  pub first : length b < at + length t → length t ≤ length b → Put b 0 t b' r

---- the same of a stream, which holds the buffer as a loan

abbrev pub Within : Stream → Type 0
Within s = s.at ≤ length s.out.now

-- t was put into the stream
pub record Written (old : Stream) (t : List ℕ) (new : Stream) : Type 0 where
  pub streamed : Streamed old.out.now old.at t new.out.now new.at
  pub lent : StillLent old.out new.out

-- t was put, as a whole
pub record WrittenWhole (old : Stream) (t : List ℕ) (new : Stream) : Type 0 where
  pub placed : Placed old.out.now old.at t new.out.now new.at
  pub lent : StillLent old.out new.out

-- some text was put: which one, the contract leaves open
pub record Grown (old new : Stream) : Type 0 where
  pub within : Within new
  pub lent : StillLent old.out new.out
