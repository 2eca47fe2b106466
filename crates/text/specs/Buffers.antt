-- Texts put into lent buffers.
use Rattle.std.specs.Prelude.{ℕ, ◌+◌, ◌≡◌, ◌≤◌, cond, List, ◌++◌, leb, length, drop}
use Rattle.std.specs.Borrow.{MutBor}
use Rattle.std.proofs.Math.Option.{Option, none, some}
use Rattle.std.proofs.Math.Seq.{paste}
use Rattle.text.specs.declared.put.Writer.{Writer}

-- a slice that a struct keeps is still the same loan, and as long: what is left of it is the lender's
pub record StillLent {A : Type 0} (old new : MutBor (List A)) : Type 0 where
  pub same : new.ghost_name ≡ old.ghost_name
  pub long : length new.now ≡ length old.now

-- the text t put at `at` into the buffer b gives b' and ends at r: `paste b at t n` is b with the first n of t from `at` on
pub record Put (b : List ℕ) (at : ℕ) (t b' : List ℕ) (r : ℕ) : Type 0 where
  pub bytes : b' ≡ paste b at t (length t)
  pub end : r ≡ at + length t

-- a writer's buffer holds a text from where the writer stands
abbrev pub HasRoom : Writer → List ℕ → Type 0
HasRoom w t = w.at + length t ≤ length w.out.now

-- a writer put the text t, and stands behind it
pub record Wrote (old : Writer) (t : List ℕ) (new : Writer) : Type 0 where
  pub fits : HasRoom old t
  pub put : Put old.out.now old.at t new.out.now new.at
  pub lent : StillLent old.out new.out

pub record Laid : Type 0 where
  pub refusal : Option ℕ
  pub count : ℕ
  pub buffer : List ℕ

-- 3 text buffer short: then nothing is written. Otherwise the buffer behind the text is unchanged.
unfoldable pub laid : (text buffer : List ℕ) → Laid
laid t b = cond (leb (length t) (length b)) (record { refusal = none; count = length t; buffer = t ++ drop (length t) b }) (record { refusal = some 3; count = 0; buffer = b })
