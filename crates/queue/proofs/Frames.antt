-- What lies behind a count stays as it was, through one write and through several steps.
-- Assumes nothing.
use Prim.Native.Nat.{ℕ, ◌+◌, ◌-◌, ◌≤◌}
use mathlib.Core.Path.{◌≡◌, refl, ap, ◌∙◌}
use mathlib.Core.List.{List}
use native.Mathlib.Omega.{arith}
use lib.ListN.{drop, set}
use lib.Seq.{drop-set-lt, drop-drop}
use Rattle.std.specs.Borrow.{MutBor}
use Rattle.queue.specs.Words.{StillLent, Behind, Appended, NoLonger}

-- further behind
pub later : (k k' : ℕ) (old new : List ℕ) → k ≤ k' → Behind k old new → Behind k' old new
later k k' old new l e =
    let z : k + (k' - k) ≡ k' = omega arith in
    rw (← z, ← drop-drop (k' - k) k new, ← drop-drop (k' - k) k old) (ap (drop (k' - k)) e)

-- a word stored at the count
pub stored : (l : List ℕ) (n x : ℕ) → Behind (n + 1) l (set l n x)
stored l n x = drop-set-lt (n + 1) l n x (omega arith)

---- words that are lent

pub still-lent-both : {a b c : MutBor (List ℕ)} → StillLent a b → StillLent b c → StillLent a c
still-lent-both x y = record { same = y.same ∙ x.same; long = y.long ∙ x.long }

pub still-lent : (a : MutBor (List ℕ)) → StillLent a a
still-lent a = record { same = refl; long = refl }

---- words appended

pub appended-none : (room n : ℕ) (l : List ℕ) → Appended room n n l l
appended-none room n l = record { more = omega arith; fits = omega arith; behind = refl }

pub appended_one : (n x : ℕ) (l : List ℕ) → Appended 1 n (n + 1) l (set l n x)
appended_one n x l = record { more = omega arith; fits = omega arith; behind = stored l n x }

-- one after the other
pub appended-both : {a b n n' n'' : ℕ} {l l' l'' : List ℕ} (c : ℕ) → Appended a n n' l l' → Appended b n' n'' l' l'' → a + b ≤ c → Appended c n n'' l l''
appended-both {n'' = n''} c x y h =
    record { more = omega (arith, x.more, y.more); fits = omega (arith, x.fits, y.fits); behind = y.behind ∙ later _ n'' _ _ y.more x.behind }

-- room for more
pub appended-room : {a n n' : ℕ} {l l' : List ℕ} (c : ℕ) → Appended a n n' l l' → a ≤ c → Appended c n n' l l'
appended-room c x h = record { more = x.more; fits = omega (arith, x.fits); behind = x.behind }

---- a queue that is no longer

pub no-longer-same : (n : ℕ) (l : List ℕ) → NoLonger n n l l
no-longer-same n l = record { fits = omega arith; behind = refl }

pub no-longer-both : {n n' n'' : ℕ} {l l' l'' : List ℕ} → NoLonger n n' l l' → NoLonger n' n'' l' l'' → NoLonger n n'' l l''
no-longer-both {n = n} x y = record { fits = omega (arith, x.fits, y.fits); behind = later _ n _ _ x.fits y.behind ∙ x.behind }

-- a thread was taken out; a thread was taken out and another came back; nothing came back
pub no-longer-taken : (l l' : ℕ) (q q' : List ℕ) → l' + 1 ≡ l → Behind l' q q' → NoLonger l l' q q'
no-longer-taken l l' q q' e b = record { fits = omega arith; behind = later l' l q q' (omega arith) b }

pub no-longer-swapped : (l l₁ l₂ : ℕ) (q q₁ q₂ : List ℕ) → l₁ + 1 ≡ l → l₂ ≡ l → Behind l₁ q q₁ → Behind l₂ q₁ q₂ → NoLonger l l₂ q q₂
no-longer-swapped l l₁ l₂ q q₁ q₂ e f a b = record { fits = omega arith; behind = (rw f at b) ∙ later l₁ l q q₁ (omega arith) a }

pub no-longer-left : (l l' : ℕ) (q q' : List ℕ) → l' ≡ l + 0 → Behind l' q q' → NoLonger l l' q q'
no-longer-left l l' q q' e b = record { fits = omega arith; behind = later l' l q q' (omega arith) b }
