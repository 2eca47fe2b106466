-- A word behind the first n of a list, and what it decodes to.
-- Assumes nothing.
use Prim.Native.Nat.{ℕ, ◌+◌, ◌*◌, ◌/◌, ◌%◌, ◌<◌}
use mathlib.Core.Path.{◌≡◌}
use mathlib.Core.List.{List, [], ◌∷◌, ◌++◌, map-append}
use native.Mathlib.Numerals.{add-one}
use native.Mathlib.Omega.{arith}
use lib.ListN.{length, set, take}
use lib.Seq.{take-suc-set}
use Rattle.queue.specs.Words.{decode, move_of, moves_in}

pub back : (q : List ℕ) (w x : ℕ) → w < length q → take (w + 1) (set q w x) ≡ take w q ++ (x ∷ [])
back q w x h = rw add-one (take-suc-set q w x h)

low : (a b : ℕ) → b < 8 → (a * 8 + b) % 8 ≡ b
low a b h = omega arith

high : (a b : ℕ) → b < 8 → (a * 8 + b) / 8 ≡ a
high a b h = omega arith

pub decoded : (code core tid : ℕ) → code < 8 → core < 8 → tid < 4294967296 → decode ((tid * 8 + core) * 8 + code) ≡ move_of code core tid
decoded code core tid h k l =
    let t : tid % 4294967296 ≡ tid = omega arith in
    rw (low (tid * 8 + core) code h, high (tid * 8 + core) code h, low tid core k, high tid core k, t)

pub pushed : (words : List ℕ) (n w : ℕ) → n < length words → moves_in (set words n w) (n + 1) ≡ moves_in words n ++ (decode w ∷ [])
unfolding moves_in
pushed words n w l = rw (back words n w l) (map-append decode (take n words) _)
