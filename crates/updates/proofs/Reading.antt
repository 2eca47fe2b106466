-- Thread records of the program are known by what they stand for.
use Prim.Native.Nat.{ℕ}
use mathlib.Core.Path.{◌≡◌, refl, sym, ap, ◌∙◌}
use mathlib.Core.List.{List, [], ◌∷◌, map}
use native.Mathlib.Omega.{arith}
use Rattle.model.specs.declared.ThreadInfo.{ThreadInfo}
use Rattle.model.specs.Reading.{thread_meant}
use Rattle.threads.proofs.Inverse.{thread_of, thread-back}

pub same-thread : (a b : ThreadInfo) → thread_meant a ≡ thread_meant b → a ≡ b
same-thread a b e = sym (thread-back a) ∙ ap thread_of e ∙ thread-back b

pub same-threads : (xs ys : List ThreadInfo) → map thread_meant xs ≡ map thread_meant ys → xs ≡ ys
same-threads [] [] e = refl
same-threads [] (b ∷ ys) e = absurd (let z : ◌≡◌ {A = ℕ} 0 1 = cc in omega arith)
same-threads (a ∷ xs) [] e = absurd (let z : ◌≡◌ {A = ℕ} 0 1 = cc in omega arith)
same-threads (a ∷ xs) (b ∷ ys) e =
    let h : thread_meant a ≡ thread_meant b = cc in
    let t : map thread_meant xs ≡ map thread_meant ys = cc in
    λ i. same-thread a b h i ∷ same-threads xs ys t i
