-- The loop over a line's fields: before each turn the first k are read, and what `split` has left gives the others.
use Rattle.std.specs.Prelude.{Some, None, MatchOption, MatchBool}
use Rattle.std.specs.Prelude as Std
use Rattle.std.specs.Borrow.{Bor}
use Rattle.std.specs.Fn.{ComputesKey}
use Rattle.std.specs.List.{IsFirstMatchOrLen, position_or_len}
use Rattle.std.specs.Slice.Iter.{split_steps}
use Rattle.std.specs.declared.slice.Split.{Split}
use Rattle.std.proofs.lemmas.List.Recursion.{is_position_or_len}
use Rattle.std.proofs.lemmas.List.Sums.{position_or_len_is}
use Prim.Native.Nat.{ℕ, zero, suc, ◌+◌, ◌-◌, ◌≤◌, ◌<◌}
use mathlib.Core.Path.{◌≡◌, refl, sym, ap, ◌∙◌}
use mathlib.Core.Bool.{Bool, true, false, cond}
use mathlib.Core.Option.{Option}
use mathlib.Core.List.{List, [], ◌∷◌, ◌++◌, append_assoc, append-nil}
use native.Mathlib.Omega.{arith}
use native.Mathlib.Numerals.{add-one}
use lib.Dec.{eqb}
use lib.ListN.{length, take, drop, set, replicate, length-set, length-append, drop_of_length-le}
use lib.Seq.{take_all, take-length, take-suc-set, take-append_seam, drop-append-add}
use Rattle.text.specs.Scan.{index_of, index_after}
use Rattle.text.specs.Bytes as B
use Rattle.text.specs.Bytes.{number}
use Rattle.text.specs.Reading.{number_meant}
use Rattle.trace_read.specs.Script.{number_said, fields_of}

-- the fields that are left: none, once `split` is done
abbrev left : (n : ℕ) → (done : Bool) → (rest : List ℕ) → List (Std.Option ℕ)
left n done rest = cond done (replicate n None) (fields_of n rest)

pub record Divided (line : List ℕ) (all : List (Std.Option ℕ)) (done : Bool) (rest : List ℕ) (k : ℕ) : Type 0 where
  pub few : k ≤ 9
  pub long : length all ≡ 9
  pub read : fields_of 9 line ≡ take k all ++ left (9 - k) done rest

pub said-is : (x : Std.Option ℕ) (o : Option ℕ) → number_meant x ≡ o → x ≡ number_said o
said-is (Some n) o e = ap number_said e
said-is None o e = ap number_said e

pub divided-start : (line : List ℕ) → Divided line (replicate 9 None) false line 0
divided-start line = record { few = omega arith; long = refl; read = refl }

pub divided-end : (line : List ℕ) (all : List (Std.Option ℕ)) (done : Bool) (rest : List ℕ) (k : ℕ) → Divided line all done rest k → 9 ≤ k → all ≡ fields_of 9 line
unfolding fields_of
divided-end line all done rest k d h =
    let z : 9 - k ≡ 0 = omega arith in
    sym (d.read ∙ rw z (nothing done) ∙ take_all k all (omega (arith, d.long)))
  where
    nothing : (t : Bool) → take k all ++ left 0 t rest ≡ take k all
    nothing true = append-nil (take k all)
    nothing false = append-nil (take k all)

none_left : (n : ℕ) → fields_of n [] ≡ replicate n None
unfolding fields_of
none_left zero = refl
none_left (suc n) = ap (λ (l : List (Std.Option ℕ)). None ∷ l) (none_left n)

next_field : (n : ℕ) (l : List ℕ) → fields_of (suc n) l ≡ number_said (number (take (index_of 32 l) l)) ∷ fields_of n (drop (index_of 32 l + 1) l)
unfolding fields_of number B.at_most index_of B.spelled B.unsigned
next_field n [] = refl
next_field n (x ∷ l) = refl

abbrev is_space : ℕ → Bool
is_space b = eqb b 32

index_is : (l : List ℕ) → index_of 32 l ≡ position_or_len is_space l
unfolding index_of index_after
index_is = is_position_or_len (index_of 32) is_space refl (λ x l. go (is_space x) (index_of 32 l))
  where
    go : (t : Bool) (n : ℕ) → index_after t n ≡ cond t 0 (1 + n)
    go true n = refl
    go false n = omega arith

first_is : (l x : List ℕ) → length x ≤ length l → IsFirstMatchOrLen is_space l (length x) → index_of 32 l ≡ length x
first_is l x h f = index_is l ∙ position_or_len_is is_space l (length x) 0 h (λ k i. f.0 k 0 (omega arith) i) (λ i. f.1 i 0)

part : (n : ℕ) (l x rest : List ℕ) (done : Bool) → MatchBool done (l ≡ x) ((y : ℕ) × (l ≡ x ++ (y ∷ rest))) → IsFirstMatchOrLen is_space l (length x) → fields_of (suc n) l ≡ number_said (number x) ∷ left n done rest
part n l x rest true e f =
    let i : index_of 32 l ≡ length x = first_is l x (omega (arith, ap length e)) f in
    next_field n l ∙ rw (i, e, take-length x, drop_of_length-le x {i = length x + 1} (omega arith), none_left n)
part n l x rest false e f =
    let i : index_of 32 l ≡ length x = first_is l x (omega (arith, ap length e.1, length-append x (e.0 ∷ rest))) f in
    next_field n l ∙ rw (i, e.1, take-append_seam x (e.0 ∷ rest), drop-append-add x (e.0 ∷ rest) 1)

-- one more
more : (line : List ℕ) (all : List (Std.Option ℕ)) (done : Bool) (rest : List ℕ) (k : ℕ) (done' : Bool) (rest' : List ℕ) (v : Std.Option ℕ) → k < 9 → Divided line all done rest k
    → left (suc (9 - (k + 1))) done rest ≡ v ∷ left (9 - (k + 1)) done' rest' → Divided line (set all k v) done' rest' (k + 1)
more line all done rest k done' rest' v less d next =
    let m : ℕ = 9 - (k + 1) in
    let count : 9 - k ≡ suc m = omega arith in
    let stored : take (k + 1) (set all k v) ≡ take k all ++ (v ∷ []) = ap (λ (n : ℕ). take n (set all k v)) (add-one k) ∙ take-suc-set all k v (omega (arith, d.long)) in
    record {
      few = omega arith;
      long = length-set all k v ∙ d.long;
      read = d.read ∙ ap (λ (n : ℕ). take k all ++ left n done rest) count ∙ ap (λ (l : List (Std.Option ℕ)). take k all ++ l) next ∙ sym (ap (λ (l : List (Std.Option ℕ)). l ++ left m done' rest') stored ∙ append_assoc (take k all) (v ∷ []) (left m done' rest'));
    }

-- what `split` answers next, and the number that is made of it
pub divided-next : {F : Type 0} {g : _} (line : List ℕ) (all : List (Std.Option ℕ)) (s t : Split ℕ F) (k : ℕ) (r : Std.Option (Bor (List ℕ))) (v : Std.Option ℕ) → k < 9 → Divided line all s.done s.rest.now k → split_steps g s r t
    → ComputesKey g is_space s.pred → MatchOption r (v ≡ None) (λ x. number_meant v ≡ number x.now) → Divided line (set all k v) t.done t.rest.now (k + 1)
divided-next line all s t k None v less d step c h = more line all _ _ k _ _ v less d (rw (step.1, step.0, h) refl)
divided-next line all s t k (Some x) v less d step c h =
    more line all _ _ k _ _ v less d (rw (step.0, said-is v (number x.now) h) (part (9 - (k + 1)) s.rest.now x.now t.rest.now t.done step.1 (step.2 is_space c).1))
