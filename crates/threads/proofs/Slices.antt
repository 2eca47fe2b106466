-- What the functions leave in the slice, read as the definition's list of threads.
use Prim.Native.Nat.{ℕ, zero, suc, ◌+◌, ◌<◌, ◌≤◌, ◌-◌}
use mathlib.Core.Path.{◌≡◌, refl, sym, ap, subst, ◌∙◌}
use mathlib.Core.List.{List, [], ◌∷◌, ◌++◌, map, map-append}
use native.Mathlib.Nat.{add-zero, zero-add, not-suc-le-zero, le_of_suc-le-suc}
use native.Mathlib.Numerals.{add-one}
use native.Mathlib.Omega.{arith}
use mathlib.Core.Option.{some}
use lib.ListN.{length, get_or, get_elem?, set, take, drop, length-take, length-map, length-append, length-drop, take-append-drop}
use Rattle.std.proofs.lemmas.List.{get_or-drop, get_or_default}
use lib.Seq.{drop-set-lt, drop-drop, take-set-lt, get_or-take, take-suc, take-suc-set, take-add, take-take, take-length, length-take-le, take_at, drop_at}
use Rattle.model.specs.declared.ThreadInfo.{ThreadInfo}
use Rattle.model.specs.Types.{Core, ThreadRecord}
use Rattle.model.specs.Phases
use Rattle.model.specs.Reading.{thread_meant}
use Rattle.model.specs.Accounting.{charge_threads}
use Rattle.charges.specs.Charging.{charge_thread}
use Rattle.threads.specs.Slice.{blank, threads_in, Front}
use Rattle.threads.proofs.Inverse.{thread_of, is-thread_of, thread-back, thread-there}

---- the list of threads, one more at a time

pub threads-back : (ts : List ThreadInfo) (i : ℕ) → i < length ts → threads_in ts i ++ (thread_meant (get_or ts i blank) ∷ []) ≡ threads_in ts (i + 1)
unfolding threads_in
threads-back ts i h = sym (rw (add-one, take-suc ts i blank h) (map-append thread_meant (take i ts) (get_or ts i blank ∷ [])))

pub threads-add : (ts : List ThreadInfo) (i m : ℕ) → threads_in ts (i + m) ≡ threads_in ts i ++ map thread_meant (take m (drop i ts))
unfolding threads_in
threads-add ts i m = rw (take-add i m ts) (map-append thread_meant (take i ts) (take m (drop i ts)))

pub length-threads : (ts : List ThreadInfo) (i : ℕ) → i ≤ length ts → length (threads_in ts i) ≡ i
unfolding threads_in
length-threads ts i h = length-map (take i ts) thread_meant ∙ length-take-le i ts h

-- one thread's record in the list
pub thread-at : (ts : List ThreadInfo) (n i : ℕ) → i < n → i < length ts → get_elem? (threads_in ts n) i ≡ some (thread_meant (get_or ts i blank))
unfolding threads_in
thread-at ts n i h l = of-list n i ts h l
  where
    of-list : (n i : ℕ) (ts : List ThreadInfo) → i < n → i < length ts → get_elem? (map thread_meant (take n ts)) i ≡ some (thread_meant (get_or ts i blank))
    of-list zero i ts h l = absurd (not-suc-le-zero h)
    of-list (suc n) i [] h l = absurd (not-suc-le-zero l)
    of-list (suc n) zero (t ∷ ts) h l = refl
    of-list (suc n) (suc i) (t ∷ ts) h l = of-list n i ts (le_of_suc-le-suc h) (le_of_suc-le-suc l)

-- a record set behind the last is one thread more
pub threads-set : (ts : List ThreadInfo) (n : ℕ) (t : ThreadInfo) → n < length ts → threads_in (set ts n t) (n + 1) ≡ threads_in ts n ++ (thread_meant t ∷ [])
unfolding threads_in
threads-set ts n t h = rw (add-one, take-suc-set ts n t h) (map-append thread_meant (take n ts) (t ∷ []))

---- one record changed

-- the program's value for what f makes of a record
unfoldable pub changed_by : (ThreadRecord → ThreadRecord) → ThreadInfo → ThreadInfo
changed_by f t = thread_of (f (thread_meant t))

pub is-changed : (f : ThreadRecord → ThreadRecord) (t r : ThreadInfo) → thread_meant r ≡ f (thread_meant t) → r ≡ changed_by f t
unfolding changed_by
is-changed f t r e = is-thread_of r (f (thread_meant t)) e

pub changed-meant : (f : ThreadRecord → ThreadRecord) (t : ThreadInfo) → thread_meant (changed_by f t) ≡ f (thread_meant t)
unfolding changed_by
changed-meant f t = thread-there (f (thread_meant t))

update-set : (f : ThreadRecord → ThreadRecord) (i : ℕ) (ts : List ThreadInfo) → i < length ts → map thread_meant (set ts i (changed_by f (get_or ts i blank))) ≡ Phases.update i f (map thread_meant ts)
unfolding Phases.update
update-set f i [] h = absurd (not-suc-le-zero h)
update-set f zero (t ∷ ts) h = ap (λ (x : ThreadRecord). x ∷ map thread_meant ts) (changed-meant f t)
update-set f (suc i) (t ∷ ts) h = ap (λ (l : List ThreadRecord). thread_meant t ∷ l) (update-set f i ts (le_of_suc-le-suc h))

-- record i is stored with what f makes of it
pub front-set : (f : ThreadRecord → ThreadRecord) (i : ℕ) (ts : List ThreadInfo) → i < length ts → (n : ℕ) → i < n → Front n (Phases.update i f (threads_in ts n)) ts (set ts i (changed_by f (get_or ts i blank)))
unfolding threads_in
front-set f i ts h n l =
    let m : i < length (take n ts) = simp length-take (omega arith) in
    record {
      front = rw (take-set-lt n ts i (changed_by f (get_or ts i blank)) l, ← get_or-take n ts i blank l) (update-set f i (take n ts) m);
      rest = drop-set-lt n ts i (changed_by f (get_or ts i blank)) l;
    }

-- the same for a record z that reads as what f makes of record i
pub front-stored : (f : ThreadRecord → ThreadRecord) (i : ℕ) (ts : List ThreadInfo) (d z : ThreadInfo) → i < length ts → thread_meant z ≡ f (thread_meant (get_or ts i d)) → (n : ℕ) → i < n → Front n (Phases.update i f (threads_in ts n)) ts (set ts i z)
front-stored f i ts d z h e n l =
    let z-is : z ≡ changed_by f (get_or ts i blank) = is-changed f (get_or ts i blank) z (e ∙ ap (λ (t : ThreadInfo). f (thread_meant t)) (get_or_default ts i d blank h)) in
    subst (λ (x : ThreadInfo). Front n (Phases.update i f (threads_in ts n)) ts (set ts i x)) (sym z-is) (front-set f i ts h n l)

---- one record more, as a loop stores it

-- the record behind the first n is as it was, whatever stands past the end
pub get-behind : (n : ℕ) (wanted : List ThreadRecord) (before after : List ThreadInfo) (d : ThreadInfo) → n < length after → Front n wanted before after → get_or after n d ≡ get_or before n blank
get-behind n wanted before after d h f = get_or_default after n d blank h ∙ (from-drop after ∙ (ap (λ (l : List ThreadInfo). get_or l 0 blank) f.rest ∙ sym (from-drop before)))
  where
    from-drop : (l : List ThreadInfo) → get_or l n blank ≡ get_or (drop n l) 0 blank
    from-drop l = sym (get_or-drop n l 0 blank ∙ ap (λ (k : ℕ). get_or l k blank) (add-zero n))

pub kept-behind : (P : ThreadRecord → Type 0) (n : ℕ) (wanted : List ThreadRecord) (before after : List ThreadInfo) (d : ThreadInfo) → n < length after → Front n wanted before after → P (thread_meant (get_or before n blank)) → P (thread_meant (get_or after n d))
kept-behind P n wanted before after d h f p = subst (λ (t : ThreadInfo). P (thread_meant t)) (sym (get-behind n wanted before after d h f)) p

-- f makes of it what it would have made before
pub front-next : (f : ThreadRecord → ThreadRecord) (n : ℕ) (wanted : List ThreadRecord) (before after : List ThreadInfo) (d z : ThreadInfo) → n < length after → thread_meant z ≡ f (thread_meant (get_or after n d)) → Front n wanted before after
    → Front (n + 1) (wanted ++ (f (thread_meant (get_or before n blank)) ∷ [])) before (set after n z)
front-next f n wanted before after d z h e was =
    record {
      front = threads-set after n z h ∙ rw (was.front, e ∙ ap (λ (t : ThreadInfo). f (thread_meant t)) (get-behind n wanted before after d h was));
      rest = drop-set-lt (n + 1) after n z (omega arith) ∙ (sym (drop-drop 1 n after) ∙ (ap (drop 1) was.rest ∙ drop-drop 1 n before));
    }

---- the first n records lent as a part, that a loop goes over

-- a record of the part that the loop has not reached
pub kept-ahead : (P : ThreadRecord → Type 0) (n i : ℕ) (wanted : List ThreadRecord) (before part : List ThreadInfo) (d : ThreadInfo) → i < n → i < length part → Front i wanted (take n before) part → P (thread_meant (get_or before i blank)) → P (thread_meant (get_or part i d))
kept-ahead P n i wanted before part d l h f p = kept-behind P i wanted (take n before) part d h f (rw (get_or-take n before i blank l) p)

pub threads-part : (ts : List ThreadInfo) (n : ℕ) → threads_in (take n ts) n ≡ threads_in ts n
unfolding threads_in
threads-part ts n = ap (map thread_meant) (take-take n n ts (omega arith))

part-whole : (n : ℕ) (part behind : List ThreadInfo) → length part ≡ n → threads_in (part ++ behind) n ≡ threads_in part n
unfolding threads_in
part-whole n part behind e = ap (map thread_meant) (take_at part behind n e ∙ (sym (take-length part) ∙ ap (λ (k : ℕ). take k part) e))

-- what the loop has made of the whole part stands in front of the records behind it
pub front-part : (make : List ThreadRecord → List ThreadRecord) (n i : ℕ) (before part : List ThreadInfo) → i ≡ n → length part ≡ n → Front i (make (threads_in (take n before) i)) (take n before) part
    → Front n (make (threads_in before n)) before (part ++ drop n before)
front-part make n i before part at e f =
    record {
      front = part-whole n part (drop n before) e ∙ (subst (λ (k : ℕ). threads_in part k ≡ make (threads_in (take n before) k)) at f.front ∙ ap make (threads-part before n));
      rest = drop_at part (drop n before) n e;
    }

---- every record charged

charged-back : (cs : List Core) (i : ℕ) (ts : List ThreadRecord) (t : ThreadRecord) → charge_threads cs i (ts ++ (t ∷ [])) ≡ charge_threads cs i ts ++ (charge_thread cs (i + length ts) t ∷ [])
unfolding charge_threads charge_thread
charged-back cs i [] t = rw add-zero
charged-back cs i (h ∷ ts) t = rw (charged-back cs (suc i) ts t, moved i (length ts))
  where
    moved : (i j : ℕ) → suc i + j ≡ i + suc j
    moved i j = omega arith

pub front-charged-none : (cs : List Core) (ts : List ThreadInfo) → Front 0 (charge_threads cs 0 (threads_in ts 0)) ts ts
unfolding threads_in charge_threads
front-charged-none cs ts = record { front = refl; rest = refl }

pub front-charged-next : (cs : List Core) (i : ℕ) (before after : List ThreadInfo) (d z : ThreadInfo) → i < length before → length after ≡ length before → thread_meant z ≡ charge_thread cs i (thread_meant (get_or after i d))
    → Front i (charge_threads cs 0 (threads_in before i)) before after → Front (i + 1) (charge_threads cs 0 (threads_in before (i + 1))) before (set after i z)
front-charged-next cs i before after d z h long e was =
    subst (λ (w : List ThreadRecord). Front (i + 1) w before (set after i z)) (sym wanted) (front-next (charge_thread cs i) i _ before after d z (omega arith) e was)
  where
    t : ThreadRecord
    t = thread_meant (get_or before i blank)

    wanted : charge_threads cs 0 (threads_in before (i + 1)) ≡ charge_threads cs 0 (threads_in before i) ++ (charge_thread cs i t ∷ [])
    wanted =
        ap (charge_threads cs 0) (sym (threads-back before i h)) ∙ (charged-back cs 0 (threads_in before i) t
        ∙ ap (λ (k : ℕ). charge_threads cs 0 (threads_in before i) ++ (charge_thread cs k t ∷ [])) (zero-add (length (threads_in before i)) ∙ length-threads before i (omega arith)))

---- the slice that a contract leaves, as one list: what a caller that lends the slice again goes on with

back-list : (l : List ThreadInfo) → map thread_of (map thread_meant l) ≡ l
back-list [] = refl
back-list (t ∷ l) = rw (thread-back t, back-list l)

there-list : (l : List ThreadRecord) → map thread_meant (map thread_of l) ≡ l
there-list [] = refl
there-list (t ∷ l) = rw (thread-there t, there-list l)

-- the records `wanted`, and behind them what stood there
unfoldable pub list_of : (n : ℕ) (wanted : List ThreadRecord) → List ThreadInfo → List ThreadInfo
list_of n wanted before = map thread_of wanted ++ drop n before

pub is-list : (n : ℕ) (wanted : List ThreadRecord) (before after : List ThreadInfo) → Front n wanted before after → after ≡ list_of n wanted before
unfolding list_of threads_in
is-list n wanted before after f = sym (take-append-drop n after) ∙ (ap (λ (l : List ThreadInfo). l ++ drop n after) (sym (back-list (take n after))) ∙ rw (f.front, f.rest))

module _ (n : ℕ) (wanted : List ThreadRecord) (before : List ThreadInfo) (within : n ≤ length before) (count : length wanted ≡ n) where
  front-count : length (map thread_of wanted) ≡ n
  front-count = length-map wanted thread_of ∙ count

  pub list-front : Front n wanted before (list_of n wanted before)
  unfolding list_of threads_in
  list-front =
      record {
        front = ap (map thread_meant) (take_at (map thread_of wanted) (drop n before) n front-count) ∙ there-list wanted;
        rest = drop_at (map thread_of wanted) (drop n before) n front-count;
      }

  pub length-list : length (list_of n wanted before) ≡ length before
  unfolding list_of
  length-list =
      let a : length (map thread_of wanted ++ drop n before) ≡ length (map thread_of wanted) + length (drop n before) = length-append (map thread_of wanted) (drop n before) in
      let b : length (drop n before) ≡ length before - n = length-drop n before in
      let c : length (map thread_of wanted) ≡ n = front-count in
      omega arith

-- one call after another
pub front-then : (n : ℕ) (one two : List ThreadRecord) (a b c : List ThreadInfo) → Front n one a b → Front n two b c → Front n two a c
front-then n one two a b c f g = record { front = g.front; rest = g.rest ∙ f.rest }

-- the definition's changes keep the number of threads
pub length-update : (i : ℕ) (f : ThreadRecord → ThreadRecord) (ts : List ThreadRecord) → length (Phases.update i f ts) ≡ length ts
unfolding Phases.update
length-update i f [] = refl
length-update zero f (t ∷ ts) = refl
length-update (suc i) f (t ∷ ts) = ap suc (length-update i f ts)

pub length-charged : (cs : List Core) (i : ℕ) (ts : List ThreadRecord) → length (charge_threads cs i ts) ≡ length ts
unfolding charge_threads
length-charged cs i [] = refl
length-charged cs i (t ∷ ts) = ap suc (length-charged cs (suc i) ts)
