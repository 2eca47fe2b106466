-- A list as the program has it stands for the definition's list.
-- Assumes nothing.
use Rattle.std.specs.Prelude.{Ok, Result}
use Rattle.settings.specs.declared.Refusal.{Refusal}
use Prim.Native.Nat.{ℕ}
use mathlib.Core.Path.{◌≡◌, refl, sym, ap, ap₂, ◌∙◌, subst}
use mathlib.Core.List.{List, [], ◌∷◌, ◌++◌, map}
use native.Mathlib.Omega.{arith}
use lib.ListN.{length, take}
use Rattle.model.specs.Accounting.{switch_list}
use Rattle.model.specs.Calls.{refused, switched}
use Rattle.model.specs.Types.{SwitchEntry}
use Rattle.model.specs.Reading.{switch_meant, switches_meant, switch_of}
use Rattle.model.specs.declared.Switch.{Switch}
use Rattle.model.proofs.Back.{switch-there}
use Rattle.queue.specs.Words.{moves_in}
use Rattle.switches.specs.declared.SwitchList.{SwitchList}
use Rattle.switches.specs.Entries.{list_of, no_switches, answer_with, ListFor}

map_back : (es : List SwitchEntry) (r : List Switch) → map switch_meant (take (length es) (map switch_of es ++ r)) ≡ es
map_back [] r = refl
map_back (e ∷ es) r = ap₂ (λ (x : SwitchEntry) (xs : List SwitchEntry). x ∷ xs) (switch-there e) (map_back es r)

pub list-meant : (es : List SwitchEntry) → switches_meant (list_of es).entries (list_of es).count ≡ es
unfolding list_of
list-meant es = map_back es _

-- what stands in a list beside an answer
module _ (es : List SwitchEntry) (l : SwitchList) (h : ListFor (switched es) l) where
  pub list-says : switches_meant l.entries l.count ≡ es
  list-says = ap (λ (x : SwitchList). switches_meant x.entries x.count) h.list ∙ list-meant es

  pub list-taken : (a : Result Unit Refusal) → a ≡ Ok tt → ListFor (answer_with a l) l
  list-taken a e = rw e (subst (λ (x : List SwitchEntry). ListFor (switched x) l) (sym list-says) h)

-- a refused call has the list of no switches
pub list-refused : (l : SwitchList) → l ≡ no_switches → (n : ℕ) → ListFor (refused n) l
unfolding no_switches
list-refused l e n = record { list = e; few = rw e (omega arith) }
