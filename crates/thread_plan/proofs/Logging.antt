-- One event pushed into the log's first words, of which a part was lent and came back.
use Prim.Native.Nat.{ℕ, ◌-◌, ◌*◌, ◌≤◌}
use mathlib.Core.Path.{◌≡◌, sym, ap, ◌∙◌, subst}
use mathlib.Core.List.{List, ◌∷◌, ◌++◌, []}
use native.Mathlib.Omega.{arith}
use borrow.Rule.Slice.PartMut.{put_mid, mid_len, drop_put, same_len_mid}
use lib.ListN.{length, take}
use Rattle.model.specs.Types.{Event}
use Rattle.model.specs.Accounting.{newest}
use Rattle.rings.specs.declared.RingPos.{RingPos}
use Rattle.rings.specs.Ring.{capacity, RingOK}
use Rattle.rings.specs.Events.{events_in}
use Rattle.state.specs.State.{log_words}
use Rattle.accounts.specs.Charging.{part}
use Rattle.accounts.proofs.Timelines.{mid-put}
use Rattle.accounts.proofs.Figures.{log-capacity}
use Rattle.thread_plan.specs.Logging.{Logged}

no_less : (n : ℕ) → n - 0 ≡ n
no_less n = omega arith

pub lent-log : (e : ℕ) (ls : List ℕ) → part 0 (2 * e) ls ≡ log_words e ls
lent-log e ls = ap (λ (k : ℕ). take k ls) (no_less (2 * e))

pub logged-part :
    (e : ℕ) (v : Event) (ls b' : List ℕ) (p p' : RingPos) → 2 * e ≤ length ls → length b' ≡ length (part 0 (2 * e) ls) → RingOK b' p'
    → events_in b' p' ≡ newest (capacity (part 0 (2 * e) ls)) (events_in (part 0 (2 * e) ls) p ++ (v ∷ [])) → Logged e v ls (put_mid 0 (2 * e - 0) ls b') p p'
logged-part e v ls b' p p' h l ok ev =
    let count : length b' ≡ 2 * e - 0 = l ∙ mid_len 0 (2 * e) ls h in
    let back : log_words e (put_mid 0 (2 * e - 0) ls b') ≡ b' = sym (lent-log e (put_mid 0 (2 * e - 0) ls b')) ∙ mid-put 0 (2 * e) ls b' (omega arith) h count in
    record {
      ok = subst (λ (b : List ℕ). RingOK b p') (sym back) ok;
      events =
          ap (λ (b : List ℕ). events_in b p') back ∙ ev ∙ ap (λ (b : List ℕ). newest (capacity b) (events_in b p ++ (v ∷ []))) (lent-log e ls)
          ∙ ap (λ (k : ℕ). newest k (events_in (log_words e ls) p ++ (v ∷ []))) (log-capacity e ls h);
      size = same_len_mid 0 (2 * e - 0) ls b' l;
      rest = drop_put 0 (2 * e) ls b' (omega arith) h count;
    }
