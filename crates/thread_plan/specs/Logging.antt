-- One event written into the log's words.
use Rattle.std.specs.Prelude.{ℕ, ◌*◌, ◌≡◌, List, ◌∷◌, ◌++◌, [], length, drop}
use Rattle.model.specs.Types.{Event}
use Rattle.model.specs.Accounting.{newest}
use Rattle.rings.specs.declared.RingPos.{RingPos}
use Rattle.rings.specs.Ring.{RingOK}
use Rattle.rings.specs.Events.{events_in}
use Rattle.state.specs.State.{log_words}

-- 01: "Spawn, dispatch, leave, wake and priority change each write one event"; the newest E are kept
pub record Logged (cap_e : ℕ) (event : Event) (ls ls' : List ℕ) (p p' : RingPos) : Type 0 where
  pub ok : RingOK (log_words cap_e ls') p'
  pub events : events_in (log_words cap_e ls') p' ≡ newest cap_e (events_in (log_words cap_e ls) p ++ (event ∷ []))
  pub size : length ls' ≡ length ls
  pub rest : drop (2 * cap_e) ls' ≡ drop (2 * cap_e) ls
