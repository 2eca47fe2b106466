-- The texts that a trace's lines are made of. Numbers are in decimal (`decimal` of crates/text), an absent one is a dash (`maybe` of crates/script), and
-- reasons have the Rust's labels (`reason_word` there).
use Rattle.std.specs.Prelude.{ℕ, zero, suc, Bool, true, false, List, [], ◌++◌}
use Rattle.std.proofs.Math.Option.{Option}
use Rattle.text.specs.Bytes.{ascii, decimal}
use Rattle.settings.specs.Policy.{Policy}
use Rattle.settings.specs.Settings.{policy_word}
use Rattle.script.specs.Report.{maybe}

-- a space, and a number
unfoldable pub spaced : ℕ → List ℕ
spaced n = ascii " " ++ decimal n

-- a space, and a number or a dash: a thread, a core, a tick
unfoldable pub spaced_maybe : Option ℕ → List ℕ
spaced_maybe o = ascii " " ++ maybe o

unfoldable pub spaced_policy : Policy → List ℕ
spaced_policy p = ascii " " ++ policy_word p

unfoldable pub bit_text : Bool → List ℕ
bit_text true = ascii "1"
bit_text false = ascii "0"

-- the texts of 0 to n - 1, one behind the other
unfoldable pub texts_below : (ℕ → List ℕ) → (n : ℕ) → List ℕ
texts_below f zero = []
texts_below f (suc n) = texts_below f n ++ f n
