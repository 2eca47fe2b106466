-- Settings written into a lent buffer.
use Rattle.std.specs.Prelude.{ℕ, cond, List, leb, length}
use Rattle.text.specs.Buffers.{Laid, laid}
use Rattle.settings.specs.Settings.{Settings, Settled, unsettled, to_rcfg, from_rcfg}

-- 01: "`to_rcfg` writes all three as the Rust does, whatever the numbers, refuses only by 3, and leaves the buffer behind the text unchanged"
unfoldable pub to_rcfg_in : Settings → List ℕ → Laid
to_rcfg_in s b = laid (to_rcfg s) b

-- settings written into a buffer and read back from it; refused by 3, of no line, where the buffer is short
unfoldable pub written_and_read : Settings → List ℕ → Settled
written_and_read s b = cond (leb (length (to_rcfg s)) (length b)) (from_rcfg (to_rcfg s)) (unsettled 0 3)
