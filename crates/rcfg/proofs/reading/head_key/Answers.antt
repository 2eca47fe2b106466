use Rattle.std.proofs.Common.{sym, ◌∙◌, arith}
use Rattle.settings.specs.Settings.{head_keys}
use Rattle.text.proofs.Found.{key-missing, key-there}
use Rattle.rcfg.proofs.reading.head_key.Goals as goal

pub returns-in_err-end : goal.returns-in_err-end
returns-in_err-end c = rw c.from_residual.ensures (sym (key-missing head_keys c.args.line.now _ c.in_err-end.ensures.place.1 (omega arith)))

pub returns : goal.returns
returns c = c.key_of.ensures ∙ sym (key-there head_keys c.args.line.now _ c.in_ok-end.ensures.place.1 c.in_ok-end.ensures.found)
