use Rattle.std.proofs.Common.{◌≡◌, ◌∙◌, take}
use Rattle.text.specs.Bytes.{decimal}
use Rattle.text.proofs.Printed.{printed-decimal}
use Rattle.text.proofs.Puts.{wrote_same}
use Rattle.text.proofs.put.Writer.put_number.Goals as goal

pub put-requires : goal.put-requires
put-requires c =
    let same : take c.decimal-k.result c.decimal-k.new.out ≡ decimal c.args.n = c.decimal-k.ensures.digits ∙ printed-decimal c.decimal-k.result c.args.n c.decimal-k.ensures.len in
    rw same c.requires

pub returns : goal.returns
returns c = wrote_same (c.decimal-k.ensures.digits ∙ printed-decimal c.decimal-k.result c.args.n c.decimal-k.ensures.len) c.put.ensures
