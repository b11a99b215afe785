use Rattle.std.proofs.Common.{◌≡◌, ◌∙◌, ap, take, arith}
use Rattle.std.specs.Prelude.{replicate}
use Rattle.std.proofs.lemmas.Grind.{common_steps}
use Rattle.cfdp_pdus.specs.Canonical.{header_octets}
use Rattle.cfdp_pdus.proofs.BufferParts.{header_front}
use Rattle.cfdp_pdus.proofs.put.push_header.Goals as goal

pub returns-clause-items : goal.returns-clause-items
returns-clause-items c =
    let given : take c.header_len.result c.put_header.new.out ≡ header_octets c.args.file_data c.args.header.now c.args.len =
    ap (take c.header_len.result) c.put_header.ensures
    ∙ header_front c.args.file_data c.args.header.now c.args.len (replicate 28 0) c.header_len.result c.header_len.ensures in
    grind (arith, common_steps, given)
