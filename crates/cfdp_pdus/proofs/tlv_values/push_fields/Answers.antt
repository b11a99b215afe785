use Rattle.std.proofs.Common.{arith}
use Rattle.cfdp_tlv.specs.Field.{tlv}
use Rattle.cfdp_pdus.proofs.WriteSteps.{item_fits}
use Rattle.cfdp_pdus.proofs.tlv_values.push_fields.Goals as goal

pub push_field-requires-clause-room : goal.push_field-requires-clause-room
push_field-requires-clause-room g c =
    let part = item_fits (λ value. tlv g.T.TlvValue.kind (g.T.TlvValue.octets value)) c.args.values.now c.loop-value.value-index
    c.value-item.result c.value-item.is c.loop-value-test.true in
    omega (arith, part, c.requires.room, c.loop-value.invariant.len, c.loop-value.invariant.capacity)
