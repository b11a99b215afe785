use Rattle.std.proofs.Common.{◌≡◌, length, take, min}
use Rattle.std.specs.List.{flat_map}
use Rattle.cfdp_tlv.specs.Field.{tlv}
use Rattle.cfdp_pdus.proofs.tlv_values.fields_len.Given as goal

abbrev pub invariant-loop-value : goal.invariant-loop-value
invariant-loop-value g l =
    l.len ≡ min (length (flat_map (λ value. tlv g.T.TlvValue.kind (g.T.TlvValue.octets value)) (take l.value-index l.values))) 18446744073709551615
