use Rattle.std.proofs.Common.{◌≡◌, ◌+◌, ◌≤◌, ◌++◌, length, take, vec_len, vec_capacity}
use Rattle.std.specs.List.{flat_map}
use Rattle.cfdp_tlv.specs.Field.{tlv}
use Rattle.cfdp_pdus.proofs.tlv_values.push_fields.Given as goal

abbrev pub invariant-loop-value : goal.invariant-loop-value
invariant-loop-value g l = record {
  items : l.out.items ≡ l.fn.out.items
      ++ flat_map (λ value. tlv g.T.TlvValue.kind (g.T.TlvValue.octets value)) (take l.value-index l.values);
  len : vec_len l.out ≡ vec_len l.fn.out
      + length (flat_map (λ value. tlv g.T.TlvValue.kind (g.T.TlvValue.octets value)) (take l.value-index l.values));
  capacity : vec_capacity l.fn.out ≤ vec_capacity l.out;
}
