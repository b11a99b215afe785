use Rattle.std.proofs.Common.{rules}
use Rattle.cfdp_tlv.proofs.field.read_lv.Goals as goal

pub split_at-requires : goal.split_at-requires
split_at-requires c = search rules
