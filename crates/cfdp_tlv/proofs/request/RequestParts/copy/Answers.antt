use Rattle.std.proofs.Common.{rules}
use Rattle.cfdp_tlv.proofs.request.RequestParts.copy.Goals as goal

pub returns : goal.returns
returns c = search rules
