use Rattle.std.proofs.Common.{rules}
use Rattle.cfdp_tlv.proofs.request.FilestoreRequest.into_response.Goals as goal

pub returns : goal.returns
returns c = search rules
