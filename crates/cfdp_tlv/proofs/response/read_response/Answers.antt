use Rattle.cfdp_tlv.proofs.Responses.{response_found, response_only}
use Rattle.cfdp_tlv.proofs.response.read_response.Goals as goal

pub returns-clause-found : goal.returns-clause-found
returns-clause-found c = response_found c.args.value.now c.copied.result c.copied.ensures.exact

pub returns-clause-only : goal.returns-clause-only
returns-clause-only c = response_only c.args.value.now c.copied.result c.copied.ensures.exact
