use Rattle.cfdp_tlv.proofs.Requests.{request_found, request_only}
use Rattle.cfdp_tlv.proofs.request.read_request.Goals as goal

pub returns-clause-found : goal.returns-clause-found
returns-clause-found c = request_found c.args.value.now c.copied.result c.copied.ensures.exact

pub returns-clause-only : goal.returns-clause-only
returns-clause-only c = request_only c.args.value.now c.copied.result c.copied.ensures.exact
