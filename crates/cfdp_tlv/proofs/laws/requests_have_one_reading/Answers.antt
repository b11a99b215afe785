use Rattle.cfdp_tlv.proofs.Requests.{one_request, request_spelled}
use Rattle.cfdp_tlv.proofs.laws.requests_have_one_reading.Goals as goal

pub returns-clause-one : goal.returns-clause-one
returns-clause-one c = one_request

pub returns-clause-written : goal.returns-clause-written
returns-clause-written c = request_spelled
