use Rattle.cfdp_tlv.proofs.Responses.{one_response, response_spelled}
use Rattle.cfdp_tlv.proofs.laws.responses_have_one_reading.Goals as goal

pub returns-clause-one : goal.returns-clause-one
returns-clause-one c = one_response

pub returns-clause-written : goal.returns-clause-written
returns-clause-written c = response_spelled
