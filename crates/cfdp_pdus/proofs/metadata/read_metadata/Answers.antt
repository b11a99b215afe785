use Rattle.std.proofs.lemmas.Result.{err_from_is_err_and}
use Rattle.cfdp_pdus.proofs.MetadataSteps.{requests_fail}
use Rattle.cfdp_pdus.proofs.metadata.read_metadata.Goals as goal

pub returns-in_err-requests : goal.returns-in_err-requests
returns-in_err-requests c =
    let p = err_from_is_err_and c.from_residual-in_err-requests.result c.from_residual-in_err-requests.ensures.1 in
    let size = rw c.size_len.ensures at c.in_ok-size.ensures.exact in
    rw (p.1, p.2) (requests_fail c.in_err-requests.field-0.0 c.args.large c.args.octets.now c.in_ok-size.size c.in_ok-size.rest.now c.in_ok-source.source.now
    c.in_ok-source.rest.now c.in_ok-destination.destination.now c.in_ok-destination.rest.now c.in-len1-up.len_at_least size c.in_ok-source.ensures
    c.in_ok-destination.ensures c.in_err-requests.ensures)
