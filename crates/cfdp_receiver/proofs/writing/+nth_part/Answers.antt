use Rattle.std.proofs.Common.{◌∙◌, arith}
use Rattle.cfdp_receiver.proofs.PdusByNumber.{not_empty, part_next}
use Rattle.cfdp_receiver.proofs.writing.+nth_part.Goals as goal

pub returns : goal.returns
returns t c =
    let a = c.args in
    let next = c.next_nak-part in
    let rest = next.result.rest.now in
    let more = not_empty rest c.if-is_empty.ensures in
    part_next a.most a.low a.high a.number a.requests.now rest next.result.scope (omega arith) (omega arith) next.ensures.scope next.ensures.rest more
    ∙ c.nth_part.ensures
