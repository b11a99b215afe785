use Rattle.std.proofs.Common.{sym}
use Rattle.cfdp_directives.proofs.Lengths.{nak_len}
use Rattle.cfdp_directives.proofs.nak.field_len.Goals as goal

pub returns : goal.returns
returns c = λ scope. rw c.range_len.ensures (sym (nak_len c.args.large scope c.args.requests.now))
