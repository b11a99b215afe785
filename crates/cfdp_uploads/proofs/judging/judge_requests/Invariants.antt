use Rattle.std.proofs.Common.{ℕ, ◌<◌, get_or}
use Rattle.cfdp_tlv.specs.Values.{RequestFields}
use Rattle.cfdp_pdus.specs.Canonical.{IsAnswerable}
use Rattle.cfdp_uploads.proofs.judging.judge_requests.Given as goal

abbrev pub invariant-loop-number : goal.invariant-loop-number
invariant-loop-number l = (k : ℕ) (d : RequestFields) → k < l.number → IsAnswerable (get_or l.requests k d)
