use Rattle.std.proofs.Common.{◌≡◌, take}
use Rattle.cfdp_transactions.proofs.copying.copy_requests.Given as goal

abbrev pub invariant-loop-request : goal.invariant-loop-request
invariant-loop-request l = l.copies.items ≡ take l.request-index l.requests
