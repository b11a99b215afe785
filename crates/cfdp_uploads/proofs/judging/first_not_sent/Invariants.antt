use Rattle.std.proofs.Common.{◌≡◌, ℕ, ◌<◌, get_or, take, length, true}
use Rattle.cfdp_uploads.specs.Uploads.{is_sent}
use Rattle.cfdp_uploads.proofs.judging.first_not_sent.Given as goal

abbrev pub invariant-loop-index : goal.invariant-loop-index
invariant-loop-index l = record {
  long : length l.sent.items ≡ l.count;
  same : (k : ℕ) → k < l.count → get_or l.sent.items k true ≡ is_sent (take l.index-index l.order) k;
}
