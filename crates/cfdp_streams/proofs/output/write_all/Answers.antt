use Rattle.std.proofs.Common.{sym, ◌∙◌}
use Rattle.std.proofs.lemmas.List.{take-append-drop}
use Rattle.cfdp_streams.proofs.Streaming.{Writing-more}
use Rattle.cfdp_streams.proofs.output.write_all.Goals as goal

pub writing-preserved : goal.writing-preserved
writing-preserved g c = (
  rw c.split_at.ensures.back
      (Writing-more _ _ _ _ _ _ _ c.writing.invariant.0 (sym (take-append-drop _ _)) c.in_ok-count.ensures.appends),
  c.in_ok-count.ensures.well ∙ c.writing.invariant.1,
)
