use Rattle.std.proofs.Common.{◌++◌, ◌∷◌, [], ℕ, List, ap, ◌∙◌, sym}
use Rattle.cfdp_uploads.proofs.Found.{range_pushed}
use Rattle.cfdp_uploads.proofs.order.in_order.Goals as goal

pub loop-index-preserved : goal.loop-index-preserved
loop-index-preserved c =
    ap (λ (l : List ℕ). l) c.in_ok-push.ensures.items ∙ ap (λ (l : List ℕ). l ++ c.loop-index.index ∷ []) c.loop-index.invariant
    ∙ sym (range_pushed c.loop-index.index)
