use Rattle.std.proofs.Common.{sym, ap, ◌∙◌, nat_lt}
use Rattle.cfdp_actions.specs.Filestore.{tree_at}
use Rattle.cfdp_actions.proofs.RowLaws.{too_deep, sum_is}
use Rattle.cfdp_actions.proofs.refusals.AnyKinds.is_too_deep.Goals as goal
use Rattle.cfdp_paths.specs.PathMaps.{is_too_deep}

pub returns-clause-value : goal.returns-clause-value
returns-clause-value g c = ap (λ n. nat_lt 8 n) (sum_is _ _ _ _ _ _ _ c.depth-2.ensures.depth (c.from.ensures
    ∙ c.deepest.ensures.value) c.depth.ensures.depth c.saturating_sub-below.ensures) ∙ sym (too_deep _ _ _ c.depth-2.ensures.within.few)

pub returns-clause-stated : goal.returns-clause-stated
returns-clause-stated g c = λ F h. returns-clause-value g c ∙ ap (λ F. is_too_deep c.args.from.now c.args.to.now (tree_at F c.args.from.now)) (sym h)
