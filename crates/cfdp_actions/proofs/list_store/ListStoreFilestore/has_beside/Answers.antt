use Rattle.std.proofs.Common.{sym, ap, ◌∙◌}
use Rattle.std.specs.List.{list_any}
use Rattle.cfdp_paths.specs.Paths.{is_at_or_below}
use Rattle.cfdp_actions.specs.Filestore.{is_beside}
use Rattle.cfdp_actions.specs.code.Listed.{shown_entries}
use Rattle.cfdp_actions.proofs.ShownLaws.{shown_where}
use Rattle.cfdp_actions.proofs.StoreLaws.{seen_has_beside}
use Rattle.cfdp_actions.proofs.list_store.ListStoreFilestore.has_beside.Goals as goal

pub returns : goal.returns
returns c =
    let p = c.args.path.now in let others = c.args.others.now in
    c.any_beside.ensures
    ∙ ap (list_any (λ e. is_beside others p e.0)) (ap shown_entries c.tree.ensures ∙ shown_where (λ q. is_at_or_below q p) c.self.inside.entries)
    ∙ sym (seen_has_beside _ _ _ _ c.self.invariant _ c.self.view_is p others)
