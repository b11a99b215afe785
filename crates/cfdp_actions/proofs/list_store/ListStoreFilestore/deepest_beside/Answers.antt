use Rattle.std.proofs.Common.{sym, ap, ◌∙◌}
use Rattle.std.specs.FinMap.Entries.{where_key}
use Rattle.cfdp_paths.specs.Paths.{path_cmp, is_at_or_below}
use Rattle.cfdp_actions.specs.Filestore.{is_beside, deepest_of}
use Rattle.cfdp_actions.specs.code.Listed.{shown_entries}
use Rattle.cfdp_actions.proofs.ShownLaws.{shown_where}
use Rattle.cfdp_actions.proofs.StoreLaws.{seen_deepest_beside}
use Rattle.cfdp_actions.proofs.list_store.ListStoreFilestore.deepest_beside.Goals as goal

pub returns-clause-value : goal.returns-clause-value
returns-clause-value c =
    let p = c.args.path.now in let others = c.args.others.now in
    c.deepest_beside.ensures.value
    ∙ ap (λ es. deepest_of (where_key path_cmp (is_beside others p) es))
    (ap shown_entries c.tree.ensures ∙ shown_where (λ q. is_at_or_below q p) c.self.inside.entries)
    ∙ sym (seen_deepest_beside _ _ _ _ c.self.invariant _ c.self.view_is p others)
