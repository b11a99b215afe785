use Rattle.std.proofs.Common.{sym, ap, ◌∙◌}
use Rattle.cfdp_paths.specs.Paths.{is_at_or_below}
use Rattle.cfdp_actions.specs.Filestore.{deepest_of}
use Rattle.cfdp_actions.specs.code.Listed.{shown_entries}
use Rattle.cfdp_actions.proofs.ShownLaws.{shown_where}
use Rattle.cfdp_actions.proofs.StoreLaws.{seen_tree}
use Rattle.cfdp_actions.proofs.list_store.ListStoreFilestore.deepest.Goals as goal

pub returns-clause-value : goal.returns-clause-value
returns-clause-value c =
    let tree = ap shown_entries c.tree.ensures ∙ shown_where (λ q. is_at_or_below q c.args.path.now) c.self.inside.entries
    ∙ sym (seen_tree _ _ _ _ c.self.invariant _ c.self.view_is c.args.path.now) in
    c.deepest.ensures.value ∙ ap deepest_of tree
