use Rattle.std.proofs.Common.{◌≡◌, IfOk, map, sym, ap, subst, ◌∙◌}
use Rattle.cfdp_paths.specs.Paths.{is_at_or_below}
use Rattle.cfdp_actions.specs.Store.{existing_node}
use Rattle.cfdp_actions.specs.code.Listed.{shown_entries}
use Rattle.cfdp_actions.proofs.ShownLaws.{shown_where}
use Rattle.cfdp_actions.proofs.StoreLaws.{seen_tree}
use Rattle.cfdp_actions.proofs.list_store.ListStoreFilestore.existing.Goals as goal

pub returns : goal.returns
returns c =
    let tree = ap shown_entries c.tree.ensures ∙ shown_where (λ q. is_at_or_below q c.args.path.now) c.self.inside.entries
    ∙ sym (seen_tree _ _ _ _ c.self.invariant _ c.self.view_is c.args.path.now) in
    subst (λ xs. IfOk c.existing.result (λ found. found.items ≡ xs)) (ap (map existing_node) tree) c.existing.ensures
