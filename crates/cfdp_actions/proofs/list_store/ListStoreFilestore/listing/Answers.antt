use Rattle.std.proofs.Common.{◌≡◌, IfOk, map, sym, ap, subst, ◌∙◌}
use Rattle.cfdp_actions.specs.Store.{listing_entry}
use Rattle.cfdp_actions.specs.code.Listed.{shown_entries}
use Rattle.cfdp_actions.proofs.StoreLaws.{seen_entries}
use Rattle.cfdp_actions.proofs.list_store.ListStoreFilestore.listing.Goals as goal

pub returns : goal.returns
returns c =
    let all = ap (λ es. map listing_entry (shown_entries es)) c.entries.ensures.entries ∙ ap (map listing_entry)
    (sym (seen_entries _ _ _ _ c.self.invariant _ c.self.view_is)) in
    subst (λ xs. IfOk c.listing.result (λ entries. entries.items ≡ xs)) all c.listing.ensures
