use Rattle.std.proofs.Common.{sym, ◌∙◌}
use Rattle.cfdp_actions.proofs.ShownLaws.{shown_below}
use Rattle.cfdp_actions.proofs.StoreLaws.{seen_has_entries}
use Rattle.cfdp_actions.proofs.list_store.ListStoreFilestore.has_entries.Goals as goal

pub returns : goal.returns
returns c = c.has_below.ensures ∙ shown_below c.args.path.now c.self.inside.entries
    ∙ sym (seen_has_entries _ _ _ _ c.self.invariant _ c.self.view_is c.args.path.now)
