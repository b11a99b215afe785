use Rattle.std.proofs.Common.{sym, ap, ◌∙◌}
use Rattle.cfdp_checksum.specs.Checksum.{checksum}
use Rattle.cfdp_actions.specs.Filestore.{octets_in}
use Rattle.cfdp_actions.proofs.StoreLaws.{seen_node}
use Rattle.cfdp_actions.proofs.list_store.ListStoreFilestore.checksum.Goals as goal

pub returns : goal.returns
returns c = c.modular_checksum.ensures ∙ ap checksum (c.octets_at.ensures
    ∙ ap octets_in (sym (seen_node _ _ _ _ c.self.invariant _ c.self.view_is c.args.path.now)))
