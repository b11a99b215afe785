use Rattle.std.proofs.Common.{sym, ap, ◌∙◌, arith}
use Rattle.cfdp_checksum.specs.Checksum.{checksum}
use Rattle.cfdp_actions.specs.Filestore.{staged_in}
use Rattle.cfdp_tree.proofs.OfStore.SeenLaws.{seen_staged, slot_filled}
use Rattle.cfdp_tree.proofs.tree_store.TreeStoreFilestore.staged_checksum.Goals as goal

pub returns : goal.returns
returns c =
    let filled = slot_filled _ _ _ c.self.invariant.store _ c.self.view_is c.from.result
    (omega (arith, c.from.ensures, c.requires)) c.index.result.now c.index.ensures in
    let octets = seen_staged _ _ _ c.self.invariant.store _ c.self.view_is c.from.result
    (omega (arith, c.from.ensures, c.requires)) c.index.result.now c.index.ensures in
    filled.summed ∙ ap checksum (sym octets ∙ ap (staged_in c.args.self.now.filestore) c.from.ensures)
