use Rattle.std.proofs.Common.{Some, sym, ap, ◌∙◌}
use Rattle.std.specs.Option.{option_map}
use Rattle.cfdp_tree.specs.Found.{found_of}
use Rattle.cfdp_tree.proofs.OfStore.SeenLaws.{seen_node, seen_none}
use Rattle.cfdp_tree.proofs.OfStore.SoundLaws.{node_sound}
use Rattle.cfdp_tree.proofs.tree_store.TreeStore.find.Goals as goal

pub returns-in_err-node : goal.returns-in_err-node
returns-in_err-node c = c.from_residual.ensures ∙ sym (ap (option_map found_of)
    (seen_none _ _ _ c.self.invariant.store _ c.self.view_is c.args.names c.in_err-node.ensures.none))

pub found_at-requires : goal.found_at-requires
found_at-requires c =
    let sound = node_sound _ _ _ c.self.invariant.store _ c.self.view_is c.in_ok-node.node c.in_ok-node.ensures.node in
    record { node = sound.node; filled = sound.filled; small = sound.small }

pub returns : goal.returns
returns c =
    let there = seen_node _ _ _ c.self.invariant.store _ c.self.view_is c.in_ok-node.node c.args.names c.in_ok-node.ensures.node c.in_ok-node.ensures.path in
    (λ k. Some (record { kind = c.found_at.ensures.kind k; size = c.found_at.ensures.size k; checksum = c.found_at.ensures.checksum k }))
    ∙ sym (ap (option_map found_of) there)
