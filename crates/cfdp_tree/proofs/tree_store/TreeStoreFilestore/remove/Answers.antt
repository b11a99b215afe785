use Rattle.std.proofs.Common.{◌≡◌, ◌-◌, [], get_or, sym, ap, ◌∙◌, subst, arith, Some, None}
use Rattle.std.proofs.lemmas.List.{with_items_is}
use Rattle.std.specs.Prelude.{IfSome}
use Rattle.cfdp_actions.specs.Filestore.{blocks_of}
use Rattle.cfdp_tree.specs.declared.contents.Contents.{Contents}
use Rattle.cfdp_tree.specs.code.Contents.{IsFilled}
use Rattle.cfdp_tree.specs.code.Runs.{Spares}
use Rattle.cfdp_tree.specs.code.Nodes.{nodes_in}
use Rattle.cfdp_tree.specs.code.Tree.{IsNode, home_in, path_of_node}
use Rattle.cfdp_tree.specs.code.Index.{IsIndex}
use Rattle.cfdp_tree.specs.code.Slots.{IsStore}
use Rattle.cfdp_tree.proofs.OfNodes.TreeLaws.{node_octets}
use Rattle.cfdp_tree.proofs.OfStore.AlikeLaws.{runs_then}
use Rattle.cfdp_tree.proofs.OfStore.DropLaws.{seen_found, held_filled, held_by_node, held_small, weight_is, node_name, alike_two, tree_one, index_one, entry_one, drop_view, drop_store}
use Rattle.cfdp_tree.specs.code.Orders.{IsInOrders}
use Rattle.cfdp_tree.proofs.OfIndex.OutLaws.{nodes_long}
use Rattle.cfdp_tree.proofs.OfOrders.OrderedLaws.{kept_entries, ordered_kept, ordered_gone}
use Rattle.cfdp_tree.proofs.tree_store.TreeStoreFilestore.remove.Goals as goal

pub unwrap-node-requires : goal.unwrap-node-requires
unwrap-node-requires c =
    seen_found _ _ _ c.self.invariant.store _ c.self.view_is c.args.path.now c.find_path.result c.find_path.ensures.none c.requires.present

pub held_by-held-requires : goal.held_by-held-requires
held_by-held-requires c =
    let arena = c.self.inside.arena in let b = c.unwrap-node.result in let path = c.args.path.now in
    let node = subst (λ r. IfSome r (λ x. IsNode (nodes_in arena) x)) c.unwrap-node.ensures c.find_path.ensures.node in
    let way = subst (λ r. IfSome r (λ x. path_of_node (nodes_in arena) x ≡ path)) c.unwrap-node.ensures c.find_path.ensures.path in
    let same = node_octets arena b node c.bytes-block.result.now c.bytes-block.ensures.octets in
    held_small _ _ _ c.self.invariant.store _ c.self.view_is path b node way c.bytes-block.result.now same

pub release-requires : goal.release-requires
release-requires c =
    let arena = c.self.inside.arena in let b = c.unwrap-node.result in let path = c.args.path.now in
    let node = subst (λ r. IfSome r (λ x. IsNode (nodes_in arena) x)) c.unwrap-node.ensures c.find_path.ensures.node in
    let way = subst (λ r. IfSome r (λ x. path_of_node (nodes_in arena) x ≡ path)) c.unwrap-node.ensures c.find_path.ensures.path in
    let same = node_octets arena b node c.bytes-block.result.now c.bytes-block.ensures.octets in
    let held = c.held_by-held.ensures ∙ held_by_node _ _ _ c.self.invariant.store _ c.self.view_is path b node way c.bytes-block.result.now same in
    record { filled = subst (IsFilled arena) (sym held) (held_filled _ _ _ c.self.invariant.store _ c.self.view_is path b node way) }

pub leave-requires-clause-entry : goal.leave-requires-clause-entry
leave-requires-clause-entry c =
    let arena = c.self.inside.arena in let b = c.unwrap-node.result in let path = c.args.path.now in
    let node = subst (λ r. IfSome r (λ x. IsNode (nodes_in arena) x)) c.unwrap-node.ensures c.find_path.ensures.node in
    let way = subst (λ r. IfSome r (λ x. path_of_node (nodes_in arena) x ≡ path)) c.unwrap-node.ensures c.find_path.ensures.path in
    let there = c.home_of.ensures ∙ ap (home_in b) (node_octets arena b node c.bytes-block.result.now c.bytes-block.ensures.octets) in
    let name = c.name-name.ensures.name ∙ ap (λ n. get_or path (n - 1) []) c.depth.ensures.depth in
    record { node = node; there = sym there; named = node_name _ _ _ c.self.invariant.store _ c.self.view_is path b node way ∙ sym name }

pub remove-requires-clause-tree : goal.remove-requires-clause-tree
remove-requires-clause-tree c =
    let arena = c.self.inside.arena in let b = c.unwrap-node.result in let path = c.args.path.now in
    let node = subst (λ r. IfSome r (λ x. IsNode (nodes_in arena) x)) c.unwrap-node.ensures c.find_path.ensures.node in
    let way = subst (λ r. IfSome r (λ x. path_of_node (nodes_in arena) x ≡ path)) c.unwrap-node.ensures c.find_path.ensures.path in
    let same = node_octets arena b node c.bytes-block.result.now c.bytes-block.ensures.octets in
    tree_one _ _ _ c.self.invariant.store _ c.self.view_is path b node way c.release.new.arena c.release.ensures.nodes

pub remove-requires-clause-index : goal.remove-requires-clause-index
remove-requires-clause-index c =
    let arena = c.self.inside.arena in let b = c.unwrap-node.result in let path = c.args.path.now in
    let node = subst (λ r. IfSome r (λ x. IsNode (nodes_in arena) x)) c.unwrap-node.ensures c.find_path.ensures.node in
    let way = subst (λ r. IfSome r (λ x. path_of_node (nodes_in arena) x ≡ path)) c.unwrap-node.ensures c.find_path.ensures.path in
    let same = node_octets arena b node c.bytes-block.result.now c.bytes-block.ensures.octets in
    subst (λ hs. IsIndex (nodes_in c.release.new.arena) hs None) (sym c.deref_mut.ensures.value)
    (index_one _ _ _ c.self.invariant.store _ c.self.view_is path b node way c.release.new.arena c.release.ensures.nodes)

pub remove-requires-clause-entry : goal.remove-requires-clause-entry
remove-requires-clause-entry c =
    let arena = c.self.inside.arena in let b = c.unwrap-node.result in let path = c.args.path.now in
    let node = subst (λ r. IfSome r (λ x. IsNode (nodes_in arena) x)) c.unwrap-node.ensures c.find_path.ensures.node in
    let way = subst (λ r. IfSome r (λ x. path_of_node (nodes_in arena) x ≡ path)) c.unwrap-node.ensures c.find_path.ensures.path in
    let same = node_octets arena b node c.bytes-block.result.now c.bytes-block.ensures.octets in
    let there = c.home_of.ensures ∙ ap (home_in b) same in
    let name = c.name-name.ensures.name ∙ ap (λ n. get_or path (n - 1) []) c.depth.ensures.depth in
    entry_one _ _ _ c.self.invariant.store _ c.self.view_is path b node way c.release.new.arena c.release.ensures.nodes
    c.home_of.result c.name-name.result.now there name

pub invariant_of-self : goal.invariant_of-self
invariant_of-self c =
    let arena = c.self.inside.arena in let b = c.unwrap-node.result in let path = c.args.path.now in
    let node = subst (λ r. IfSome r (λ x. IsNode (nodes_in arena) x)) c.unwrap-node.ensures c.find_path.ensures.node in
    let way = subst (λ r. IfSome r (λ x. path_of_node (nodes_in arena) x ≡ path)) c.unwrap-node.ensures c.find_path.ensures.path in
    let same = node_octets arena b node c.bytes-block.result.now c.bytes-block.ensures.octets in
    let held = c.held_by-held.ensures ∙ held_by_node _ _ _ c.self.invariant.store _ c.self.view_is path b node way c.bytes-block.result.now same in
    let one = c.release.new.arena in let later = c.delete_node.new.arena in
    let heads = with_items_is c.self.inside.heads c.remove.new.heads (c.remove.auto.heads ∙ c.deref_mut.ensures.len) in
    let two = c.remove.new.arena in
    let alike = alike_two _ _ _ c.self.invariant.store _ c.self.view_is path b node way one c.release.ensures.nodes two c.remove.ensures.links in
    let out = ordered_kept (nodes_in arena) (nodes_in two) c.leave.new.self (Some b) (nodes_long arena two (c.remove.ensures.size ∙ c.release.ensures.capacity))
    (kept_entries (nodes_in arena) (nodes_in two) (Some b) alike.entries) c.leave.ensures in
    record {
      store = subst (λ hs. IsStore later c.self.inside.ways.items hs c.self.inside.slots.items) (sym heads)
          (drop_store _ _ _ c.self.invariant.store _ c.self.view_is path b node way c.release.new.arena c.release.ensures.nodes
          c.remove.new.arena c.remove.ensures.links c.requires.childless later c.delete_node.ensures.nodes
          c.remove.new.heads c.remove.ensures.index
          (subst (λ (x : Contents). Spares arena one x.run x.run) held c.release.ensures.spares)
          (runs_then one c.remove.new.arena later c.remove.ensures.runs c.delete_node.ensures.runs)
          (c.delete_node.ensures.capacity ∙ c.remove.ensures.size ∙ c.release.ensures.capacity)
          (omega (arith, c.delete_node.ensures.freed, c.remove.ensures.free, c.release.ensures.freed, ap (λ (x : Contents). blocks_of x.size) held)));
      ordered = subst (λ ns. IsInOrders ns c.leave.new.self None) (sym c.delete_node.ensures.nodes)
          (ordered_gone (nodes_in two) c.leave.new.self b (alike.entries.nodes b ∙ node) out);
    }

pub returns-clause-ticks : goal.returns-clause-ticks
returns-clause-ticks c =
    let arena = c.self.inside.arena in let b = c.unwrap-node.result in let path = c.args.path.now in
    let node = subst (λ r. IfSome r (λ x. IsNode (nodes_in arena) x)) c.unwrap-node.ensures c.find_path.ensures.node in
    let way = subst (λ r. IfSome r (λ x. path_of_node (nodes_in arena) x ≡ path)) c.unwrap-node.ensures c.find_path.ensures.path in
    let same = node_octets arena b node c.bytes-block.result.now c.bytes-block.ensures.octets in
    let held = c.held_by-held.ensures ∙ held_by_node _ _ _ c.self.invariant.store _ c.self.view_is path b node way c.bytes-block.result.now same in
    omega (
      arith,
      ap (λ (x : Contents). x.run.count) held,
      (held_filled _ _ _ c.self.invariant.store _ c.self.view_is path b node way).blocks,
      weight_is _ _ _ c.self.invariant.store _ c.self.view_is path b node way,
    )

pub returns-clause-gone : goal.returns-clause-gone
returns-clause-gone c =
    let arena = c.self.inside.arena in let b = c.unwrap-node.result in let path = c.args.path.now in
    let node = subst (λ r. IfSome r (λ x. IsNode (nodes_in arena) x)) c.unwrap-node.ensures c.find_path.ensures.node in
    let way = subst (λ r. IfSome r (λ x. path_of_node (nodes_in arena) x ≡ path)) c.unwrap-node.ensures c.find_path.ensures.path in
    let same = node_octets arena b node c.bytes-block.result.now c.bytes-block.ensures.octets in
    let held = c.held_by-held.ensures ∙ held_by_node _ _ _ c.self.invariant.store _ c.self.view_is path b node way c.bytes-block.result.now same in
    let one = c.release.new.arena in let later = c.delete_node.new.arena in
    drop_view _ _ _ c.self.invariant.store _ c.self.view_is path b node way c.release.new.arena c.release.ensures.nodes
    c.remove.new.arena c.remove.ensures.links c.requires.childless later c.delete_node.ensures.nodes
    c.remove.new.heads c.remove.ensures.index
    (subst (λ (x : Contents). Spares arena one x.run x.run) held c.release.ensures.spares)
    (runs_then one c.remove.new.arena later c.remove.ensures.runs c.delete_node.ensures.runs)
    (c.delete_node.ensures.capacity ∙ c.remove.ensures.size ∙ c.release.ensures.capacity)
    (omega (arith, c.delete_node.ensures.freed, c.remove.ensures.free, c.release.ensures.freed, ap (λ (x : Contents). blocks_of x.size) held))
