use Rattle.std.proofs.Common.{◌≡◌, ◌-◌, [], get_or, refl, sym, ap, ◌∙◌, subst, arith, Some, None}
use Rattle.std.proofs.lemmas.List.{with_items_is}
use Rattle.std.specs.Prelude.{IfSome}
use Rattle.std.specs.Vec.{with_items}
use Rattle.cfdp_tree.specs.code.Nodes.{nodes_in}
use Rattle.cfdp_tree.specs.code.Tree.{IsNode, home_in, path_of_node}
use Rattle.cfdp_tree.specs.code.Index.{IsIndex}
use Rattle.cfdp_tree.specs.code.Slots.{IsStore}
use Rattle.cfdp_tree.proofs.OfNodes.TreeLaws.{node_octets}
use Rattle.cfdp_tree.proofs.OfIndex.OutLaws.{nodes_long}
use Rattle.cfdp_tree.proofs.OfStore.AlikeLaws.{alike_relinked, runs_then}
use Rattle.cfdp_tree.proofs.OfStore.DropLaws.{seen_found, tree_one, index_one, entry_one, node_name, alike_two}
use Rattle.cfdp_tree.proofs.OfStore.ShiftLaws.{directory_nodes, directory_other, tree_three, index_three, entry_three, shift_view, shift_store}
use Rattle.cfdp_arena.specs.Arena.{octets_of}
use Rattle.cfdp_tree.specs.code.Orders.{IsInOrders}
use Rattle.cfdp_tree.proofs.OfOrders.OrderedLaws.{kept_entries, ordered_kept, ordered_moved}
use Rattle.cfdp_tree.proofs.tree_store.TreeStoreFilestore.rename.Goals as goal

pub unwrap-node-requires : goal.unwrap-node-requires
unwrap-node-requires c =
    seen_found _ _ _ c.self.invariant.store _ c.self.view_is c.args.from.now c.find_path.result c.find_path.ensures.none c.requires.present

pub leave-requires-clause-entry : goal.leave-requires-clause-entry
leave-requires-clause-entry c =
    let arena = c.self.inside.arena in let b = c.unwrap-node.result in let p = c.args.from.now in
    let node = subst (λ r. IfSome r (λ x. IsNode (nodes_in arena) x)) c.unwrap-node.ensures c.find_path.ensures.node in
    let way = subst (λ r. IfSome r (λ x. path_of_node (nodes_in arena) x ≡ p)) c.unwrap-node.ensures c.find_path.ensures.path in
    let there = c.home_of.ensures ∙ ap (home_in b) (node_octets arena b node c.bytes.result.now c.bytes.ensures.octets) in
    let name = c.name-old_name.ensures.name ∙ ap (λ n. get_or p (n - 1) []) c.depth.ensures.depth in
    record { node = node; there = sym there; named = node_name _ _ _ c.self.invariant.store _ c.self.view_is p b node way ∙ sym name }

pub remove-requires-clause-tree : goal.remove-requires-clause-tree
remove-requires-clause-tree c =
    let arena = c.self.inside.arena in let b = c.unwrap-node.result in let p = c.args.from.now in let q = c.args.to.now in
    let node = subst (λ r. IfSome r (λ x. IsNode (nodes_in arena) x)) c.unwrap-node.ensures c.find_path.ensures.node in
    let way = subst (λ r. IfSome r (λ x. path_of_node (nodes_in arena) x ≡ p)) c.unwrap-node.ensures c.find_path.ensures.path in
    tree_one _ _ _ c.self.invariant.store _ c.self.view_is p b node way arena refl

pub remove-requires-clause-index : goal.remove-requires-clause-index
remove-requires-clause-index c =
    let arena = c.self.inside.arena in let b = c.unwrap-node.result in let p = c.args.from.now in let q = c.args.to.now in
    let node = subst (λ r. IfSome r (λ x. IsNode (nodes_in arena) x)) c.unwrap-node.ensures c.find_path.ensures.node in
    let way = subst (λ r. IfSome r (λ x. path_of_node (nodes_in arena) x ≡ p)) c.unwrap-node.ensures c.find_path.ensures.path in
    subst (λ hs. IsIndex (nodes_in c.self.inside.arena) hs None) (sym c.deref_mut.ensures.value)
    (index_one _ _ _ c.self.invariant.store _ c.self.view_is p b node way arena refl)

pub remove-requires-clause-entry : goal.remove-requires-clause-entry
remove-requires-clause-entry c =
    let arena = c.self.inside.arena in let b = c.unwrap-node.result in let p = c.args.from.now in let q = c.args.to.now in
    let node = subst (λ r. IfSome r (λ x. IsNode (nodes_in arena) x)) c.unwrap-node.ensures c.find_path.ensures.node in
    let way = subst (λ r. IfSome r (λ x. path_of_node (nodes_in arena) x ≡ p)) c.unwrap-node.ensures c.find_path.ensures.path in
    let there = c.home_of.ensures ∙ ap (home_in b) (node_octets arena b node c.bytes.result.now c.bytes.ensures.octets) in
    let name = c.name-old_name.ensures.name ∙ ap (λ n. get_or p (n - 1) []) c.depth.ensures.depth in
    entry_one _ _ _ c.self.invariant.store _ c.self.view_is p b node way arena refl
    c.home_of.result c.name-old_name.result.now there name

pub rename_node-requires-clause-directory : goal.rename_node-requires-clause-directory
rename_node-requires-clause-directory c =
    let arena = c.self.inside.arena in let b = c.unwrap-node.result in let p = c.args.from.now in let q = c.args.to.now in
    let node = subst (λ r. IfSome r (λ x. IsNode (nodes_in arena) x)) c.unwrap-node.ensures c.find_path.ensures.node in
    let way = subst (λ r. IfSome r (λ x. path_of_node (nodes_in arena) x ≡ p)) c.unwrap-node.ensures c.find_path.ensures.path in
    directory_nodes _ _ _ c.self.invariant.store _ c.self.view_is p b node way q c.depth-depth.ensures.within _
    (omega (arith, c.depth-depth.ensures.depth, c.depth-depth.ensures.within.some)) c.requires.parent
    c.lookup.result c.lookup.ensures.node c.lookup.ensures.path c.lookup.ensures.none c.name-new_name.result.now c.name-new_name.ensures.name c.requires.apart
    c.remove.new.arena (alike_two _ _ _ c.self.invariant.store _ c.self.view_is p b node way arena refl c.remove.new.arena c.remove.ensures.links)

pub rename_node-requires-clause-apart : goal.rename_node-requires-clause-apart
rename_node-requires-clause-apart c =
    let arena = c.self.inside.arena in let b = c.unwrap-node.result in let p = c.args.from.now in let q = c.args.to.now in
    let node = subst (λ r. IfSome r (λ x. IsNode (nodes_in arena) x)) c.unwrap-node.ensures c.find_path.ensures.node in
    let way = subst (λ r. IfSome r (λ x. path_of_node (nodes_in arena) x ≡ p)) c.unwrap-node.ensures c.find_path.ensures.path in
    directory_other _ _ _ c.self.invariant.store _ c.self.view_is p b node way q c.depth-depth.ensures.within _
    (omega (arith, c.depth-depth.ensures.depth, c.depth-depth.ensures.within.some)) c.requires.parent
    c.lookup.result c.lookup.ensures.node c.lookup.ensures.path c.lookup.ensures.none c.name-new_name.result.now c.name-new_name.ensures.name c.requires.apart

pub enter-requires-clause-tree : goal.enter-requires-clause-tree
enter-requires-clause-tree c =
    let arena = c.self.inside.arena in let b = c.unwrap-node.result in let p = c.args.from.now in let q = c.args.to.now in
    let node = subst (λ r. IfSome r (λ x. IsNode (nodes_in arena) x)) c.unwrap-node.ensures c.find_path.ensures.node in
    let way = subst (λ r. IfSome r (λ x. path_of_node (nodes_in arena) x ≡ p)) c.unwrap-node.ensures c.find_path.ensures.path in
    tree_three _ _ _ c.self.invariant.store _ c.self.view_is p b node way q c.depth-depth.ensures.within _
    (omega (arith, c.depth-depth.ensures.depth, c.depth-depth.ensures.within.some)) c.requires.parent
    c.lookup.result c.lookup.ensures.node c.lookup.ensures.path c.lookup.ensures.none c.name-new_name.result.now c.name-new_name.ensures.name c.requires.apart
    c.remove.new.arena (alike_two _ _ _ c.self.invariant.store _ c.self.view_is p b node way arena refl c.remove.new.arena c.remove.ensures.links)
    c.rename_node.new.arena _ c.rename_node.ensures.nodes c.rename_node.ensures.fields c.rename_node.ensures.home c.rename_node.ensures.name
    c.rename_node.ensures.whole c.requires.absent c.requires.depth

pub enter-requires-clause-ordered : goal.enter-requires-clause-ordered
enter-requires-clause-ordered c =
    let arena = c.self.inside.arena in let b = c.unwrap-node.result in let p = c.args.from.now in
    let node = subst (λ r. IfSome r (λ x. IsNode (nodes_in arena) x)) c.unwrap-node.ensures c.find_path.ensures.node in
    let way = subst (λ r. IfSome r (λ x. path_of_node (nodes_in arena) x ≡ p)) c.unwrap-node.ensures c.find_path.ensures.path in
    let two = c.remove.new.arena in
    let alike = alike_two _ _ _ c.self.invariant.store _ c.self.view_is p b node way arena refl two c.remove.ensures.links in
    subst (λ ns. IsInOrders ns c.leave.new.self (Some b)) (sym c.rename_node.ensures.nodes)
    (ordered_moved (nodes_in two) c.leave.new.self b (octets_of (nodes_in c.rename_node.new.arena) b)
    (ordered_kept (nodes_in arena) (nodes_in two) c.leave.new.self (Some b) (nodes_long arena two c.remove.ensures.size)
    (kept_entries (nodes_in arena) (nodes_in two) (Some b) alike.entries) c.leave.ensures))

pub insert-requires-clause-tree : goal.insert-requires-clause-tree
insert-requires-clause-tree c =
    let arena = c.self.inside.arena in let b = c.unwrap-node.result in let p = c.args.from.now in let q = c.args.to.now in
    let node = subst (λ r. IfSome r (λ x. IsNode (nodes_in arena) x)) c.unwrap-node.ensures c.find_path.ensures.node in
    let way = subst (λ r. IfSome r (λ x. path_of_node (nodes_in arena) x ≡ p)) c.unwrap-node.ensures c.find_path.ensures.path in
    tree_three _ _ _ c.self.invariant.store _ c.self.view_is p b node way q c.depth-depth.ensures.within _
    (omega (arith, c.depth-depth.ensures.depth, c.depth-depth.ensures.within.some)) c.requires.parent
    c.lookup.result c.lookup.ensures.node c.lookup.ensures.path c.lookup.ensures.none c.name-new_name.result.now c.name-new_name.ensures.name c.requires.apart
    c.remove.new.arena (alike_two _ _ _ c.self.invariant.store _ c.self.view_is p b node way arena refl c.remove.new.arena c.remove.ensures.links)
    c.rename_node.new.arena _ c.rename_node.ensures.nodes c.rename_node.ensures.fields c.rename_node.ensures.home c.rename_node.ensures.name
    c.rename_node.ensures.whole c.requires.absent c.requires.depth

pub insert-requires-clause-entry : goal.insert-requires-clause-entry
insert-requires-clause-entry c =
    let arena = c.self.inside.arena in let b = c.unwrap-node.result in let p = c.args.from.now in let q = c.args.to.now in
    let node = subst (λ r. IfSome r (λ x. IsNode (nodes_in arena) x)) c.unwrap-node.ensures c.find_path.ensures.node in
    let way = subst (λ r. IfSome r (λ x. path_of_node (nodes_in arena) x ≡ p)) c.unwrap-node.ensures c.find_path.ensures.path in
    entry_three _ _ _ c.self.invariant.store _ c.self.view_is p b node way q c.depth-depth.ensures.within _
    (omega (arith, c.depth-depth.ensures.depth, c.depth-depth.ensures.within.some)) c.requires.parent
    c.lookup.result c.lookup.ensures.node c.lookup.ensures.path c.lookup.ensures.none c.name-new_name.result.now c.name-new_name.ensures.name c.requires.apart
    c.remove.new.arena (alike_two _ _ _ c.self.invariant.store _ c.self.view_is p b node way arena refl c.remove.new.arena c.remove.ensures.links)
    c.rename_node.new.arena _ c.rename_node.ensures.nodes c.rename_node.ensures.fields c.rename_node.ensures.home c.rename_node.ensures.name
    c.rename_node.ensures.whole c.requires.absent c.requires.depth

pub insert-requires-clause-index : goal.insert-requires-clause-index
insert-requires-clause-index c =
    let arena = c.self.inside.arena in let b = c.unwrap-node.result in let p = c.args.from.now in let q = c.args.to.now in
    let node = subst (λ r. IfSome r (λ x. IsNode (nodes_in arena) x)) c.unwrap-node.ensures c.find_path.ensures.node in
    let way = subst (λ r. IfSome r (λ x. path_of_node (nodes_in arena) x ≡ p)) c.unwrap-node.ensures c.find_path.ensures.path in
    subst (λ hs. IsIndex (nodes_in c.rename_node.new.arena) hs (Some b)) (sym (c.deref_mut-2.ensures.value
    ∙ with_items_is c.self.inside.heads c.remove.new.heads (c.remove.auto.heads ∙ c.deref_mut.ensures.len)))
    (index_three _ _ _ c.self.invariant.store _ c.self.view_is p b node way q c.depth-depth.ensures.within _
    (omega (arith, c.depth-depth.ensures.depth, c.depth-depth.ensures.within.some)) c.requires.parent
    c.lookup.result c.lookup.ensures.node c.lookup.ensures.path c.lookup.ensures.none c.name-new_name.result.now c.name-new_name.ensures.name c.requires.apart
    c.remove.new.arena (alike_two _ _ _ c.self.invariant.store _ c.self.view_is p b node way arena refl c.remove.new.arena c.remove.ensures.links)
    c.rename_node.new.arena _ c.rename_node.ensures.nodes c.rename_node.ensures.fields c.rename_node.ensures.home c.rename_node.ensures.name
    c.rename_node.ensures.whole c.requires.absent c.requires.depth c.remove.new.heads c.remove.ensures.index)

pub invariant_of-self : goal.invariant_of-self
invariant_of-self c =
    let arena = c.self.inside.arena in let b = c.unwrap-node.result in let p = c.args.from.now in let q = c.args.to.now in
    let node = subst (λ r. IfSome r (λ x. IsNode (nodes_in arena) x)) c.unwrap-node.ensures c.find_path.ensures.node in
    let way = subst (λ r. IfSome r (λ x. path_of_node (nodes_in arena) x ≡ p)) c.unwrap-node.ensures c.find_path.ensures.path in
    let two = c.remove.new.arena in let three = c.rename_node.new.arena in let later = c.insert.new.arena in
    let alike = alike_relinked (nodes_in three) (nodes_in later) c.insert.ensures.links in
    let runs = runs_then arena three later (runs_then arena two three c.remove.ensures.runs c.rename_node.ensures.runs) c.insert.ensures.runs in
    let long = c.insert.ensures.size ∙ c.rename_node.ensures.capacity ∙ c.remove.ensures.size in
    let free = c.insert.ensures.free ∙ c.rename_node.ensures.free ∙ c.remove.ensures.free in
    let heads = with_items_is (with_items c.self.inside.heads c.remove.new.heads) c.insert.new.heads (c.insert.auto.heads ∙ c.deref_mut-2.ensures.len) in
    record {
      store = subst (λ hs. IsStore later c.self.inside.ways.items hs c.self.inside.slots.items) (sym heads)
          (shift_store _ _ _ c.self.invariant.store _ c.self.view_is p b node way q c.depth-depth.ensures.within _
          (omega (arith, c.depth-depth.ensures.depth, c.depth-depth.ensures.within.some)) c.requires.parent
          c.lookup.result c.lookup.ensures.node c.lookup.ensures.path c.lookup.ensures.none c.name-new_name.result.now c.name-new_name.ensures.name
          c.requires.apart
          c.remove.new.arena (alike_two _ _ _ c.self.invariant.store _ c.self.view_is p b node way arena refl c.remove.new.arena c.remove.ensures.links)
          c.rename_node.new.arena _ c.rename_node.ensures.nodes c.rename_node.ensures.fields c.rename_node.ensures.home c.rename_node.ensures.name
          c.rename_node.ensures.whole c.requires.absent c.requires.depth
          later alike runs c.insert.new.heads c.insert.ensures.index long free);
      ordered = ordered_kept (nodes_in three) (nodes_in later) c.enter.new.self None (nodes_long three later c.insert.ensures.size)
          (kept_entries (nodes_in three) (nodes_in later) None alike.entries) c.enter.ensures;
    }

pub returns-clause-moved : goal.returns-clause-moved
returns-clause-moved c =
    let arena = c.self.inside.arena in let b = c.unwrap-node.result in let p = c.args.from.now in let q = c.args.to.now in
    let node = subst (λ r. IfSome r (λ x. IsNode (nodes_in arena) x)) c.unwrap-node.ensures c.find_path.ensures.node in
    let way = subst (λ r. IfSome r (λ x. path_of_node (nodes_in arena) x ≡ p)) c.unwrap-node.ensures c.find_path.ensures.path in
    let two = c.remove.new.arena in let three = c.rename_node.new.arena in let later = c.insert.new.arena in
    let alike = alike_relinked (nodes_in three) (nodes_in later) c.insert.ensures.links in
    let runs = runs_then arena three later (runs_then arena two three c.remove.ensures.runs c.rename_node.ensures.runs) c.insert.ensures.runs in
    let long = c.insert.ensures.size ∙ c.rename_node.ensures.capacity ∙ c.remove.ensures.size in
    let free = c.insert.ensures.free ∙ c.rename_node.ensures.free ∙ c.remove.ensures.free in
    shift_view _ _ _ c.self.invariant.store _ c.self.view_is p b node way q c.depth-depth.ensures.within _
    (omega (arith, c.depth-depth.ensures.depth, c.depth-depth.ensures.within.some)) c.requires.parent
    c.lookup.result c.lookup.ensures.node c.lookup.ensures.path c.lookup.ensures.none c.name-new_name.result.now c.name-new_name.ensures.name c.requires.apart
    c.remove.new.arena (alike_two _ _ _ c.self.invariant.store _ c.self.view_is p b node way arena refl c.remove.new.arena c.remove.ensures.links)
    c.rename_node.new.arena _ c.rename_node.ensures.nodes c.rename_node.ensures.fields c.rename_node.ensures.home c.rename_node.ensures.name
    c.rename_node.ensures.whole c.requires.absent c.requires.depth
    later alike runs c.insert.new.heads c.insert.ensures.index long free
