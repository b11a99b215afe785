use Rattle.std.proofs.Common.{[], map, Vec, None, refl, sym, ap, ◌∙◌}
use Rattle.std.proofs.lemmas.Simd.{map-map}
use Rattle.std.specs.declared.alloc.Global.{Global}
use Rattle.std.proofs.lemmas.Option.{none-some}
use Rattle.cfdp_actions.specs.declared.kind.Entry.{Entry}
use Rattle.cfdp_actions.specs.Store.{listing_entry, listing_of}
use Rattle.cfdp_tree.specs.code.Nodes.{nodes_in}
use Rattle.cfdp_tree.specs.code.Walk.{walk_from}
use Rattle.cfdp_tree.specs.code.NodesBelow.{shown_node}
use Rattle.cfdp_tree.proofs.OfStore.SeenLaws.{shows}
use Rattle.cfdp_tree.proofs.OfWalks.NodesBelowLaws.{nodes_from, nodes_rising}
use Rattle.cfdp_tree.proofs.OfWalks.InOrderLaws.{tree_of_nodes, tree_whole}
use Rattle.cfdp_tree.proofs.OfStore.SoundLaws.{items_are, under_nodes, found_sound}
use Rattle.cfdp_tree.proofs.tree_store.TreeStoreFilestore.listing.Goals as goal

pub entries-requires : goal.entries-requires
entries-requires c =
    let nodes = nodes_in c.self.inside.arena in let orders = c.self.inside.orders in let list = walk_from orders 0 None in
    let nodes_below = nodes_from nodes c.self.invariant.store.kept.tree orders c.self.invariant.ordered None 0 (λ d e. absurd (none-some d e)) refl in
    record {
      sound = found_sound _ _ _ c.self.invariant.store _ c.self.view_is list c.in_ok-found.found.items
          (under_nodes nodes [] list nodes_below) c.in_ok-found.ensures;
    }

pub returns : goal.returns
returns c =
    let arena = c.self.inside.arena in let nodes = nodes_in arena in let orders = c.self.inside.orders in let tree = c.self.invariant.store.kept.tree in
    let ordered = c.self.invariant.ordered in
    let list = walk_from orders 0 None in let found = c.in_ok-found.found.items in let F = c.args.self.now.filestore in
    let described = tree_of_nodes nodes tree [] list (nodes_from nodes tree orders ordered None 0 (λ d e. absurd (none-some d e)) refl)
    (nodes_rising nodes tree orders ordered None 0 (λ d e. absurd (none-some d e))) found c.in_ok-found.ensures
    arena F (shows _ _ _ c.self.invariant.store _ c.self.view_is) in
    items_are (λ (v : Vec Entry Global). v.items) c.entries.result (map (λ e. listing_entry (shown_node arena nodes e)) found) (listing_of F) c.entries.ensures
    (sym (map-map listing_entry (shown_node arena nodes) found) ∙ ap (map listing_entry) (described ∙ tree_whole F))
