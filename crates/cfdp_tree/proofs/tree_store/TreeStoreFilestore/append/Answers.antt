use Rattle.std.proofs.Common.{◌+◌, ◌-◌, ◌++◌, sym, ap, ◌∙◌, subst, arith}
use Rattle.cfdp_arena.specs.Arena.{octets_of}
use Rattle.cfdp_actions.specs.Filestore.{file_octets_at, blocks_of}
use Rattle.cfdp_actions.proofs.RowLaws.{blocks_of-mono, blocks_of-small}
use Rattle.std.proofs.lemmas.List.{with_items_is}
use Rattle.cfdp_tree.specs.code.Nodes.{nodes_in}
use Rattle.cfdp_tree.specs.code.Ways.{HasWays, KeepsWays}
use Rattle.cfdp_tree.specs.code.Slots.{IsStore}
use Rattle.cfdp_tree.proofs.OfStore.FoundLaws.{filled_blocks, file_found, file_most, found_filled, found_ways, found_octets, found_size, found_blocks, found_same, found_apart, append_most, append_room, found_store, found_changes}
use Rattle.cfdp_tree.proofs.OfStore.FileLaws.{kind_there}
use Rattle.cfdp_tree.proofs.OfOrders.OrderedLaws.{ordered_written}
use Rattle.cfdp_tree.proofs.tree_store.TreeStoreFilestore.append.Goals as goal
use Rattle.cfdp_tree.proofs.OfRuns.Filling.{taken_as}

pub find_file-file-requires-clause-there : goal.find_file-file-requires-clause-there
find_file-file-requires-clause-there c = file_found _ _ _ c.self.invariant.store _ c.self.view_is c.args.first.now c.requires.first

pub find_file-file-requires-clause-most : goal.find_file-file-requires-clause-most
find_file-file-requires-clause-most c = file_most _ _ _ c.self.invariant.store _ c.self.view_is c.args.first.now c.requires.first

pub find_file-source-requires-clause-there : goal.find_file-source-requires-clause-there
find_file-source-requires-clause-there c = file_found _ _ _ c.self.invariant.store _ c.self.view_is c.args.second.now c.requires.second

pub find_file-source-requires-clause-most : goal.find_file-source-requires-clause-most
find_file-source-requires-clause-most c = file_most _ _ _ c.self.invariant.store _ c.self.view_is c.args.second.now c.requires.second

pub append-contents-requires-clause-filled : goal.append-contents-requires-clause-filled
append-contents-requires-clause-filled c =
    let file = c.find_file-file.ensures in
    found_filled _ _ _ c.self.invariant.store _ c.self.view_is c.args.first.now c.requires.first c.find_file-file.result file.node file.path file.contents

pub append-contents-requires-clause-ways : goal.append-contents-requires-clause-ways
append-contents-requires-clause-ways c =
    let file = c.find_file-file.ensures in
    subst (λ ws. HasWays c.self.inside.arena ws c.find_file-file.result.contents.run) (sym c.deref_mut.ensures.value)
    (found_ways _ _ _ c.self.invariant.store _ c.self.view_is c.args.first.now c.requires.first c.find_file-file.result file.node file.path file.contents)

pub append-contents-requires-clause-source : goal.append-contents-requires-clause-source
append-contents-requires-clause-source c =
    let source = c.find_file-source.ensures in
    found_filled _ _ _ c.self.invariant.store _ c.self.view_is c.args.second.now c.requires.second c.find_file-source.result source.node source.path
    source.contents

pub append-contents-requires-clause-same : goal.append-contents-requires-clause-same
append-contents-requires-clause-same c =
    let file = c.find_file-file.ensures in let source = c.find_file-source.ensures in
    found_same _ _ _ c.self.invariant.store _ c.self.view_is c.args.first.now c.requires.first c.find_file-file.result file.node file.path file.contents
    c.args.second.now c.requires.second c.find_file-source.result source.node source.path source.contents

pub append-contents-requires-clause-apart : goal.append-contents-requires-clause-apart
append-contents-requires-clause-apart c =
    let file = c.find_file-file.ensures in let source = c.find_file-source.ensures in
    found_apart _ _ _ c.self.invariant.store _ c.self.view_is c.args.first.now c.requires.first c.find_file-file.result file.node file.path file.contents
    c.args.second.now c.requires.second c.find_file-source.result source.node source.path source.contents

pub append-contents-requires-clause-most : goal.append-contents-requires-clause-most
append-contents-requires-clause-most c =
    let file = c.find_file-file.ensures in let source = c.find_file-source.ensures in
    append_most _ _ _ c.self.invariant.store _ c.self.view_is c.args.first.now c.requires.first c.find_file-file.result file.node file.path file.contents
    c.args.second.now c.requires.second c.find_file-source.result source.node source.path source.contents c.requires.room

pub append-contents-requires-clause-room : goal.append-contents-requires-clause-room
append-contents-requires-clause-room c =
    let file = c.find_file-file.ensures in let source = c.find_file-source.ensures in
    append_room _ _ _ c.self.invariant.store _ c.self.view_is c.args.first.now c.requires.first c.find_file-file.result file.node file.path file.contents
    c.args.second.now c.requires.second c.find_file-source.result source.node source.path source.contents c.requires.room

pub overflow_sub-result : goal.overflow_sub-result
overflow_sub-result c =
    let a = c.find_file-file.result.contents.size in let b = c.find_file-source.result.contents.size in
    let file = c.find_file-file.ensures in
    let first = found_filled _ _ _ c.self.invariant.store _ c.self.view_is c.args.first.now c.requires.first c.find_file-file.result file.node file.path
    file.contents in
    let after = c.append-contents.ensures in
    omega (arith, filled_blocks _ _ first, filled_blocks _ _ after.only.filled, ap blocks_of after.size, blocks_of-mono a (a + b) (omega arith))

pub overflow_add-result : goal.overflow_add-result
overflow_add-result c =
    let a = c.find_file-file.result.contents.size in let b = c.find_file-source.result.contents.size in
    let file = c.find_file-file.ensures in let source = c.find_file-source.ensures in
    let most = append_most _ _ _ c.self.invariant.store _ c.self.view_is c.args.first.now c.requires.first c.find_file-file.result file.node file.path
    file.contents
    c.args.second.now c.requires.second c.find_file-source.result source.node source.path source.contents c.requires.room in
    let second = found_filled _ _ _ c.self.invariant.store _ c.self.view_is c.args.second.now c.requires.second c.find_file-source.result source.node
    source.path source.contents in
    let after = c.append-contents.ensures in
    omega (
      arith,
      filled_blocks _ _ second,
      filled_blocks _ _ after.only.filled,
      ap blocks_of after.size,
      blocks_of-small (a + b) most,
      blocks_of-small b (omega (arith, most)),
    )

pub invariant_of-self : goal.invariant_of-self
invariant_of-self c =
    let file = c.find_file-file.ensures in let after = c.append-contents.ensures in let set = c.set_contents.ensures in
    let ways = with_items_is c.self.inside.ways c.append-contents.new.ways (c.append-contents.auto.ways ∙ c.deref_mut.ensures.len) in
    record {
      store = subst (λ ws. IsStore c.set_contents.new.arena ws c.self.inside.heads.items c.self.inside.slots.items) (sym ways)
          (found_store _ _ _ c.self.invariant.store _ c.self.view_is c.args.first.now c.requires.first c.find_file-file.result file.node file.path file.contents
          c.append-contents.new.arena c.set_contents.new.arena c.append-contents.result
          (octets_of (nodes_in c.set_contents.new.arena) c.find_file-file.result.node)
          after.only.nodes after.only.capacity after.only.spares after.only.filled
          (taken_as _ _ _ _ _ after.taken after.size) set.nodes set.fields set.name set.whole set.runs
          set.free
          set.capacity _ after.octets
          c.append-contents.new.ways after.only.ways
          (subst (λ ws. KeepsWays c.self.inside.arena c.append-contents.new.arena ws c.append-contents.new.ways c.find_file-file.result.contents.run)
          c.deref_mut.ensures.value after.only.other_ways));
      ordered = ordered_written (nodes_in c.self.inside.arena) c.self.invariant.store.kept.tree c.find_file-file.result.node file.node
          (kind_there _ _ _ c.self.invariant.store _ c.self.view_is c.find_file-file.result.node c.args.first.now file.node file.path c.requires.first) _ _
          (octets_of _ c.find_file-file.result.node) c.append-contents.result after.only.nodes set.nodes set.fields set.name set.whole c.self.inside.orders
          c.self.invariant.ordered;
    }

pub returns-clause-ticks : goal.returns-clause-ticks
returns-clause-ticks c =
    let file = c.find_file-file.ensures in let source = c.find_file-source.ensures in
    let first = found_size _ _ _ c.self.invariant.store _ c.self.view_is c.args.first.now c.requires.first c.find_file-file.result file.node file.path
    file.contents in
    let second = found_size _ _ _ c.self.invariant.store _ c.self.view_is c.args.second.now c.requires.second c.find_file-source.result source.node source.path
    source.contents in
    let after = c.append-contents.ensures in
    let both = filled_blocks _ _ after.only.filled ∙ ap blocks_of (after.size ∙ (λ k. sym first k + sym second k)) in
    (λ k. both k - (found_blocks _ _ _ c.self.invariant.store _ c.self.view_is c.args.first.now c.requires.first c.find_file-file.result file.node file.path
    file.contents) k
    + (found_blocks _ _ _ c.self.invariant.store _ c.self.view_is c.args.second.now c.requires.second c.find_file-source.result source.node source.path
    source.contents) k)

pub returns-clause-appended : goal.returns-clause-appended
returns-clause-appended c =
    let file = c.find_file-file.ensures in let source = c.find_file-source.ensures in let after = c.append-contents.ensures in let set =
    c.set_contents.ensures in
    let F = c.args.self.now.filestore in
    let first = found_octets _ _ _ c.self.invariant.store _ c.self.view_is c.args.first.now c.requires.first c.find_file-file.result file.node file.path
    file.contents in
    let second = found_octets _ _ _ c.self.invariant.store _ c.self.view_is c.args.second.now c.requires.second c.find_file-source.result source.node
    source.path source.contents in
    found_changes _ _ _ c.self.invariant.store _ c.self.view_is c.args.first.now c.requires.first c.find_file-file.result file.node file.path file.contents
    c.append-contents.new.arena c.set_contents.new.arena c.append-contents.result (octets_of (nodes_in c.set_contents.new.arena) c.find_file-file.result.node)
    after.only.nodes after.only.capacity after.only.spares after.only.filled
    (taken_as _ _ _ _ _ after.taken after.size) set.nodes set.fields set.name set.whole set.runs set.free
    set.capacity
    (file_octets_at F c.args.first.now ++ file_octets_at F c.args.second.now) (after.octets ∙ (λ k. sym first k ++ sym second k))
