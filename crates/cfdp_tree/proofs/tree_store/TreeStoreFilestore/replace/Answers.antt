use Rattle.std.proofs.Common.{◌+◌, ◌*◌, [], ◌∷◌, Some, length, sym, ap, ◌∙◌, subst, arith}
use Rattle.std.proofs.lemmas.Bool.{eqb-true, eqb-false}
use Rattle.std.specs.Prelude.{if◌then◌else◌}
use Rattle.cfdp_arena.specs.Arena.{octets_of}
use Rattle.cfdp_actions.specs.Filestore.{File, Becomes, file_octets_at, blocks_of}
use Rattle.cfdp_actions.specs.Store.{with_changes}
use Rattle.cfdp_actions.proofs.RowLaws.{blocks_of-small}
use Rattle.std.proofs.lemmas.List.{with_items_is}
use Rattle.cfdp_tree.specs.code.Nodes.{nodes_in}
use Rattle.cfdp_tree.specs.code.Ways.{HasWays, KeepsWays}
use Rattle.cfdp_tree.specs.code.Slots.{IsStore}
use Rattle.cfdp_tree.proofs.OfStore.SeenLaws.{file_small}
use Rattle.cfdp_tree.proofs.OfStore.FoundLaws.{file_found, file_most, found_filled, found_ways, found_octets, found_blocks, found_one, found_two, found_apart, replace_most, replace_room, found_store, found_changes}
use Rattle.cfdp_tree.proofs.OfStore.FileLaws.{kind_there}
use Rattle.cfdp_tree.proofs.OfOrders.OrderedLaws.{ordered_written}
use Rattle.cfdp_tree.proofs.tree_store.TreeStoreFilestore.replace.Goals as goal
use Rattle.cfdp_tree.proofs.OfRuns.Filling.{taken_as}

pub find_file-file-requires-clause-there : goal.find_file-file-requires-clause-there
find_file-file-requires-clause-there c = file_found _ _ _ c.self.invariant.store _ c.self.view_is c.args.first.now c.requires.first

pub find_file-file-requires-clause-most : goal.find_file-file-requires-clause-most
find_file-file-requires-clause-most c = file_most _ _ _ c.self.invariant.store _ c.self.view_is c.args.first.now c.requires.first

pub find_file-source-requires-clause-there : goal.find_file-source-requires-clause-there
find_file-source-requires-clause-there c = file_found _ _ _ c.self.invariant.store _ c.self.view_is c.args.second.now c.requires.second

pub find_file-source-requires-clause-most : goal.find_file-source-requires-clause-most
find_file-source-requires-clause-most c = file_most _ _ _ c.self.invariant.store _ c.self.view_is c.args.second.now c.requires.second

pub returns-then-eq-clause-ticks : goal.returns-then-eq-clause-ticks
returns-then-eq-clause-ticks c =
    let file = c.find_file-file.ensures in let source = c.find_file-source.ensures in let F = c.args.self.now.filestore in
    let one = found_one _ _ _ c.self.invariant.store _ c.self.view_is c.args.first.now c.requires.first c.find_file-file.result file.node file.path
    file.contents
    c.args.second.now c.requires.second c.find_file-source.result source.node source.path source.contents
    (eqb-true c.find_file-file.result.node c.find_file-source.result.node (sym c.eq.ensures ∙ c.if-eq.true)) in
    sym (ap (λ same. if same then 0 else blocks_of (length (file_octets_at F c.args.first.now)) + 2 * blocks_of
    (length (file_octets_at F c.args.second.now))) one)

pub returns-then-eq-clause-replaced : goal.returns-then-eq-clause-replaced
returns-then-eq-clause-replaced c =
    let file = c.find_file-file.ensures in let source = c.find_file-source.ensures in let F = c.args.self.now.filestore in
    let one = found_one _ _ _ c.self.invariant.store _ c.self.view_is c.args.first.now c.requires.first c.find_file-file.result file.node file.path
    file.contents
    c.args.second.now c.requires.second c.find_file-source.result source.node source.path source.contents
    (eqb-true c.find_file-file.result.node c.find_file-source.result.node (sym c.eq.ensures ∙ c.if-eq.true)) in
    sym (ap (λ same. with_changes c.args.self.now (if same then [] else Becomes c.args.first.now (Some (File (file_octets_at F c.args.second.now))) ∷ [])) one)

pub replace-requires-clause-filled : goal.replace-requires-clause-filled
replace-requires-clause-filled c =
    let file = c.find_file-file.ensures in
    found_filled _ _ _ c.self.invariant.store _ c.self.view_is c.args.first.now c.requires.first c.find_file-file.result file.node file.path file.contents

pub replace-requires-clause-ways : goal.replace-requires-clause-ways
replace-requires-clause-ways c =
    let file = c.find_file-file.ensures in
    subst (λ ws. HasWays c.self.inside.arena ws c.find_file-file.result.contents.run) (sym c.deref_mut.ensures.value)
    (found_ways _ _ _ c.self.invariant.store _ c.self.view_is c.args.first.now c.requires.first c.find_file-file.result file.node file.path file.contents)

pub replace-requires-clause-source : goal.replace-requires-clause-source
replace-requires-clause-source c =
    let source = c.find_file-source.ensures in
    found_filled _ _ _ c.self.invariant.store _ c.self.view_is c.args.second.now c.requires.second c.find_file-source.result source.node source.path
    source.contents

pub replace-requires-clause-apart : goal.replace-requires-clause-apart
replace-requires-clause-apart c =
    let file = c.find_file-file.ensures in let source = c.find_file-source.ensures in
    found_apart _ _ _ c.self.invariant.store _ c.self.view_is c.args.first.now c.requires.first c.find_file-file.result file.node file.path file.contents
    c.args.second.now c.requires.second c.find_file-source.result source.node source.path source.contents
    (eqb-false c.find_file-file.result.node c.find_file-source.result.node (sym c.eq.ensures ∙ c.if-eq.false))

pub replace-requires-clause-most : goal.replace-requires-clause-most
replace-requires-clause-most c =
    let file = c.find_file-file.ensures in let source = c.find_file-source.ensures in
    replace_most _ _ _ c.self.invariant.store _ c.self.view_is c.args.first.now c.requires.first c.find_file-file.result file.node file.path file.contents
    c.args.second.now c.requires.second c.find_file-source.result source.node source.path source.contents

pub replace-requires-clause-room : goal.replace-requires-clause-room
replace-requires-clause-room c =
    let file = c.find_file-file.ensures in let source = c.find_file-source.ensures in
    replace_room _ _ _ c.self.invariant.store _ c.self.view_is c.args.first.now c.requires.first c.find_file-file.result file.node file.path file.contents
    c.args.second.now c.requires.second c.find_file-source.result source.node source.path source.contents c.requires.room

pub overflow_mul-result : goal.overflow_mul-result
overflow_mul-result c =
    let source = c.find_file-source.ensures in
    let count = found_blocks _ _ _ c.self.invariant.store _ c.self.view_is c.args.second.now c.requires.second c.find_file-source.result source.node source.path
    source.contents in
    let m = length (file_octets_at c.args.self.now.filestore c.args.second.now) in
    omega (arith, count, blocks_of-small m (file_small _ _ _ c.self.invariant.store _ c.self.view_is c.args.second.now))

pub overflow_add-result : goal.overflow_add-result
overflow_add-result c =
    let file = c.find_file-file.ensures in let source = c.find_file-source.ensures in let F = c.args.self.now.filestore in
    let first = found_blocks _ _ _ c.self.invariant.store _ c.self.view_is c.args.first.now c.requires.first c.find_file-file.result file.node file.path
    file.contents in
    let second = found_blocks _ _ _ c.self.invariant.store _ c.self.view_is c.args.second.now c.requires.second c.find_file-source.result source.node
    source.path source.contents in
    omega (
      arith,
      first,
      second,
      blocks_of-small (length (file_octets_at F c.args.first.now)) (file_small _ _ _ c.self.invariant.store _ c.self.view_is c.args.first.now),
      blocks_of-small (length (file_octets_at F c.args.second.now)) (file_small _ _ _ c.self.invariant.store _ c.self.view_is c.args.second.now),
    )

pub invariant_of-self : goal.invariant_of-self
invariant_of-self c =
    let file = c.find_file-file.ensures in let after = c.replace.ensures in let set = c.set_contents.ensures in
    let ways = with_items_is c.self.inside.ways c.replace.new.ways (c.replace.auto.ways ∙ c.deref_mut.ensures.len) in
    record {
      store = subst (λ ws. IsStore c.set_contents.new.arena ws c.self.inside.heads.items c.self.inside.slots.items) (sym ways)
          (found_store _ _ _ c.self.invariant.store _ c.self.view_is c.args.first.now c.requires.first c.find_file-file.result file.node file.path file.contents
          c.replace.new.arena c.set_contents.new.arena c.replace.new.self (octets_of (nodes_in c.set_contents.new.arena) c.find_file-file.result.node)
          after.only.nodes after.only.capacity after.only.spares after.only.filled
          (taken_as _ _ _ _ _ after.taken after.size) set.nodes set.fields set.name set.whole set.runs
          set.free
          set.capacity _ after.octets
          c.replace.new.ways after.only.ways
          (subst (λ ws. KeepsWays c.self.inside.arena c.replace.new.arena ws c.replace.new.ways c.find_file-file.result.contents.run) c.deref_mut.ensures.value
          after.only.other_ways));
      ordered = ordered_written (nodes_in c.self.inside.arena) c.self.invariant.store.kept.tree c.find_file-file.result.node file.node
          (kind_there _ _ _ c.self.invariant.store _ c.self.view_is c.find_file-file.result.node c.args.first.now file.node file.path c.requires.first) _ _
          (octets_of _ c.find_file-file.result.node) c.replace.new.self after.only.nodes set.nodes set.fields set.name set.whole c.self.inside.orders
          c.self.invariant.ordered;
    }

pub returns-clause-ticks : goal.returns-clause-ticks
returns-clause-ticks c =
    let file = c.find_file-file.ensures in let source = c.find_file-source.ensures in let F = c.args.self.now.filestore in
    let first = found_blocks _ _ _ c.self.invariant.store _ c.self.view_is c.args.first.now c.requires.first c.find_file-file.result file.node file.path
    file.contents in
    let second = found_blocks _ _ _ c.self.invariant.store _ c.self.view_is c.args.second.now c.requires.second c.find_file-source.result source.node
    source.path source.contents in
    let two = found_two _ _ _ c.self.invariant.store _ c.self.view_is c.args.first.now c.requires.first c.find_file-file.result file.node file.path
    file.contents
    c.args.second.now c.requires.second c.find_file-source.result source.node source.path source.contents
    (eqb-false c.find_file-file.result.node c.find_file-source.result.node (sym c.eq.ensures ∙ c.if-eq.false)) in
    (λ k. first k + 2 * second k)
    ∙ sym (ap (λ same. if same then 0 else blocks_of (length (file_octets_at F c.args.first.now)) + 2 * blocks_of
    (length (file_octets_at F c.args.second.now))) two)

pub returns-clause-replaced : goal.returns-clause-replaced
returns-clause-replaced c =
    let file = c.find_file-file.ensures in let source = c.find_file-source.ensures in let after = c.replace.ensures in let set = c.set_contents.ensures in
    let F = c.args.self.now.filestore in
    let second = found_octets _ _ _ c.self.invariant.store _ c.self.view_is c.args.second.now c.requires.second c.find_file-source.result source.node
    source.path source.contents in
    let two = found_two _ _ _ c.self.invariant.store _ c.self.view_is c.args.first.now c.requires.first c.find_file-file.result file.node file.path
    file.contents
    c.args.second.now c.requires.second c.find_file-source.result source.node source.path source.contents
    (eqb-false c.find_file-file.result.node c.find_file-source.result.node (sym c.eq.ensures ∙ c.if-eq.false)) in
    found_changes _ _ _ c.self.invariant.store _ c.self.view_is c.args.first.now c.requires.first c.find_file-file.result file.node file.path file.contents
    c.replace.new.arena c.set_contents.new.arena c.replace.new.self (octets_of (nodes_in c.set_contents.new.arena) c.find_file-file.result.node)
    after.only.nodes after.only.capacity after.only.spares after.only.filled
    (taken_as _ _ _ _ _ after.taken after.size) set.nodes set.fields set.name set.whole set.runs set.free
    set.capacity
    (file_octets_at F c.args.second.now) (after.octets ∙ sym second)
    ∙ sym (ap (λ same. with_changes c.args.self.now (if same then [] else Becomes c.args.first.now (Some (File (file_octets_at F c.args.second.now))) ∷ []))
    two)
