use Rattle.std.proofs.Common.{[], ◌∷◌, Some, ap, refl, sym, ◌∙◌, arith}
use Rattle.cfdp_arena.specs.Arena.{octets_of}
use Rattle.cfdp_actions.specs.Filestore.{File, Becomes, Stages, file_octets_at, staged_in}
use Rattle.cfdp_actions.specs.Store.{with_changes}
use Rattle.cfdp_tree.specs.declared.contents.Contents.{Contents}
use Rattle.cfdp_tree.specs.code.Nodes.{nodes_in}
use Rattle.cfdp_tree.proofs.OfStore.SlotCursors.{slot_starts}
use Rattle.cfdp_tree.proofs.OfStore.SeenLaws.{slot_filled}
use Rattle.cfdp_tree.proofs.OfStore.FoundLaws.{file_found, file_most}
use Rattle.cfdp_tree.proofs.OfStore.ExchangeLaws.{exchange_store, exchange_seen}
use Rattle.cfdp_tree.proofs.OfStore.FileLaws.{kind_there}
use Rattle.cfdp_tree.proofs.OfOrders.OrderedLaws.{ordered_written}
use Rattle.cfdp_tree.proofs.tree_store.TreeStore.exchange.Goals as goal

pub find_file-file-requires-clause-there : goal.find_file-file-requires-clause-there
find_file-file-requires-clause-there c = file_found _ _ _ c.self.invariant.store _ c.self.view_is c.args.path.now c.requires.file

pub find_file-file-requires-clause-most : goal.find_file-file-requires-clause-most
find_file-file-requires-clause-most c = file_most _ _ _ c.self.invariant.store _ c.self.view_is c.args.path.now c.requires.file

pub set_contents-requires-clause-held : goal.set_contents-requires-clause-held
set_contents-requires-clause-held c =
    (slot_filled _ _ _ c.self.invariant.store _ c.self.view_is c.from-index.result
    (omega (arith, c.from-index.ensures, c.requires.slot)) c.index.result.now c.index.ensures).held

pub invariant_of-self : goal.invariant_of-self
invariant_of-self c =
    let file = c.find_file-file.ensures in let set = c.set_contents.ensures in let later = c.set_contents.new.arena in let b = c.find_file-file.result.node in
    let after = c.hold.new.self in let held = c.hold.ensures in
    record {
      store = exchange_store _ _ _ c.self.invariant.store _ c.self.view_is b c.args.path.now file.node file.path c.requires.file
          c.from-index.result (omega (arith, c.from-index.ensures, c.requires.slot)) c.index.result.now c.index.ensures later
          (octets_of (nodes_in later) b) set.nodes set.fields set.name set.whole set.runs set.free set.capacity
          after (held.contents ∙ file.contents) (slot_starts later after (held.block ∙ ap (λ (x : Contents). x.run.first) (sym held.contents)) held.index
          (held.blank ∙ ap (λ (x : Contents). x.size) (sym held.contents)) held.gap);
      ordered = ordered_written (nodes_in c.self.inside.arena) c.self.invariant.store.kept.tree b file.node
          (kind_there _ _ _ c.self.invariant.store _ c.self.view_is b c.args.path.now file.node file.path c.requires.file) _ _
          (octets_of _ b) c.index.result.now.contents refl set.nodes set.fields set.name set.whole c.self.inside.orders c.self.invariant.ordered;
    }

pub returns-clause-exchanged : goal.returns-clause-exchanged
returns-clause-exchanged c =
    let file = c.find_file-file.ensures in let set = c.set_contents.ensures in let later = c.set_contents.new.arena in let b = c.find_file-file.result.node in
    let after = c.hold.new.self in let held = c.hold.ensures in
    let F = c.args.self.now.filestore in let path = c.args.path.now in
    exchange_seen _ _ _ c.self.invariant.store _ c.self.view_is b path file.node file.path c.requires.file
    c.from-index.result (omega (arith, c.from-index.ensures, c.requires.slot)) c.index.result.now c.index.ensures later
    (octets_of (nodes_in later) b) set.nodes set.fields set.name set.whole set.runs set.free set.capacity
    after (held.contents ∙ file.contents) (slot_starts later after (held.block ∙ ap (λ (x : Contents). x.run.first) (sym held.contents)) held.index (held.blank
    ∙ ap (λ (x : Contents). x.size) (sym held.contents)) held.gap)
    ∙ ap (λ k. with_changes c.args.self.now (Stages k (file_octets_at F path) ∷ Becomes path (Some (File (staged_in F k))) ∷ [])) c.from-index.ensures
