use Rattle.std.proofs.Common.{◌≡◌, ◌+◌, Some, length, take, sym, ap, ◌∙◌, subst, arith}
use Rattle.std.specs.Prelude.{slice_range}
use Rattle.std.proofs.lemmas.List.{length-take-le}
use Rattle.cfdp_actions.specs.declared.kind.Kind.TheVariants as kind
use Rattle.cfdp_actions.specs.Filestore.{octets_in}
use Rattle.cfdp_tree.specs.declared.contents.Contents.{Contents}
use Rattle.cfdp_tree.specs.code.NodeFields.{node_fields_of}
use Rattle.cfdp_tree.specs.code.Contents.{IsFilled, contents_in}
use Rattle.cfdp_tree.specs.code.Kept.{contents_of_fields}
use Rattle.cfdp_tree.specs.code.Ways.{HasWays}
use Rattle.cfdp_tree.specs.Found.{beginning, fitting, octets_read, with_octets}
use Rattle.cfdp_tree.proofs.OfRuns.ContentsLaws.{length-contents}
use Rattle.cfdp_tree.proofs.OfStore.SeenLaws.{seen_none}
use Rattle.cfdp_tree.proofs.OfRuns.CopiedLaws.{directory_there, file_there, file_held, file_ways, none_copied, copied}
use Rattle.cfdp_tree.proofs.tree_store.TreeStore.read_at.Goals as goal

pub returns-in_err-node-clause-count : goal.returns-in_err-node-clause-count
returns-in_err-node-clause-count c =
    c.from_residual.ensures ∙ sym (ap (λ node. octets_read node c.args.at c.args.buffer.now)
    (seen_none _ _ _ c.self.invariant.store _ c.self.view_is c.args.names c.in_err-node.ensures.none))

pub returns-in_err-node-clause-octets : goal.returns-in_err-node-clause-octets
returns-in_err-node-clause-octets c =
    sym (ap (λ node. with_octets (octets_in node) c.args.at c.args.buffer.now)
    (seen_none _ _ _ c.self.invariant.store _ c.self.view_is c.args.names c.in_err-node.ensures.none)
    ∙ none_copied c.args.at c.args.buffer.now)

pub returns-in-Directory-clause-count : goal.returns-in-Directory-clause-count
returns-in-Directory-clause-count c =
    let found = c.in_ok-node.ensures in
    let there = directory_there _ _ _ c.self.invariant.store _ c.self.view_is c.in_ok-node.node c.args.names c.bytes-block.result.now found.node found.path
    c.bytes-block.ensures.octets c.in-Directory.ensures in
    sym (ap (λ node. octets_read node c.args.at c.args.buffer.now) there)

pub returns-in-Directory-clause-octets : goal.returns-in-Directory-clause-octets
returns-in-Directory-clause-octets c =
    let found = c.in_ok-node.ensures in
    let there = directory_there _ _ _ c.self.invariant.store _ c.self.view_is c.in_ok-node.node c.args.names c.bytes-block.result.now found.node found.path
    c.bytes-block.ensures.octets c.in-Directory.ensures in
    sym (ap (λ node. with_octets (octets_in node) c.args.at c.args.buffer.now) there ∙ none_copied c.args.at c.args.buffer.now)

pub contents_of-file-requires : goal.contents_of-file-requires
contents_of-file-requires c =
    let found = c.in_ok-node.ensures in
    (file_held _ _ _ c.self.invariant.store _ c.self.view_is c.in_ok-node.node c.args.names c.bytes-block.result.now found.node found.path
    c.bytes-block.ensures.octets c.in-File.ensures).1

pub get-requires-clause-filled : goal.get-requires-clause-filled
get-requires-clause-filled c =
    let found = c.in_ok-node.ensures in
    let held = file_held _ _ _ c.self.invariant.store _ c.self.view_is c.in_ok-node.node c.args.names c.bytes-block.result.now found.node found.path
    c.bytes-block.ensures.octets c.in-File.ensures in
    subst (IsFilled c.self.inside.arena) (sym c.contents_of-file.ensures) held.0

pub get-requires-clause-ways : goal.get-requires-clause-ways
get-requires-clause-ways c =
    let found = c.in_ok-node.ensures in
    let has = file_ways _ _ _ c.self.invariant.store _ c.self.view_is c.in_ok-node.node c.args.names c.bytes-block.result.now found.node found.path
    c.bytes-block.ensures.octets c.in-File.ensures in
    subst (λ ws. HasWays c.self.inside.arena ws c.contents_of-file.result.run) (sym c.deref-in-File.ensures.value)
    (subst (λ (x : Contents). HasWays c.self.inside.arena c.self.inside.ways.items x.run) (sym c.contents_of-file.ensures) has)

pub returns-in-File-clause-count : goal.returns-in-File-clause-count
returns-in-File-clause-count c =
    let found = c.in_ok-node.ensures in let arena = c.self.inside.arena in let contents = contents_of_fields kind.File
    (node_fields_of c.bytes-block.result.now) in
    let there = file_there _ _ _ c.self.invariant.store _ c.self.view_is c.in_ok-node.node c.args.names c.bytes-block.result.now found.node found.path
    c.bytes-block.ensures.octets c.in-File.ensures in
    let held = file_held _ _ _ c.self.invariant.store _ c.self.view_is c.in_ok-node.node c.args.names c.bytes-block.result.now found.node found.path
    c.bytes-block.ensures.octets c.in-File.ensures in
    let size = ap (λ (x : Contents). x.size) c.contents_of-file.ensures in
    let count : c.min-count.result ≡ fitting (contents_in arena contents) c.args.at c.args.buffer.now =
    omega (arith, c.min-count.ensures, c.min-start.ensures, c.from-size.ensures, size, length-contents arena contents held.0) in
    ap Some count ∙ sym (ap (λ node. octets_read node c.args.at c.args.buffer.now) there)

pub returns-in-File-clause-octets : goal.returns-in-File-clause-octets
returns-in-File-clause-octets c =
    let found = c.in_ok-node.ensures in let arena = c.self.inside.arena in let contents = contents_of_fields kind.File
    (node_fields_of c.bytes-block.result.now) in
    let there = file_there _ _ _ c.self.invariant.store _ c.self.view_is c.in_ok-node.node c.args.names c.bytes-block.result.now found.node found.path
    c.bytes-block.ensures.octets c.in-File.ensures in
    let held = file_held _ _ _ c.self.invariant.store _ c.self.view_is c.in_ok-node.node c.args.names c.bytes-block.result.now found.node found.path
    c.bytes-block.ensures.octets c.in-File.ensures in
    let size = ap (λ (x : Contents). x.size) c.contents_of-file.ensures in let long = length-contents arena contents held.0 in
    let count : c.min-count.result ≡ fitting (contents_in arena contents) c.args.at c.args.buffer.now =
    omega (arith, c.min-count.ensures, c.min-start.ensures, c.from-size.ensures, size, long) in
    let start : c.min-start.result ≡ beginning (contents_in arena contents) c.args.at = omega (arith, c.min-start.ensures, c.from-size.ensures, size, long) in
    let whole : length (take c.min-count.result c.args.buffer.now) ≡ c.min-count.result =
    length-take-le c.min-count.result c.args.buffer.now (omega (arith, count)) in
    copied (contents_in arena contents) c.args.buffer.now c.get.new.buffer c.args.at c.min-start.result c.min-count.result
    (length (take c.min-count.result c.args.buffer.now)) start count whole
    (c.get.ensures.octets ∙ ap (λ (x : Contents). slice_range (contents_in arena x) c.min-start.result (c.min-start.result
    + length (take c.min-count.result c.args.buffer.now))) c.contents_of-file.ensures)
    ∙ sym (ap (λ node. with_octets (octets_in node) c.args.at c.args.buffer.now) there)
