use Rattle.std.proofs.Common.{◌≡◌, ◌-◌, ◌∷◌, suc, AllPairs, Contains, sym, ap, ◌∙◌, subst, arith}
use Rattle.std.proofs.lemmas.Bool.{eqb-true}
use Rattle.std.proofs.lemmas.List.Elements.{Contains-get_or}
use Rattle.std.specs.Prelude.{◌≢◌}
use Rattle.cfdp_arena.specs.Arena.{with_block}
use Rattle.cfdp_arena.proofs.Laws.{free_count-written}
use Rattle.cfdp_tree.specs.code.NodeFields.{NodeFields, node_fields_of}
use Rattle.cfdp_tree.specs.code.Nodes.{nodes_in}
use Rattle.cfdp_tree.specs.code.Tree.{node_fields_at, Relinked}
use Rattle.cfdp_tree.specs.code.Index.{index_chain, list_of, without_node}
use Rattle.cfdp_tree.proofs.OfNodes.TreeLaws.{node_live, node_octets}
use Rattle.cfdp_tree.proofs.OfIndex.IndexLaws.{chain_some, once_first, kept_chain}
use Rattle.cfdp_tree.proofs.OfNodes.LinkLaws.{link_noted, link_fields, link_links, next_here, next_other}
use Rattle.cfdp_tree.proofs.OfIndex.CutLaws.{without_first, without_all, cut_chain, in_list, in_nodes}
use Rattle.cfdp_tree.proofs.OfRuns.SpareLaws.{runs_stay}
use Rattle.cfdp_tree.proofs.index.take_out.Goals as goal

pub returns-then-eq-clause-list : goal.returns-then-eq-clause-list
returns-then-eq-clause-list c =
    let arena = c.args.arena.now in let nodes = nodes_in arena in let head = c.args.head.now in let b = c.args.node in
    let some = c.if-head-gt0.true in
    let all : head.listed ≡ suc (head.listed - 1) = omega arith in
    let first : head.first ≡ b = eqb-true head.first b (sym c.eq.ensures ∙ c.if-eq.true) in
    let next_is : c.same_head_of-next.result ≡ (node_fields_at nodes b).same_head =
    c.same_head_of-next.ensures.value ∙ ap (λ o. (node_fields_of o).same_head) (node_octets arena b c.requires.node c.bytes.result.now c.bytes.ensures.octets)
    in
    let rest = index_chain nodes (head.listed - 1) (node_fields_at nodes b).same_head in
    let list_is : list_of nodes head ≡ b ∷ rest = (λ k. index_chain nodes (all k) (first k)) in
    ap (index_chain nodes (head.listed - 1)) next_is
    ∙ sym (without_first b rest (once_first b rest (subst (AllPairs (λ x y. x ≢ y)) list_is c.requires.once)))
    ∙ ap (without_node b) (sym list_is)

pub returns-in_default-clause-list : goal.returns-in_default-clause-list
returns-in_default-clause-list c =
    let list = list_of (nodes_in c.args.arena.now) c.args.head.now in
    sym (without_all c.args.node list (λ i d less same. c.in_default.ensures.none (subst (Contains list) (sym same) (Contains-get_or list i d less))))

pub bytes_mut-requires : goal.bytes_mut-requires
bytes_mut-requires c =
    let arena = c.args.arena.now in let before = c.in-Some.before in
    record { live = node_live arena before (in_nodes (nodes_in arena) c.args.head.now before c.in-Some.ensures.there c.requires.nodes) }

pub returns-clause-list : goal.returns-clause-list
returns-clause-list c =
    let arena = c.args.arena.now in let nodes = nodes_in arena in let head = c.args.head.now in let b = c.args.node in
    let p = c.in-Some.before in let before = c.in-Some.ensures in
    let new = c.set_same_head.new.block in let e = c.set_same_head.ensures in let shown = c.bytes_mut.result.now in let is = c.bytes_mut.ensures.octets in
    let link = c.same_head_of-next.result in
    let node = in_nodes nodes head p before.there c.requires.nodes in
    let next_is : link ≡ (node_fields_at nodes b).same_head =
    c.same_head_of-next.ensures.value ∙ ap (λ o. (node_fields_of o).same_head) (node_octets arena b c.requires.node c.bytes.result.now c.bytes.ensures.octets)
    in
    let some = chain_some nodes (head.listed - 1) head.first p before.there in
    let all : head.listed ≡ suc (head.listed - 1) = omega arith in
    let linked = next_here nodes p new node ∙ ap (λ (r : NodeFields). r.same_head) (link_fields arena p shown new link node is e.fields e.header e.name)
    ∙ next_is in
    let once = subst (λ n. AllPairs (λ x y. x ≢ y) (index_chain nodes n head.first)) all c.requires.once in
    ap (λ xs. index_chain xs (head.listed - 1) head.first) (link_noted arena p shown new link node is e.fields e.header e.name)
    ∙ cut_chain nodes p b before.before (with_block nodes p new) (next_other nodes p new node) linked (head.listed - 1) head.first once before.there
    ∙ ap (λ n. without_node b (index_chain nodes n head.first)) (sym all)

pub returns-clause-others : goal.returns-clause-others
returns-clause-others c =
    let arena = c.args.arena.now in let nodes = nodes_in arena in let head = c.args.head.now in
    let p = c.in-Some.before in let before = c.in-Some.ensures in
    let new = c.set_same_head.new.block in let e = c.set_same_head.ensures in let shown = c.bytes_mut.result.now in let is = c.bytes_mut.ensures.octets in
    let link = c.same_head_of-next.result in
    let node = in_nodes nodes head p before.there c.requires.nodes in
    (λ other apart. ap (λ xs. index_chain xs other.listed other.first) (link_noted arena p shown new link node is e.fields e.header e.name)
    ∙ kept_chain nodes (with_block nodes p new) p (next_other nodes p new node) other.listed other.first
    (λ k d within same. apart k d within (subst (Contains (list_of nodes head)) same (in_list nodes head p before.there))))

pub returns-clause-links : goal.returns-clause-links
returns-clause-links c =
    let arena = c.args.arena.now in let p = c.in-Some.before in let before = c.in-Some.ensures in
    let new = c.set_same_head.new.block in let e = c.set_same_head.ensures in let shown = c.bytes_mut.result.now in let is = c.bytes_mut.ensures.octets in
    let link = c.same_head_of-next.result in
    let node = in_nodes (nodes_in arena) c.args.head.now p before.there c.requires.nodes in
    subst (Relinked (nodes_in arena)) (sym (link_noted arena p shown new link node is e.fields e.header e.name))
    (link_links arena p shown new link node is e.fields e.header e.name c.requires.tree e.whole)

pub returns-clause-runs : goal.returns-clause-runs
returns-clause-runs c =
    let arena = c.args.arena.now in let before = c.in-Some.before in
    runs_stay arena before c.set_same_head.new.block (in_nodes (nodes_in arena) c.args.head.now before c.in-Some.ensures.there c.requires.nodes)

pub returns-clause-free : goal.returns-clause-free
returns-clause-free c =
    let arena = c.args.arena.now in let before = c.in-Some.before in
    free_count-written arena before c.set_same_head.new.block
    (node_live arena before (in_nodes (nodes_in arena) c.args.head.now before c.in-Some.ensures.there c.requires.nodes))
