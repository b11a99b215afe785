use Rattle.std.proofs.Common.{◌≡◌, ◌+◌, ◌-◌, suc, sym, ap, ◌∙◌, subst, arith}
use Rattle.std.proofs.lemmas.Bool.{eqb-true, eqb-false}
use Rattle.std.specs.Prelude.{All, Contains}
use Rattle.std.proofs.lemmas.List.Elements.{All-tail}
use Rattle.cfdp_paths.proofs.Below.{Contains-cons}
use Rattle.cfdp_tree.specs.code.NodeFields.{node_fields_of}
use Rattle.cfdp_tree.specs.code.Nodes.{nodes_in}
use Rattle.cfdp_tree.specs.code.Tree.{IsNode, node_fields_at}
use Rattle.cfdp_tree.specs.code.Index.{index_chain}
use Rattle.cfdp_tree.proofs.OfNodes.TreeLaws.{node_live, node_octets}
use Rattle.cfdp_tree.proofs.OfIndex.IndexLaws.{chain_more, chain_some, own_first, rest_has, has_first, chain_one}
use Rattle.cfdp_tree.proofs.index.node_before.Goals as goal

pub loop-step-init : goal.loop-step-init
loop-step-init c =
    let nodes = nodes_in c.args.arena.now in let head = c.args.head.now in
    let all : head.listed ≡ head.listed + 1 - 1 = omega arith in
    record {
      nodes = subst (λ n. All (IsNode nodes) (index_chain nodes n head.first)) all c.requires.nodes;
      later = (λ some. c.requires.later (omega (arith, some)));
      left = (λ has. subst (λ n. Contains (index_chain nodes n head.first) c.args.node) all has);
      following = (λ b has. has);
    }

pub bytes-requires : goal.bytes-requires
bytes-requires c =
    let l = c.loop-step in let nodes = nodes_in c.args.arena.now in let count = c.args.head.now.listed in
    let m = count - l._step in
    let more : count + 1 - l._step ≡ suc m = omega arith in
    let list = chain_more nodes (count + 1 - l._step) m l.before more in
    record {
      live = node_live c.args.arena.now l.before (own_first (IsNode nodes) l.before (index_chain nodes m (node_fields_at nodes l.before).same_head)
          (subst (All (IsNode nodes)) list l.invariant.nodes));
    }

pub loop-step-preserved : goal.loop-step-preserved
loop-step-preserved c =
    let l = c.loop-step in let nodes = nodes_in c.args.arena.now in let b = c.args.node in let count = c.args.head.now.listed in
    let m = count - l._step in
    let next = (node_fields_at nodes l.before).same_head in
    let more : count + 1 - l._step ≡ suc m = omega arith in
    let same : m ≡ count + 1 - (l._step + 1) = omega arith in
    let fewer : m ≡ suc (count - (l._step + 1)) = omega arith in
    let list = chain_more nodes (count + 1 - l._step) m l.before more in
    let owned = subst (All (IsNode nodes)) list l.invariant.nodes in
    let node = own_first (IsNode nodes) l.before (index_chain nodes m next) owned in
    let next_is : next ≡ c.same_head_of-next.result =
    ap (λ o. (node_fields_of o).same_head) (sym (node_octets c.args.arena.now l.before node c.bytes.result.now c.bytes.ensures.octets))
    ∙ sym c.same_head_of-next.ensures.value in
    let rest_is : index_chain nodes m next ≡ index_chain nodes (count + 1 - (l._step + 1)) c.same_head_of-next.result =
    (λ k. index_chain nodes (same k) (next_is k)) in
    record {
      nodes = subst (All (IsNode nodes)) rest_is (All-tail (IsNode nodes) l.before (index_chain nodes m next) owned);
      later = (λ some. eqb-false c.same_head_of-next.result b (sym c.eq.ensures ∙ c.if-eq.false));
      left = (λ has. subst (λ xs. Contains xs b) rest_is
          (rest_has l.before (index_chain nodes m next) b (subst (λ xs. Contains xs b) list (l.invariant.left has)) (l.invariant.later (omega arith))));
      following = (λ x has. l.invariant.following x (subst (λ n. Contains (index_chain nodes n l.before) x) (sym fewer)
          (Contains-cons (index_chain nodes (count - (l._step + 1)) next) l.before x
          (subst (λ y. Contains (index_chain nodes (count - (l._step + 1)) y) x) (sym next_is) has))));
    }

pub returns-then-eq-clause-before : goal.returns-then-eq-clause-before
returns-then-eq-clause-before c =
    let l = c.loop-step in let nodes = nodes_in c.args.arena.now in let count = c.args.head.now.listed in
    let m = count - l._step in
    let more : count + 1 - l._step ≡ suc m = omega arith in
    let node = own_first (IsNode nodes) l.before (index_chain nodes m (node_fields_at nodes l.before).same_head)
    (subst (All (IsNode nodes)) (chain_more nodes (count + 1 - l._step) m l.before more) l.invariant.nodes) in
    ap (λ o. (node_fields_of o).same_head) (sym (node_octets c.args.arena.now l.before node c.bytes.result.now c.bytes.ensures.octets))
    ∙ sym c.same_head_of-next.ensures.value
    ∙ eqb-true c.same_head_of-next.result c.args.node (sym c.eq.ensures ∙ c.if-eq.true)

pub returns-then-eq-clause-there : goal.returns-then-eq-clause-there
returns-then-eq-clause-there c =
    let l = c.loop-step in let nodes = nodes_in c.args.arena.now in let count = c.args.head.now.listed in
    let m = count - (l._step + 1) in
    let more : count - l._step ≡ suc m = omega arith in
    l.invariant.following l.before (subst (λ n. Contains (index_chain nodes n l.before) l.before) (sym more)
    (has_first l.before (index_chain nodes m (node_fields_at nodes l.before).same_head)))

pub returns-clause-none : goal.returns-clause-none
returns-clause-none c has =
    let l = c.loop-step in let nodes = nodes_in c.args.arena.now in let count = c.args.head.now.listed in
    let there = l.invariant.left has in
    let some = chain_some nodes (count + 1 - l._step) l.before c.args.node there in
    let over = c.loop-step-test.false in
    let one : count + 1 - l._step ≡ 1 = omega arith in
    l.invariant.later some (chain_one nodes l.before c.args.node (subst (λ n. Contains (index_chain nodes n l.before) c.args.node) one there))
