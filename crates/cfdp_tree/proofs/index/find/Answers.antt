use Rattle.std.proofs.Common.{◌≡◌, ◌+◌, ◌-◌, suc, None, length, sym, ap, ◌∙◌, subst, arith, inl, inr}
use Rattle.std.proofs.lemmas.List.Elements.{Contains-append_cases, All-tail}
use Rattle.std.specs.Prelude.{All, Contains}
use Rattle.std.proofs.lemmas.Option.{none-some}
use Rattle.std.proofs.lemmas.Bool.{both_ways}
use Rattle.cfdp_tree.specs.code.NodeFields.{node_fields_of}
use Rattle.cfdp_tree.specs.code.Nodes.{nodes_in}
use Rattle.cfdp_tree.specs.code.Tree.{IsNode, IsEntry, node_fields_at}
use Rattle.cfdp_tree.specs.code.Index.{index_chain, list_of, bucket_of, HasHead, IsHead}
use Rattle.cfdp_tree.proofs.OfNodes.TreeLaws.{node_live, node_octets}
use Rattle.cfdp_tree.proofs.OfIndex.IndexLaws.{chain_more, chain_some, own_first, rest_has}
use Rattle.cfdp_tree.proofs.OfIndex.HeadLaws.{head_here}
use Rattle.cfdp_tree.proofs.index.find.Goals as goal
use Rattle.cfdp_order.proofs.SplitLaws.{All_front}

pub loop-step-init : goal.loop-step-init
loop-step-init c =
    let nodes = nodes_in c.args.arena.now in let heads = c.args.heads.now in let bucket = c.bucket_of-bucket.result in
    let within = c.bucket_of-bucket.ensures.within in let head = c.index-heads-bucket.result in
    let is = subst (IsHead nodes None (length heads) bucket) (head_here heads bucket head within c.index-heads-bucket.is)
    (c.requires.index.each bucket within) in
    let listed = All_front (HasHead nodes None (length heads) bucket) (list_of nodes head) is.rest is.own in
    let all : head.listed ≡ head.listed - 0 = omega arith in
    record {
      own = subst (λ n. All (IsNode nodes) (index_chain nodes n head.first)) all (λ i d less. (listed i d less).node);
      left = (λ b entry has. subst (λ n. Contains (index_chain nodes n head.first) b) all has);
    }

pub is_entry-requires-clause-node : goal.is_entry-requires-clause-node
is_entry-requires-clause-node c =
    let l = c.loop-step in let nodes = nodes_in c.args.arena.now in let count = c.index-heads-bucket.result.listed in
    let m = count - (l._step + 1) in
    let more : count - l._step ≡ suc m = omega arith in
    own_first (IsNode nodes) l.node (index_chain nodes m (node_fields_at nodes l.node).same_head)
    (subst (All (IsNode nodes)) (chain_more nodes (count - l._step) m l.node more) l.invariant.own)

pub bytes-requires : goal.bytes-requires
bytes-requires c =
    let l = c.loop-step in let nodes = nodes_in c.args.arena.now in let count = c.index-heads-bucket.result.listed in
    let m = count - (l._step + 1) in
    let more : count - l._step ≡ suc m = omega arith in
    record {
      live = node_live c.args.arena.now l.node (own_first (IsNode nodes) l.node (index_chain nodes m (node_fields_at nodes l.node).same_head)
          (subst (All (IsNode nodes)) (chain_more nodes (count - l._step) m l.node more) l.invariant.own));
    }

pub loop-step-preserved : goal.loop-step-preserved
loop-step-preserved c =
    let l = c.loop-step in let nodes = nodes_in c.args.arena.now in let count = c.index-heads-bucket.result.listed in
    let m = count - (l._step + 1) in
    let next = (node_fields_at nodes l.node).same_head in
    let more : count - l._step ≡ suc m = omega arith in
    let list = chain_more nodes (count - l._step) m l.node more in
    let listed = subst (All (IsNode nodes)) list l.invariant.own in
    let node = own_first (IsNode nodes) l.node (index_chain nodes m next) listed in
    let next_is : next ≡ c.same_head_of-node.result =
    ap (λ o. (node_fields_of o).same_head) (sym (node_octets c.args.arena.now l.node node c.bytes.result.now c.bytes.ensures.octets))
    ∙ sym c.same_head_of-node.ensures.value in
    record {
      own = subst (λ b. All (IsNode nodes) (index_chain nodes m b)) next_is (All-tail (IsNode nodes) l.node (index_chain nodes m next) listed);
      left = (λ b entry has. subst (λ n. Contains (index_chain nodes m n) b) next_is
          (rest_has l.node (index_chain nodes m next) b (subst (λ xs. Contains xs b) list (l.invariant.left b entry has))
          (λ e. both_ways _ c.if-is_entry.false (c.is_entry.ensures.1 (subst (IsEntry nodes c.args.directory c.args.name.now) (sym e) entry)))));
    }

pub returns-then-head-eq0-clause-none : goal.returns-then-head-eq0-clause-none
returns-then-head-eq0-clause-none c b entry =
    let l = c.loop-step in let nodes = nodes_in c.args.arena.now in let heads = c.args.heads.now in let bucket = c.bucket_of-bucket.result in
    let within = c.bucket_of-bucket.ensures.within in let head = c.index-heads-bucket.result in
    let is = subst (IsHead nodes None (length heads) bucket) (head_here heads bucket head within c.index-heads-bucket.is)
    (c.requires.index.each bucket within) in
    let has = is.all b record {
      node = entry.node;
      bucket = (λ k. bucket_of (entry.there k) (entry.named k) (length heads)) ∙ sym c.bucket_of-bucket.ensures.bucket;
      inside = none-some _;
    } in
    elim (Contains-append_cases (list_of nodes head) is.rest b has) [
      | inl listed ↦ (
          let some = chain_some nodes (head.listed - l._step) l.node b (l.invariant.left b entry listed) in
          let over = c.loop-step-test.false in
          omega arith)
      | inr beside ↦ omega (arith, beside.1, is.count, c.if-head-eq0.true)
    ]
