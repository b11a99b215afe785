use Rattle.std.proofs.Common.{◌≡◌, ◌<◌, ℕ, None, length, sym, ap, ◌∙◌, subst, inl, inr, arith}
use Rattle.std.proofs.lemmas.List.{length-map}
use Rattle.std.proofs.lemmas.List.Elements.{All-contains, Contains-append_cases}
use Rattle.std.specs.Prelude.{All, Contains, slice_index_or}
use Rattle.std.proofs.lemmas.Option.{none-some}
use Rattle.cfdp_tree.specs.declared.index.ListHead.{ListHead}
use Rattle.cfdp_tree.specs.code.Nodes.{only_node, nodes_in}
use Rattle.cfdp_tree.specs.code.Tree.{home, name_at}
use Rattle.cfdp_tree.specs.code.Index.{no_head, bucket_of, list_of, without_node, head_count, HasHead, IsHead}
use Rattle.cfdp_tree.proofs.OfNodes.LinkLaws.{relinked_entries}
use Rattle.cfdp_tree.proofs.OfIndex.HeadLaws.{pairs_left, head_here}
use Rattle.cfdp_tree.proofs.OfIndex.UnlistLaws.{removed}
use Rattle.cfdp_tree.proofs.index.remove.Goals as goal
use Rattle.cfdp_order.proofs.SplitLaws.{All_front}
use Rattle.cfdp_arena.proofs.Laws.{live_count-same}

pub take_out-requires-clause-nodes : goal.take_out-requires-clause-nodes
take_out-requires-clause-nodes c =
    let nodes = nodes_in c.args.arena.now in let heads = c.args.heads.now in let bucket = c.bucket_of-bucket.result in let within =
    c.bucket_of-bucket.ensures.within in
    let head = c.index-heads-bucket.result in
    let is = subst (IsHead nodes None (length heads) bucket) (head_here heads bucket head within c.index-heads-bucket.is)
    (c.requires.index.each bucket within) in
    let listed = All_front (HasHead nodes None (length heads) bucket) (list_of nodes head) is.rest is.own in
    (λ i d less. (listed i d less).node)

pub take_out-requires-clause-once : goal.take_out-requires-clause-once
take_out-requires-clause-once c =
    let nodes = nodes_in c.args.arena.now in let heads = c.args.heads.now in let bucket = c.bucket_of-bucket.result in let within =
    c.bucket_of-bucket.ensures.within in
    let head = c.index-heads-bucket.result in
    let is = subst (IsHead nodes None (length heads) bucket) (head_here heads bucket head within c.index-heads-bucket.is)
    (c.requires.index.each bucket within) in
    pairs_left (list_of nodes head) is.rest is.once

pub take_out-requires-clause-there : goal.take_out-requires-clause-there
take_out-requires-clause-there c missing =
    let nodes = nodes_in c.args.arena.now in let heads = c.args.heads.now in let bucket = c.bucket_of-bucket.result in let within =
    c.bucket_of-bucket.ensures.within in
    let entry = c.requires.entry in let b = c.args.node in let head = c.index-heads-bucket.result in
    let is = subst (IsHead nodes None (length heads) bucket) (head_here heads bucket head within c.index-heads-bucket.is)
    (c.requires.index.each bucket within) in
    let has = is.all b record {
      node = entry.node;
      bucket = (λ i. bucket_of (entry.there i) (entry.named i) (length heads)) ∙ sym c.bucket_of-bucket.ensures.bucket;
      inside = none-some _;
    } in
    elim (Contains-append_cases (list_of nodes head) is.rest b has) [
      | inl listed ↦ absurd (missing listed)
      | inr beside ↦ omega (arith, beside.1, is.count)
    ]

pub take_out-requires-clause-small : goal.take_out-requires-clause-small
take_out-requires-clause-small c =
    let heads = c.args.heads.now in let bucket = c.bucket_of-bucket.result in let within = c.bucket_of-bucket.ensures.within in
    let same = head_here heads bucket c.index-heads-bucket.result within c.index-heads-bucket.is in
    subst (λ (h : ListHead). h.first < 65536) same (c.requires.index.each bucket within).small

pub returns-clause-index : goal.returns-clause-index
returns-clause-index c =
    let old = c.args.arena.now in let new = c.take_out.new.arena in let nodes = nodes_in old in let later = nodes_in new in
    let heads = c.args.heads.now in let bucket = c.bucket_of-bucket.result in let within = c.bucket_of-bucket.ensures.within in
    let entry = c.requires.entry in let b = c.args.node in let index = c.requires.index in let e = c.take_out.ensures in
    let head = c.index-heads-bucket.result in
    let same = head_here heads bucket head within c.index-heads-bucket.is in
    let was = slice_index_or heads bucket no_head in
    let own_directory : bucket_of (home nodes b) (name_at nodes b) (length heads) ≡ bucket =
    (λ i. bucket_of (entry.there i) (entry.named i) (length heads)) ∙ sym c.bucket_of-bucket.ensures.bucket in
    let long : length later ≡ length nodes = length-map new only_node ∙ e.size ∙ sym (length-map old only_node) in
    let listed : (j : ℕ) → j < length heads → All (HasHead nodes None (length heads) j) (list_of nodes (slice_index_or heads j no_head)) = (λ j inside. (
    let is = index.each j inside in
    All_front (HasHead nodes None (length heads) j) (list_of nodes (slice_index_or heads j no_head)) is.rest is.own)) in
    removed nodes later heads b bucket within index entry.node c.take_out.result own_directory (relinked_entries nodes later e.links) e.small
    (e.list ∙ ap (λ h. without_node b (list_of nodes h)) (sym same))
    (λ j inside other. (let list = list_of nodes (slice_index_or heads j no_head) in
    e.others (slice_index_or heads j no_head) (λ i d less has. other (
    sym (listed j inside i d less).bucket
    ∙ (All-contains (HasHead nodes None (length heads) bucket) (list_of nodes was) (slice_index_or list i d)
    (listed bucket within) (subst (λ h. Contains (list_of nodes h) (slice_index_or list i d)) (sym same) has)).bucket))))
    (omega (arith, e.few, ap (λ (h : ListHead). h.listed) same))
    (e.count ∙ ap (λ (h : ListHead). head_count h) (sym same))
    (live_count-same later nodes long e.links.nodes)
