use Rattle.std.proofs.Common.{◌+◌, ◌<◌, Some, None, length, sym, ap, ◌∙◌, subst, arith}
use Rattle.std.proofs.lemmas.List.{length-map}
use Rattle.std.proofs.lemmas.List.Sums.{get_or-le-sum_by}
use Rattle.std.specs.Prelude.{◌==◌, if◌then◌else◌, slice_set}
use Rattle.cfdp_arena.proofs.Chains.{live_within}
use Rattle.cfdp_tree.specs.declared.index.ListHead.{ListHead}
use Rattle.cfdp_tree.specs.code.NodeFields.{NodeFields}
use Rattle.cfdp_tree.specs.code.Nodes.{only_node, nodes_in}
use Rattle.cfdp_tree.specs.code.Tree.{Relinked}
use Rattle.cfdp_tree.specs.code.Index.{no_head, bucket_of, head_count, IsIndex}
use Rattle.cfdp_tree.proofs.OfNodes.TreeLaws.{node_live}
use Rattle.cfdp_tree.proofs.OfNodes.LinkLaws.{link_noted, link_fields, link_name, link_links}
use Rattle.cfdp_tree.proofs.OfRuns.SpareLaws.{runs_stay}
use Rattle.cfdp_tree.proofs.OfIndex.HeadLaws.{head_here}
use Rattle.cfdp_tree.proofs.OfIndex.InsertLaws.{inserted_beside, inserted}
use Rattle.cfdp_tree.proofs.index.insert.Goals as goal
use Rattle.cfdp_arena.proofs.Laws.{live_count-le, free_count-written}

pub set_same_head-requires : goal.set_same_head-requires
set_same_head-requires c =
    let heads = c.args.heads.now in let bucket = c.bucket_of-bucket.result in let within = c.bucket_of-bucket.ensures.within in
    let same = head_here heads bucket c.index-heads-bucket.result within c.index-heads-bucket.is in
    record { small = subst (λ (h : ListHead). h.first < 65536) same (c.requires.index.each bucket within).small }

-- a head has no more nodes than there are blocks, and one less while one node is out
pub overflow_add-heads : goal.overflow_add-heads
overflow_add-heads c =
    let heads = c.args.heads.now in let bucket = c.bucket_of-bucket.result in let within = c.bucket_of-bucket.ensures.within in
    let same = head_here heads bucket c.index-heads-bucket.result within c.index-heads-bucket.is in
    let full = c.if-head-eq-MOST_LISTED.true in
    omega (
      arith,
      full,
      ap (λ (h : ListHead). head_count h) same,
      get_or-le-sum_by (λ (h : ListHead). head_count h) heads bucket no_head within,
      c.requires.index.counted,
      live_count-le (nodes_in c.args.arena.now),
      length-map c.args.arena.now only_node,
      c.free-free.ensures.capacity,
    )

pub overflow_add-heads-2 : goal.overflow_add-heads-2
overflow_add-heads-2 c =
    let heads = c.args.heads.now in let bucket = c.bucket_of-bucket.result in let within = c.bucket_of-bucket.ensures.within in
    let same = head_here heads bucket c.index-heads-bucket.result within c.index-heads-bucket.is in
    omega (arith, (c.requires.index.each bucket within).few, ap (λ (h : ListHead). h.listed) same)

pub returns-then-head-eq-MOST_LISTED-clause-index : goal.returns-then-head-eq-MOST_LISTED-clause-index
returns-then-head-eq-MOST_LISTED-clause-index c =
    let heads = c.args.heads.now in let entry = c.requires.entry in let bucket = c.bucket_of-bucket.result in let within = c.bucket_of-bucket.ensures.within in
    let head = c.index-heads-bucket.result in
    inserted_beside (nodes_in c.args.arena.now) heads c.args.node bucket within c.requires.index entry.node
    ((λ i. bucket_of (entry.there i) (entry.named i) (length heads)) ∙ sym c.bucket_of-bucket.ensures.bucket)
    head (sym (head_here heads bucket head within c.index-heads-bucket.is))

pub returns-clause-index : goal.returns-clause-index
returns-clause-index c =
    let arena = c.args.arena.now in let heads = c.args.heads.now in let b = c.args.node in let entry = c.requires.entry in let nodes = nodes_in arena in
    let new = c.set_same_head.new.block in let e = c.set_same_head.ensures in let shown = c.bytes_mut.result.now in let is = c.bytes_mut.ensures.octets in
    let bucket = c.bucket_of-bucket.result in let within = c.bucket_of-bucket.ensures.within in
    let head = c.index-heads-bucket.result in
    let same = head_here heads bucket head within c.index-heads-bucket.is in
    let not_full = c.if-head-eq-MOST_LISTED.false in
    let room : head.listed < 8 = omega (arith, not_full, (c.requires.index.each bucket within).few, ap (λ (h : ListHead). h.listed) same) in
    let fields = link_fields arena b shown new head.first entry.node is e.fields e.header e.name in
    let noted = link_noted arena b shown new head.first entry.node is e.fields e.header e.name in
    let name = link_name arena b shown new head.first entry.node is e.fields e.header e.name in
    subst (λ after. IsIndex after (slice_set heads bucket record { first = b; listed = head.listed + 1; unlisted = head.unlisted }) None) (sym noted)
    (inserted nodes heads b bucket within c.requires.index entry.node
    ((λ i. bucket_of (entry.there i) (entry.named i) (length heads)) ∙ sym c.bucket_of-bucket.ensures.bucket)
    head (sym same) new room
    (ap (λ (r : NodeFields). r.same_head) fields)
    (ap (λ (r : NodeFields). if r.parent == b then None else Some r.parent) fields)
    name
    (omega (arith, live_within arena b (node_live arena b entry.node), c.free-free.ensures.capacity)))

pub returns-clause-links : goal.returns-clause-links
returns-clause-links c =
    let arena = c.args.arena.now in let b = c.args.node in let entry = c.requires.entry in
    let new = c.set_same_head.new.block in let e = c.set_same_head.ensures in let shown = c.bytes_mut.result.now in let is = c.bytes_mut.ensures.octets in
    let first = c.index-heads-bucket.result.first in
    subst (Relinked (nodes_in arena)) (sym (link_noted arena b shown new first entry.node is e.fields e.header e.name))
    (link_links arena b shown new first entry.node is e.fields e.header e.name c.requires.tree e.whole)

pub returns-clause-runs : goal.returns-clause-runs
returns-clause-runs c = runs_stay c.args.arena.now c.args.node c.set_same_head.new.block c.requires.entry.node

pub returns-clause-free : goal.returns-clause-free
returns-clause-free c =
    free_count-written c.args.arena.now c.args.node c.set_same_head.new.block (node_live c.args.arena.now c.args.node c.requires.entry.node)
