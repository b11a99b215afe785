-- The index where a node changes that is out of it, and where links change that are not its own.
--     index_created, index_moved, index_deleted     a node is made, is put elsewhere, goes
--     index_kept                                    neither nodes nor links of the index change
--     nodes_long                                    there are as many blocks
use Rattle.std.proofs.Common.{◌≡◌, ◌≢◌, ℕ, suc, zero, ◌+◌, ◌<◌, List, ◌∷◌, length, get_or, Option, Some, None, refl, sym, ap, ◌∙◌, subst, arith}
use Rattle.std.proofs.lemmas.List.{get_or-set_same, get_or-set_other, length-map}
use Rattle.std.specs.Prelude.{IsSome}
use Rattle.std.proofs.lemmas.Option.{none-some, same_Some}
use Rattle.cfdp_arena.specs.Arena.{Blocks, octets_at, with_block, without_block, live_count}
use Rattle.cfdp_arena.proofs.Chains.{live_within, no_live}
use Rattle.cfdp_tree.specs.declared.index.ListHead.{ListHead}
use Rattle.cfdp_tree.specs.code.NodeFields.{node_fields_of, node_name}
use Rattle.cfdp_tree.specs.code.Nodes.{only_node, nodes_in}
use Rattle.cfdp_tree.specs.code.Tree.{IsNode, node_fields_at, name_at, home_in, home, SameEntries}
use Rattle.cfdp_tree.specs.code.Index.{Heads, bucket_of, index_chain, no_head, list_of, count_out, HasHead, IsHead, IsIndex}
use Rattle.cfdp_tree.proofs.OfIndex.IndexLaws.{kept_chain}
use Rattle.cfdp_tree.proofs.OfIndex.HeadLaws.{head_kept}
use Rattle.cfdp_arena.proofs.Laws.{octets_at-with_other, live_count-written, live_count-given, live_count-taken, live_count-same}
use Rattle.cfdp_order.proofs.SplitLaws.{All_front}
use Rattle.cfdp_tree.proofs.OfNodes.OneBlockLaws.{octets_other}

module _ (old new : Blocks) (b : ℕ) (heads : Heads) (was now : Option ℕ) (others : (c : ℕ) → c ≢ b → octets_at new c ≡ octets_at old c)
    (was_out : IsNode old b → was ≡ Some b) (now_out : IsNode new b → now ≡ Some b) (was_no_other : (c : ℕ) → c ≢ b → was ≢ Some c) (no_other : (c : ℕ) → c
    ≢ b → now ≢ Some c)
    (counts : live_count new + count_out was ≡ live_count old + count_out now) (index : IsIndex old heads was) where
  same_bucket : (c : ℕ) → c ≢ b → bucket_of (home new c) (name_at new c) (length heads) ≡ bucket_of (home old c) (name_at old c) (length heads)
  same_bucket c other = ap (λ block. bucket_of (home_in c block) (node_name block) (length heads)) (octets_other old new b others c other)

  links_other : (c : ℕ) → b ≢ c → (node_fields_at new c).same_head ≡ (node_fields_at old c).same_head
  links_other c other = ap (λ block. (node_fields_of block).same_head) (octets_other old new b others c (λ e. other (sym e)))

  head_other : (k c : ℕ) → HasHead old was (length heads) k c → c ≢ b
  head_other k c has e = has.inside (was_out (subst (IsNode old) e has.node) ∙ ap Some (sym e))

  list_same : (k : ℕ) (head : ListHead) → IsHead old was (length heads) k head → list_of new head ≡ list_of old head
  list_same k head is =
      let listed = All_front (HasHead old was (length heads) k) (list_of old head) is.rest is.own in
      kept_chain old new b links_other head.listed head.first
      (λ i d less e. head_other k (get_or (list_of old head) i d) (listed i d less) (sym e))

  stays : (k c : ℕ) → HasHead old was (length heads) k c → HasHead new now (length heads) k c
  stays k c has =
      let other = head_other k c has in
      record { node = subst IsSome (sym (others c other)) has.node; bucket = same_bucket c other ∙ has.bucket; inside = no_other c other }

  stood : (k c : ℕ) → HasHead new now (length heads) k c → HasHead old was (length heads) k c
  stood k c has =
      let other : c ≢ b = λ e. has.inside (now_out (subst (IsNode new) e has.node) ∙ ap Some (sym e)) in
      record { node = subst IsSome (others c other) has.node; bucket = sym (same_bucket c other) ∙ has.bucket; inside = was_no_other c other }

  index_out : IsIndex new heads now
  index_out = record {
    some = index.some;
    each = (λ k within. (let head = get_or heads k no_head in let is = index.each k within in
        head_kept old new was now (length heads) k head (list_same k head is) (stays k) (stood k) is));
    counted = omega (arith, index.counted, counts);
  }

pub index_created : (old : Blocks) (heads : Heads) (b : ℕ) (block : List ℕ) → b < length old → octets_at old b ≡ None → IsIndex old heads None →
    IsIndex (with_block old b block) heads (Some b)
index_created old heads b block within free index =
    index_out old (with_block old b block) b heads None (Some b) (octets_at-with_other old b block)
    (λ node. absurd (no_live _ free node)) (λ node. refl) (λ c other. none-some c) (λ c other e. other (sym (same_Some _ _ e)))
    (omega (arith, live_count-taken old b block within free)) index

pub index_moved : (old : Blocks) (heads : Heads) (b : ℕ) (block : List ℕ) → IsNode old b → IsIndex old heads (Some b) →
    IsIndex (with_block old b block) heads (Some b)
index_moved old heads b block node index =
    index_out old (with_block old b block) b heads (Some b) (Some b) (octets_at-with_other old b block)
    (λ node. refl) (λ node. refl) (λ c other e. other (sym (same_Some _ _ e))) (λ c other e. other (sym (same_Some _ _ e)))
    (omega (arith, live_count-written old b block node)) index

pub index_deleted : (old : Blocks) (heads : Heads) (b : ℕ) → IsNode old b → IsIndex old heads (Some b) → IsIndex (without_block old b) heads None
index_deleted old heads b node index =
    index_out old (without_block old b) b heads (Some b) None (λ c other. get_or-set_other old b c None None other)
    (λ was. refl) (λ left. absurd (no_live _ (get_or-set_same old b None None (live_within old b node)) left)) (λ c other e. other (sym (same_Some _ _ e)))
    (λ c other. none-some c)
    (omega (arith, live_count-given old b node)) index

pub nodes_long : (arena later : Blocks) → length later ≡ length arena → length (nodes_in later) ≡ length (nodes_in arena)
nodes_long arena later long = length-map later only_node ∙ long ∙ sym (length-map arena only_node)

module _ (old new : Blocks) (heads : Heads) (out : Option ℕ) (buckets : SameEntries old new) (same_heads : (b : ℕ) → (node_fields_at new b).same_head
    ≡ (node_fields_at old b).same_head)
    (long : length new ≡ length old) (index : IsIndex old heads out) where
  live : live_count new ≡ live_count old
  live = live_count-same new old long buckets.nodes

  chain_same : (n x : ℕ) → index_chain new n x ≡ index_chain old n x
  chain_same zero x = refl
  chain_same (suc n) x = ap (λ y. x ∷ index_chain new n y) (same_heads x) ∙ ap (λ rest. x ∷ rest) (chain_same n (node_fields_at old x).same_head)

  bucket_kept : (c : ℕ) → bucket_of (home new c) (name_at new c) (length heads) ≡ bucket_of (home old c) (name_at old c) (length heads)
  bucket_kept c = (λ i. bucket_of (buckets.homes c i) (buckets.names c i) (length heads))

  still : (k c : ℕ) → HasHead old out (length heads) k c → HasHead new out (length heads) k c
  still k c has = record { node = buckets.nodes c ∙ has.node; bucket = bucket_kept c ∙ has.bucket; inside = has.inside }

  already : (k c : ℕ) → HasHead new out (length heads) k c → HasHead old out (length heads) k c
  already k c has = record { node = sym (buckets.nodes c) ∙ has.node; bucket = sym (bucket_kept c) ∙ has.bucket; inside = has.inside }

  pub index_kept : IsIndex new heads out
  index_kept = record {
    some = index.some;
    each = (λ k within. (let head = get_or heads k no_head in
        head_kept old new out out (length heads) k head (chain_same head.listed head.first) (still k) (already k) (index.each k within)));
    counted = omega (arith, index.counted, live);
  }
