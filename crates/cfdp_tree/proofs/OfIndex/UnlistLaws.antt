-- A node goes out of the index.
--     removed      the index then
use Rattle.std.proofs.Common.{◌≡◌, ◌≢◌, ℕ, ◌+◌, ◌<◌, ◌≤◌, List, ◌++◌, length, set, get_or, Some, None, true, sym, ap, ◌∙◌, subst, arith}
use Rattle.std.proofs.lemmas.List.{length-append}
use Rattle.std.proofs.lemmas.List.Elements.{All-filter, filter_passes, filter-append}
use Rattle.std.proofs.lemmas.List.Kept.{AllPairs-filter}
use Rattle.std.proofs.lemmas.Bool.{eq-eqb, false≢true}
use Rattle.std.specs.Prelude.{◌==◌, not, All, AllPairs, Contains}
use Rattle.std.proofs.lemmas.Option.{none-some, same_Some}
use Rattle.cfdp_arena.specs.Arena.{Blocks, live_count}
use Rattle.cfdp_tree.specs.declared.index.ListHead.{ListHead}
use Rattle.cfdp_tree.specs.code.Tree.{IsNode, name_at, home, SameEntries}
use Rattle.cfdp_tree.specs.code.Index.{Heads, bucket_of, no_head, list_of, without_node, head_count, HasHead, IsHead, IsIndex}
use Rattle.cfdp_tree.proofs.OfIndex.CutLaws.{without_has, length_without}
use Rattle.cfdp_tree.proofs.OfIndex.HeadLaws.{length_chain, head_kept, index_set}

module _ (nodes new : Blocks) (heads : Heads) (b k : ℕ) (within : k < length heads) (index : IsIndex nodes heads None) (node : IsNode nodes b) (head : ListHead)
    (bucket : bucket_of (home nodes b) (name_at nodes b) (length heads) ≡ k) (same : SameEntries nodes new) (small : head.first < 65536)
    (here : list_of new head ≡ without_node b (list_of nodes (get_or heads k no_head)))
    (others : (j : ℕ) → j < length heads → j ≢ k → list_of new (get_or heads j no_head) ≡ list_of nodes (get_or heads j no_head))
    (fewer : head.listed ≤ (get_or heads k no_head).listed) (count : head_count head + 1 ≡ head_count (get_or heads k no_head))
    (live : live_count new ≡ live_count nodes) where
  abbrev was : ListHead
  was = get_or heads k no_head

  is_head : IsHead nodes None (length heads) k was
  is_head = index.each k within

  abbrev before : List ℕ
  before = list_of nodes was ++ is_head.rest

  nodes_here : list_of new head ++ without_node b is_head.rest ≡ without_node b before
  nodes_here = ap (λ xs. xs ++ without_node b is_head.rest) here ∙ sym (filter-append (λ c. not (c == b)) (list_of nodes was) is_head.rest)

  buckets : (c : ℕ) → bucket_of (home new c) (name_at new c) (length heads) ≡ bucket_of (home nodes c) (name_at nodes c) (length heads)
  buckets c = (λ i. bucket_of (same.homes c i) (same.names c i) (length heads))

  stays : (j c : ℕ) → b ≢ c → HasHead nodes None (length heads) j c → HasHead new (Some b) (length heads) j c
  stays j c other has = record { node = same.nodes c ∙ has.node; bucket = buckets c ∙ has.bucket; inside = (λ e. other (same_Some _ _ e)) }

  stood : (j c : ℕ) → HasHead new (Some b) (length heads) j c → HasHead nodes None (length heads) j c
  stood j c has = record { node = sym (same.nodes c) ∙ has.node; bucket = sym (buckets c) ∙ has.bucket; inside = none-some _ }

  -- the test that a node passes which stays
  passes : (c : ℕ) → not (c == b) ≡ true → b ≢ c
  passes c pass e = false≢true (sym (ap not (eq-eqb c b (sym e))) ∙ pass)

  own_here : All (HasHead new (Some b) (length heads) k) (without_node b before)
  own_here i d less =
      stays k (get_or (without_node b before) i d) (passes (get_or (without_node b before) i d) (filter_passes (λ c. not (c == b)) before i d less))
      (All-filter (λ c. not (c == b)) (HasHead nodes None (length heads) k) before is_head.own i d less)

  has_here : (c : ℕ) → HasHead new (Some b) (length heads) k c → Contains (without_node b before) c
  has_here c has = without_has b before c (λ e. has.inside (ap Some (sym e))) (is_head.all c (stood k c has))

  -- one less
  rest_count : length (without_node b is_head.rest) ≡ head.unlisted
  rest_count =
      let there = is_head.all b record { node = node; bucket = bucket; inside = none-some _ } in
      omega (
        arith,
        length_without b before is_head.once there,
        ap (λ (xs : List ℕ). length xs) nodes_here,
        length-append (list_of new head) (without_node b is_head.rest),
        length-append (list_of nodes was) is_head.rest,
        length_chain new head.listed head.first,
        length_chain nodes was.listed was.first,
        is_head.count,
        count,
      )

  head_here : IsHead new (Some b) (length heads) k head
  head_here = record {
    small = small;
    few = omega (arith, fewer, is_head.few);
    rest = without_node b is_head.rest;
    count = rest_count;
    own = subst (All (HasHead new (Some b) (length heads) k)) (sym nodes_here) own_here;
    once = subst (AllPairs (λ x y. x ≢ y)) (sym nodes_here) (AllPairs-filter (λ x y. x ≢ y) (λ c. not (c == b)) before is_head.once);
    all = (λ c has. subst (λ xs. Contains xs c) (sym nodes_here) (has_here c has));
  }

  other_node : (j c : ℕ) → j ≢ k → HasHead nodes None (length heads) j c → b ≢ c
  other_node j c other has e =
      other (sym has.bucket ∙ ap (λ x. bucket_of (home nodes x) (name_at nodes x) (length heads)) (sym e) ∙ bucket)

  pub removed : IsIndex new (set heads k head) (Some b)
  removed =
      index_set nodes new None (Some b) heads k within head index head_here
      (λ j inside other. head_kept nodes new None (Some b) (length heads) j (get_or heads j no_head) (others j inside other)
      (λ c has. stays j c (other_node j c other has) has) (λ c has. stood j c has) (index.each j inside))
      (omega (arith, live, count))
