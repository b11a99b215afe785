-- A node that was out of the index comes to its head.
--     inserted_beside     the index then, where the list of the head is full
--     inserted            the index then, where the node is the first one of the list
use Rattle.std.proofs.Common.{◌≡◌, ◌≢◌, ℕ, ◌+◌, ◌<◌, List, [], ◌∷◌, ◌++◌, length, set, get_or, Some, None, is_some, refl, sym, ap, ◌∙◌, subst, inl, inr, arith}
use Rattle.std.proofs.lemmas.List.{append_assoc, length-append}
use Rattle.std.proofs.lemmas.List.Elements.{All-cons, All-push, Contains-append_left, Contains-push}
use Rattle.std.proofs.lemmas.List.Kept.{AllPairs-cons}
use Rattle.std.proofs.lemmas.Bool.{cases_eq}
use Rattle.std.specs.Prelude.{All, AllPairs, Contains, unwrap_or}
use Rattle.std.proofs.lemmas.Option.{none-some, same_Some}
use Rattle.cfdp_arena.specs.Arena.{Blocks, with_block}
use Rattle.cfdp_paths.proofs.Below.{Contains-cons}
use Rattle.cfdp_tree.specs.declared.index.ListHead.{ListHead}
use Rattle.cfdp_tree.specs.code.NodeFields.{node_fields_of, node_name}
use Rattle.cfdp_tree.specs.code.Tree.{IsNode, name_at, home_in, home}
use Rattle.cfdp_tree.specs.code.Index.{Heads, bucket_of, index_chain, no_head, list_of, head_count, HasHead, IsHead, IsIndex}
use Rattle.cfdp_tree.proofs.OfNodes.EntryLaws.{kept_by}
use Rattle.cfdp_tree.proofs.OfNodes.LinkLaws.{next_here, next_other}
use Rattle.cfdp_tree.proofs.OfIndex.IndexLaws.{chain_more, has_first, kept_chain}
use Rattle.cfdp_tree.proofs.OfIndex.HeadLaws.{once_last, head_kept, index_set}
use Rattle.cfdp_arena.proofs.Laws.{live_count-written}
use Rattle.cfdp_order.proofs.SplitLaws.{All_front}

module _ (nodes : Blocks) (n b : ℕ) where
  -- it is apart from those that were in the index
  apart : (j : ℕ) (xs : List ℕ) → All (HasHead nodes (Some b) n j) xs → All (λ c. b ≢ c) xs
  apart j xs own i d less e = (own i d less).inside (ap Some e)

  within_now : (j c : ℕ) → HasHead nodes (Some b) n j c → HasHead nodes None n j c
  within_now j c was = record { node = was.node; bucket = was.bucket; inside = none-some _ }

  within_then : (j c : ℕ) → c ≢ b → HasHead nodes None n j c → HasHead nodes (Some b) n j c
  within_then j c other has = record { node = has.node; bucket = has.bucket; inside = (λ e. other (sym (same_Some _ _ e))) }

  -- of another head
  other_head : (j c k : ℕ) → bucket_of (home nodes b) (name_at nodes b) n ≡ k → j ≢ k → HasHead nodes None n j c → c ≢ b
  other_head j c k bucket other has e =
      other (sym has.bucket ∙ ap (λ x. bucket_of (home nodes x) (name_at nodes x) n) e ∙ bucket)

module _ (nodes : Blocks) (heads : Heads) (b k : ℕ) (within : k < length heads) (index : IsIndex nodes heads (Some b)) (node : IsNode nodes b)
    (bucket : bucket_of (home nodes b) (name_at nodes b) (length heads) ≡ k) (head : ListHead) (head_is : head ≡ get_or heads k no_head) where
  abbrev more : ListHead
  more = record { first = head.first; listed = head.listed; unlisted = head.unlisted + 1 }

  is_head : IsHead nodes (Some b) (length heads) k head
  is_head = subst (IsHead nodes (Some b) (length heads) k) (sym head_is) (index.each k within)

  abbrev before : List ℕ
  before = list_of nodes head ++ is_head.rest

  nodes_beside : list_of nodes more ++ (is_head.rest ++ b ∷ []) ≡ before ++ b ∷ []
  nodes_beside = sym (append_assoc (list_of nodes head) is_head.rest (b ∷ []))

  here : HasHead nodes None (length heads) k b
  here = record { node = node; bucket = bucket; inside = none-some _ }

  has_all : (c : ℕ) → HasHead nodes None (length heads) k c → Contains (before ++ b ∷ []) c
  has_all c has = elim (cases_eq c b) [
    | inl e ↦ subst (Contains (before ++ b ∷ [])) (sym e) (Contains-push before b)
    | inr other ↦ Contains-append_left before (b ∷ []) c (is_head.all c (within_then nodes (length heads) b k c other has))
  ]

  head_beside : IsHead nodes None (length heads) k more
  head_beside = record {
    small = is_head.small;
    few = is_head.few;
    rest = is_head.rest ++ b ∷ [];
    count = omega (arith, length-append is_head.rest (b ∷ []), is_head.count);
    own = subst (All (HasHead nodes None (length heads) k)) (sym nodes_beside)
        (All-push (HasHead nodes None (length heads) k) before b
        (λ i d less. within_now nodes (length heads) b k (get_or before i d) (is_head.own i d less)) here);
    once = subst (AllPairs (λ x y. x ≢ y)) (sym nodes_beside) (once_last b before (apart nodes (length heads) b k before is_head.own) is_head.once);
    all = (λ c has. subst (λ xs. Contains xs c) (sym nodes_beside) (has_all c has));
  }

  pub inserted_beside : IsIndex nodes (set heads k more) None
  inserted_beside =
      index_set nodes nodes (Some b) None heads k within more index head_beside
      (λ j inside other. head_kept nodes nodes (Some b) None (length heads) j (get_or heads j no_head) refl
      (λ c has. within_now nodes (length heads) b j c has)
      (λ c has. within_then nodes (length heads) b j c (other_head nodes (length heads) b j c k bucket other has) has)
      (index.each j inside))
      (omega (arith, ap (λ (h : ListHead). head_count h) head_is))

  -- it is written into its block which node is the next one of the list
  module _ (block : List ℕ) (room : head.listed < 8) (link : (node_fields_of block).same_head ≡ head.first) (there : home_in b block ≡ home nodes b)
      (name : node_name block ≡ name_at nodes b) (small : b < 65536) where
    abbrev new : Blocks
    new = with_block nodes b block

    abbrev first : ListHead
    first = record { first = b; listed = head.listed + 1; unlisted = head.unlisted }

    somes : (c : ℕ) → is_some (get_or new c None) ≡ is_some (get_or nodes c None)
    somes = kept_by nodes b block node (λ c entry. is_some entry) (sym node)

    homes : (c : ℕ) → home new c ≡ home nodes c
    homes = kept_by nodes b block node (λ c entry. home_in c (unwrap_or entry [])) there

    names : (c : ℕ) → name_at new c ≡ name_at nodes c
    names = kept_by nodes b block node (λ c entry. node_name (unwrap_or entry [])) name

    buckets : (c : ℕ) → bucket_of (home new c) (name_at new c) (length heads) ≡ bucket_of (home nodes c) (name_at nodes c) (length heads)
    buckets c = (λ i. bucket_of (homes c i) (names c i) (length heads))

    stays : (j c : ℕ) → HasHead nodes (Some b) (length heads) j c → HasHead new None (length heads) j c
    stays j c was = record { node = somes c ∙ was.node; bucket = buckets c ∙ was.bucket; inside = none-some _ }

    stood : (j c : ℕ) → c ≢ b → HasHead new None (length heads) j c → HasHead nodes (Some b) (length heads) j c
    stood j c other has = record {
      node = sym (somes c) ∙ has.node;
      bucket = sym (buckets c) ∙ has.bucket;
      inside = (λ e. other (sym (same_Some _ _ e)));
    }

    -- the list of a head as it was
    kept_list : (j : ℕ) (h : ListHead) → IsHead nodes (Some b) (length heads) j h → list_of new h ≡ list_of nodes h
    kept_list j h is =
        kept_chain nodes new b (next_other nodes b block node) h.listed h.first
        (apart nodes (length heads) b j (list_of nodes h) (All_front (HasHead nodes (Some b) (length heads) j) (list_of nodes h) is.rest is.own))

    list_here : list_of new first ≡ b ∷ list_of nodes head
    list_here =
        chain_more new (head.listed + 1) head.listed b (omega arith)
        ∙ ap (λ x. b ∷ index_chain new head.listed x) (next_here nodes b block node ∙ link)
        ∙ ap (λ rest. b ∷ rest) (kept_list k head is_head)

    nodes_here : list_of new first ++ is_head.rest ≡ b ∷ before
    nodes_here = ap (λ xs. xs ++ is_head.rest) list_here

    here_listed : HasHead new None (length heads) k b
    here_listed = record { node = somes b ∙ node; bucket = buckets b ∙ bucket; inside = none-some _ }

    has_listed : (c : ℕ) → HasHead new None (length heads) k c → Contains (b ∷ before) c
    has_listed c has = elim (cases_eq c b) [
      | inl e ↦ subst (Contains (b ∷ before)) (sym e) (has_first b before)
      | inr other ↦ Contains-cons before b c (is_head.all c (stood k c other has))
    ]

    head_here : IsHead new None (length heads) k first
    head_here = record {
      small = small;
      few = omega (arith, room);
      rest = is_head.rest;
      count = is_head.count;
      own = subst (All (HasHead new None (length heads) k)) (sym nodes_here)
          (All-cons (HasHead new None (length heads) k) b before here_listed (λ i d less. stays k (get_or before i d) (is_head.own i d less)));
      once = subst (AllPairs (λ x y. x ≢ y)) (sym nodes_here)
          (AllPairs-cons (λ x y. x ≢ y) b before (apart nodes (length heads) b k before is_head.own) is_head.once);
      all = (λ c has. subst (λ xs. Contains xs c) (sym nodes_here) (has_listed c has));
    }

    other_node : (j c : ℕ) → j ≢ k → HasHead new None (length heads) j c → c ≢ b
    other_node j c other has e =
        other (sym has.bucket ∙ buckets c ∙ ap (λ x. bucket_of (home nodes x) (name_at nodes x) (length heads)) e ∙ bucket)

    pub inserted : IsIndex new (set heads k first) None
    inserted =
        index_set nodes new (Some b) None heads k within first index head_here
        (λ j inside other. head_kept nodes new (Some b) None (length heads) j (get_or heads j no_head)
        (kept_list j (get_or heads j no_head) (index.each j inside)) (λ c has. stays j c has)
        (λ c has. stood j c (other_node j c other has) has) (index.each j inside))
        (omega (arith, live_count-written nodes b block node, ap (λ (h : ListHead). head_count h) head_is))
