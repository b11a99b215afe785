-- One head of the index changes.
--     pairs_left               of the first of two lists
--     once_last                one more at the end of a list in which no node is twice
--     length_chain             how long a list is
--     head_here                the head that is read is the one of the index
--     head_kept                a head has its nodes still
--     index_set                the index, once each head has its nodes
use Rattle.std.proofs.Common.{◌≡◌, ◌≢◌, ℕ, suc, zero, ◌+◌, ◌<◌, List, [], ◌∷◌, ◌++◌, length, length-set, set, get_or, Option, refl, sym, ap, ◌∙◌, subst, inl, inr, arith}
use Rattle.std.proofs.lemmas.List.{get_or-set_same, get_or-set_other, get_or_default}
use Rattle.std.proofs.lemmas.List.Elements.{All-nil, All-head, All-tail, All-push}
use Rattle.std.proofs.lemmas.List.Kept.{AllPairs-cons}
use Rattle.std.proofs.lemmas.List.Sums.{sum_by-set}
use Rattle.std.proofs.lemmas.Bool.{cases_eq}
use Rattle.std.specs.Prelude.{All, AllPairs, Contains}
use Rattle.cfdp_arena.specs.Arena.{Blocks, live_count}
use Rattle.cfdp_tree.specs.declared.index.ListHead.{ListHead}
use Rattle.cfdp_tree.specs.code.Tree.{node_fields_at}
use Rattle.cfdp_tree.specs.code.Index.{Heads, index_chain, no_head, list_of, head_count, HasHead, IsHead, count_out, IsIndex}
use Rattle.cfdp_tree.proofs.OfIndex.IndexLaws.{once_first}
use Rattle.cfdp_arena.proofs.GivenChains.{rest_once}
use Rattle.cfdp_order.proofs.SplitLaws.{All_front}

pub pairs_left : (xs ys : List ℕ) → AllPairs (λ b c. b ≢ c) (xs ++ ys) → AllPairs (λ b c. b ≢ c) xs
pairs_left [] ys once = (λ i j d before less. absurd (omega (arith, less)))
pairs_left (x ∷ xs) ys once =
    AllPairs-cons (λ b c. b ≢ c) x xs (All_front (λ c. x ≢ c) xs ys (once_first x (xs ++ ys) once)) (pairs_left xs ys (rest_once x (xs ++ ys) once))

pub once_last : (b : ℕ) (xs : List ℕ) → All (λ c. b ≢ c) xs → AllPairs (λ x y. x ≢ y) xs → AllPairs (λ x y. x ≢ y) (xs ++ b ∷ [])
once_last b [] apart once = AllPairs-cons (λ x y. x ≢ y) b [] (All-nil (λ c. b ≢ c)) once
once_last b (x ∷ xs) apart once =
    AllPairs-cons (λ x y. x ≢ y) x (xs ++ b ∷ [])
    (All-push (λ c. x ≢ c) xs b (once_first x xs once) (λ e. All-head (λ c. b ≢ c) x xs apart (sym e)))
    (once_last b xs (All-tail (λ c. b ≢ c) x xs apart) (rest_once x xs once))

pub length_chain : (nodes : Blocks) (n b : ℕ) → length (index_chain nodes n b) ≡ n
length_chain nodes zero b = refl
length_chain nodes (suc n) b = ap suc (length_chain nodes n (node_fields_at nodes b).same_head)

pub head_here : (heads : Heads) (k : ℕ) (head : ListHead) → k < length heads → head ≡ get_or heads k head → get_or heads k no_head ≡ head
head_here heads k head within is = get_or_default heads k no_head head within ∙ sym is

module _ (old new : Blocks) (was now : Option ℕ) (n k : ℕ) (head : ListHead) (list : list_of new head ≡ list_of old head)
    (stays : (c : ℕ) → HasHead old was n k c → HasHead new now n k c) (stood : (c : ℕ) → HasHead new now n k c → HasHead old was n k c) where
  pub head_kept : IsHead old was n k head → IsHead new now n k head
  head_kept is =
      let nodes : list_of new head ++ is.rest ≡ list_of old head ++ is.rest = ap (λ xs. xs ++ is.rest) list in
      record {
        small = is.small;
        few = is.few;
        rest = is.rest;
        count = is.count;
        own = subst (All (HasHead new now n k)) (sym nodes) (λ i d less. stays (get_or (list_of old head ++ is.rest) i d) (is.own i d less));
        once = subst (AllPairs (λ b c. b ≢ c)) (sym nodes) is.once;
        all = (λ b has. subst (λ xs. Contains xs b) (sym nodes) (is.all b (stood b has)));
      }

module _ (old new : Blocks) (was now : Option ℕ) (heads : Heads) (k : ℕ) (within : k < length heads) (head : ListHead) (index : IsIndex old heads was)
    (here : IsHead new now (length heads) k head)
    (others : (j : ℕ) → j < length heads → j ≢ k → IsHead new now (length heads) j (get_or heads j no_head))
    (counts : head_count head + count_out now + live_count old ≡ head_count (get_or heads k no_head) + count_out was + live_count new) where
  abbrev after : Heads
  after = set heads k head

  each_at : (j : ℕ) → j < length heads → IsHead new now (length heads) j (get_or after j no_head)
  each_at j inside = elim (cases_eq j k) [
    | inl e ↦ subst (λ i. IsHead new now (length heads) i (get_or after i no_head)) (sym e)
        (subst (IsHead new now (length heads) k) (sym (get_or-set_same heads k head no_head within)) here)
    | inr other ↦ subst (IsHead new now (length heads) j) (sym (get_or-set_other heads k j head no_head other)) (others j inside other)
  ]

  pub index_set : IsIndex new after now
  index_set =
      let long = length-set heads k head in
      record {
        some = omega (arith, long, index.some);
        each = (λ j inside. subst (λ n. IsHead new now n j (get_or after j no_head)) (sym long) (each_at j (omega (arith, inside, long))));
        counted = omega (arith, sum_by-set (λ (h : ListHead). head_count h) heads k head no_head within, counts, index.counted);
      }
