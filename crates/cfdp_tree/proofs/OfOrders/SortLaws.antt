-- Lists of nodes whose names rise.
--     of_times, at_times       what is true of each node of a list, by how many times it is there
--     split_at                 a list with a node that is in it
--     pairs_front, pairs_back  the nodes before a node of such a list, and those after it
--     pairs_left, pairs_right  these are such lists too
--     less_back                how a name compares with that of a node
--     less_first, greater_last the nodes with names before another name come first, and those with names after it last
--     directory_cases          two directories are one or not
--     none_from, other_from, there_from    the first node that does not come before a name, and whether it has the name
--     first_least, after_least the first node is that of the least name, and the first one after a name the next one
use Rattle.std.proofs.Common.{◌≡◌, ◌≢◌, ℕ, ◌≤◌, List, [], ◌∷◌, ◌++◌, get_or, Option, Some, None, refl, sym, ap, ◌∙◌, subst, ◌⊎◌, inl, inr, arith}
use Rattle.std.proofs.lemmas.Bool.{cases_eq}
use Rattle.std.proofs.lemmas.List.{get_or_default}
use Rattle.std.proofs.lemmas.List.Elements.{All-nil, All-cons, All-head, All-append, All-weaker, Contains-append_right}
use Rattle.std.proofs.lemmas.List.Kept.{AllPairs-cons}
use Rattle.std.specs.Cmp.{tied_itself}
use Rattle.std.specs.Cmp.Lexicographic.{nat_list_cmp_total}
use Rattle.std.specs.List.{slice_get}
use Rattle.std.specs.Ordering.{ordering_reverse}
use Rattle.std.specs.Prelude.{All, AllPairs, Contains, IfSome, IfNone}
use Rattle.std.specs.declared.cmp.Ordering.{Ordering}
use Rattle.std.specs.declared.cmp.Ordering.TheVariants.{Less, Equal, Greater}
use Rattle.std.proofs.lemmas.Option.{none-some, same_Some}
use Rattle.cfdp_arena.specs.Arena.{Blocks}
use Rattle.cfdp_paths.specs.Paths.{Name}
use Rattle.cfdp_order.specs.Orders.{times_in, SplitsFrom, SplitsAfter}
use Rattle.cfdp_order.proofs.Counts.{one_other}
use Rattle.cfdp_order.proofs.MemberLaws.{times_contains, contains_times}
use Rattle.cfdp_order.proofs.SplitLaws.{All_left, All_at}
use Rattle.cfdp_order.proofs.SortedLaws.{head_pairs, tail_pairs}
use Rattle.cfdp_paths.specs.code.Paths.{name_cmp}
use Rattle.cfdp_tree.specs.code.Tree.{name_at}
use Rattle.cfdp_tree.specs.code.Next.{IsFollowing, IsLeast}
use Rattle.cfdp_tree.specs.code.Orders.{Rises}
use Rattle.cfdp_tree.proofs.OfOrders.LeastLaws.{flipped, less_greater, equal_greater}

pub of_times : (P : ℕ → Type 0) (list : List ℕ) → ((m : ℕ) → 1 ≤ times_in m list → P m) → All P list
of_times P list each k d less = each (get_or list k d) (contains_times list (get_or list k d) (k, less, get_or_default list k (get_or list k d) d less))

pub at_times : (P : ℕ → Type 0) (list : List ℕ) (m : ℕ) → All P list → 1 ≤ times_in m list → P m
at_times P list m all some = (let has = times_contains list m some in subst P has.2 (all has.0 m has.1))

pub split_at : (list : List ℕ) (m : ℕ) → 1 ≤ times_in m list → (before : List ℕ) × (after : List ℕ) × (list ≡ before ++ m ∷ after)
split_at [] m some = absurd (omega arith)
split_at (x ∷ list) m some = elim (cases_eq x m) [
  | inl e ↦ ([], list, (λ i. e i ∷ list))
  | inr other ↦ (let rest = split_at list m (omega (arith, some, one_other x m other)) in (x ∷ rest.0, rest.1, (λ i. x ∷ rest.2 i)))
]

pub pairs_front : (R : ℕ → ℕ → Type 0) (before : List ℕ) (m : ℕ) (after : List ℕ) → AllPairs R (before ++ m ∷ after) → All (λ x. R x m) before
pairs_front R [] m after pairs = All-nil (λ x. R x m)
pairs_front R (x ∷ before) m after pairs =
    All-cons (λ y. R y m) x before (All_at (R x) before m after (head_pairs R x (before ++ m ∷ after) pairs))
    (pairs_front R before m after (tail_pairs R x (before ++ m ∷ after) pairs))

pub pairs_back : (R : ℕ → ℕ → Type 0) (before : List ℕ) (m : ℕ) (after : List ℕ) → AllPairs R (before ++ m ∷ after) → All (R m) after
pairs_back R [] m after pairs = head_pairs R m after pairs
pairs_back R (x ∷ before) m after pairs = pairs_back R before m after (tail_pairs R x (before ++ m ∷ after) pairs)

pub pairs_left : (R : ℕ → ℕ → Type 0) (before : List ℕ) (m : ℕ) (after : List ℕ) → AllPairs R (before ++ m ∷ after) → AllPairs R before
pairs_left R [] m after pairs = (λ i j d up less. absurd (omega (arith, less)))
pairs_left R (x ∷ before) m after pairs =
    AllPairs-cons R x before (All_left (R x) before m after (head_pairs R x (before ++ m ∷ after) pairs))
    (pairs_left R before m after (tail_pairs R x (before ++ m ∷ after) pairs))

pub pairs_right : (R : ℕ → ℕ → Type 0) (before : List ℕ) (m : ℕ) (after : List ℕ) → AllPairs R (before ++ m ∷ after) → AllPairs R after
pairs_right R [] m after pairs = tail_pairs R m after pairs
pairs_right R (x ∷ before) m after pairs = pairs_right R before m after (tail_pairs R x (before ++ m ∷ after) pairs)

pub less_back : (m n : Name) → name_cmp m n ≡ Less → name_cmp n m ≡ Greater
less_back m n e = nat_list_cmp_total.antisymm n m ∙ ap ordering_reverse e

module _ (nodes : Blocks) (name : Name) (list : List ℕ) (rising : AllPairs (Rises nodes) list) where
  pub less_first : AllPairs (λ m n. name_cmp (name_at nodes n) name ≡ Less → name_cmp (name_at nodes m) name ≡ Less) list
  less_first i j d up less e = nat_list_cmp_total.trans (name_at nodes (get_or list i d)) (name_at nodes (get_or list j d)) name (rising i j d up less) e

  pub greater_last : AllPairs (λ m n. name_cmp (name_at nodes m) name ≡ Greater → name_cmp (name_at nodes n) name ≡ Greater) list
  greater_last i j d up less e =
      let m = name_at nodes (get_or list i d) in let n = name_at nodes (get_or list j d) in
      less_back name n (nat_list_cmp_total.trans name m n (flipped nat_list_cmp_total m name e) (rising i j d up less))

pub directory_cases : (p q : Option ℕ) → (p ≡ q) ⊎ (p ≢ q)
directory_cases None None = inl refl
directory_cases None (Some d) = inr (none-some d)
directory_cases (Some c) None = inr (λ e. none-some c (sym e))
directory_cases (Some c) (Some d) = elim (cases_eq c d) [
  | inl e ↦ inl (ap Some e)
  | inr other ↦ inr (λ e. other (same_Some c d e))
]

module _ (nodes : Blocks) (list : List ℕ) (rising : AllPairs (Rises nodes) list) where
  abbrev Upto : ℕ → ℕ → Type 0
  Upto b c = name_cmp (name_at nodes b) (name_at nodes c) ≢ Greater

  itself : (b : ℕ) → Upto b b
  itself b = equal_greater (tied_itself nat_list_cmp_total (name_at nodes b))

  -- the first of all
  pub first_least : (r : Option ℕ) → r ≡ slice_get list 0 → IfSome r (IsLeast nodes None list)
      × IfNone r (All (λ c. IsFollowing None (name_at nodes c) → ⊥) list)
  first_least r is = subst (λ o. IfSome o (IsLeast nodes None list) × IfNone o (All (λ c. IsFollowing None (name_at nodes c) → ⊥) list)) (sym is)
      (go list rising)
    where
      go : (l : List ℕ) → AllPairs (Rises nodes) l → IfSome (slice_get l 0) (IsLeast nodes None l)
          × IfNone (slice_get l 0) (All (λ c. IsFollowing None (name_at nodes c) → ⊥) l)
      go [] pairs = (tt, All-nil (λ c. IsFollowing None (name_at nodes c) → ⊥))
      go (b ∷ l) pairs = (
        record {
          listed = (0, omega arith, refl);
          following = tt;
          least = All-cons (λ c. IsFollowing None (name_at nodes c) → Upto b c) b l (λ following. itself b)
              (All-weaker (Rises nodes b) (λ c. IsFollowing None (name_at nodes c) → Upto b c) (λ c less following. less_greater less) l
              (head_pairs (Rises nodes) b l pairs));
        },
        tt,
      )

  module _ (name : Name) (before after : List ℕ) (is : list ≡ before ++ after) (splits : SplitsAfter (λ m. name_cmp (name_at nodes m) name) before after) where
    not_following : (m : ℕ) → name_cmp (name_at nodes m) name ≢ Greater → IsFollowing (Some name) (name_at nodes m) → ⊥
    not_following m upto following = upto (less_back name (name_at nodes m) following)

    -- the first one after a name
    pub after_least : (r : Option ℕ) → r ≡ slice_get after 0 → IfSome r (IsLeast nodes (Some name) list)
        × IfNone r (All (λ c. IsFollowing (Some name) (name_at nodes c) → ⊥) list)
    after_least r found =
        subst (λ o. IfSome o (IsLeast nodes (Some name) list) × IfNone o (All (λ c. IsFollowing (Some name) (name_at nodes c) → ⊥) list)) (sym found)
        (subst (λ l. IfSome (slice_get after 0) (IsLeast nodes (Some name) l)
        × IfNone (slice_get after 0) (All (λ c. IsFollowing (Some name) (name_at nodes c) → ⊥) l)) (sym is)
        (go after (subst (AllPairs (Rises nodes)) is rising) splits.greater))
      where
        go : (l : List ℕ) → AllPairs (Rises nodes) (before ++ l) → All (λ m. name_cmp (name_at nodes m) name ≡ Greater) l
            → IfSome (slice_get l 0) (IsLeast nodes (Some name) (before ++ l))
            × IfNone (slice_get l 0) (All (λ c. IsFollowing (Some name) (name_at nodes c) → ⊥) (before ++ l))
        go [] pairs greater = (
          tt,
          All-append (λ c. IsFollowing (Some name) (name_at nodes c) → ⊥) before []
              (All-weaker (λ m. name_cmp (name_at nodes m) name ≢ Greater) (λ c. IsFollowing (Some name) (name_at nodes c) → ⊥) not_following before
              splits.rest)
              (All-nil (λ c. IsFollowing (Some name) (name_at nodes c) → ⊥)),
        )
        go (b ∷ l) pairs greater = (
          record {
            listed = Contains-append_right before (b ∷ l) b (0, omega arith, refl);
            following = flipped nat_list_cmp_total (name_at nodes b) name (All-head (λ m. name_cmp (name_at nodes m) name ≡ Greater) b l greater);
            least = All-append (λ c. IsFollowing (Some name) (name_at nodes c) → Upto b c) before (b ∷ l)
                (All-weaker (λ m. name_cmp (name_at nodes m) name ≢ Greater) (λ c. IsFollowing (Some name) (name_at nodes c) → Upto b c)
                (λ c upto following. absurd (not_following c upto following)) before splits.rest)
                (All-cons (λ c. IsFollowing (Some name) (name_at nodes c) → Upto b c) b l (λ following. itself b)
                (All-weaker (Rises nodes b) (λ c. IsFollowing (Some name) (name_at nodes c) → Upto b c) (λ c less following. less_greater less) l
                (pairs_back (Rises nodes) before b l pairs)));
          },
          tt,
        )

-- the entry of a name
module _ (nodes : Blocks) (list : List ℕ) (rising : AllPairs (Rises nodes) list) (name : Name) (before after : List ℕ) (is : list ≡ before ++ after)
    (splits : SplitsFrom (λ m. name_cmp (name_at nodes m) name) before after) where
  abbrev None-named : List ℕ → Type 0
  None-named l = All (λ e. name_at nodes e ≡ name → ⊥) l

  -- a name that is less than another one is not that one
  less_other : (e : ℕ) → name_cmp (name_at nodes e) name ≡ Less → name_at nodes e ≡ name → ⊥
  less_other e less same = less_equal less (ap (λ n. name_cmp n name) same ∙ tied_itself nat_list_cmp_total name)
    where
      less_equal : {o : Ordering} → o ≡ Less → o ≡ Equal → ⊥
      less_equal first second = cc

  front_other : None-named before
  front_other = All-weaker (λ m. name_cmp (name_at nodes m) name ≡ Less) (λ e. name_at nodes e ≡ name → ⊥) less_other before splits.less

  pub none_from : slice_get after 0 ≡ None → None-named list
  none_from none = subst None-named (sym is) (All-append (λ e. name_at nodes e ≡ name → ⊥) before after front_other (empty after none))
    where
      empty : (l : List ℕ) → slice_get l 0 ≡ None → None-named l
      empty [] e = All-nil (λ e. name_at nodes e ≡ name → ⊥)
      empty (x ∷ l) e = cc

  pub other_from : (b : ℕ) → slice_get after 0 ≡ Some b → (name_at nodes b ≡ name → ⊥) → None-named list
  other_from b found other = subst None-named (sym is) (All-append (λ e. name_at nodes e ≡ name → ⊥) before after front_other
      (go after (subst (AllPairs (Rises nodes)) is rising) splits.rest found))
    where
      go : (l : List ℕ) → AllPairs (Rises nodes) (before ++ l) → All (λ m. name_cmp (name_at nodes m) name ≢ Less) l → slice_get l 0 ≡ Some b → None-named l
      go [] pairs rest e = All-nil (λ e. name_at nodes e ≡ name → ⊥)
      go (x ∷ l) pairs rest e =
          All-cons (λ e. name_at nodes e ≡ name → ⊥) x l (subst (λ y. name_at nodes y ≡ name → ⊥) (sym (same_Some x b e)) other)
          (All-weaker (Rises nodes x) (λ e. name_at nodes e ≡ name → ⊥)
          (λ e less named. All-head (λ m. name_cmp (name_at nodes m) name ≢ Less) x l rest (subst (λ n. name_cmp (name_at nodes x) n ≡ Less) named less)) l
          (pairs_back (Rises nodes) before x l pairs))

  pub there_from : (b : ℕ) → slice_get after 0 ≡ Some b → 1 ≤ times_in b list
  there_from b found = contains_times list b (subst (λ l. Contains l b) (sym is) (Contains-append_right before after b (first after found)))
    where
      first : (l : List ℕ) → slice_get l 0 ≡ Some b → Contains l b
      first [] e = absurd (none-some b e)
      first (x ∷ l) e = (0, omega arith, same_Some x b e)
