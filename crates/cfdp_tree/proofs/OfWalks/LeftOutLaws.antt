-- Paths that are left out.
--     entry_is, entry_other     whether a path is that of an entry by its parent and its last name
--     any_within                what passes a test is within a range
--     searched, divided         what a search by halves among children in path order says
--     sorted_is                 paths of which each is at most the next are in path order
--     any_parts                 the same of the nodes of an order
--     any_part, longest_part    of entries of which each is left out by both of two lists or by none
--     same_before, same_after   the entries before one and those after it are so, if the others are divided there
--     all_beside, one_beside    where nothing is left out
--     longest_apart             the longest path is that of a node, of those before it or of those after it
--     longest_few               it has no more than 8 names
--     longest_kept, longest_left, longest_within    that of one node, by whether it is left out
use Rattle.std.proofs.Common.{◌≡◌, ℕ, suc, ◌+◌, ◌-◌, ◌<◌, ◌≤◌, ◌||◌, ◌==◌, nat_lt, max, cond, Bool, true, false, inl, inr, List, [], ◌∷◌, ◌++◌, length, take, drop, get_or, Some, Result, Ok, Err, refl, sym, ap, ◌∙◌, subst, arith}
use Rattle.std.proofs.Math.Bool.{or-false, or-true}
use Rattle.std.proofs.lemmas.Bool.{cases_Bool, false_from_ne_true, eqb-true, ltb-true, ltb-false}
use Rattle.std.proofs.lemmas.Bool.Decides.{same_from_decides}
use Rattle.std.proofs.lemmas.Cmp.{nat_list_cmp_total}
use Rattle.std.proofs.lemmas.List.{take_all, take_more, take-append-drop, get_or-take, get_or-drop, length-take-le, length-drop, same_from_push}
use Rattle.std.proofs.lemmas.List.Elements.{All-head, All-tail, All-weaker, filter-append}
use Rattle.std.proofs.lemmas.List.Folds.{drop_split, list_any-append, list_any_at, list_any_none, Any-from_list_any}
use Rattle.std.proofs.lemmas.List.Sorted.{searchable_from_sorted}
use Rattle.std.proofs.lemmas.Grind.{flat_map-append}
use Rattle.std.specs.Cmp.{tied_itself}
use Rattle.std.specs.Cmp.Lexicographic.{slice_cmp}
use Rattle.std.specs.List.{filter, list_any, slice_range, AllAdjacentBelow}
use Rattle.std.specs.List.Sorted.{IsBinarySearchResult, IsNonDecreasingBy, IsPartitionPoint, IsSearchInRange, IsSorted}
use Rattle.std.specs.Ordering.{is_eq, is_le, is_lt, nat_cmp, ordering_index, ordering_reverse, ordering_then}
use Rattle.std.specs.Prelude.{All, AllPairs, MatchResult, is_ok}
use Rattle.std.specs.declared.cmp.Ordering.{Ordering}
use Rattle.std.specs.declared.cmp.Ordering.TheVariants.{Less, Equal, Greater}
use Rattle.cfdp_arena.specs.Arena.{Blocks}
use Rattle.cfdp_paths.specs.Paths.{Name, Path, path_cmp, same_name, same_path, parent}
use Rattle.cfdp_paths.proofs.Below.{parent-take, parent-push, length-child}
use Rattle.cfdp_paths.proofs.Comparing.{path_cmp-one, path_cmp-total, same_name-Decides, same_path-Decides}
use Rattle.cfdp_paths.proofs.InOrder.{equal_back}
use Rattle.cfdp_tree.specs.declared.orders.Orders.{Orders}
use Rattle.cfdp_tree.specs.code.Tree.{path_of_node}
use Rattle.cfdp_tree.specs.code.Orders.{in_order, Rises}
use Rattle.cfdp_tree.specs.code.Walk.{walk, walks_at, most_names_in, IsAtDepth}
use Rattle.cfdp_tree.specs.code.Beside.{AreChildrenInOrder, DividesAt, is_entry_beside, entries_beside}
use Rattle.cfdp_tree.proofs.OfOrders.SortLaws.{pairs_front, pairs_back}
use Rattle.cfdp_tree.proofs.OfWalks.WalkLaws.{few_names, longest-append, longest_parts, names_few}

some_names : (p q : Path) → parent q ≡ p → 1 ≤ length p → 1 ≤ length q
some_names p [] above some = omega (arith, some, ap length above)
some_names p (n ∷ q) above some = omega arith

child_is : (p q : Path) → 1 ≤ length p → parent q ≡ p → q ≡ p ++ get_or q (length p) [] ∷ []
child_is p q some above =
    sym (take_all (length p + 1) q (omega (arith, long))) ∙ take_more q (length p) [] (omega (arith, long))
    ∙ ap (λ x. x ++ get_or q (length p) [] ∷ [])
    (ap (λ k. take k q) (less (length q) long) ∙ sym (parent-take q) ∙ above)
  where
    long : length q ≡ length p + 1
    long = length-child q p (some_names p q above some) above

    less : (k : ℕ) → k ≡ length p + 1 → length p ≡ k - 1
    less k is = omega (arith, is)

pub entry_is : (p : Path) (n : Name) (q : Path) → 1 ≤ length p → parent q ≡ p → same_name (get_or q (length p) []) n ≡ same_path (p ++ n ∷ []) q
entry_is p n q some above = same_from_decides (same_name (get_or q (length p) []) n) (same_path (p ++ n ∷ []) q) (same_name-Decides (get_or q (length p) []) n)
    (let test = same_path-Decides (p ++ n ∷ []) q in (
      (λ e. sym (same_from_push p p n (get_or q (length p) []) (test.0 e ∙ child_is p q some above)).1),
      (λ e. test.1 (ap (λ m. p ++ m ∷ []) (sym e) ∙ sym (child_is p q some above))),
    ))

pub entry_other : (p : Path) (n : Name) (q : Path) → (parent q ≡ p → ⊥) → false ≡ same_path (p ++ n ∷ []) q
entry_other p n q other = by_test (same_path (p ++ n ∷ []) q) refl_is
  where
    by_test : (b : Bool) → same_path (p ++ n ∷ []) q ≡ b → false ≡ same_path (p ++ n ∷ []) q
    by_test true is = absurd (other (ap parent (sym ((same_path-Decides (p ++ n ∷ []) q).0 is)) ∙ parent-push p n))
    by_test false is = sym is

    refl_is : same_path (p ++ n ∷ []) q ≡ same_path (p ++ n ∷ []) q
    refl_is = λ _. same_path (p ++ n ∷ []) q

-- ---- searches

-- children of a directory compare as their last names
siblings : (p : Path) (m n : Name) → path_cmp (p ++ m ∷ []) (p ++ n ∷ []) ≡ slice_cmp nat_cmp m n
siblings [] m n = path_cmp-one m n
siblings (x ∷ p) m n = ap (λ o. ordering_then o (path_cmp (p ++ m ∷ []) (p ++ n ∷ []))) (tied_itself nat_list_cmp_total x) ∙ siblings p m n

child_cmp : (p : Path) (n : Name) (q : Path) → 1 ≤ length p → parent q ≡ p → path_cmp q (p ++ n ∷ []) ≡ slice_cmp nat_cmp (get_or q (length p) []) n
child_cmp p n q some above =
    ap (λ x. path_cmp x (p ++ n ∷ [])) (child_is p q some above) ∙ siblings p (get_or q (length p) []) n

-- where what passes a test is within a range
pub any_within : (test : Path → Bool) (paths : List Path) (start end : ℕ) → start ≤ end → end ≤ length paths
    → ((k : ℕ) (d : Path) → k < length paths → test (get_or paths k d) ≡ true → (start ≤ k) × (k < end))
    → list_any test (slice_range paths start end) ≡ list_any test paths
any_within test paths start end upto within inside =
    sym (ap (list_any test) whole
    ∙ list_any-append test (take start paths) (slice_range paths start end ++ drop end paths)
    ∙ ap (λ b. b || list_any test (slice_range paths start end ++ drop end paths)) (list_any_none test (take start paths) none_before)
    ∙ list_any-append test (slice_range paths start end) (drop end paths)
    ∙ ap (λ b. list_any test (slice_range paths start end) || b) (list_any_none test (drop end paths) none_after)
    ∙ or-false (list_any test (slice_range paths start end)))
  where
    whole : paths ≡ take start paths ++ (slice_range paths start end ++ drop end paths)
    whole = sym (take-append-drop start paths) ∙ ap (λ x. take start paths ++ x) (drop_split paths start end upto)

    none_before : All (λ x. test x ≡ false) (take start paths)
    none_before k d less =
        let low : k < start = omega (arith, less, length-take-le start paths (omega (arith, upto, within))) in
        false_from_ne_true (test (get_or (take start paths) k d)) (λ e. absurd (omega (
          arith,
          low,
          (inside k d (omega (arith, low, upto, within))
              (sym (ap test (get_or-take start paths k d low)) ∙ e)).0,
        )))

    none_after : All (λ x. test x ≡ false) (drop end paths)
    none_after k d less =
        let high : end + k < length paths = omega (arith, less, length-drop end paths) in
        false_from_ne_true (test (get_or (drop end paths) k d)) (λ e. absurd (omega (
          arith,
          (inside (end + k) d high (sym (ap test (get_or-drop end paths k d)) ∙ e)).1,
        )))

length-slice_range : (paths : List Path) (start end : ℕ) → start ≤ end → end ≤ length paths → length (slice_range paths start end) ≡ end - start
length-slice_range paths start end upto within = length-take-le (end - start) (drop start paths) (omega (arith, length-drop start paths, upto, within))

get_or-slice_range : (paths : List Path) (start end k : ℕ) (d : Path) → k < end - start → get_or (slice_range paths start end) k d ≡ get_or paths (start + k) d
get_or-slice_range paths start end k d less = get_or-take (end - start) (drop start paths) k d less ∙ get_or-drop start paths k d

no_more : (i : ℕ) → i + 0 ≡ i
no_more i = omega arith

-- what a search by halves says
module _ (p : Path) (n : Name) (paths : List Path) (some : 1 ≤ length p) (ordered : AreChildrenInOrder p paths) where
  rises : IsNonDecreasingBy (λ q. ordering_index (slice_cmp nat_cmp (get_or q (length p) []) n)) paths
  rises i j d upto within =
      let rise = searchable_from_sorted path_cmp-total (λ q. q) paths (p ++ n ∷ []) ordered.sorted i j d upto within in
      let low = child_cmp p n (get_or paths i d) some (ordered.children i d (omega (arith, upto, within))) in
      let high = child_cmp p n (get_or paths j d) some (ordered.children j d within) in
      omega (arith, rise, ap ordering_index low, ap ordering_index high)

  -- a path that is found compares as one that is equal
  equal_is : (k : ℕ) (d : Path) → k < length paths → same_path (p ++ n ∷ []) (get_or paths k d) ≡ true
      → slice_cmp nat_cmp (get_or (get_or paths k d) (length p) []) n ≡ Equal
  equal_is k d within same =
      sym (child_cmp p n (get_or paths k d) some (ordered.children k d within))
      ∙ ap (λ x. path_cmp (get_or paths k d) x) ((same_path-Decides (p ++ n ∷ []) (get_or paths k d)).0 same)
      ∙ tied_itself path_cmp-total (get_or paths k d)

  found_ok : (k : ℕ) → k < length paths → slice_cmp nat_cmp (get_or (get_or paths k p) (length p) []) n ≡ Equal
      → list_any (same_path (p ++ n ∷ [])) paths ≡ true
  found_ok k within equal =
      list_any_at (same_path (p ++ n ∷ [])) paths k p within
      (ap is_eq (equal_back (get_or paths k p) (p ++ n ∷ []) (child_cmp p n (get_or paths k p) some (ordered.children k p within) ∙ equal)))

  found_err : (i : ℕ) → IsPartitionPoint (λ q. slice_cmp nat_cmp (get_or q (length p) []) n ≡ Less)
      (λ q. slice_cmp nat_cmp (get_or q (length p) []) n ≡ Greater) paths i → list_any (same_path (p ++ n ∷ [])) paths ≡ false
  found_err i parts = by_test (list_any (same_path (p ++ n ∷ [])) paths) refl
    where
      never : (k : ℕ) (d : Path) → k < length paths → same_path (p ++ n ∷ []) (get_or paths k d) ≡ true → ⊥
      never k d within same =
          let equal = equal_is k d within same in
          elim (cases_Bool (nat_lt k i)) [
            | inl below ↦ let less = parts.0 k d (omega arith) (ltb-true k i below) in cc
            | inr above ↦ let more = parts.1 k d (ltb-false k i above) within in cc
          ]

      by_test : (b : Bool) → list_any (same_path (p ++ n ∷ [])) paths ≡ b → b ≡ false
      by_test true is =
          let at = Any-from_list_any (same_path (p ++ n ∷ [])) paths is in
          absurd (never at.0 at.1 at.2 (ap (same_path (p ++ n ∷ [])) at.3 ∙ at.4))
      by_test false is = refl

  pub searched : (r : Result ℕ ℕ) → IsSearchInRange r (length paths) →
      IsBinarySearchResult (λ q. slice_cmp nat_cmp (get_or q (length p) []) n) paths r → is_ok r ≡ list_any (same_path (p ++ n ∷ [])) paths
  searched (Ok k) within at = sym (found_ok k within (at p))
  searched (Err i) within at = sym (found_err i (at rises))

  abbrev side : Path → Ordering
  side q = slice_cmp nat_cmp (get_or q (length p) []) n

  -- the path of a child compares as its name
  side_is : (m : Name) (k : ℕ) (d : Path) → k < length paths → same_path (p ++ m ∷ []) (get_or paths k d) ≡ true → side (get_or paths k d)
      ≡ slice_cmp nat_cmp m n
  side_is m k d within same =
      sym (child_cmp p n (get_or paths k d) some (ordered.children k d within))
      ∙ ap (λ x. path_cmp x (p ++ n ∷ [])) (sym ((same_path-Decides (p ++ m ∷ []) (get_or paths k d)).0 same))
      ∙ siblings p m n

  index_is : (m : Name) (k : ℕ) (d : Path) (o : Ordering) → k < length paths → same_path (p ++ m ∷ []) (get_or paths k d) ≡ true → slice_cmp nat_cmp m n ≡ o
      → ordering_index (side (get_or paths k d)) ≡ ordering_index o
  index_is m k d o within same is = ap ordering_index (side_is m k d within same ∙ is)

  back : (m : Name) → slice_cmp nat_cmp n m ≡ Less → slice_cmp nat_cmp m n ≡ Greater
  back m less = nat_list_cmp_total.antisymm m n ∙ ap ordering_reverse less

  found_divides : (i : ℕ) → i < length paths → ((d : Path) → side (get_or paths i d) ≡ Equal) → DividesAt p n paths i (i + 1)
  found_divides i within equal = record {
    upto = omega arith;
    within = omega (arith, within);
    less = (λ m low. any_within (same_path (p ++ m ∷ [])) paths 0 i (omega arith) (omega (arith, within)) (λ k d inside same. (
      omega arith,
      elim (cases_Bool (nat_lt k i)) [
        | inl below ↦ ltb-true k i below
        | inr above ↦ absurd (omega (arith, rises i k d (ltb-false k i above) inside, ap ordering_index (equal d), index_is m k d Less inside same low))
      ],
    )));
    here = any_there ∙ sym (list_any_at (same_path (p ++ n ∷ [])) paths i p within there);
    more = (λ m high. any_within (same_path (p ++ m ∷ [])) paths (i + 1) (length paths) (omega (arith, within)) (omega arith) (λ k d inside same. (
      elim (cases_Bool (nat_lt i k)) [
        | inl above ↦ omega (arith, ltb-true i k above)
        | inr below ↦ absurd (omega (
          arith,
          rises k i d (ltb-false i k below) within,
          ap ordering_index (equal d),
          index_is m k d Greater inside same (back m high),
        ))
      ],
      inside,
    )));
  }
    where
      there : same_path (p ++ n ∷ []) (get_or paths i p) ≡ true
      there = ap is_eq (equal_back (get_or paths i p) (p ++ n ∷ []) (child_cmp p n (get_or paths i p) some (ordered.children i p within) ∙ equal p))

      any_there : list_any (same_path (p ++ n ∷ [])) (slice_range paths i (i + 1)) ≡ true
      any_there = list_any_at (same_path (p ++ n ∷ [])) (slice_range paths i (i + 1)) 0 p
          (omega (arith, length-slice_range paths i (i + 1) (omega arith) (omega (arith, within))))
          (ap (same_path (p ++ n ∷ [])) (get_or-slice_range paths i (i + 1) 0 p (omega arith) ∙ ap (λ k. get_or paths k p) (no_more i)) ∙ there)

  absent_divides : (i : ℕ) → i ≤ length paths → IsPartitionPoint (λ q. side q ≡ Less) (λ q. side q ≡ Greater) paths i → DividesAt p n paths i i
  absent_divides i within parts = record {
    upto = omega arith;
    within = within;
    less = (λ m low. any_within (same_path (p ++ m ∷ [])) paths 0 i (omega arith) within (λ k d inside same. (
      omega arith,
      elim (cases_Bool (nat_lt k i)) [
        | inl below ↦ ltb-true k i below
        | inr above ↦ absurd (omega (arith, ap ordering_index (parts.1 k d (ltb-false k i above) inside), index_is m k d Less inside same low))
      ],
    )));
    here = any_within (same_path (p ++ n ∷ [])) paths i i (omega arith) within (λ k d inside same.
        let tied = index_is n k d Equal inside same (tied_itself nat_list_cmp_total n) in elim (cases_Bool (nat_lt k i)) [
          | inl below ↦ absurd (omega (arith, tied, ap ordering_index (parts.0 k d (omega arith) (ltb-true k i below))))
          | inr above ↦ absurd (omega (arith, tied, ap ordering_index (parts.1 k d (ltb-false k i above) inside)))
        ]);
    more = (λ m high. any_within (same_path (p ++ m ∷ [])) paths i (length paths) within (omega arith) (λ k d inside same. (
      elim (cases_Bool (nat_lt k i)) [
        | inl below ↦ absurd (omega (
          arith,
          ap ordering_index (parts.0 k d (omega arith) (ltb-true k i below)),
          index_is m k d Greater inside same (back m high),
        ))
        | inr above ↦ ltb-false k i above
      ],
      inside,
    )));
  }

  pub divided : (r : Result ℕ ℕ) → IsSearchInRange r (length paths) → IsBinarySearchResult (λ q. slice_cmp nat_cmp (get_or q (length p) []) n) paths r
      → MatchResult r (λ k. DividesAt p n paths k (k + 1)) (λ k. DividesAt p n paths k k)
  divided (Ok k) within at = found_divides k within at
  divided (Err i) within at = absent_divides i within (at rises)

turned : (o : Ordering) → is_le o ≡ true → is_lt (ordering_reverse o) ≡ false
turned Less le = refl
turned Equal le = refl
turned Greater le = cc

-- what a test of neighbours says
pub sorted_is : (paths : List Path) → AllAdjacentBelow (λ x y. is_le (path_cmp x y) ≡ true) paths (length paths) → IsSorted path_cmp paths
sorted_is paths each k d from within = back (get_or paths k d) (get_or paths (k + 1) d) (each k d within)
  where
    back : (x y : Path) → is_le (path_cmp x y) ≡ true → is_lt (path_cmp y x) ≡ false
    back x y le = ap is_lt (path_cmp-total.antisymm y x) ∙ turned (path_cmp x y) le

-- ---- the nodes of an order

pub any_parts : (test : ℕ → Bool) (before : List ℕ) (b : ℕ) (after list : List ℕ) → list ≡ before ++ b ∷ after →
    list_any test list ≡ (list_any test before || (test b || list_any test after))
any_parts test before b after list is = ap (list_any test) is ∙ list_any-append test before (b ∷ after)

-- entries of which each is left out by both of two lists or by none
pub any_same : (test other : ℕ → Bool) (list : List ℕ) → All (λ b. test b ≡ other b) list → list_any test list ≡ list_any other list
any_same test other [] same = refl
any_same test other (b ∷ list) same = (λ k. All-head (λ b. test b ≡ other b) b list same k
    || any_same test other list (All-tail (λ b. test b ≡ other b) b list same) k)

filter_same : (test other : ℕ → Bool) (list : List ℕ) → All (λ b. test b ≡ other b) list → filter test list ≡ filter other list
filter_same test other [] same = refl
filter_same test other (b ∷ list) same =
    let rest = filter_same test other list (All-tail (λ b. test b ≡ other b) b list same) in
    (λ k. cond (All-head (λ b. test b ≡ other b) b list same k) (b ∷ rest k) (rest k))

-- some of the others, which leave out the same of these entries
module _ (nodes : Blocks) (p q : Path) (some others : List Path) (list : List ℕ) (is : q ≡ p)
    (same : All (λ b. is_entry_beside p some nodes b ≡ is_entry_beside p others nodes b) list) where
  pub any_part : list_any (is_entry_beside q some nodes) list ≡ list_any (is_entry_beside p others nodes) list
  any_part =
      ap (λ x. list_any (is_entry_beside x some nodes) list) is ∙ any_same (is_entry_beside p some nodes) (is_entry_beside p others nodes) list same

  pub longest_part : (orders : Orders) → most_names_in nodes (walks_at orders (length q + 1) (entries_beside q some nodes list))
      ≡ most_names_in nodes (walks_at orders (length p + 1) (entries_beside p others nodes list))
  longest_part orders =
      ap (λ x. most_names_in nodes (walks_at orders (length x + 1) (entries_beside x some nodes list))) is
      ∙ ap (λ xs. most_names_in nodes (walks_at orders (length p + 1) xs))
      (filter_same (is_entry_beside p some nodes) (is_entry_beside p others nodes) list same)

-- the entries before one, and those after it
module _ (nodes : Blocks) (p : Path) (some others : List Path) (before : List ℕ) (b : ℕ) (after list : List ℕ) (is : list ≡ before ++ b ∷ after)
    (rising : AllPairs (Rises nodes) list) where
  pub same_before : ((c : ℕ) → Rises nodes c b → is_entry_beside p some nodes c ≡ is_entry_beside p others nodes c)
      → All (λ c. is_entry_beside p some nodes c ≡ is_entry_beside p others nodes c) before
  same_before each =
      All-weaker (λ c. Rises nodes c b) (λ c. is_entry_beside p some nodes c ≡ is_entry_beside p others nodes c) each before
      (pairs_front (Rises nodes) before b after (subst (AllPairs (Rises nodes)) is rising))

  pub same_after : ((c : ℕ) → Rises nodes b c → is_entry_beside p some nodes c ≡ is_entry_beside p others nodes c)
      → All (λ c. is_entry_beside p some nodes c ≡ is_entry_beside p others nodes c) after
  same_after each =
      All-weaker (λ c. Rises nodes b c) (λ c. is_entry_beside p some nodes c ≡ is_entry_beside p others nodes c) each after
      (pairs_back (Rises nodes) before b after (subst (AllPairs (Rises nodes)) is rising))

none_left : (paths : List Path) → true ≡ (length paths == 0) → paths ≡ []
none_left [] e = refl
none_left (q ∷ paths) e = absurd (omega (arith, eqb-true (length (q ∷ paths)) 0 (sym e)))

-- nothing is left out
keeps : (nodes : Blocks) (p : Path) (list : List ℕ) → entries_beside p [] nodes list ≡ list
keeps nodes p [] = refl
keeps nodes p (b ∷ list) = ap (λ x. b ∷ x) (keeps nodes p list)

pub all_beside : (nodes : Blocks) (p : Path) (others : List Path) (list : List ℕ) → true ≡ (length others == 0) → entries_beside p others nodes list ≡ list
all_beside nodes p others list none = ap (λ qs. entries_beside p qs nodes list) (none_left others none) ∙ keeps nodes p list

pub one_beside : (nodes : Blocks) (p : Path) (others : List Path) (before : List ℕ) (b : ℕ) (after list : List ℕ) → list ≡ before ++ b ∷ after
    → true ≡ (length others == 0) → true ≡ list_any (is_entry_beside p others nodes) list
one_beside nodes p others before b after list is none =
    sym (ap (λ qs. list_any (is_entry_beside p qs nodes) list) (none_left others none)
    ∙ any_parts (is_entry_beside p [] nodes) before b after list is
    ∙ or-true (list_any (is_entry_beside p [] nodes) before))

module _ (nodes : Blocks) (orders : Orders) (p : Path) (others : List Path) (depth : ℕ) where
  abbrev most : List ℕ → ℕ
  most xs = most_names_in nodes (walks_at orders depth (entries_beside p others nodes xs))

  most-append : (xs ys : List ℕ) → most (xs ++ ys) ≡ max (most xs) (most ys)
  most-append xs ys =
      ap (λ zs. most_names_in nodes (walks_at orders depth zs)) (filter-append (is_entry_beside p others nodes) xs ys)
      ∙ ap (most_names_in nodes) (flat_map-append (walk orders (9 - depth)) (entries_beside p others nodes xs) (entries_beside p others nodes ys))
      ∙ longest-append nodes (walks_at orders depth (entries_beside p others nodes xs)) (walks_at orders depth (entries_beside p others nodes ys))

  pub longest_apart : (before : List ℕ) (b : ℕ) (after list : List ℕ) → list ≡ before ++ b ∷ after →
      most_names_in nodes (walks_at orders depth (entries_beside p others nodes list))
      ≡ max (most_names_in nodes (walks_at orders depth (entries_beside p others nodes before)))
      (max (most_names_in nodes (walks_at orders depth (entries_beside p others nodes (b ∷ []))))
      (most_names_in nodes (walks_at orders depth (entries_beside p others nodes after))))
  longest_apart before b after list is = ap most is ∙ most-append before (b ∷ after) ∙ ap (max (most before)) (most-append (b ∷ []) after)

  pub longest_few : (list : List ℕ) → most_names_in nodes (walks_at orders depth (entries_beside p others nodes list)) ≤ 8
  longest_few list = names_few nodes (walks_at orders depth (entries_beside p others nodes list))

  module _ (b : ℕ) (deep : IsAtDepth nodes depth b) where
    pub longest_kept : is_entry_beside p others nodes b ≡ true → most_names_in nodes (walks_at orders depth (entries_beside p others nodes (b ∷ [])))
        ≡ max depth (most_names_in nodes (walks_at orders (depth + 1) (in_order orders (Some b))))
    longest_kept test =
        ap (λ t. most_names_in nodes (walks_at orders depth (cond t (b ∷ []) []))) test
        ∙ longest_parts nodes orders (9 - depth) (9 - (depth + 1)) [] b [] more
        ∙ no_more (length (path_of_node nodes b)) (most_names_in nodes (walks_at orders (depth + 1) (in_order orders (Some b))))
        ∙ ap (λ k. max k (most_names_in nodes (walks_at orders (depth + 1) (in_order orders (Some b))))) deep.names
      where
        more : 9 - depth ≡ suc (9 - (depth + 1))
        more = omega (arith, few_names nodes b, deep.names)

        no_more : (x y : ℕ) → max (max (max x y) 0) 0 ≡ max x y
        no_more x y = grind arith

    pub longest_left : is_entry_beside p others nodes b ≡ false → most_names_in nodes (walks_at orders depth (entries_beside p others nodes (b ∷ []))) ≡ 0
    longest_left test = ap (λ t. most_names_in nodes (walks_at orders depth (cond t (b ∷ []) []))) test

    -- whether the entry is left out or not
    pub longest_within : (most : ℕ) → depth ≤ most → most_names_in nodes (walks_at orders (depth + 1) (in_order orders (Some b))) ≤ most →
        most_names_in nodes (walks_at orders depth (entries_beside p others nodes (b ∷ []))) ≤ most
    longest_within most here below = by_test (is_entry_beside p others nodes b) refl
      where
        by_test : (t : Bool) → is_entry_beside p others nodes b ≡ t →
            most_names_in nodes (walks_at orders depth (entries_beside p others nodes (b ∷ []))) ≤ most
        by_test true is = grind (arith, longest_kept is, here, below)
        by_test false is = omega (arith, longest_left is)
