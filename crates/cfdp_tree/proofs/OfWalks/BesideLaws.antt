-- What is below a directory, but for some of its entries.
--     entry_path                an entry's path
--     beside_by                 what is below an entry is beside others where the entry is
--     any_is, absent_any        whether anything is there
--     longest_is, absent_longest    the longest path
use Rattle.std.proofs.Common.{◌≡◌, ℕ, zero, suc, ◌+◌, ◌-◌, ◌<◌, ◌≤◌, ◌&&◌, Bool, true, false, not, cond, is_some, List, [], ◌∷◌, ◌++◌, length, length-append, take, drop, get_or, Option, Some, None, refl, sym, ap, ◌∙◌, subst, arith}
use Rattle.std.proofs.lemmas.List.{append-nil, take_at, take-append-drop}
use Rattle.std.proofs.lemmas.List.Elements.{All-weaker, All-head, All-tail}
use Rattle.std.proofs.lemmas.List.Folds.{Any-from_list_any, list_any_at}
use Rattle.std.specs.List.{filter, list_any}
use Rattle.std.specs.Prelude.{All, Contains}
use Rattle.std.specs.FinMap as finite
use Rattle.std.specs.FinMap.{find, get-entries}
use Rattle.std.proofs.lemmas.Option.{none-some}
use Rattle.std.proofs.lemmas.Bool.{both_ways}
use Rattle.cfdp_arena.specs.Arena.{Blocks, octets_of}
use Rattle.cfdp_paths.specs.Paths.{Path, path_cmp, same_path, is_below}
use Rattle.cfdp_paths.proofs.Below.{is_below-Decides, append_from_at_or_below, at_or_below_from_append, length-at_or_below}
use Rattle.cfdp_actions.specs.Filestore.{Node, Filestore, node_at, is_beside, inside_beside, has_beside, deepest_of, deepest_beside}
use Rattle.cfdp_actions.proofs.RowLaws.{deepest-most}
use Rattle.cfdp_actions.proofs.Order.{get_kept}
use Rattle.cfdp_tree.specs.declared.orders.Orders.{Orders}
use Rattle.cfdp_tree.specs.code.Tree.{IsNode, name_at, home, path_of_node, IsTree}
use Rattle.cfdp_tree.specs.code.Directories.{path_at}
use Rattle.cfdp_tree.specs.code.Entries.{IsMember}
use Rattle.cfdp_tree.specs.code.Orders.{in_order, IsInOrders}
use Rattle.cfdp_tree.specs.code.Kept.{node_of, Shows}
use Rattle.cfdp_tree.specs.code.Walk.{walk, walks_at, most_names_in}
use Rattle.cfdp_tree.specs.code.NodesBelow.{IsUnder}
use Rattle.cfdp_tree.specs.code.Beside.{is_entry_beside, entries_beside}
use Rattle.cfdp_tree.proofs.OfNodes.ClimbLaws.{path_by_home, beginning}
use Rattle.cfdp_tree.proofs.OfNodes.BelowLaws.{has_some, has_none, entry_below}
use Rattle.cfdp_tree.proofs.OfWalks.DeepestLaws.{deepest_le, longest_le, longest_ge}
use Rattle.cfdp_tree.proofs.OfWalks.NodesBelowLaws.{Contains-flat_map, All-flat_map, walk_own, walk_all}
use Rattle.cfdp_tree.proofs.OfWalks.WalkLaws.{few_names}

-- what passes a test is among those that pass
passes : {X : Type 0} (test : X → Bool) (xs : List X) (x : X) → Contains xs x → test x ≡ true → Contains (filter test xs) x
passes test [] x has e = absurd (omega (arith, has.1))
passes test (y ∷ xs) x (zero, within, same) e = rw (ap test same ∙ e) (zero, omega arith, same)
passes test (y ∷ xs) x (suc k, within, same) e = by_test (test y) refl (passes test xs x (k, omega arith, same) e)
  where
    by_test : (b : Bool) → test y ≡ b → Contains (filter test xs) x → Contains (filter test (y ∷ xs)) x
    by_test true is has = rw is (suc has.0, omega (arith, has.1), has.2)
    by_test false is has = rw is has

-- each that passes does pass
All-passing : {X : Type 0} (test : X → Bool) (P : X → Type 0) (xs : List X) → All P xs → All (λ x. P x × (test x ≡ true)) (filter test xs)
All-passing test P [] all = (λ k d within. absurd (omega (arith, within)))
All-passing {X} test P (x ∷ xs) all = by_test (test x) refl (All-passing test P xs (All-tail P x xs all))
  where
    by_test : (b : Bool) → test x ≡ b → All (λ x. P x × (test x ≡ true)) (filter test xs) → All (λ x. P x × (test x ≡ true)) (filter test (x ∷ xs))
    by_test true is rest = rw is (λ k d within. by_index k d within)
      where
        by_index : (k : ℕ) (d : X) → k < suc (length (filter test xs)) → P (get_or (x ∷ filter test xs) k d) × (test (get_or (x ∷ filter test xs) k d) ≡ true)
        by_index zero d within = (All-head P x xs all, is)
        by_index (suc k) d within = rest k d (omega (arith, within))
    by_test false is rest = rw is rest

beside_by : (p : Path) (others : List Path) (nodes : Blocks) (q : Path) (e : ℕ) → is_below q p ≡ true → take (suc (length p)) q ≡ p ++ name_at nodes e ∷ []
    → is_beside others p q ≡ is_entry_beside p others nodes e
beside_by p others nodes q e below front = (λ k. below k && not (list_any (same_path (front k)) others))

beside_below : (p : Path) (others : List Path) (q : Path) → is_beside others p q ≡ true → is_below q p ≡ true
beside_below p others q e = by_test (is_below q p) refl
  where
    by_test : (b : Bool) → is_below q p ≡ b → is_below q p ≡ true
    by_test true is = is
    by_test false is = absurd (both_ways _ (ap (λ b. b && not (list_any (same_path (take (suc (length p)) q)) others)) is) e)

module _ (nodes : Blocks) (tree : IsTree nodes) (arena : Blocks) (F : Filestore) (shows : Shows arena nodes F.nodes) (p : Path) (others : List Path) where
  -- where no node has the path
  module _ (some : 1 ≤ length p) (none : (b : ℕ) → IsNode nodes b → path_of_node nodes b ≡ p → ⊥) where
    pub nothing : (q : Path) (node : Node) → node_at F q ≡ Some node → is_beside others p q ≡ true → ⊥
    nothing q other is beside =
        let at = shows.only q other is in
        let under = (is_below-Decides (path_of_node nodes at.0) p).0 (ap (λ x. is_below x p) at.2 ∙ beside_below p others q beside) in
        let whole = append_from_at_or_below (path_of_node nodes at.0) p under.0 in
        let entry = beginning nodes tree at.0 (length p) at.1 some (length-at_or_below (path_of_node nodes at.0) p under.0) in
        none entry.0 entry.1 (entry.2 ∙ ap (take (length p)) whole ∙ take_at p (drop (length p) (path_of_node nodes at.0)) (length p) refl)

    pub absent_any : has_beside F p others ≡ false
    absent_any = has_none F (is_beside others p) nothing

    pub absent_longest : deepest_beside F p others ≡ 0
    absent_longest = omega (arith, deepest_le (finite.entries (inside_beside F p others)) 0 (λ q found. absurd (never q (node_at F q) refl found)))
      where
        never : (q : Path) (o : Option Node) → node_at F q ≡ o → is_some (find path_cmp q (finite.entries (inside_beside F p others))) ≡ true → ⊥
        never q o is found = by_case (is_beside others p q) o refl is
            (sym (ap is_some (sym (get-entries (inside_beside F p others) q) ∙ get_kept F (is_beside others p) q)) ∙ found)
          where
            by_case : (b : Bool) (o : Option Node) → is_beside others p q ≡ b → node_at F q ≡ o →
                is_some (cond (is_beside others p q) (node_at F q) None) ≡ true → ⊥
            by_case true (Some node) beside is found = nothing q node is beside
            by_case true None beside is found = both_ways _ (λ k. is_some (cond (beside k) (is k) None)) found
            by_case false o beside is found = both_ways _ (ap (λ b. is_some (cond b (node_at F q) None)) beside) found

  -- where a node has it
  module _ (b : ℕ) (node : IsNode nodes b) (way : path_of_node nodes b ≡ p) where
    entry_path : (e : ℕ) → IsNode nodes e → home nodes e ≡ Some b → path_of_node nodes e ≡ p ++ name_at nodes e ∷ []
    entry_path e entry there =
        path_by_home nodes tree e entry ∙ ap (λ x. path_at nodes x ++ name_at nodes e ∷ []) there ∙ ap (λ x. x ++ name_at nodes e ∷ []) way

    -- what is at an entry and below it
    under_entry : (e c : ℕ) → IsNode nodes e → home nodes e ≡ Some b → IsUnder nodes (path_of_node nodes e) c →
        is_beside others p (path_of_node nodes c) ≡ is_entry_beside p others nodes e
    under_entry e c entry there under =
        let q = path_of_node nodes c in let way_e = entry_path e entry there in let long : length (path_of_node nodes e) ≡ suc (length p) = omega (
          arith,
          ap length way_e,
          length-append p (name_at nodes e ∷ []),
        ) in
        let whole = append_from_at_or_below q (path_of_node nodes e) under.below in
        let front : take (suc (length p)) q ≡ path_of_node nodes e = ap (take (suc (length p))) whole
        ∙ take_at (path_of_node nodes e) (drop (length (path_of_node nodes e)) q) (suc (length p)) long in
        let below : is_below q p ≡ true = (is_below-Decides q p).1 (
          at_or_below_from_append q p (name_at nodes e ∷ drop (length (path_of_node nodes e)) q)
              (whole ∙ ap (λ x. x ++ drop (length (path_of_node nodes e)) q) way_e ∙ append_more p (name_at nodes e)
              (drop (length (path_of_node nodes e)) q)),
          (λ same. omega (arith, long, length-at_or_below q (path_of_node nodes e) under.below, ap length same)),
        ) in
        beside_by p others nodes q e below (front ∙ way_e)
      where
        append_more : (x : Path) (n : List ℕ) (y : Path) → (x ++ n ∷ []) ++ y ≡ x ++ n ∷ y
        append_more [] n y = refl
        append_more (m ∷ x) n y = ap (λ z. m ∷ z) (append_more x n y)

    -- the entry of a path that is beside the others
    entry_of : (q : Path) (other : Node) → node_at F q ≡ Some other → is_beside others p q ≡ true → (e : ℕ) × (c : ℕ) × IsNode nodes e × (home nodes e
        ≡ Some b) × IsUnder nodes (path_of_node nodes e) c × (path_of_node nodes c ≡ q) × (is_entry_beside p others nodes e ≡ true)
    entry_of q other is beside =
        let at = shows.only q other is in let c = at.0 in
        let entry = entry_below nodes tree b c p node way at.1 (ap (λ x. is_below x p) at.2 ∙ beside_below p others q beside) in
        let under : IsUnder nodes (path_of_node nodes entry.0) c = record {
          node = at.1;
          below = at_or_below_from_append (path_of_node nodes c) (path_of_node nodes entry.0) (drop (length p + 1) (path_of_node nodes c))
              (sym (take-append-drop (length p + 1) (path_of_node nodes c)) ∙ ap (λ x. x ++ drop (length p + 1) (path_of_node nodes c)) (sym entry.3));
        } in (
          entry.0,
          c,
          entry.1,
          entry.2,
          under,
          at.2,
          sym (under_entry entry.0 c entry.1 entry.2 under) ∙ ap (is_beside others p) at.2 ∙ beside,
        )

    module _ (orders : Orders) (ordered : IsInOrders nodes orders None) where
      abbrev own : List ℕ
      own = in_order orders (Some b)

      listed : (e : ℕ) → IsNode nodes e → home nodes e ≡ Some b → Contains (in_order orders (Some b)) e
      listed e entry there = subst (λ x. Contains (in_order orders x) e) there (ordered.all e entry (none-some e))

      itself : (e : ℕ) → IsNode nodes e → IsUnder nodes (path_of_node nodes e) e
      itself e entry = record {
        node = entry;
        below = at_or_below_from_append (path_of_node nodes e) (path_of_node nodes e) [] (sym (append-nil (path_of_node nodes e)));
      }

      pub any_is : list_any (is_entry_beside p others nodes) (in_order orders (Some b)) ≡ has_beside F p others
      any_is = by_any (list_any (is_entry_beside p others nodes) own) refl
        where
          by_any : (found : Bool) → list_any (is_entry_beside p others nodes) own ≡ found → list_any (is_entry_beside p others nodes) own
              ≡ has_beside F p others
          by_any true is =
              let at = Any-from_list_any (is_entry_beside p others nodes) own is in
              let e = at.1 in
              let member : IsMember nodes None (Some b) e = subst (IsMember nodes None (Some b)) at.3 (ordered.own (Some b) at.0 e at.2) in
              is ∙ sym (has_some F (is_beside others p) (path_of_node nodes e) (node_of arena (octets_of nodes e)) (shows.each e member.node)
              (under_entry e e member.node member.there (itself e member.node) ∙ at.4))
          by_any false is = is ∙ sym (has_none F (is_beside others p) (λ q other at beside.
              (let found = entry_of q other at beside in
              let has = listed found.0 found.2 found.3 in
              both_ways _ is (list_any_at (is_entry_beside p others nodes) own has.0 found.0 has.1 (ap (is_entry_beside p others nodes) has.2 ∙ found.6)))))

      abbrev all : List ℕ
      all = walks_at orders (length p + 1) (entries_beside p others nodes (in_order orders (Some b)))

      abbrev there : List (Path × Node)
      there = finite.entries (inside_beside F p others)

      find_is : (q : Path) → find path_cmp q there ≡ cond (is_beside others p q) (node_at F q) None
      find_is q = sym (get-entries (inside_beside F p others) q) ∙ get_kept F (is_beside others p) q

      each_le : (e : ℕ) → IsMember nodes None (Some b) e × (is_entry_beside p others nodes e ≡ true) →
          All (λ c. length (path_of_node nodes c) ≤ deepest_of there) (walk orders (9 - (length p + 1)) e)
      each_le e (member, test) = All-weaker (IsUnder nodes (path_of_node nodes e)) (λ c. length (path_of_node nodes c) ≤ deepest_of there) (λ c under.
          deepest-most there (path_of_node nodes c) (ap is_some (find_is (path_of_node nodes c))
          ∙ (λ k. is_some (cond ((under_entry e c member.node member.there under ∙ test) k) (shows.each c under.node k) None))))
          (walk orders (9 - (length p + 1)) e) (walk_own nodes tree orders ordered (9 - (length p + 1)) e member.node)

      path_le : (q : Path) → is_some (find path_cmp q there) ≡ true → length q ≤ most_names_in nodes all
      path_le q found = by_case (is_beside others p q) (node_at F q) refl refl (sym (ap is_some (find_is q)) ∙ found)
        where
          by_case : (b : Bool) (o : Option Node) → is_beside others p q ≡ b → node_at F q ≡ o → is_some (cond (is_beside others p q) (node_at F q) None) ≡ true
              → length q ≤ most_names_in nodes all
          by_case true (Some other) beside is found =
              let at = entry_of q other is beside in let e = at.0 in let c = at.1 in
              let has = listed e at.2 at.3 in
              let long : length (path_of_node nodes e) ≡ length p + 1 = omega (
                arith,
                ap length (entry_path e at.2 at.3),
                length-append p (name_at nodes e ∷ []),
              ) in
              let inside : Contains (walk orders (9 - (length p + 1)) e) c = walk_all nodes tree orders ordered (9 - (length p + 1)) e c at.2 at.4
              (short (length (path_of_node nodes c)) (length (path_of_node nodes e)) (few_names nodes c) long) in
              let walked : Contains all c = Contains-flat_map (walk orders (9 - (length p + 1))) (entries_beside p others nodes own) e c
              (passes (is_entry_beside p others nodes) own e has at.6) inside in
              omega (arith, longest_ge nodes all walked.0 c walked.1, ap (λ x. length (path_of_node nodes x)) walked.2, ap length at.5)
            where
              short : (n m : ℕ) → n ≤ 8 → m ≡ length p + 1 → n < m + (9 - (length p + 1))
              short n m few is = omega (arith, few, is)
          by_case true None beside is found = absurd (both_ways _ (λ k. is_some (cond (beside k) (is k) None)) found)
          by_case false o beside is found = absurd (both_ways _ (ap (λ b. is_some (cond b (node_at F q) None)) beside) found)

      pub longest_is : most_names_in nodes (walks_at orders (length p + 1) (entries_beside p others nodes (in_order orders (Some b))))
          ≡ deepest_beside F p others
      longest_is = omega (
        arith,
        longest_le nodes all (deepest_of there) (All-flat_map (walk orders (9 - (length p + 1))) (λ c. length (path_of_node nodes c) ≤ deepest_of there)
            (entries_beside p others nodes own) (All-weaker (λ e. IsMember nodes None (Some b) e × (is_entry_beside p others nodes e ≡ true))
            (λ e. All (λ c. length (path_of_node nodes c) ≤ deepest_of there) (walk orders (9 - (length p + 1)) e)) each_le
            (entries_beside p others nodes own)
            (All-passing (is_entry_beside p others nodes) (IsMember nodes None (Some b)) own (ordered.own (Some b))))),
        deepest_le there (most_names_in nodes all) path_le,
      )
