-- What is below a directory.
--     has_some, has_none             something, or nothing, is at the paths that pass a test
--     entry_below                    where something is below a directory, it has an entry
--     order_some, order_none, absent_none     by the order of a path's node
use Rattle.std.proofs.Common.{◌≡◌, ℕ, zero, suc, ◌+◌, ◌<◌, ◌≤◌, ◌==◌, Bool, true, false, not, cond, [], ◌∷◌, ◌++◌, length, length-append, take, drop, get_or, Option, Some, None, refl, sym, ap, ◌∙◌, subst, inl, inr, arith}
use Rattle.std.proofs.lemmas.Bool.{cases_lt}
use Rattle.std.proofs.lemmas.List.{take_all, take_at, take_more, same_from_push}
use Rattle.std.specs.Prelude.{Contains}
use Rattle.std.specs.FinMap as finite
use Rattle.std.specs.FinMap.{get-empty, len-empty, empty_of_len, same_map}
use Rattle.std.proofs.lemmas.Option.{none-some, same_Some}
use Rattle.cfdp_paths.specs.Paths.{Path, path_cmp, is_below}
use Rattle.cfdp_paths.proofs.Below.{is_below-Decides, append_from_at_or_below, at_or_below_from_append, length-at_or_below}
use Rattle.cfdp_paths.proofs.Comparing.{path_cmp-total}
use Rattle.cfdp_paths.proofs.InOrder.{path_antisym}
use Rattle.cfdp_arena.specs.Arena.{Blocks, octets_of}
use Rattle.cfdp_actions.specs.Filestore.{Node, Filestore, node_at, has_entries}
use Rattle.cfdp_order.specs.Orders.{links_at, left_of, right_of, times_in}
use Rattle.cfdp_order.specs.Orders.{nodes as nodes_of}
use Rattle.cfdp_order.proofs.Counts.{one_self, times_middle}
use Rattle.cfdp_order.proofs.TreeLaws.{no_nodes, opened_at}
use Rattle.cfdp_tree.specs.declared.orders.Orders.{Orders}
use Rattle.cfdp_tree.specs.code.Tree.{IsNode, name_at, home, path_of_node, IsTree}
use Rattle.cfdp_tree.specs.code.Orders.{order_at, in_order, IsInOrders}
use Rattle.cfdp_tree.specs.code.Directories.{path_at}
use Rattle.cfdp_tree.specs.code.Kept.{node_of, Shows}
use Rattle.cfdp_tree.proofs.OfNodes.ClimbLaws.{path_by_home, same_bucket, beginning}
use Rattle.cfdp_tree.proofs.OfOrders.OrderLaws.{member_at}
use Rattle.cfdp_actions.proofs.StoreLaws.{some_more}
use Rattle.cfdp_actions.proofs.Order.{get_kept}

-- the filestore

-- the paths that pass a test
module _ (F : Filestore) (test : Path → Bool) where
  abbrev passing : finite.FinMap path_cmp Node
  passing = finite.retain_keys F.nodes test

  pub has_some : (q : Path) (node : Node) → node_at F q ≡ Some node → test q ≡ true → not (finite.len (finite.retain_keys F.nodes test) == 0) ≡ true
  has_some q node e passes = by_length (finite.len passing) refl
    where
      absent : finite.len passing ≡ 0 → None ≡ Some node
      absent none =
          sym (get-empty path_cmp q) ∙ sym (ap (λ m. finite.get m q) (empty_of_len passing none)) ∙ get_kept F test q
          ∙ ap (λ b. cond b (node_at F q) None) passes ∙ e

      by_length : (n : ℕ) → finite.len passing ≡ n → not (finite.len passing == 0) ≡ true
      by_length zero none = absurd (none-some node (absent none))
      by_length (suc n) some = ap (λ k. not (k == 0)) some ∙ some_more n

  pub has_none : ((q : Path) (node : Node) → node_at F q ≡ Some node → test q ≡ true → ⊥)
      → not (finite.len (finite.retain_keys F.nodes test) == 0) ≡ false
  has_none none = ap (λ m. not (finite.len m == 0)) (same_map path_cmp-total path_antisym passing finite.empty (λ q. get_kept F test q
      ∙ absent q (test q) (node_at F q) refl refl ∙ sym (get-empty path_cmp q))) ∙ ap (λ k. not (k == 0)) (len-empty path_cmp Node)
    where
      absent : (q : Path) (b : Bool) (o : Option Node) → test q ≡ b → node_at F q ≡ o → cond (test q) (node_at F q) None ≡ None
      absent q true None is e = (λ i. cond (is i) (e i) None)
      absent q true (Some node) is e = absurd (none q node e is)
      absent q false o is e = ap (λ b. cond b (node_at F q) None) is

module _ (nodes : Blocks) (tree : IsTree nodes) where
  pub entry_below : (b c : ℕ) (p : Path) → IsNode nodes b → path_of_node nodes b ≡ p → IsNode nodes c → is_below (path_of_node nodes c) p ≡ true
      → (e : ℕ) × IsNode nodes e × (home nodes e ≡ Some b) × (path_of_node nodes e ≡ take (length p + 1) (path_of_node nodes c))
  entry_below b c p node way other below =
      let q = path_of_node nodes c in
      let parts = (is_below-Decides q p).0 below in
      let whole = append_from_at_or_below q p parts.0 in
      let front : take (length p) q ≡ p = ap (take (length p)) whole ∙ take_at p (drop (length p) q) (length p) refl in
      let less : length p < length q = elim (cases_lt (length p) (length q)) [
        | inl less ↦ less
        | inr past ↦
            absurd (parts.1 (sym (take_all (length p) q past) ∙ front))
      ] in
      let entry = beginning nodes tree c (length p + 1) other (omega arith) (omega (arith, less)) in
      let same = same_from_push (path_at nodes (home nodes entry.0)) p (name_at nodes entry.0) (get_or q (length p) [])
      (sym (path_by_home nodes tree entry.0 entry.1) ∙ entry.2 ∙ take_more q (length p) [] less ∙ ap (λ x. x ++ get_or q (length p) [] ∷ []) front) in (
        entry.0,
        entry.1,
        same_bucket nodes tree (home nodes entry.0) (Some b) (λ d there. (tree.homes entry.0 d entry.1 there).node)
            (λ d is. subst (IsNode nodes) (same_Some _ _ is) node) (same.0 ∙ sym way),
        entry.2,
      )

  -- an entry is below its directory
  pub below_by_entry : (b e : ℕ) → IsNode nodes e → home nodes e ≡ Some b → is_below (path_of_node nodes e) (path_of_node nodes b) ≡ true
  below_by_entry b e node there =
      let whole : path_of_node nodes e ≡ path_of_node nodes b ++ name_at nodes e ∷ [] = path_by_home nodes tree e node
      ∙ ap (λ x. path_at nodes x ++ name_at nodes e ∷ []) there in
      (is_below-Decides (path_of_node nodes e) (path_of_node nodes b)).1 (
        at_or_below_from_append (path_of_node nodes e) (path_of_node nodes b) (name_at nodes e ∷ []) whole,
        (λ same. omega (arith, ap length (sym same ∙ whole), length-append (path_of_node nodes b) (name_at nodes e ∷ []))),
      )

  module _ (arena : Blocks) (F : Filestore) (shows : Shows arena nodes F.nodes) where
    module _ (b : ℕ) (p : Path) (node : IsNode nodes b) (way : path_of_node nodes b ≡ p) where
      -- something where it has one
      pub entry_some : (e : ℕ) → IsNode nodes e → home nodes e ≡ Some b → has_entries F p ≡ true
      entry_some e entry there =
          has_some F (λ x. is_below x p) (path_of_node nodes e) (node_of arena (octets_of nodes e)) (shows.each e entry)
          (ap (is_below (path_of_node nodes e)) (sym way) ∙ below_by_entry b e entry there)

      -- nothing is below it where it has no entry
      pub entry_none : ((e : ℕ) → IsNode nodes e → home nodes e ≡ Some b → ⊥) → has_entries F p ≡ false
      entry_none none = has_none F (λ x. is_below x p) (λ q other is below.
          (let at = shows.only q other is in
          let entry = entry_below b at.0 p node way at.1 (ap (λ x. is_below x p) at.2 ∙ below) in
          none entry.0 entry.1 entry.2))

      module _ (orders : Orders) (ordered : IsInOrders nodes orders None) where
        pub order_some : 0 < (order_at orders (Some b)).height → has_entries F p ≡ true
        order_some some =
            let top = (order_at orders (Some b)).root in
            let at_top = opened_at (ordered.order (Some b)) some {n = top} refl in
            let before = nodes_of orders.links.items (left_of (links_at orders.links.items top)) in
            let after = nodes_of orders.links.items (right_of (links_at orders.links.items top)) in
            let there : 1 ≤ times_in top (in_order orders (Some b)) = omega (
              arith,
              ap (times_in top) at_top.listed,
              times_middle top before top after,
              one_self top,
            ) in
            let entry = member_at nodes orders None ordered (Some b) top there in
            entry_some top entry.node entry.there

        pub order_none : (order_at orders (Some b)).height ≡ 0 → has_entries F p ≡ false
        order_none empty = entry_none (λ e entry there.
            (let has = subst (λ x. Contains (in_order orders x) e) there (ordered.all e entry (none-some e)) in
            omega (arith, has.1, ap length (no_nodes orders.links.items (order_at orders (Some b)) empty))))

    pub absent_none : (p : Path) → 1 ≤ length p → ((b : ℕ) → IsNode nodes b → path_of_node nodes b ≡ p → ⊥) → has_entries F p ≡ false
    absent_none p some none = has_none F (λ x. is_below x p) (λ q other is below.
        (let at = shows.only q other is in
        let under = (is_below-Decides (path_of_node nodes at.0) p).0 (ap (λ x. is_below x p) at.2 ∙ below) in
        let whole = append_from_at_or_below (path_of_node nodes at.0) p under.0 in
        let entry = beginning nodes tree at.0 (length p) at.1 some (length-at_or_below (path_of_node nodes at.0) p under.0) in
        none entry.0 entry.1 (entry.2 ∙ ap (take (length p)) whole ∙ take_at p (drop (length p) (path_of_node nodes at.0)) (length p) refl)))
