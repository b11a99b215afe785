-- The longest path among some nodes, and among what is at a path and below it.
--     deepest_le                of entries:  no more than all of them
--     longest_le, longest_ge    of nodes:  no more than all of them, and no less than each
--     deepest_is                both are one, where the nodes are those of what is there
use Rattle.std.proofs.Common.{◌≡◌, ℕ, zero, suc, ◌≤◌, max, Bool, true, false, List, [], ◌∷◌, length, cond, is_some, get_or, Option, Some, None, refl, sym, ap, ◌∙◌, arith}
use Rattle.std.proofs.Math.Nat.{le-max_left, le-max_right}
use Rattle.std.proofs.lemmas.List.Elements.{All-head, All-tail}
use Rattle.std.specs.Prelude.{All}
use Rattle.std.specs.FinMap.{find}
use Rattle.std.proofs.lemmas.Bool.{false≢true}
use Rattle.cfdp_paths.specs.Paths.{Path, path_cmp, same_path, is_at_or_below}
use Rattle.cfdp_paths.proofs.Comparing.{same_path-Decides}
use Rattle.cfdp_arena.specs.Arena.{Blocks}
use Rattle.cfdp_actions.specs.Filestore.{Node, Filestore, node_at, tree_at, deepest_of}
use Rattle.cfdp_actions.proofs.Order.{still_there}
use Rattle.cfdp_actions.proofs.RowLaws.{deepest-most}
use Rattle.cfdp_actions.proofs.Moves.{find-tree_at}
use Rattle.cfdp_tree.specs.code.Tree.{path_of_node}
use Rattle.cfdp_tree.specs.code.Kept.{Shows}
use Rattle.cfdp_tree.specs.code.Walk.{most_names_in}
use Rattle.cfdp_tree.specs.code.NodesBelow.{IsUnder, AreNodesBelow}

max_le : (a b m : ℕ) → a ≤ m → b ≤ m → max a b ≤ m
max_le a b m first second = grind (arith, first, second)

pub deepest_le : (es : List (Path × Node)) (m : ℕ) → ((q : Path) → is_some (find path_cmp q es) ≡ true → length q ≤ m) → deepest_of es ≤ m
deepest_le [] m each = omega arith
deepest_le (e ∷ es) m each =
    max_le (length e.0) (deepest_of es) m
    (each e.0 (ap (λ b. is_some (cond b (Some e.1) (find path_cmp e.0 es))) ((same_path-Decides e.0 e.0).1 refl)))
    (deepest_le es m (λ q some. each q (still_there (same_path q e.0) e.1 (find path_cmp q es) some)))

module _ (nodes : Blocks) where
  pub longest_le : (list : List ℕ) (m : ℕ) → All (λ b. length (path_of_node nodes b) ≤ m) list → most_names_in nodes list ≤ m
  longest_le [] m each = omega arith
  longest_le (b ∷ list) m each =
      max_le (length (path_of_node nodes b)) (most_names_in nodes list) m (All-head (λ b. length (path_of_node nodes b) ≤ m) b list each)
      (longest_le list m (All-tail (λ b. length (path_of_node nodes b) ≤ m) b list each))

  pub longest_ge : (list : List ℕ) → All (λ b. length (path_of_node nodes b) ≤ most_names_in nodes list) list
  longest_ge [] k d within = absurd (omega (arith, within))
  longest_ge (b ∷ list) zero d within = le-max_left (length (path_of_node nodes b)) (most_names_in nodes list)
  longest_ge (b ∷ list) (suc k) d within = omega (
    arith,
    longest_ge list k d (omega (arith, within)),
    le-max_right (length (path_of_node nodes b)) (most_names_in nodes list),
  )

  module _ (arena : Blocks) (F : Filestore) (shows : Shows arena nodes F.nodes) (p : Path) (list : List ℕ) (nodes_below : AreNodesBelow nodes p list) where
    under_found : (b : ℕ) → IsUnder nodes p b → is_some (find path_cmp (path_of_node nodes b) (tree_at F p)) ≡ true
    under_found b under =
        ap is_some (find-tree_at F p (path_of_node nodes b))
        ∙ ap (λ y. is_some (cond y (node_at F (path_of_node nodes b)) None)) under.below
        ∙ ap is_some (shows.each b under.node)

    found_under : (q : Path) → is_some (find path_cmp q (tree_at F p)) ≡ true → length q ≤ most_names_in nodes list
    found_under q some = by_case (is_at_or_below q p) (node_at F q) refl refl (sym (ap is_some (find-tree_at F p q)) ∙ some)
      where
        by_case : (below : Bool) (o : Option Node) → is_at_or_below q p ≡ below → node_at F q ≡ o → is_some (cond (is_at_or_below q p) (node_at F q) None)
            ≡ true → length q ≤ most_names_in nodes list
        by_case true (Some node) is e some =
            let at = shows.only q node e in
            let has = nodes_below.all at.0 (record { node = at.1; below = ap (λ x. is_at_or_below x p) at.2 ∙ is }) in
            omega (arith, longest_ge list has.0 at.0 has.1, ap (λ b. length (path_of_node nodes b)) has.2, ap length at.2)
        by_case true None is e some = absurd (false≢true (sym (λ k. is_some (cond (is k) (e k) None)) ∙ some))
        by_case false o is e some = absurd (false≢true (sym (ap (λ b. is_some (cond b (node_at F q) None)) is) ∙ some))

    pub deepest_is : most_names_in nodes list ≡ deepest_of (tree_at F p)
    deepest_is = omega (
      arith,
      longest_le list (deepest_of (tree_at F p)) (λ k d within. deepest-most (tree_at F p) (path_of_node nodes (get_or list k d))
          (under_found (get_or list k d) (nodes_below.own k d within))),
      deepest_le (tree_at F p) (most_names_in nodes list) found_under,
    )
