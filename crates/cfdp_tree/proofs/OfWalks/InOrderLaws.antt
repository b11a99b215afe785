-- Nodes with their paths, in path order, are the entries of what is there.
--     rising                   paths in order of which no two are one strictly rise
--     found_own, found_all, found_apart     the nodes of what is at a path and below it, in another order
--     found_tree               they are the entries of what is there
--     tree_of_nodes            they are so where their paths rise
--     tree_whole               of no name, all that exists
use Rattle.std.proofs.Common.{◌≡◌, ◌≢◌, ℕ, zero, suc, ◌+◌, ◌<◌, Bool, true, false, ◌&&◌, T, List, [], ◌∷◌, length, map, is_lt, cond, is_some, get_or, Option, Some, None, refl, sym, ap, ◌∙◌, subst, arith}
use Rattle.std.proofs.lemmas.List.{length-map, get_or-map}
use Rattle.std.proofs.lemmas.List.Elements.{All-map}
use Rattle.std.proofs.lemmas.List.Sorted.{All-permutation, Contains-permutation, IsPermutation-map, IsPermutation-refl}
use Rattle.std.proofs.lemmas.Simd.{map-map}
use Rattle.std.proofs.lemmas.Map.Keys.{IsDistinct-IsPermutation}
use Rattle.std.proofs.lemmas.Map.Made.{AllPairs-from_IsDistinct, IsDistinct-from_AllPairs}
use Rattle.std.specs.Prelude.{All, AllPairs, Contains, IsSorted, IsPermutation}
use Rattle.std.specs.declared.cmp.Ordering.{Ordering}
use Rattle.std.specs.declared.cmp.Ordering.TheVariants.{Less, Equal, Greater}
use Rattle.std.specs.FinMap as finite
use Rattle.std.specs.FinMap.Entries.{below_all}
use Rattle.std.specs.FinMap.{find, is_sorted, from_sorted, entries-from_sorted, get-from_sorted, same_map}
use Rattle.cfdp_paths.specs.Paths.{Path, path_cmp, same_path, is_at_or_below}
use Rattle.cfdp_paths.proofs.Comparing.{same_path-Decides, path_cmp-total}
use Rattle.cfdp_paths.proofs.InOrder.{path_antisym, less_back, greater_back, below_before}
use Rattle.cfdp_arena.specs.Arena.{Blocks}
use Rattle.cfdp_actions.specs.Filestore.{Node, Filestore, node_at, tree_at}
use Rattle.cfdp_tree.specs.code.Tree.{path_of_node, IsTree}
use Rattle.cfdp_tree.specs.code.Kept.{Shows}
use Rattle.cfdp_tree.specs.code.NodesBelow.{IsUnder, AreNodesBelow, path_and_node, by_path, shown_node}
use Rattle.cfdp_tree.proofs.OfNodes.TreeLaws.{same_node}
use Rattle.std.proofs.lemmas.Bool.{and_from, and_parts, both_ways}
use Rattle.std.proofs.lemmas.Option.{none-some, same_Some}
use Rattle.cfdp_actions.proofs.Order.{same_path-symm, get_kept}

-- ---- in order

not_less : (o : Ordering) → is_lt o ≡ false → (o ≡ Equal → ⊥) → o ≡ Greater
not_less Less e apart = cc
not_less Equal e apart = absurd (apart refl)
not_less Greater e apart = refl

module _ {X : Type 0} where
  later : (e : Path × X) (es : List (Path × X)) → IsSorted (λ e f. path_cmp e.0 f.0) (e ∷ es) → IsSorted (λ e f. path_cmp e.0 f.0) es
  later e es up k d low within =
      let same : suc k + 1 ≡ suc (k + 1) = omega arith in
      sym (ap (λ n. is_lt (path_cmp (get_or (e ∷ es) n d).0 (get_or es k d).0)) same) ∙ up (suc k) d (omega arith) (omega (arith, within))

  pub rising : (es : List (Path × X)) → IsSorted (λ e f. path_cmp e.0 f.0) es → AllPairs (λ e f. e.0 ≢ f.0) es → is_sorted path_cmp es ≡ true
  rising [] up apart = refl
  rising (e ∷ []) up apart = refl
  rising (e ∷ f ∷ es) up apart =
      let rest = rising (f ∷ es) (later e (f ∷ es) up) (λ i j d less within. apart (suc i) (suc j) d (omega (arith, less)) (omega (arith, within))) in
      let following = not_less (path_cmp f.0 e.0) (up 0 e (omega arith) (omega arith))
      (λ same. apart 0 1 e (omega arith) (omega arith) (sym (path_antisym f.0 e.0 same))) in
      let before : path_cmp e.0 f.0 ≡ Less = greater_back f.0 e.0 following in
      and_from (is_lt (path_cmp e.0 f.0) && below_all path_cmp e.0 es) (is_sorted path_cmp (f ∷ es))
      (and_from (is_lt (path_cmp e.0 f.0)) (below_all path_cmp e.0 es) (ap is_lt before)
      (below_before e.0 f.0 es before (and_parts (below_all path_cmp f.0 es) (is_sorted path_cmp es) rest).0)) rest

  -- an entry that is found is one of them
  pub found_in : (es : List (Path × X)) (q : Path) (x : X) → find path_cmp q es ≡ Some x → Contains es (q, x)
  found_in [] q x e = absurd (none-some x e)
  found_in (e ∷ es) q x is = by_same (same_path q e.0) refl (found_in es q x)
    where
      by_same : (b : Bool) → same_path q e.0 ≡ b → (find path_cmp q es ≡ Some x → Contains es (q, x)) → Contains (e ∷ es) (q, x)
      by_same true same rest =
          let value = same_Some _ _ (sym (ap (λ b. cond b (Some e.1) (find path_cmp q es)) same) ∙ is) in
          (0, omega arith, (λ k. ((sym ((same_path-Decides q e.0).0 same)) k, value k)))
      by_same false same rest =
          let at = rest (sym (ap (λ b. cond b (Some e.1) (find path_cmp q es)) same) ∙ is) in
          (suc at.0, omega (arith, at.1), at.2)

  -- one of them is found
  pub in_found : (es : List (Path × X)) (e : Path × X) → Contains es e → is_some (find path_cmp e.0 es) ≡ true
  in_found [] e has = absurd (omega (arith, has.1))
  in_found (f ∷ es) e has = at_index has.0 has.1 has.2 (λ k within is. in_found es e (k, within, is))
    where
      more : (same : Bool) (o : Option X) → is_some o ≡ true → is_some (cond same (Some f.1) o) ≡ true
      more true o some = refl
      more false o some = some

      at_index : (k : ℕ) → k < length (f ∷ es) → get_or (f ∷ es) k e ≡ e → ((k : ℕ) → k < length es → get_or es k e ≡ e → is_some (find path_cmp e.0 es)
          ≡ true) → is_some (find path_cmp e.0 (f ∷ es)) ≡ true
      at_index zero within is rest = ap (λ b. is_some (cond b (Some f.1) (find path_cmp e.0 es)))
          ((same_path-Decides e.0 f.0).1 (sym (ap (λ (y : Path × X). y.0) is)))
      at_index (suc k) within is rest = more (same_path e.0 f.0) (find path_cmp e.0 es) (rest k (omega (arith, within)) is)

-- ---- the nodes of what is at a path and below it, in another order

shown_below : (arena nodes : Blocks) (q : Path) (es : List (Path × ℕ)) → below_all path_cmp q (map (shown_node arena nodes) es) ≡ below_all path_cmp q es
shown_below arena nodes q [] = refl
shown_below arena nodes q (e ∷ es) = ap (λ b. is_lt (path_cmp q e.0) && b) (shown_below arena nodes q es)

shown_sorted : (arena nodes : Blocks) (es : List (Path × ℕ)) → is_sorted path_cmp (map (shown_node arena nodes) es) ≡ is_sorted path_cmp es
shown_sorted arena nodes [] = refl
shown_sorted arena nodes (e ∷ es) = (λ k. shown_below arena nodes e.0 es k && shown_sorted arena nodes es k)

module _ (nodes : Blocks) (tree : IsTree nodes) (p : Path) (list : List ℕ) (nodes_below : AreNodesBelow nodes p list) (found : List (Path × ℕ))
    (perm : IsPermutation (map (path_and_node nodes) list) found) where
  found_own : All (λ e. IsUnder nodes p e.1 × (path_of_node nodes e.1 ≡ e.0)) found
  found_own = All-permutation (λ e. IsUnder nodes p e.1 × (path_of_node nodes e.1 ≡ e.0)) (map (path_and_node nodes) list) found perm
      (All-map (λ e. IsUnder nodes p e.1 × (path_of_node nodes e.1 ≡ e.0)) (path_and_node nodes) list (λ k d within. (nodes_below.own k d within, refl)))

  found_all : (b : ℕ) → IsUnder nodes p b → Contains found (path_of_node nodes b, b)
  found_all b under =
      let has = nodes_below.all b under in
      Contains-permutation (map (path_and_node nodes) list) found (path_of_node nodes b, b) perm (
        has.0,
        omega (arith, has.1, length-map list (path_and_node nodes)),
        get_or-map (path_and_node nodes) list has.0 b (path_of_node nodes b, b) has.1
            ∙ ap (path_and_node nodes) has.2,
      )

  paths_apart : AllPairs (λ x y. x ≢ y) (map (λ b. path_of_node nodes b) list)
  paths_apart i j d less within same =
      let inside : j < length list = omega (arith, within, length-map list (λ b. path_of_node nodes b)) in
      let before : i < length list = omega (arith, inside, less) in
      let one = get_or list i 0 in
      let other = get_or list j 0 in
      nodes_below.once i j 0 less inside
      (same_node nodes tree one other (nodes_below.own i 0 before).node (nodes_below.own j 0 inside).node
      (sym (get_or-map (λ b. path_of_node nodes b) list i 0 d before) ∙ same ∙ get_or-map (λ b. path_of_node nodes b) list j 0 d inside))

  found_apart : AllPairs (λ e f. e.0 ≢ f.0) found
  found_apart i j d less within same =
      let keys : List Path = map (λ (e : Path × ℕ). e.0) found in
      let first = IsDistinct-from_AllPairs same_path-Decides (map (λ b. path_of_node nodes b) list) paths_apart in
      let moved : IsPermutation (map (λ b. path_of_node nodes b) list) keys =
      subst (λ xs. IsPermutation xs keys) (map-map (λ (e : Path × ℕ). e.0) (path_and_node nodes) list)
      (IsPermutation-map (λ (e : Path × ℕ). e.0) (map (path_and_node nodes) list) found perm) in
      let pairs = AllPairs-from_IsDistinct same_path-Decides keys (IsDistinct-IsPermutation same_path same_path-symm
      (map (λ b. path_of_node nodes b) list) keys moved first) in
      pairs i j d.0 less (omega (arith, within, length-map found (λ (e : Path × ℕ). e.0)))
      (get_or-map (λ (e : Path × ℕ). e.0) found i d d.0 (omega (arith, less, within)) ∙ same ∙ sym (get_or-map (λ (e : Path × ℕ). e.0) found j d d.0 within))

  module _ (sorted : IsSorted by_path found) (arena : Blocks) (F : Filestore) (shows : Shows arena nodes F.nodes) where
    ordered : is_sorted path_cmp (map (shown_node arena nodes) found) ≡ true
    ordered = shown_sorted arena nodes found ∙ rising found sorted found_apart

    found_at : (q : Path) → find path_cmp q (map (shown_node arena nodes) found) ≡ cond (is_at_or_below q p) (node_at F q) None
    found_at q = by_found (find path_cmp q (map (shown_node arena nodes) found)) refl
      where
        absent : (below : Bool) (o : Option Node) → find path_cmp q (map (shown_node arena nodes) found) ≡ None → is_at_or_below q p ≡ below → node_at F q ≡ o →
            cond (is_at_or_below q p) (node_at F q) None ≡ None
        absent false o none is e = ap (λ b. cond b (node_at F q) None) is
        absent true None none is e = (λ k. cond (is k) (e k) None)
        absent true (Some node) none is e =
            let at = shows.only q node e in
            let has = found_all at.0 (record { node = at.1; below = ap (λ x. is_at_or_below x p) at.2 ∙ is }) in
            let entry : Path × ℕ = (path_of_node nodes at.0, at.0) in
            let inside = in_found (map (shown_node arena nodes) found) (shown_node arena nodes entry) (
              has.0,
              omega (arith, has.1, length-map found (shown_node arena nodes)),
              get_or-map (shown_node arena nodes) found has.0 entry (shown_node arena nodes entry) has.1
                  ∙ ap (shown_node arena nodes) has.2,
            ) in
            absurd (both_ways _ (ap is_some none) (ap (λ x. is_some (find path_cmp x (map (shown_node arena nodes) found))) (sym at.2) ∙ inside))

        by_found : (o : Option Node) → find path_cmp q (map (shown_node arena nodes) found) ≡ o → find path_cmp q (map (shown_node arena nodes) found)
            ≡ cond (is_at_or_below q p) (node_at F q) None
        by_found None none = none ∙ sym (absent (is_at_or_below q p) (node_at F q) none refl refl)
        by_found (Some x) is =
            let has = found_in (map (shown_node arena nodes) found) q x is in
            let within : has.0 < length found = omega (arith, has.1, length-map found (shown_node arena nodes)) in
            let entry = get_or found has.0 (q, 0) in
            let same : shown_node arena nodes entry ≡ (q, x) = sym (get_or-map (shown_node arena nodes) found has.0 (q, 0) (q, x) within) ∙ has.2 in
            let own = found_own has.0 (q, 0) within in
            let path : path_of_node nodes entry.1 ≡ q = own.1 ∙ ap (λ (e : Path × Node). e.0) same in
            let below : is_at_or_below q p ≡ true = ap (λ y. is_at_or_below y p) (sym path) ∙ own.0.below in
            let at : node_at F q ≡ Some x = ap (node_at F) (sym path) ∙ shows.each entry.1 own.0.node ∙ ap (λ (e : Path × Node). Some e.1) same in
            is ∙ sym (λ k. cond (below k) (at k) None)

    pub found_tree : map (shown_node arena nodes) found ≡ tree_at F p
    found_tree =
        let es = map (shown_node arena nodes) found in
        let good = subst T (sym ordered) tt in
        sym (entries-from_sorted path_cmp es good)
        ∙ ap (λ m. finite.entries m) (same_map path_cmp-total path_antisym (from_sorted {R = path_cmp} es)
        (finite.retain_keys F.nodes (λ x. is_at_or_below x p))
        (λ q. get-from_sorted path_cmp es q good ∙ found_at q ∙ sym (get_kept F (λ x. is_at_or_below x p) q)))

-- nodes whose paths rise, each with its path
module _ (nodes : Blocks) (tree : IsTree nodes) (p : Path) (list : List ℕ) (nodes_below : AreNodesBelow nodes p list)
    (up : AllPairs (λ b c. path_cmp (path_of_node nodes b) (path_of_node nodes c) ≡ Less) list) where
  paths_sorted : IsSorted by_path (map (path_and_node nodes) list)
  paths_sorted k d low within =
      let inside : k + 1 < length list = omega (arith, within, length-map list (path_and_node nodes)) in
      let b = get_or list k 0 in let c = get_or list (k + 1) 0 in
      let back : path_cmp (path_of_node nodes c) (path_of_node nodes b) ≡ Greater = less_back (path_of_node nodes b) (path_of_node nodes c)
      (up k (k + 1) 0 (omega arith) inside) in
      (λ i. is_lt (by_path (get_or-map (path_and_node nodes) list (k + 1) 0 d inside i)
      (get_or-map (path_and_node nodes) list k 0 d (omega (arith, inside)) i)))
      ∙ ap is_lt back

  pub tree_of_nodes : (found : List (Path × ℕ)) → found ≡ map (path_and_node nodes) list → (arena : Blocks) (F : Filestore) → Shows arena nodes F.nodes →
      map (shown_node arena nodes) found ≡ tree_at F p
  tree_of_nodes found is arena F shows =
      subst (λ es. map (shown_node arena nodes) es ≡ tree_at F p) (sym is)
      (found_tree nodes tree p list nodes_below (map (path_and_node nodes) list) (IsPermutation-refl
      (map (path_and_node nodes) list)) paths_sorted arena F shows)

-- all that exists
pub tree_whole : (F : Filestore) → tree_at F [] ≡ finite.entries F.nodes
tree_whole F =
    ap (λ m. finite.entries m) (same_map path_cmp-total path_antisym (finite.retain_keys F.nodes (λ q. is_at_or_below q [])) F.nodes
    (get_kept F (λ q. is_at_or_below q [])))
