-- The nodes of an arena, and the tree that they make.
--     node_there, node_entry, node_live, node_octets, node_kind     a node's block is what the arena has there
--     same_node           a path has one node at most
use Rattle.std.proofs.Common.{◌≡◌, ℕ, suc, zero, Bool, true, false, List, [], ◌∷◌, length, length-append, Option, Some, None, refl, sym, ap, ◌∙◌, subst, arith}
use Rattle.std.proofs.lemmas.List.{same_from_push}
use Rattle.std.proofs.Math.ListN.{get_or-map}
use Rattle.std.specs.Option.{option_map_or}
use Rattle.std.specs.Cmp.{unsigned_Decides}
use Rattle.std.specs.Prelude.{◌==◌, IsSome, if◌then◌else◌}
use Rattle.cfdp_arena.specs.Arena.{Blocks, octets_at, octets_of, IsLive}
use Rattle.cfdp_tree.specs.code.Block.{block_header}
use Rattle.cfdp_tree.specs.code.Nodes.{is_node, only_node, nodes_in}
use Rattle.cfdp_paths.specs.Paths.{Path}
use Rattle.cfdp_tree.specs.code.Tree.{IsNode, name_at, home, climb, most_names, path_of_node, Ends, IsTree}

chosen_kind : (k : ℕ) (block : List ℕ) → IsSome (if k == 2 then Some block else None) → k ≡ 2
chosen_kind k block some = by_test (k == 2) refl some
  where
    by_test : (yes : Bool) → (k == 2) ≡ yes → IsSome (if yes then Some block else None) → k ≡ 2
    by_test true e some = (unsigned_Decides k 2).0 e
    by_test false e some = cc

chosen : (yes : Bool) (block : List ℕ) → IsSome (if yes then Some block else None) → (if yes then Some block else None) ≡ Some block
chosen true block some = refl
chosen false block some = cc

only_kept : (entry : Option (List ℕ)) → IsSome (only_node entry) → only_node entry ≡ entry
only_kept None some = refl
only_kept (Some block) some = chosen (is_node block) block some

module _ (arena : Blocks) (b : ℕ) (node : IsNode (nodes_in arena) b) where
  pub node_there : octets_at (nodes_in arena) b ≡ only_node (octets_at arena b)
  node_there = get_or-map only_node arena b None

  pub node_entry : octets_at (nodes_in arena) b ≡ octets_at arena b
  node_entry = node_there ∙ only_kept (octets_at arena b) (subst IsSome node_there node)

  pub node_live : IsLive arena b
  node_live = subst IsSome node_entry node

  pub node_kind : (shown : List ℕ) → octets_at arena b ≡ Some shown → (block_header shown).kind ≡ 2
  node_kind shown is = chosen_kind (block_header shown).kind shown (subst IsSome (node_there ∙ ap only_node is) node)

  pub node_octets : (shown : List ℕ) → octets_at arena b ≡ Some shown → shown ≡ octets_of (nodes_in arena) b
  node_octets shown is = sym (octets_same (node_entry ∙ is))
    where
      octets_same : octets_at (nodes_in arena) b ≡ Some shown → octets_of (nodes_in arena) b ≡ shown
      octets_same e = cc

module _ (nodes : Blocks) (tree : IsTree nodes) where
  -- the climb of a node has its name
  some_climb : (n d : ℕ) → Ends nodes n d → climb nodes n d ≡ [] → ⊥
  some_climb zero d ends e = ends
  some_climb (suc n) d ends e = omega (arith, ap length e, length-append (option_map_or (λ h. climb nodes n h) (home nodes d) []) (name_at nodes d ∷ []))

  same_home : (n : ℕ) → ((b c : ℕ) → IsNode nodes b → IsNode nodes c → Ends nodes n b → Ends nodes n c → climb nodes n b ≡ climb nodes n c → b ≡ c)
      → (x y : Option ℕ) → ((d : ℕ) → x ≡ Some d → IsNode nodes d × Ends nodes n d) → ((d : ℕ) → y ≡ Some d → IsNode nodes d × Ends nodes n d)
      → option_map_or (λ h. climb nodes n h) x [] ≡ option_map_or (λ h. climb nodes n h) y [] → x ≡ y
  same_home n below None None xs ys e = refl
  same_home n below None (Some d) xs ys e = absurd (some_climb n d (ys d refl).1 (sym e))
  same_home n below (Some d) None xs ys e = absurd (some_climb n d (xs d refl).1 e)
  same_home n below (Some c) (Some d) xs ys e =
      let first = xs c refl in
      let second = ys d refl in
      ap Some (below c d first.0 second.0 first.1 second.1 e)

  same_climb : (n b c : ℕ) → IsNode nodes b → IsNode nodes c → Ends nodes n b → Ends nodes n c → climb nodes n b ≡ climb nodes n c → b ≡ c
  same_climb zero b c node other ends stops e = absurd ends
  same_climb (suc n) b c node other ends stops e =
      let above : ℕ → Path = λ d. option_map_or (λ h. climb nodes n h) (home nodes d) [] in
      let parts = same_from_push (above b) (above c) (name_at nodes b) (name_at nodes c) e in
      tree.unique b c node other
      (same_home n (same_climb n) (home nodes b) (home nodes c)
      (λ d here. ((tree.homes b d node here).node, ends d here)) (λ d here. ((tree.homes c d other here).node, stops d here)) parts.0)
      parts.1

  pub same_node : (b c : ℕ) → IsNode nodes b → IsNode nodes c → path_of_node nodes b ≡ path_of_node nodes c → b ≡ c
  same_node b c node other e = same_climb most_names b c node other (tree.ends b node) (tree.ends c other) e
