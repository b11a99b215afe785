-- Ways from a node to the root.
--     ends_more, climb_more, climb_same     where the way has ended, more nodes are no more of it
--     ends_by_length            a way ends within as many nodes as it has names
--     path_by_home              a node's path is that of its directory, and its name
--     some_path                 it has a name
--     same_bucket, entry_at, path_entry     a path is that of one node or of the root;  and what is in it
--     beginning                 each beginning of a node's path is the path of a node
use Rattle.std.proofs.Common.{◌≡◌, ℕ, suc, zero, ◌<◌, ◌≤◌, [], ◌∷◌, ◌++◌, length, length-append, take, Option, Some, None, refl, sym, ap, ◌∙◌, subst, inl, inr, arith}
use Rattle.std.proofs.lemmas.Bool.{cases_lt}
use Rattle.std.proofs.lemmas.List.{take_all, take-append-le, same_from_push}
use Rattle.std.specs.Option.{option_map_or}
use Rattle.cfdp_arena.specs.Arena.{Blocks}
use Rattle.cfdp_paths.specs.Paths.{Name, Path}
use Rattle.cfdp_tree.specs.code.Tree.{IsNode, name_at, home, climb, most_names, path_of_node, Ends, IsEntry, IsTree}
use Rattle.cfdp_tree.specs.code.Directories.{path_at, IsAtPath}
use Rattle.cfdp_tree.proofs.OfNodes.TreeLaws.{same_node}

pub most_is : most_names ≡ suc 7
unfolding most_names
most_is = refl

module _ (nodes : Blocks) where
  pub ends_more : (n b : ℕ) → Ends nodes n b → Ends nodes (suc n) b
  ends_more zero b ends = absurd ends
  ends_more (suc n) b ends = (λ d there. ends_more n d (ends d there))

  -- two ways up that are one from the directory on
  above_same : (f g : ℕ → Path) (x : Option ℕ) → ((d : ℕ) → x ≡ Some d → f d ≡ g d) → option_map_or f x [] ≡ option_map_or g x []
  above_same f g None same = refl
  above_same f g (Some d) same = same d refl

  pub climb_more : (n b : ℕ) → Ends nodes n b → climb nodes (suc n) b ≡ climb nodes n b
  climb_more zero b ends = absurd ends
  climb_more (suc n) b ends =
      ap (λ p. p ++ name_at nodes b ∷ []) (above_same (λ d. climb nodes (suc n) d) (λ d. climb nodes n d) (home nodes b)
      (λ d there. climb_more n d (ends d there)))

  pub climb_same : (n m b : ℕ) → Ends nodes n b → Ends nodes m b → climb nodes n b ≡ climb nodes m b
  climb_same zero m b ends also = absurd ends
  climb_same (suc n) zero b ends also = absurd also
  climb_same (suc n) (suc m) b ends also =
      ap (λ p. p ++ name_at nodes b ∷ []) (above_same (λ d. climb nodes n d) (λ d. climb nodes m d) (home nodes b)
      (λ d there. climb_same n m d (ends d there) (also d there)))

  pub ends_by_length : (n m b : ℕ) → Ends nodes n b → length (climb nodes n b) ≤ m → Ends nodes m b
  ends_by_length zero m b ends few = absurd ends
  ends_by_length (suc n) zero b ends few =
      absurd (omega (arith, length-append (option_map_or (λ d. climb nodes n d) (home nodes b) []) (name_at nodes b ∷ [])))
  ends_by_length (suc n) (suc m) b ends few = (λ d there. (let above : option_map_or (λ e. climb nodes n e) (home nodes b) []
      ≡ climb nodes n d = ap (λ x. option_map_or (λ e. climb nodes n e) x []) there in
      ends_by_length n m d (ends d there) (omega (
        arith,
        ap length above,
        length-append (option_map_or (λ e. climb nodes n e) (home nodes b) [])
            (name_at nodes b ∷ []),
      ))))

  climb_home : (n b : ℕ) → Ends nodes (suc n) b → climb nodes (suc n) b ≡ option_map_or (λ d. climb nodes (suc n) d) (home nodes b) [] ++ name_at nodes b ∷ []
  climb_home n b ends = ap (λ p. p ++ name_at nodes b ∷ []) (above_same (λ d. climb nodes n d) (λ d. climb nodes (suc n) d) (home nodes b)
      (λ d there. sym (climb_more n d (ends d there))))

module _ (nodes : Blocks) (tree : IsTree nodes) where
  pub path_by_home : (b : ℕ) → IsNode nodes b → path_of_node nodes b ≡ path_at nodes (home nodes b) ++ name_at nodes b ∷ []
  path_by_home b node =
      (λ i. climb nodes (most_is i) b)
      ∙ climb_home nodes 7 b (subst (λ n. Ends nodes n b) most_is (tree.ends b node))
      ∙ (λ i. option_map_or (λ d. climb nodes (sym most_is i) d) (home nodes b) [] ++ name_at nodes b ∷ [])

  pub some_path : (b : ℕ) → IsNode nodes b → path_of_node nodes b ≡ [] → ⊥
  some_path b node none = omega (arith, ap length (sym (path_by_home b node) ∙ none), length-append (path_at nodes (home nodes b)) (name_at nodes b ∷ []))

  pub same_bucket : (x y : Option ℕ) → ((d : ℕ) → x ≡ Some d → IsNode nodes d) → ((d : ℕ) → y ≡ Some d → IsNode nodes d) → path_at nodes x ≡ path_at nodes y → x
      ≡ y
  same_bucket None None xs ys e = refl
  same_bucket None (Some d) xs ys e = absurd (some_path d (ys d refl) (sym e))
  same_bucket (Some c) None xs ys e = absurd (some_path c (xs c refl) e)
  same_bucket (Some c) (Some d) xs ys e = ap Some (same_node nodes tree c d (xs c refl) (ys d refl) e)

  -- what has a name more than a directory is in it
  pub entry_at : (directory : Option ℕ) (p : Path) (name : Name) (b : ℕ) → IsAtPath nodes directory p → IsNode nodes b → path_of_node nodes b ≡ p ++ name ∷ [] →
      IsEntry nodes directory name b
  entry_at directory p name b exists node e =
      let parts = same_from_push (path_at nodes (home nodes b)) p (name_at nodes b) name (sym (path_by_home b node) ∙ e) in
      record {
        node = node;
        there = same_bucket (home nodes b) directory (λ d there. (tree.homes b d node there).node) exists.node (parts.0 ∙ sym exists.path);
        named = parts.1;
      }

  pub path_entry : (directory : Option ℕ) (p : Path) (name : Name) (b : ℕ) → IsAtPath nodes directory p → IsEntry nodes directory name b → path_of_node nodes b
      ≡ p ++ name
      ∷ []
  path_entry directory p name b exists entry = path_by_home b entry.node ∙ (λ i. path_at nodes (entry.there i) ++ entry.named i ∷ [])
      ∙ ap (λ q. q ++ name ∷ []) exists.path

  -- a node for each beginning of its path
  beginning_from : (n b k : ℕ) → IsNode nodes b → Ends nodes n b → 1 ≤ k → k ≤ length (path_of_node nodes b) → (d : ℕ) × IsNode nodes d
      × (path_of_node nodes d ≡ take k (path_of_node nodes b))
  beginning_from zero b k node ends some few = absurd ends
  beginning_from (suc n) b k node ends some few = elim (cases_lt k (length (path_of_node nodes b))) [
    | inl less ↦ above (λ d ends few. beginning_from n d k (tree.homes b d node ends.0).node ends.1 some few) less (home nodes b) refl
    | inr whole ↦ (b, node, sym (take_all k (path_of_node nodes b) whole))
  ]
    where
      above : ((d : ℕ) → (home nodes b ≡ Some d) × Ends nodes n d → k ≤ length (path_of_node nodes d) → (c : ℕ) × IsNode nodes c
          × (path_of_node nodes c ≡ take k (path_of_node nodes d)))
          → k < length (path_of_node nodes b) → (x : Option ℕ) → home nodes b ≡ x → (d : ℕ) × IsNode nodes d ×
          (path_of_node nodes d ≡ take k (path_of_node nodes b))
      above up less None there = absurd (omega (arith, ap length (path_by_home b node), ap (λ y. length (path_at nodes y ++ name_at nodes b ∷ [])) there))
      above up less (Some d) there =
          let whole : path_of_node nodes b ≡ path_of_node nodes d ++ name_at nodes b ∷ [] = path_by_home b node
          ∙ ap (λ y. path_at nodes y ++ name_at nodes b ∷ []) there in
          let long : k ≤ length (path_of_node nodes d) = omega (arith, ap length whole, length-append (path_of_node nodes d) (name_at nodes b ∷ [])) in
          let more = up d (there, ends d there) long in
          (more.0, more.1, more.2 ∙ sym (take-append-le k (path_of_node nodes d) (name_at nodes b ∷ []) long) ∙ ap (take k) (sym whole))

  pub beginning : (b k : ℕ) → IsNode nodes b → 1 ≤ k → k ≤ length (path_of_node nodes b) → (d : ℕ) × IsNode nodes d ×
      (path_of_node nodes d ≡ take k (path_of_node nodes b))
  beginning b k node some few = beginning_from most_names b k node (tree.ends b node) some few
