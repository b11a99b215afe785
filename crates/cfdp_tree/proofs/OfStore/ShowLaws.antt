-- The map from paths to what is there that the nodes of a tree make.
--     shown_same      there is one such map
--     tree_shows      the nodes with their paths are one
--     put_shows       the one with something more, or with something else at a path
use Rattle.std.proofs.Common.{◌≡◌, ◌≢◌, ℕ, suc, zero, ◌+◌, Bool, true, false, List, [], ◌∷◌, cond, Option, Some, None, refl, sym, ap, ◌∙◌, subst, inl, inr, arith}
use Rattle.std.specs.Prelude.{IsSome, unwrap_or}
use Rattle.std.specs.FinMap as finite
use Rattle.std.specs.FinMap.{find, same_map, get-from_entries, get-insert}
use Rattle.std.proofs.lemmas.Option.{none-some}
use Rattle.std.proofs.lemmas.Bool.{both_ways, cases_eq}
use Rattle.cfdp_paths.specs.Paths.{Path, path_cmp, same_path}
use Rattle.cfdp_paths.proofs.Comparing.{same_path-Decides, path_cmp-total}
use Rattle.cfdp_paths.proofs.InOrder.{path_antisym}
use Rattle.cfdp_arena.specs.Arena.{Blocks, octets_at, octets_of}
use Rattle.cfdp_actions.specs.Filestore.{Node}
use Rattle.cfdp_tree.specs.code.Tree.{IsNode, path_of_node, IsTree}
use Rattle.cfdp_tree.specs.code.Kept.{node_of, existing_from, Shows}
use Rattle.cfdp_tree.proofs.OfNodes.TreeLaws.{same_node}

module _ (arena nodes : Blocks) (F G : finite.FinMap path_cmp Node) (first : Shows arena nodes F) (second : Shows arena nodes G) where
  at_path : (q : Path) (x y : Option Node) → finite.get F q ≡ x → finite.get G q ≡ y → x ≡ y
  at_path q None None e f = refl
  at_path q None (Some node) e f =
      let there = second.only q node f in
      absurd (none-some _ (sym e ∙ ap (finite.get F) (sym there.2) ∙ first.each there.0 there.1))
  at_path q (Some node) y e f =
      let there = first.only q node e in
      sym e ∙ ap (finite.get F) (sym there.2) ∙ first.each there.0 there.1 ∙ sym (second.each there.0 there.1) ∙ ap (finite.get G) there.2 ∙ f

  pub shown_same : F ≡ G
  shown_same = same_map path_cmp-total path_antisym F G (λ q. at_path q (finite.get F q) (finite.get G q) refl refl)

module _ (arena nodes : Blocks) (tree : IsTree nodes) where
  -- the rest of the nodes, from b on
  Follows : ℕ → Blocks → Type 0
  Follows b rest = (k : ℕ) → octets_at nodes (b + k) ≡ octets_at rest k

  -- the rest of the nodes, without the first one
  later : (b : ℕ) (entry : Option (List ℕ)) (rest : Blocks) → Follows b (entry ∷ rest) → Follows (suc b) rest
  unfolding Follows
  later b entry rest follows k = let same : suc b + k ≡ b + suc k = omega arith in ap (octets_at nodes) same ∙ follows (suc k)

  first : (b : ℕ) (entry : Option (List ℕ)) (rest : Blocks) → Follows b (entry ∷ rest) → octets_at nodes b ≡ entry
  unfolding Follows
  first b entry rest follows = let same : b ≡ b + 0 = omega arith in ap (octets_at nodes) same ∙ follows 0

  each_from : (c : ℕ) (node : IsNode nodes c) (b k : ℕ) (rest : Blocks) → Follows b rest → c ≡ b + k → IsSome (octets_at rest k)
      → find path_cmp (path_of_node nodes c) (existing_from arena nodes b rest) ≡ Some (node_of arena (octets_of nodes c))
  each_from c node b k [] follows e there = cc
  each_from c node b zero (None ∷ rest) follows e there = cc
  each_from c node b (suc k) (None ∷ rest) follows e there = each_from c node (suc b) k rest (later b None rest follows) (omega arith) there
  each_from c node b zero (Some block ∷ rest) follows e there =
      let here : c ≡ b = omega arith in
      let held : octets_of nodes c ≡ block = ap (octets_of nodes) here ∙ ap (λ entry. unwrap_or entry []) (first b (Some block) rest follows) in
      let same = (same_path-Decides (path_of_node nodes c) (path_of_node nodes b)).1 (ap (path_of_node nodes) here) in
      (λ i. cond (same i) (Some (node_of arena block)) (find path_cmp (path_of_node nodes c) (existing_from arena nodes (suc b) rest)))
      ∙ ap (λ o. Some (node_of arena o)) (sym held)
  each_from c node b (suc k) (Some block ∷ rest) follows e there =
      let following = each_from c node (suc b) k rest (later b (Some block) rest follows) (omega arith) there in
      by_same (same_path (path_of_node nodes c) (path_of_node nodes b)) refl following
    where
      node_b : IsNode nodes b
      node_b = subst IsSome (sym (first b (Some block) rest follows)) refl

      by_same : (same : Bool) → same_path (path_of_node nodes c) (path_of_node nodes b) ≡ same
          → find path_cmp (path_of_node nodes c) (existing_from arena nodes (suc b) rest) ≡ Some (node_of arena (octets_of nodes c))
          → find path_cmp (path_of_node nodes c) (existing_from arena nodes b (Some block ∷ rest)) ≡ Some (node_of arena (octets_of nodes c))
      by_same true is following =
          let one : c ≡ b = same_node nodes tree c b node node_b ((same_path-Decides (path_of_node nodes c) (path_of_node nodes b)).0 is) in
          absurd (omega arith)
      by_same false is following = (λ i. cond (is i) (Some (node_of arena block))
          (find path_cmp (path_of_node nodes c) (existing_from arena nodes (suc b) rest)))
          ∙ following

  only_from : (p : Path) (node : Node) (b : ℕ) (rest : Blocks) → Follows b rest → find path_cmp p (existing_from arena nodes b rest) ≡ Some node
      → (c : ℕ) × IsNode nodes c × (path_of_node nodes c ≡ p)
  only_from p node b [] follows e = absurd (none-some _ e)
  only_from p node b (None ∷ rest) follows e = only_from p node (suc b) rest (later b None rest follows) e
  only_from p node b (Some block ∷ rest) follows e =
      by_same (same_path p (path_of_node nodes b)) refl (only_from p node (suc b) rest (later b (Some block) rest follows))
    where
      by_same : (same : Bool) → same_path p (path_of_node nodes b) ≡ same
          → (find path_cmp p (existing_from arena nodes (suc b) rest) ≡ Some node → (c : ℕ) × IsNode nodes c × (path_of_node nodes c ≡ p))
          → (c : ℕ) × IsNode nodes c × (path_of_node nodes c ≡ p)
      by_same true is following = (b, subst IsSome (sym (first b (Some block) rest follows)) refl, sym ((same_path-Decides p (path_of_node nodes b)).0 is))
      by_same false is following = following (sym (λ i. cond (is i) (Some (node_of arena block)) (find path_cmp p (existing_from arena nodes (suc b) rest)))
          ∙ e)

  all_follow : Follows 0 nodes
  unfolding Follows
  all_follow k = let same : 0 + k ≡ k = omega arith in ap (octets_at nodes) same

  pub tree_shows : Shows arena nodes (finite.from_entries {R = path_cmp} (existing_from arena nodes 0 nodes))
  tree_shows = record {
    each = (λ b node. get-from_entries path_cmp-total (existing_from arena nodes 0 nodes) (path_of_node nodes b)
        ∙ each_from b node 0 b nodes all_follow (omega arith) node);
    only = (λ p node e. only_from p node 0 nodes all_follow (sym (get-from_entries path_cmp-total (existing_from arena nodes 0 nodes) p) ∙ e));
  }

-- something at one more path, or something else at a path
module _ (arena later old new : Blocks) (tree : IsTree new) (b : ℕ) (here : IsNode new b) (p : Path) (way : path_of_node new b ≡ p) (node : Node)
    (described : node_of later (octets_of new b) ≡ node) (F : finite.FinMap path_cmp Node) (shows : Shows arena old F)
    (was_node : (c : ℕ) → IsNode new c → c ≢ b → IsNode old c)
    (stays : (c : ℕ) → IsNode old c → c ≢ b → IsNode new c × (path_of_node new c ≡ path_of_node old c)
    × (node_of later (octets_of new c) ≡ node_of arena (octets_of old c)))
    (apart : (c : ℕ) → IsNode old c → path_of_node old c ≢ p → c ≢ b) where
  -- what is at a path, and whether it is that one
  put : Bool → Option Node → Option Node
  put same else = cond same (Some node) else

  got : (q : Path) → finite.get (finite.insert F p node) q ≡ put (same_path q p) (finite.get F q)
  unfolding put
  got q = get-insert path_cmp-total F p node q

  each_here : put (same_path (path_of_node new b) p) (finite.get F (path_of_node new b)) ≡ Some (node_of later (octets_of new b))
  unfolding put
  each_here =
      ap (λ same. cond same (Some node) (finite.get F (path_of_node new b))) ((same_path-Decides (path_of_node new b) p).1 way) ∙ ap Some (sym described)

  each_other : (c : ℕ) → IsNode new c → c ≢ b → (same : Bool) → same_path (path_of_node new c) p ≡ same
      → put same (finite.get F (path_of_node new c)) ≡ Some (node_of later (octets_of new c))
  unfolding put
  each_other c inside other true is = absurd (other (same_node new tree c b inside here ((same_path-Decides (path_of_node new c) p).0 is ∙ sym way)))
  each_other c inside other false is =
      let was = was_node c inside other in
      let kept = stays c was other in
      ap (finite.get F) kept.1 ∙ shows.each c was ∙ ap Some (sym kept.2)

  each_new : (c : ℕ) → IsNode new c → finite.get (finite.insert F p node) (path_of_node new c) ≡ Some (node_of later (octets_of new c))
  each_new c inside = got (path_of_node new c) ∙ elim (cases_eq c b) [
    | inl e ↦ subst (λ x. put (same_path (path_of_node new x) p) (finite.get F (path_of_node new x)) ≡ Some (node_of later (octets_of new x))) (sym e) each_here
    | inr other ↦ each_other c inside other (same_path (path_of_node new c) p) refl
  ]

  only_new : (q : Path) (found : Node) (same : Bool) → same_path q p ≡ same → put same (finite.get F q) ≡ Some found
      → (c : ℕ) × IsNode new c × (path_of_node new c ≡ q)
  unfolding put
  only_new q found true is e = (b, here, way ∙ sym ((same_path-Decides q p).0 is))
  only_new q found false is e =
      let there = shows.only q found e in
      let kept = stays there.0 there.1 (apart there.0 there.1 (λ same. both_ways _ is ((same_path-Decides q p).1 (sym there.2 ∙ same)))) in
      (there.0, kept.0, kept.1 ∙ there.2)

  pub put_shows : Shows later new (finite.insert F p node)
  put_shows = record { each = each_new; only = (λ q found e. only_new q found (same_path q p) refl (sym (got q) ∙ e)) }
