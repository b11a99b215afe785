-- What is at and below a path, put into a map of extents.
--     short                             the octets of few blocks are fewer than the greatest u64
--     weights-kept, weights-small       the blocks of some entries of a small filestore
--     tree_added                        what was found there gets into the map
use Rattle.std.proofs.Common.{◌≡◌, refl, ◌∙◌, ap, Bool, true, false, cond, ◌&&◌, T, is_some, Option, Some, None, ℕ, ◌+◌, ◌≤◌, min, List, [], ◌∷◌, map, length, if◌then◌else◌, arith}
use Rattle.std.specs.FinMap.{entries, get, insert, get-insert}
use Rattle.std.specs.FinMap.Entries.{is_sorted, find, where_key}
use Rattle.cfdp_paths.specs.Paths.{Path, path_cmp, same_path, is_at_or_below}
use Rattle.cfdp_actions.specs.Filestore.{Node, Directory, File, Filestore, node_at, blocks_of, weight, weights, blocks, tree_at}
use Rattle.cfdp_actions.specs.Store.{existing_node, existing_nodes_at}
use Rattle.cfdp_states.specs.declared.extent.Extent.TheVariants as extent
use Rattle.cfdp_states.specs.Sketching.{most_octets, extent_of, extent_in, Extents}
use Rattle.cfdp_states.specs.code.Sketching.{extent_of_existing, added, AddsWhere}
use Rattle.cfdp_actions.proofs.Weights.{entries-retain_keys, sorted_rest, find_later}
use Rattle.cfdp_actions.proofs.Moves.{tree_at-sorted, find-tree_at}
use Rattle.cfdp_paths.proofs.InOrder.{path_antisym}
use Rattle.cfdp_paths.proofs.Comparing.{path_cmp-total}

pub short : (n : ℕ) → 1 + blocks_of n ≤ 65536 → n ≡ min n most_octets
unfolding blocks_of
short n le = omega arith

existing-is : (e : Path × Node) → weight (Some e.1) ≤ 65536 → extent_of_existing (existing_node e) ≡ extent_of e.1
existing-is e le = by_node e.1 le
  where
    by_node : (node : Node) → weight (Some node) ≤ 65536 → extent_of_existing (existing_node (e.0, node)) ≡ extent_of node
    by_node Directory le = refl
    by_node (File octets) le = ap (λ n. extent.File n) (short (length octets) le)

-- with what is there, one after another, as the entries have it
get-added : (es : List (Path × Node)) → weights es ≤ 65536 → T (is_sorted path_cmp es) → (m : Extents) (x : Path) →
    get (added (map existing_node es) m) x ≡ cond (is_some (find path_cmp x es)) (extent_in (find path_cmp x es)) (get m x)
get-added [] le s m x = refl
get-added (e ∷ es) le s m x =
    let first : weight (Some e.1) ≤ 65536 = omega (arith, le) in
    let v = extent_of_existing (existing_node e) in
    get-added es (omega (arith, le)) (sorted_rest e es s) (insert m e.0 v) x
    ∙ ap (λ c. cond (is_some (find path_cmp x es)) (extent_in (find path_cmp x es)) c) (get-insert path_cmp-total m e.0 v x)
    ∙ elim (same_path x e.0) as (λ b. same_path x e.0 ≡ b →
    cond (is_some (find path_cmp x es)) (extent_in (find path_cmp x es)) (cond b (Some v) (get m x))
    ≡ cond (is_some (cond b (Some e.1) (find path_cmp x es))) (extent_in (cond b (Some e.1) (find path_cmp x es))) (get m x)) [
      | true ↦ λ t. ap (λ c. cond (is_some c) (extent_in c) (Some v)) (find_later e es s x t) ∙ ap Some (existing-is e first)
      | false ↦ λ t. refl
    ] refl

pub weights-kept : (test : Path → Bool) (es : List (Path × Node)) → weights (where_key path_cmp test es) ≤ weights es
weights-kept test [] = omega arith
weights-kept test (e ∷ es) =
    let rest = weights-kept test es in
    elim (test e.0) as (λ b. weights (cond b (e ∷ where_key path_cmp test es) (where_key path_cmp test es)) ≤ weights (e ∷ es)) [
      | true ↦
          omega (arith, rest)
      | false ↦ omega (arith, rest)
    ]

pub weights-small : (F : Filestore) → blocks F ≤ 65536 → weights (entries F.nodes) ≤ 65536
unfolding blocks
weights-small F le = omega arith

tree-small : (F : Filestore) (root : Path) → blocks F ≤ 65536 → weights (tree_at F root) ≤ 65536
tree-small F root le =
    let test = λ (q : Path). is_at_or_below q root in
    let kept : weights (tree_at F root) ≡ weights (where_key path_cmp test (entries F.nodes)) =
    ap weights (entries-retain_keys path_cmp-total path_antisym F.nodes test) in
    let fewer = weights-kept test (entries F.nodes) in
    let all = weights-small F le in
    omega (arith, kept, fewer, all)

pub tree_added : (F : Filestore) (root : Path) (m : Extents) → blocks F ≤ 65536
    → AddsWhere (λ x. is_at_or_below x root) F m (added (existing_nodes_at F root) m)
tree_added F root m le x =
    get-added (tree_at F root) (tree-small F root le) (tree_at-sorted F root) m x
    ∙ ap (λ a. cond (is_some a) (extent_in a) (get m x)) (find-tree_at F root x)
    ∙ both (is_at_or_below x root) (node_at F x)
  where
    both : (below : Bool) (a : Option Node) → cond (is_some (cond below a None)) (extent_in (cond below a None)) (get m x)
        ≡ (if below && is_some (extent_in a) then extent_in a else get m x)
    both true None = refl
    both true (Some node) = refl
    both false a = refl
