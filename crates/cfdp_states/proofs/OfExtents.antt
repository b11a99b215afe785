-- A filestore made of extents: its files are zeros.
--     node_of, node_in, filestore_of     of an extent, of what a map has at a path, and of a map
--     node_at-filestore_of, in_there     what is there
--     fits, like_node                    what an extent says of a node is alike it
--     node-small                         one node has no more blocks than the filestore
--     total-is                           a count that did not stop
use Rattle.std.proofs.Common.{◌≡◌, refl, sym, ◌∙◌, ap, true, false, cond, is_some, Option, Some, None, ℕ, ◌≤◌, min, List, [], ◌∷◌, map, length, replicate, arith}
use Rattle.std.proofs.lemmas.List.{length-replicate}
use Rattle.std.specs.FinMap.{get, from_entries, entries, get-entries, get-from_entries}
use Rattle.std.specs.FinMap.Entries.{find}
use Rattle.cfdp_paths.specs.Paths.{Path, path_cmp, same_path}
use Rattle.cfdp_paths.proofs.Comparing.{path_cmp-total}
use Rattle.cfdp_actions.specs.Filestore.{Node, Directory, File, Filestore, node_at, weight, blocks}
use Rattle.cfdp_states.specs.declared.extent.Extent.{Extent}
use Rattle.cfdp_states.specs.declared.extent.Extent.TheVariants as extent
use Rattle.cfdp_states.specs.Sketching.{most_octets, extent_in, Extents}
use Rattle.cfdp_states.specs.Sparse.{AreAlike}
use Rattle.cfdp_states.proofs.Trees.{short, weights-small}
use Rattle.cfdp_states.proofs.Counting.{enough}
use Rattle.cfdp_actions.proofs.StoreLaws.{weight-found}

unfoldable pub node_of : Extent → Node
node_of extent.Directory = Directory
node_of (extent.File octets) = File (replicate octets 0)

unfoldable pub node_in : Option Extent → Option Node
node_in None = None
node_in (Some e) = Some (node_of e)

-- a filestore with these directories, and with files of n zeros
unfoldable pub filestore_of : Extents → Filestore
filestore_of m = record { nodes = from_entries (map {B = Path × Node} (λ (e : Path × Extent). (e.0, node_of e.1)) (entries m)); staged = [] ∷ [] }

find-nodes : (es : List (Path × Extent)) (p : Path) → find path_cmp p (map {B = Path × Node} (λ (e : Path × Extent). (e.0, node_of e.1)) es)
    ≡ node_in (find path_cmp p es)
unfolding node_in
find-nodes [] p = refl
find-nodes (e ∷ es) p =
    elim (same_path p e.0) as (λ b. cond b (Some (node_of e.1)) (find path_cmp p (map {B = Path × Node} (λ (e : Path × Extent). (e.0, node_of e.1)) es))
    ≡ node_in (cond b (Some e.1) (find path_cmp p es))) [
      | true ↦ refl
      | false ↦ find-nodes es p
    ]

pub node_at-filestore_of : (m : Extents) (p : Path) → node_at (filestore_of m) p ≡ node_in (get m p)
unfolding filestore_of
node_at-filestore_of m p =
    get-from_entries path_cmp-total (map {B = Path × Node} (λ (e : Path × Extent). (e.0, node_of e.1)) (entries m)) p
    ∙ find-nodes (entries m) p ∙ ap node_in (sym (get-entries m p))

pub fits : (a : Option Node) → extent_in (node_in (extent_in a)) ≡ extent_in a
unfolding node_in node_of
fits None = refl
fits (Some Directory) = refl
fits (Some (File xs)) =
    let n = min (length xs) most_octets in
    let size : min (length (replicate n 0)) most_octets ≡ n = let l = length-replicate {A = ℕ} n 0 in omega (arith, l) in
    ap (λ n. Some (extent.File n)) size

pub in_there : (v : Option Extent) → is_some (node_in v) ≡ is_some v
unfolding node_in
in_there None = refl
in_there (Some e) = refl

pub like_node : (a : Option Node) → weight a ≤ 65536 → AreAlike a (node_in (extent_in a))
unfolding node_in node_of
like_node None le = tt
like_node (Some Directory) le = tt
like_node (Some (File xs)) le = short (length xs) le ∙ sym (length-replicate {A = ℕ} (min (length xs) most_octets) 0)

pub node-small : (F : Filestore) (p : Path) → blocks F ≤ 65536 → weight (node_at F p) ≤ 65536
node-small F p le =
    let same : weight (node_at F p) ≡ weight (find path_cmp p (entries F.nodes)) = ap weight (get-entries F.nodes p) in
    let one = weight-found (entries F.nodes) p in
    let all = weights-small F le in
    omega (arith, same, one, all)

pub total-is : (total now : ℕ) → min total enough ≡ min now enough → total ≤ 65536 → total ≡ now
total-is total now one two = omega arith
