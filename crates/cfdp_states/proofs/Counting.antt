-- The blocks and step bounds of a filestore, counted on a map of extents whose sizes stop at the greatest u64. The counts
-- agree up to 2 ^ 33, which is more than any that a view can say.
use Rattle.std.proofs.Common.{◌≡◌, refl, sym, ◌∙◌, ap, true, false, Option, Some, None, ℕ, ◌+◌, ◌*◌, min, List, [], ◌∷◌, length, sum_by, if◌then◌else◌, arith}
use Rattle.std.specs.FinMap.{entries, get}
use Rattle.cfdp_paths.specs.Paths.{Path, same_path}
use Rattle.cfdp_actions.specs.Filestore.{Node, Directory, File, Filestore, node_at, blocks_of, weight, weights, blocks}
use Rattle.cfdp_actions.specs.Actions.{CreateFile, DeleteFile, RenameFile, AppendFile, ReplaceFile, CreateDirectory, RemoveDirectory, DenyFile, DenyDirectory, Item, Install, Perform}
use Rattle.cfdp_leases.specs.Items.{content, step_bound}
use Rattle.cfdp_states.specs.Sketching.{most_octets, extent_of, extent_in, Extents}
use Rattle.cfdp_states.specs.code.Sketching.{extent_weight, content_blocks, weight_in, total_weight, total_blocks, bound_on, IsOutline}
use Rattle.cfdp_states.proofs.Sketched.{outlines, entries-outlined}

-- 2 ^ 33
abbrev pub enough : ℕ
enough = 8589934592

capped : (n : ℕ) → min (blocks_of n) enough ≡ min (blocks_of (min n most_octets)) enough
unfolding blocks_of
capped n = omega arith

content-counted : (a : Option Node) → min (content a) enough ≡ min (content_blocks (extent_in a)) enough
content-counted None = refl
content-counted (Some Directory) = refl
content-counted (Some (File octets)) = capped (length octets)

weight-counted : (a : Option Node) → min (weight a) enough ≡ min (weight_in (extent_in a)) enough
weight-counted None = refl
weight-counted (Some Directory) = refl
weight-counted (Some (File octets)) = let e = capped (length octets) in omega (arith, e)

-- ---- blocks

weights-counted : (es : List (Path × Node)) → min (total_weight (outlines es)) enough ≡ min (weights es) enough
weights-counted [] = refl
weights-counted (e ∷ es) =
    let first : min (weight (Some e.1)) enough ≡ min (extent_weight (extent_of e.1)) enough = weight-counted (Some e.1) in
    let rest = weights-counted es in
    omega (arith, first, rest)

-- with nothing staged
pub blocks-counted : (staged : List (List ℕ)) → sum_by (λ octets. blocks_of (length octets)) staged ≡ 0 → (m : Extents) (F : Filestore) → F.staged ≡ staged →
    IsOutline m F →
    min (total_blocks m) enough ≡ min (blocks F) enough
unfolding blocks
blocks-counted staged empty m F same h =
    let nodes = ap total_weight (entries-outlined m F h) in
    let lists : sum_by (λ octets. blocks_of (length octets)) F.staged ≡ 0 = ap (λ lists. sum_by (λ octets. blocks_of (length octets)) lists) same ∙ empty in
    omega (arith, nodes, lists, weights-counted (entries F.nodes))

-- ---- step bounds

pub bound-counted : (m : Extents) (F : Filestore) → IsOutline m F → (item : Item) → min (bound_on m item) enough ≡ min (step_bound F item) enough
unfolding step_bound
bound-counted m F h item = by_item item
  where
    stated : (p : Path) → min (content (node_at F p)) enough ≡ min (content_blocks (get m p)) enough
    stated p = content-counted (node_at F p) ∙ ap (λ a. min (content_blocks a) enough) (sym (h.found p))

    weighed : (p : Path) → min (weight (node_at F p)) enough ≡ min (weight_in (get m p)) enough
    weighed p = weight-counted (node_at F p) ∙ ap (λ a. min (weight_in a) enough) (sym (h.found p))

    by_item : (item : Item) → min (bound_on m item) enough ≡ min (step_bound F item) enough
    by_item (Install p) = let e = stated p in omega (arith, e)
    by_item (Perform (CreateFile p)) = refl
    by_item (Perform (DeleteFile p)) = let e = stated p in omega (arith, e)
    by_item (Perform (RenameFile p q)) = refl
    by_item (Perform (AppendFile p q)) = let e = stated q in omega (arith, e)
    by_item (Perform (ReplaceFile p q)) =
        let e = stated p in
        let f = stated q in
        elim (same_path p q) as (λ b. min (if b then 0 else content_blocks (get m p) + 2 * content_blocks (get m q)) enough
        ≡ min (if b then 0 else content (node_at F p) + 2 * content (node_at F q)) enough) [
          | true ↦ refl
          | false ↦ omega (arith, e, f)
        ]
    by_item (Perform (CreateDirectory p)) = refl
    by_item (Perform (RemoveDirectory p)) = refl
    by_item (Perform (DenyFile p)) = sym (weighed p)
    by_item (Perform (DenyDirectory p)) = let e = weighed p in omega (arith, e)
