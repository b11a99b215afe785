-- Each branch below has fewer paths than the branch.
use Rattle.std.specs.Prelude.{◌+◌, ◌≤◌, List, [], ◌∷◌, Option, map, length}
use Rattle.std.proofs.Common.{arith, length-append}
use Rattle.std.proofs.lemmas.List.{length-map}
use denote.Param.Weighed.{most, w_this}
use Rattle.cfdp_paths.specs.Paths.{Path}
use Rattle.cfdp_branches.specs.declared.branch.Twig.{Twig}
use Rattle.cfdp_branches.specs.declared.branch.Branch.TheDeep.{deep-Twig}
use Rattle.cfdp_branches.specs.code.Branches.{all_below, below_name}

pub twigs_fall : {T : Type 0} → (ts : List (Twig T)) → most (λ x. (w_this).weight (Twig T) (deep-Twig T) x) ts
    ≤ length (all_below (map (λ t. (t.name.items, t.branch)) ts)) + 1
twigs_fall [] = omega arith
twigs_fall {T} (t ∷ ts) =
    omega (
      arith,
      twigs_fall ts,
      length-append (below_name t.name.items t.branch) (all_below (map (λ t. (
        t.name.items,
        t.branch,
      )) ts)),
      length-map {B = Path × Option T} t.branch (λ e. (t.name.items ∷ e.0, e.1)),
    )
