-- The branches below a branch, by their names.
use Rattle.std.specs.Prelude.{List, map}
use Rattle.cfdp_paths.specs.Paths.{Name}
use Rattle.cfdp_branches.specs.Branches.{Branches}
use Rattle.cfdp_branches.specs.declared.branch.Twig.{Twig}

abbrev pub twigs_of : {T : Type 0} → List (Twig T) → List (Name × Branches T)
twigs_of {T} ts = map {B = Name × Branches T} (λ t. (t.name.items, t.branch)) ts
