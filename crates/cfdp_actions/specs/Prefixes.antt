-- The list of protected prefixes, as the entries of an array hold it.
--     same_paths        the same paths in the same order
use Rattle.std.specs.Prelude.{Bool, List}
use Rattle.std.specs.Cmp.Lexicographic.{slice_cmp}
use Rattle.std.specs.Ordering.{eq_by_cmp}
use Rattle.cfdp_paths.specs.Paths.{Path, path_cmp}

abbrev pub same_paths : List Path → List Path → Bool
same_paths = eq_by_cmp (slice_cmp path_cmp)
