-- What only the proofs of the code need of `Paths`.
--     path_in buffer                      the path that a buffer holds, and the root for no buffer
--     name_cmp                            the order of names by octets
use Rattle.std.specs.Prelude.{ℕ, List, [], Option, Some, None}
use Rattle.std.specs.Cmp.Lexicographic.{slice_cmp}
use Rattle.std.specs.Ordering.{nat_cmp}
use Rattle.std.specs.declared.cmp.Ordering.{Ordering}
use Rattle.cfdp_paths.specs.Paths.{Name, Path, names_of}

-- a path that is looked up: no buffer means the root
abbrev pub path_in : Option (List ℕ) → Path
path_in None = []
path_in (Some octets) = names_of octets

abbrev pub name_cmp : Name → Name → Ordering
name_cmp = slice_cmp nat_cmp
