-- What only the proofs of the code need of `Prefixes`.
--     present slots     the paths that are in the entries, in order
use Rattle.std.specs.Prelude.{List, [], ◌∷◌, Option, Some, None}
use Rattle.cfdp_paths.specs.Paths.{Path}

abbrev pub present : List (Option Path) → List Path
present [] = []
present (None ∷ slots) = present slots
present (Some path ∷ slots) = path ∷ present slots
