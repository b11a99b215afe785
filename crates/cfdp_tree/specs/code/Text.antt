-- The octets of a path's names, with a separator before each.
--     preceded octet name, separated_text octet p  of one name, and of all
use Rattle.std.specs.Prelude.{ℕ, List, ◌∷◌}
use Rattle.std.specs.List.{flat_map}
use Rattle.cfdp_paths.specs.Paths.{Name, Path}

abbrev pub preceded : ℕ → Name → List ℕ
preceded octet name = octet ∷ name

abbrev pub separated_text : ℕ → Path → List ℕ
separated_text octet p = flat_map (preceded octet) p
