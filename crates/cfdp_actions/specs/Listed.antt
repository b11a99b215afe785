-- A filestore that is kept as entries in path order, one a path.
--     vector_octets vectors     the lists of octets that vectors hold
use Rattle.std.specs.Prelude.{ℕ, List, map, Vec}
use Rattle.std.specs.declared.alloc.Global.{Global}

abbrev pub vector_octets : List (Vec ℕ Global) → List (List ℕ)
vector_octets vectors = map (λ vector. vector.items) vectors
