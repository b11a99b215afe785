-- What only the proofs of the code need of `Closed`.
--     source_index ss source    where a source has its place: the number of places that are taken where it has none
use Rattle.std.specs.Prelude.{ℕ, suc, ◌==◌, if◌then◌else◌, List, [], ◌∷◌}
use Rattle.cfdp_sessions.specs.Closed.{SourceFields}

abbrev pub source_index : List SourceFields → ℕ → ℕ
source_index [] source = 0
source_index (s ∷ ss) source = if s.source == source then 0 else suc (source_index ss source)
