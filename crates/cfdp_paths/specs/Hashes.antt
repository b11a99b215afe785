-- Numbers for paths.
--     hash_of p     what the hasher of std's maps makes of the names, with the octet 0 between them
use Rattle.std.specs.Prelude.{ℕ}
use Rattle.std.specs.List.{join_with_byte}
use Rattle.std.specs.Hash.FoldHasher as hasher
use Rattle.cfdp_paths.specs.Paths.{Path}

abbrev pub hash_of : Path → ℕ
hash_of p = hasher.finish (hasher.write hasher.initial (join_with_byte 0 p))
