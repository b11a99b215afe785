-- What only the proofs of the code need of `Streams`.
--   Spills          some of a text that was held back was written, and the rest still is held back
use Rattle.std.specs.Prelude.{◌≡◌, ℕ, List, Option, ◌++◌}
use Rattle.std.specs.Io.KnownBytes.{Appends}

pub record Spills (before after : List ℕ) (old new : Option (List ℕ)) : Type 0 where
  pub written : List ℕ
  pub whole : before ≡ written ++ after
  pub appended : Appends old new written
