-- The steps granted to a transaction, and how many of them it has spent. CCSDS 727.0-B-5 counts no steps: the
-- grant is this project's own.
--     Steps                     granted and spent
--     left s                    what may still be spent
use Rattle.std.specs.Prelude.{ℕ, ◌-◌}

pub record Steps : Type 0 where
  pub granted : ℕ
  pub spent : ℕ

abbrev pub left : Steps → ℕ
left s = s.granted - s.spent
