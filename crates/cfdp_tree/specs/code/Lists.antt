-- Lists of nodes, each of which names the next one.
--     chain next n b                    n nodes from b on
use Rattle.std.specs.Prelude.{ℕ, suc, zero, List, [], ◌∷◌}

abbrev pub chain : (ℕ → ℕ) → ℕ → ℕ → List ℕ
chain next zero b = []
chain next (suc n) b = b ∷ chain next n (next b)
