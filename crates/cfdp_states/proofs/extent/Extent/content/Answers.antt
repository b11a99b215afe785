use Rattle.std.proofs.Common.{◌≡◌, ◌+◌, ◌/◌, ◌%◌, min, ℕ, sym, ◌∙◌, ap, arith}
use Rattle.cfdp_actions.specs.Filestore.{blocks_of}
use Rattle.cfdp_states.specs.code.Sketching.{extent_content}
use Rattle.cfdp_states.proofs.extent.Extent.content.Goals as goal

-- one more where the last block is not full
rounded : (n : ℕ) → n / 120 + min 1 (n % 120) ≡ blocks_of n
unfolding blocks_of
rounded n = omega arith

pub returns-in-File-clause-value : goal.returns-in-File-clause-value
returns-in-File-clause-value c = c.div_ceil.ensures ∙ rounded c.in-File.octets ∙ ap extent_content (sym c.in-File.is)
