-- The octets of a file or of a staged list, while the arena changes.
--     length-contents                      as many as their size
--     none_filled, none_contents, none_sum      where there are none
--     written_filled, written_contents     some of them are written, and summed again
--     stays_filled, stays_contents         another run changes
use Rattle.std.proofs.Common.{◌≡◌, ℕ, ◌+◌, ◌-◌, ◌*◌, ◌≤◌, List, [], length, take, drop, replicate, sym, ap, ◌∙◌, subst, arith}
use Rattle.std.proofs.lemmas.List.{length-take-le}
use Rattle.cfdp_arena.specs.Arena.{Blocks}
use Rattle.cfdp_actions.specs.Store.{overwritten}
use Rattle.cfdp_actions.proofs.RowLaws.{blocks_of-fits}
use Rattle.cfdp_checksum.specs.Checksum.{weighed_from, checksum}
use Rattle.cfdp_tree.specs.declared.contents.Contents.{Contents}
use Rattle.cfdp_tree.specs.code.Runs.{IsRun, run_octets, IsHeld, octets_of_run, Stays}
use Rattle.cfdp_tree.specs.code.Contents.{IsFilled, contents_in}
use Rattle.cfdp_tree.proofs.OfRuns.RunLaws.{length-run}
use Rattle.cfdp_tree.proofs.OfRuns.Filling.{front_written, rest_written, blocks_of-none}

module _ (arena : Blocks) (contents : Contents) (filled : IsFilled arena contents) where
  pub within_run : contents.size ≤ length (octets_of_run arena contents.run)
  within_run =
      let run = contents.run in
      omega (arith, length-run arena run.first 0 run.count run.first filled.held.parts, filled.blocks, blocks_of-fits contents.size)

  pub length-contents : length (contents_in arena contents) ≡ contents.size
  length-contents = length-take-le contents.size (octets_of_run arena contents.run) within_run

  module _ (later : Blocks) (at : ℕ) (part : List ℕ) (range : at + length part ≤ contents.size) (held : IsHeld later contents.run)
      (written : octets_of_run later contents.run ≡ overwritten (octets_of_run arena contents.run) at part) where
    pub written_contents : contents_in later contents ≡ overwritten (contents_in arena contents) at part
    written_contents = ap (take contents.size) written ∙ front_written (octets_of_run arena contents.run) contents.size within_run at part range

    pub written_filled : (sum : ℕ) → sum ≡ checksum (contents_in later contents) → IsFilled later (record contents { sum = sum })
    written_filled sum summed = record {
      held = held;
      blocks = filled.blocks;
      zeros = ap (drop contents.size) written ∙ rest_written (octets_of_run arena contents.run) contents.size within_run at part range ∙ filled.zeros;
      summed = summed;
    }

-- none
module _ (arena : Blocks) (contents : Contents) (no_blocks : contents.run.count ≡ 0) (no_octets : contents.size ≡ 0) where
  pub none_contents : contents_in arena contents ≡ []
  none_contents = ap (λ n. take n (octets_of_run arena contents.run)) no_octets

  pub none_sum : checksum (contents_in arena contents) ≡ 0
  unfolding weighed_from
  none_sum = ap checksum none_contents

  pub none_filled : contents.sum ≡ 0 → IsFilled arena contents
  none_filled no_sum =
      let first = contents.run.first in
      record {
        held = record { parts = subst (λ n. IsRun arena first 0 n first) (sym no_blocks) tt; last = (λ some. absurd (omega arith)) };
        blocks = no_blocks ∙ sym (blocks_of-none contents.size no_octets);
        zeros = (λ k. drop (no_octets k) (run_octets arena (no_blocks k) first)) ∙ (λ k. replicate (120 * sym no_blocks k - sym no_octets k) 0);
        summed = no_sum ∙ sym none_sum;
      }

module _ (old new : Blocks) (contents : Contents) (stays : Stays old new contents.run) where
  pub stays_contents : contents_in new contents ≡ contents_in old contents
  stays_contents = ap (take contents.size) stays.octets

  pub stays_filled : IsFilled old contents → IsFilled new contents
  stays_filled filled = record {
    held = stays.held;
    blocks = filled.blocks;
    zeros = ap (drop contents.size) stays.octets ∙ filled.zeros;
    summed = filled.summed ∙ ap checksum (sym stays_contents);
  }
