use Rattle.std.proofs.Common.{◌≤◌, Some, length, subst, arith}
use Rattle.cfdp_actions.specs.Filestore.{weight}
use Rattle.cfdp_actions.specs.code.Listed.{content_node}
use Rattle.cfdp_actions.proofs.BlocksLaws.{blocks_of-bound}
use Rattle.cfdp_actions.proofs.content.Content.blocks.Goals as goal

pub blocks_of-requires : goal.blocks_of-requires
blocks_of-requires c =
    let whole = subst (λ content. weight (Some (content_node content)) ≤ 65536) c.in-File.is c.requires in
    let here = blocks_of-bound (length c.in-File.octets.items) (omega (arith, whole)) in
    omega (arith, here, c.len.ensures, c.in-File.octets.ok.0)
