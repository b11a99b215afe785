use Rattle.std.proofs.Common.{◌∙◌}
use Rattle.cfdp_leases.proofs.Ordered.{searched}
use Rattle.cfdp_leases.proofs.footprints.has.Goals as goal

pub returns : goal.returns
returns c =
    let facts = c.binary_search.ensures in
    c.is_ok.ensures.value ∙ searched c.args.paths.now c.args.path.now c.binary_search.result c.requires facts.bound facts.position
