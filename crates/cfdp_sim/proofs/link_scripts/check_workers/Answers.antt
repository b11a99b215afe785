use Rattle.std.proofs.Common.{rules, ◌≡◌, length}
use Rattle.cfdp_links.proofs.Numbering.{handed_all}
use Rattle.cfdp_sim.proofs.link_scripts.check_workers.Goals as goal

pub returns-clause-handed : goal.returns-clause-handed
returns-clause-handed c =
    let all : length c.loop-worked.seats.items ≡ length c.args.files.now = search rules in
    handed_all _ _ _ _ _ all c.loop-worked.invariant.handed
