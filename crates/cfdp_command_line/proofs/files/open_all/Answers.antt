use Rattle.std.proofs.Common.{◌≡◌, ◌≤◌, ap, arith, drop, length}
use Rattle.std.proofs.lemmas.List.{drop_all}
use Rattle.cfdp_command_line.proofs.Pairing.{paired_all}
use Rattle.cfdp_command_line.proofs.files.open_all.Goals as goal

pub returns-clause-opened : goal.returns-clause-opened
returns-clause-opened g c =
    let over : length c.args.paths.now ≤ c.loop-path.path-index = omega arith in
    paired_all _ c.args.paths.now _ c.loop-path.opened.items c.loop-path.invariant (ap length (drop_all c.loop-path.path-index c.args.paths.now over))
