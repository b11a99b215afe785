use Rattle.std.proofs.Common.{rules, ◌≡◌, length}
use Rattle.std.specs.Vec.Iter.{into_iter_items}
use Rattle.cfdp_command_line.proofs.Pairing.{paired_all}
use Rattle.cfdp_command_line.proofs.files.read_each.Goals as goal

pub returns-clause-read : goal.returns-clause-read
returns-clause-read g c =
    let none : length (into_iter_items c.loop-input.input-iterator) ≡ 0 = search rules in
    paired_all _ c.args.inputs.items _ c.loop-input.scripts.items c.loop-input.invariant.read none
