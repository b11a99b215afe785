use Rattle.std.proofs.Common.{◌∙◌, ap, take}
use Rattle.std.specs.Prelude.{insert}
use Rattle.std.specs.FinSet as set
use Rattle.cfdp_leases.proofs.Ordered.{same_set-insert}
use Rattle.cfdp_leases.proofs.gathering.insert_beginning.Goals as goal

pub returns-clause-added : goal.returns-clause-added
returns-clause-added c =
    ap set.from_list (c.in_ok-insert.ensures.items ∙ ap (insert c.args.paths.now.items c.args.index) c.in_ok-beginning.ensures)
    ∙ same_set-insert c.args.paths.now.items (take c.args.depth c.args.path.now) c.args.index
