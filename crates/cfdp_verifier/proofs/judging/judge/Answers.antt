use Rattle.std.proofs.Common.{◌∙◌}
use Rattle.cfdp_leases.specs.Items.{items_of}
use Rattle.cfdp_verifier.proofs.judging.judge.Goals as goal

pub returns-in-Ok : goal.returns-in-Ok
returns-in-Ok g c =
    let list = items_of c.args.items.now.destination c.args.items.now.requests.items in
    let alone = c.in_ok-view.ensures in
    alone.2 c.args.spare ∙ c.in-Ok.ensures list alone.0 alone.1 alone.3 alone.4

pub returns : goal.returns
returns g c =
    let list = items_of c.args.items.now.destination c.args.items.now.requests.items in
    let alone = c.in_ok-view.ensures in
    alone.2 c.args.spare ∙ c.in-Err.ensures list alone.0 alone.1 alone.3 alone.4
