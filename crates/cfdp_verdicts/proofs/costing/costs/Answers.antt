use Rattle.std.proofs.Common.{rules}
use Rattle.std.specs.Option.{option_copied}
use Rattle.cfdp_verdicts.proofs.Running.{all_costs}
use Rattle.cfdp_verdicts.proofs.costing.costs.Goals as goal

pub returns : goal.returns
returns g c =
    all_costs c.in_ok-view.view c.in_ok-footprint.footprint c.args.protected.now (g.S.Filestore.state c.args.store.now).filestore
    (option_copied c.args.destination) c.args.requests.now
    c.args.bound c.new-costs.result.items c.add_items.new.costs.items
    c.own_footprint.ensures c.new-costs.ensures.items (search rules) c.in_ok-view.ensures.prefixes c.in_ok-view.ensures.stated (search rules)
