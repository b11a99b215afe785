use Rattle.std.proofs.Common.{rules, ◌≡◌}
use Rattle.std.specs.Prelude.{Option, Some, None}
use Rattle.std.specs.Option.{option_copied}
use Rattle.cfdp_paths.specs.Paths.{Path}
use Rattle.cfdp_verdicts.proofs.Running.{beside_file, without_file}
use Rattle.cfdp_verdicts.proofs.costing.add_items.Goals as goal

pub returns-in-None : goal.returns-in-None
returns-in-None c =
    let d : Option Path = option_copied c.args.destination in
    let is : d ≡ None = search rules in
    let none : c.args.bound ≡ 0 = search rules in
    without_file c.add_requests.result c.view_begins.ensures c.args.view.now d c.args.requests.now c.args.bound c.args.costs.now.items
    c.add_requests.new.costs.items is none c.add_requests.ensures

pub returns-in-Some : goal.returns-in-Some
returns-in-Some c =
    let d : Option Path = option_copied c.args.destination in
    let is : d ≡ Some c.in-Some.path.now = search rules in
    beside_file c.add_all.result c.args.view.now d c.in-Some.path.now c.args.requests.now c.args.bound c.args.costs.now.items c.add_all.new.costs.items is
    c.add_all.ensures
