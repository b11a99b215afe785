use Rattle.std.proofs.Common.{rules, ◌≡◌, ◌++◌, ◌∷◌, [], map}
use Rattle.cfdp_actions.specs.Actions.{Perform}
use Rattle.cfdp_verdicts.proofs.Running.{begun, not_begun, cost_of_sketch}
use Rattle.cfdp_verdicts.proofs.costing.add_all.Goals as goal

pub returns-then-not-branch : goal.returns-then-not-branch
returns-then-not-branch c =
    not_begun c.args.view.now c.install.new.self c.args.path.now c.args.bound (map Perform c.args.requests.now) c.view_refuses.ensures c.in_ok-install.field-0
    c.args.costs.now.items c.if-not-branch.true c.in_ok-install.ensures.stated

pub returns : goal.returns
returns c =
    let written : c.push.new.self.items ≡ c.args.costs.now.items ++ cost_of_sketch c.install.new.self ∷ [] = search rules in
    begun c.args.view.now c.install.new.self c.args.path.now c.args.bound (map Perform c.args.requests.now) c.add_requests.result c.view_installs.ensures
    c.in_ok-install.field-0
    c.args.costs.now.items c.push.new.self.items c.add_requests.new.costs.items c.if-not-branch.false c.in_ok-install.ensures.prefixes
    c.in_ok-install.ensures.stated written
    c.add_requests.ensures
